-- C text has the same types whether or not what annotations declare is there.
use Rattle.std.specs.Prelude.{◌≡◌, Ok}
use Rattle.vf_declared.specs.declared.scope.Scope.{Scope}
use Rattle.vf_syntax.specs.ExprTree.{ExprTree}
use Rattle.vf_typing.specs.declared.operand.Operand.{Operand}
use Rattle.vf_typing.specs.Typed.{typed}
use Rattle.vf_erasure_laws.specs.seen.Seen.{seen}

-- an expression to which typing gives a type has the same type where nothing of annotations is declared
abbrev pub TypesAreSeen : Type 0
TypesAreSeen = (s : Scope) (e : ExprTree) (o : Operand) → typed s e ≡ Ok o → typed (seen s) e ≡ Ok o
