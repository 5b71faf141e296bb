-- How typing agrees with the types that expressions have. Each law is the contract of a public function with an empty body.
use Rattle.std.specs.Prelude.{◌≡◌, ◌↔◌, Ok}
use Rattle.vf_declared.specs.declared.ctype.CType.{CType}
use Rattle.vf_declared.specs.declared.scope.Scope.{Scope}
use Rattle.vf_syntax.specs.ExprTree.{ExprTree}
use Rattle.vf_typing.specs.declared.operand.Operand.{Operand}
use Rattle.vf_typing.specs.Typed.{typed}
use Rattle.vf_typing.specs.HasType.{HasType}

-- typing answers with a type
abbrev pub IsTyped : Scope → ExprTree → CType → Type 0
IsTyped s e t = (o : Operand) × (typed s e ≡ Ok o) × (o.ctype ≡ t)

-- typing answers with a type exactly where the expression has it
abbrev pub TypesAreFound : Type 0
TypesAreFound = (s : Scope) (e : ExprTree) (t : CType) → HasType s e t ↔ IsTyped s e t

-- an expression has one type at most
abbrev pub TypesAreDetermined : Type 0
TypesAreDetermined = (s : Scope) (e : ExprTree) (t u : CType) → HasType s e t → HasType s e u → t ≡ u
