-- What a body becomes in steps does not hang on the annotations in it.
use Rattle.std.specs.Prelude.{◌≡◌, ℕ, Bool, List, length, Ok}
use Rattle.vf_base.specs.declared.place.Place.{Place}
use Rattle.vf_declared.specs.declared.ctype.CType.{CType}
use Rattle.vf_declared.specs.declared.scope.Scope.{Scope}
use Rattle.vf_datatypes.specs.declared.stated.Stated.{Stated}
use Rattle.vf_syntax.specs.StmtTree.{StmtTrees}
use Rattle.vf_walk.specs.Statements.{WalksStmts}
use Rattle.vf_annotations.specs.Forms.{meanings}
use Rattle.vf_lower.specs.Lowering.{Lowered}
use Rattle.vf_lower.specs.Settings.{Setting}
use Rattle.vf_lower.specs.Statements.{body}
use Rattle.vf_functions.specs.Erased.{erased}
use Rattle.vf_erasure_laws.specs.plain.Stripped.{stripped_stmts}
use Rattle.vf_erasure_laws.specs.seen.Seen.{IsOrderly, real_locals, seen}

-- where a body stands among the locals of C, beside which stand their numbers, while all else is declared as in a scope
abbrev pub among_locals : Scope → List ℕ → Place → Setting
among_locals s numbers p = record { scope = record s { locals = real_locals s.locals }; numbers = numbers; statement = p }

-- where it stands as C text sees it
abbrev pub seen_by_c : Scope → List ℕ → Place → Setting
seen_by_c s numbers p = record { scope = seen s; numbers = numbers; statement = p }

-- two bodies in steps are the same without annotations, and have the same locals
pub record AreErasedAlike (a b : Lowered (Unit {0})) : Type 0 where
  pub nodes : erased a.nodes ≡ erased b.nodes
  pub locals : a.locals ≡ b.locals

-- a body that names and types accept, in front of which some things are declared, and the same body without its annotations, where C text alone is seen, become the same steps once annotations are erased
abbrev pub AnnotatedBodiesAreErased : Type 0
AnnotatedBodiesAreErased = (d : Stated) (r : CType) (is_main : Bool) (xs : StmtTrees) (last p : Place) (numbers : List ℕ) (s t : Scope) (n : ℕ) → IsOrderly s
    → length (real_locals s.locals).names ≡ length numbers → WalksStmts (meanings d) r xs s (Ok t)
    → AreErasedAlike (body (among_locals s numbers p) r is_main xs last n) (body (seen_by_c s numbers p) r is_main (stripped_stmts xs) last n)
