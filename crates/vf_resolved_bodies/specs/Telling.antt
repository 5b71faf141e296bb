-- What is told of the annotations of a body so far, and what is declared and numbered behind it.
use Rattle.std.specs.Prelude.{ℕ, ◌+◌, List, [], ◌∷◌, ◌++◌, length, take, drop, Option}
use Rattle.vf_declared.specs.declared.ctype.CType.{CType}
use Rattle.vf_declared.specs.declared.locals.Local.TheVariants as locals
use Rattle.vf_declared.specs.Changes.{with_local, without_local}
use Rattle.vf_sorting.specs.Schemes.{sort_of_type}
use Rattle.vf_resolved.specs.AssertionTree.{PartTree}
use Rattle.vf_resolved.specs.CommandTree.{CommandTree}
use Rattle.vf_resolving.specs.Standings as standings
use Rattle.vf_resolving.specs.Standings.{Standing, standing_of, with_name}
use Rattle.vf_resolved_bodies.specs.declared.annotation.Annotation.{Annotation}
use Rattle.vf_resolved_bodies.specs.declared.annotation.Annotation.TheVariants as annotations
use Rattle.vf_resolved_bodies.specs.declared.telling.Telling as code

-- What is declared and numbered; the numbers of the names that are locals of C, in the order in which these are declared; and the annotations, in the order of the text
pub record Telling : Type 0 where
  pub standing : Standing
  pub reals : List ℕ
  pub told : List Annotation

-- the same as the code has it
abbrev pub telling_of : code.Telling → Telling
telling_of x = record { standing = standing_of x.standing; reals = x.reals; told = x.told }

-- a local of C of a type is declared, without its term
abbrev pub declaring_real : List ℕ → CType → Standing → Standing
declaring_real x t s = record { scope = record s.scope { locals = with_local s.scope.locals x (locals.Real t) }; terms = s.terms; sorts = s.sorts; next = s.next }

-- a local of C of a type is declared, which is one name more
abbrev pub with_real : List ℕ → CType → Telling → Telling
with_real x t s = record { standing = with_name (sort_of_type t) (declaring_real x t s.standing); reals = s.reals ++ length s.standing.sorts ∷ []; told = s.told }

-- so many locals alone are declared: the others are gone, and their names keep their numbers
abbrev pub leaving : ℕ → Telling → Telling
leaving n s = record { standing = standings.leaving n s.standing; reals = s.reals; told = s.told }

-- the local at an index is gone, and its name keeps its number; those declared behind it stay
abbrev pub without_standing : ℕ → Standing → Standing
without_standing n s = record { scope = record s.scope { locals = without_local s.scope.locals n }; terms = take n s.terms ++ drop (n + 1) s.terms; sorts = s.sorts; next = s.next }

abbrev pub without_real : ℕ → Telling → Telling
without_real n s = record { standing = without_standing n s.standing; reals = s.reals; told = s.told }

-- one annotation more is told, behind which this is declared and numbered
abbrev pub telling : Annotation → Standing → Telling → Telling
telling x t s = record { standing = t; reals = s.reals; told = s.told ++ x ∷ [] }

-- one ghost command more, or one loop more with its invariant
abbrev pub with_command : CommandTree → Standing → Telling → Telling
with_command x t s = telling (annotations.Command x) t s

abbrev pub with_loop : Option (List PartTree) → Standing → Telling → Telling
with_loop i t s = telling (annotations.Loop i) t s
