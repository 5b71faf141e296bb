-- What a unit becomes in steps does not hang on the annotations in it.
use Rattle.std.specs.Prelude.{◌≡◌, List, map, Result, Ok, Err}
use Rattle.vf_base.specs.declared.refusal.RuleFault.{RuleFault}
use Rattle.vf_base.specs.declared.refusal.RuleFault.TheVariants as faults
use Rattle.vf_datatypes.specs.declared.stated.Stated.{Stated}
use Rattle.vf_declared.specs.declared.scope.Scope.{Scope}
use Rattle.vf_syntax.specs.declared.item.Item.{Item}
use Rattle.vf_walk.specs.Meanings.{no_meanings}
use Rattle.vf_annotations.specs.Forms.{meanings}
use Rattle.vf_functions.specs.Definitions.{CoreTree}
use Rattle.vf_functions.specs.Units.{Comes, Lowers}
use Rattle.vf_functions.specs.Erased.{erased_core}
use Rattle.vf_erasure_laws.specs.plain.Stripped.{stripped_items}
use Rattle.vf_erasure_laws.specs.seen.Seen.{seen}
use Rattle.vf_resolve.specs.declared.files.Files.{Files}
use Rattle.vf_resolve.specs.Beginning.{beginning}
use Rattle.vf_erasure_laws.specs.erased.Walks.{IsSettled}

-- items without annotations are accepted and make functions that are the same, without annotations, as some others; behind them C text sees the same as in a scope
pub record IsLowered (ys : List Item) (s : Scope) (fs : List CoreTree) (t : Scope) : Type 0 where
  pub plain : List CoreTree
  pub lowers : Lowers no_meanings ys s plain (seen t)
  pub same : map erased_core fs ≡ map erased_core plain

-- an answer for items without annotations is functions that are the same as some others once annotations are erased, unless memory ran out; no refusal comes
abbrev pub IsPlainAnswer : List CoreTree → Result (List CoreTree) RuleFault → Type 0
IsPlainAnswer fs (Ok gs) = map erased_core fs ≡ map erased_core gs
IsPlainAnswer fs (Err faults.Memory) = Unit {0}
IsPlainAnswer fs (Err (faults.Refused x)) = ⊥

-- where the items of a unit are accepted and make functions, the same items without their annotations are accepted where C text alone is seen, and make functions that are the same once annotations are erased
abbrev pub UnitsAreErased : Type 0
UnitsAreErased = (d : Stated) (xs : List Item) (s t : Scope) (fs : List CoreTree) → IsSettled s → Lowers (meanings d) xs s fs t → IsLowered (stripped_items xs) (seen s) fs t

-- where a unit is accepted and makes functions, whatever is answered for its plain reading, which are its items without their annotations in a unit of the same files, is the same functions once annotations are erased, unless memory ran out: the plain reading is not refused
abbrev pub PlainReadingsAreErased : Type 0
PlainReadingsAreErased = (f : Files) (d : Stated) (xs : List Item) (t : Scope) (fs : List CoreTree) → Lowers (meanings d) xs (beginning f xs) fs t
    → (r : Result (List CoreTree) RuleFault) (v : Scope) → Comes no_meanings (stripped_items xs) (beginning f (stripped_items xs)) r v → IsPlainAnswer fs r
