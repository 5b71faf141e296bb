-- Whole units in steps: with their annotations, and in their plain reading.
use Rattle.std.specs.Prelude.{◌≡◌, List, map, Result, Ok, Err}
use Rattle.std.specs.Global.{Vec}
use Rattle.vf_base.specs.declared.refusal.RuleFault.{RuleFault}
use Rattle.vf_base.specs.declared.refusal.RuleFault.TheVariants as faults
use Rattle.vf_declared.specs.declared.scope.Scope.{Scope}
use Rattle.vf_syntax.specs.declared.item.Item.{Item}
use Rattle.vf_sorting.specs.Answers.{Answers}
use Rattle.vf_datatypes.specs.declared.stated.Stated.{Stated}
use Rattle.vf_walk.specs.Items.{WalksItems}
use Rattle.vf_walk.specs.Meanings.{no_meanings}
use Rattle.vf_gathering.specs.Named.{datatypes_in}
use Rattle.vf_gathering.specs.Standing.{Tells, no_names, with_names}
use Rattle.vf_annotations.specs.Forms.{meanings}
use Rattle.vf_resolve.specs.declared.files.Files.{Files}
use Rattle.vf_resolve.specs.Beginning.{beginning}
use Rattle.vf_resolve.specs.Units.{ItemsCome}
use Rattle.vf_functions.specs.Definitions.{CoreTree}
use Rattle.vf_functions.specs.Erased.{PlainTree, erased_core}
use Rattle.vf_functions.specs.Units.{Lowers}
use Rattle.vf_erasure_laws.specs.plain.Stripped.{stripped_items}
use Rattle.vf_cores.specs.Shown.{cores_shown}
use Rattle.vf_erase.specs.declared.function.PlainFunction.{PlainFunction}
use Rattle.vf_erase.specs.Shown.{plains_shown}
use Rattle.vf_lowering.specs.declared.units.LoweredUnit.{LoweredUnit}

-- the items of a unit declare what is declared behind them, and make functions; what their annotations declare goes by a table that tells in which files the datatypes of the unit stand
pub record ItemsLower (xs : List Item) (s : Scope) (fs : List CoreTree) (t : Scope) : Type 0 where
  pub stated : Stated
  pub tells : Tells (datatypes_in xs) stated
  pub is : stated ≡ with_names no_names (datatypes_in xs)
  pub lowers : Lowers (meanings stated) xs s fs t

-- an answer for a unit is what it declares and the functions that its items make, or its first refusal
pub record IsUnit (f : Files) (xs : List Item) (r : Result LoweredUnit RuleFault) : Type 0 where
  pub answers : Answers (λ u. ItemsLower xs (beginning f xs) (cores_shown u.cores.items) u.scope) (λ x. ItemsCome xs (beginning f xs) (Err x)) r

-- items without annotations make functions, which lose what does nothing when they run
pub record PlainItems (ys : List Item) (s : Scope) (ps : List PlainTree) : Type 0 where
  pub cores : List CoreTree
  pub behind : Scope
  pub lowers : Lowers no_meanings ys s cores behind
  pub erased : ps ≡ map erased_core cores

-- an answer for the plain reading of a unit is the functions that its items make, or its first refusal
pub record IsPlain (f : Files) (ys : List Item) (r : Result (Vec PlainFunction) RuleFault) : Type 0 where
  pub answers : Answers (λ ps. PlainItems ys (beginning f ys) (plains_shown ps.items)) (λ x. WalksItems no_meanings ys (beginning f ys) (Err x)) r

-- an answer is what is left of some functions without their annotations, unless memory ran out; no refusal comes
abbrev pub IsErasedAnswer : List CoreTree → Result (Vec PlainFunction) RuleFault → Type 0
IsErasedAnswer fs (Ok ps) = plains_shown ps.items ≡ map erased_core fs
IsErasedAnswer fs (Err faults.Memory) = Unit {0}
IsErasedAnswer fs (Err (faults.Refused x)) = ⊥

-- where items are those of an accepted unit without its annotations, an answer is what is left of the functions of that unit without their annotations
pub record IsErasure (f : Files) (ys : List Item) (r : Result (Vec PlainFunction) RuleFault) : Type 0 where
  pub erases : (d : Stated) (xs : List Item) (t : Scope) (fs : List CoreTree) → ys ≡ stripped_items xs → Lowers (meanings d) xs (beginning f xs) fs t → IsErasedAnswer fs r
