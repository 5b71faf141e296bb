-- The phases of a unit, from its tree to the order of its operands: what it declares, or where the first phase that refuses it does so.
use Rattle.std.specs.Prelude.{◌≡◌, List, Option, Some, None, Result, Ok, Err}
use Rattle.vf_base.specs.declared.place.Place.{Place}
use Rattle.vf_base.specs.declared.rule.Rule.{Rule}
use Rattle.vf_base.specs.declared.rule.Rule.TheVariants as rules
use Rattle.vf_base.specs.declared.refusal.Refusal.{Refusal}
use Rattle.vf_base.specs.declared.refusal.RuleFault.{RuleFault}
use Rattle.vf_base.specs.declared.refusal.Shown.TheVariants as shown
use Rattle.vf_declared.specs.declared.scope.Scope.{Scope}
use Rattle.vf_syntax.specs.declared.item.Item.{Item}
use Rattle.vf_sorting.specs.Answers.{Answers}
use Rattle.vf_order.specs.Statements.{first_unordered}
use Rattle.vf_recursion.specs.Faults.{first_fault}
use Rattle.vf_resolve.specs.declared.files.Files.{Files}
use Rattle.vf_resolve.specs.Beginning.{beginning}
use Rattle.vf_resolve.specs.Units.{ItemsCome}

-- a refusal is one by a rule at a place
pub record IsRefusedAt (broken : Rule) (at : Option Place) (r : Refusal) : Type 0 where
  pub rule : r.rule ≡ broken
  pub place : at ≡ Some r.place
  pub shown : r.shown ≡ shown.Nothing

-- the items of a unit come to what they declare
abbrev pub Declares : Files → List Item → Scope → Type 0
Declares f xs s = ItemsCome xs (beginning f xs) (Ok s)

-- a unit passes its phases: this is what its items declare, its fixpoints have values, and the order of no two operands matters
pub record PassesPhases (f : Files) (xs : List Item) (s : Scope) : Type 0 where
  pub declares : Declares f xs s
  pub fixpoints : first_fault xs ≡ None
  pub ordered : first_unordered xs ≡ None

-- a unit is refused in the first phase that refuses it: as its items are; else at the first fixpoint without a value; else where the order of two operands matters first
pub data IsRefusedInPhases (f : Files) (xs : List Item) : Refusal → Type 0 where
  in_names : {r : Refusal} → ItemsCome xs (beginning f xs) (Err r) → IsRefusedInPhases f xs r
  in_fixpoints : {s : Scope} {r : Refusal} → Declares f xs s → IsRefusedAt rules.Fixpoint (first_fault xs) r → IsRefusedInPhases f xs r
  in_order : {s : Scope} {r : Refusal} → Declares f xs s → first_fault xs ≡ None → IsRefusedAt rules.Order (first_unordered xs) r → IsRefusedInPhases f xs r

-- an answer for a unit is what it declares where it passes its phases, or its refusal in the first phase that refuses it
pub record IsPhased (f : Files) (xs : List Item) (r : Result Scope RuleFault) : Type 0 where
  pub answers : Answers (PassesPhases f xs) (IsRefusedInPhases f xs) r
