-- What a reader of units owes: how the parts of a core fit together.
use Rattle.std.specs.Prelude.{◌≡◌, ℕ, suc, List, slice_get, Some}
use Rattle.vf_tree.specs.declared.unit.Expression.{Expression}
use Rattle.vf_tree.specs.declared.unit.CoreStep.{CoreStep}
use Rattle.vf_tree.specs.declared.unit.CoreStep.TheVariants.{Set}
use Rattle.vf_tree.specs.declared.unit.Function.{Function}
use Rattle.vf_tree.specs.declared.unit.Core.{Core}

-- each step that another follows is followed by the next in the list
abbrev pub AreInOrder : List CoreStep → Type 0
AreInOrder steps = (k x next : ℕ) (e : Expression) → slice_get steps k ≡ Some (Set x e next) → next ≡ suc k

-- main is among the functions of the unit, and its steps are in order
pub record IsFormed (core : Core) : Type 0 where
  pub main : Function
  pub is_main : slice_get core.plain.functions core.plain.main ≡ Some main
  pub in_order : AreInOrder main.steps
