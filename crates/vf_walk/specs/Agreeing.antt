-- When a walk comes to one thing at most.
use Rattle.std.specs.Prelude.{◌≡◌, ℕ}
use Rattle.vf_declared.specs.declared.scope.Scope.{Scope}
use Rattle.vf_syntax.specs.declared.contract.Contract.{Contract}
use Rattle.vf_syntax.specs.declared.contract.Invariant.{Invariant}
use Rattle.vf_syntax.specs.declared.item.GhostItem.{GhostItem}
use Rattle.vf_syntax.specs.GhostCommandTree.{GhostCommandTree}
use Rattle.vf_walk.specs.declared.annotations.Owner.{Owner}
use Rattle.vf_walk.specs.Meanings.{Meanings}
use Rattle.vf_walk.specs.Walking.{Walked}

-- a walk comes to one thing at most
abbrev pub ComesToOne : (Walked → Type 0) → Type 0
ComesToOne P = (v w : Walked) → P v → P w → v ≡ w

-- each annotation comes to one thing at most, wherever it stands
pub record AreDetermined (m : Meanings) : Type 0 where
  pub contract : (o : Owner) (c : Contract) (s : Scope) → ComesToOne (m.contract o c s)
  pub invariant : (file : ℕ) (i : Invariant) (s : Scope) → ComesToOne (m.invariant file i s)
  pub command : (c : GhostCommandTree) (s : Scope) → ComesToOne (m.command c s)
  pub item : (i : GhostItem) (s : Scope) → ComesToOne (m.item i s)
