-- What annotations inside C text do to what is declared.
use Rattle.std.specs.Prelude.{ℕ, Bool, false, Ok}
use Rattle.vf_declared.specs.declared.scope.Scope.{Scope}
use Rattle.vf_syntax.specs.declared.contract.Contract.{Contract}
use Rattle.vf_syntax.specs.declared.contract.Invariant.{Invariant}
use Rattle.vf_syntax.specs.declared.item.GhostItem.{GhostItem}
use Rattle.vf_syntax.specs.GhostCommandTree.{GhostCommandTree}
use Rattle.vf_walk.specs.declared.annotations.Owner.{Owner}
use Rattle.vf_walk.specs.Walking.{Only, Walked}

-- what annotations may leave declared behind them, or how they may be refused: each relates what is declared in front of it to what it may come to
pub record Meanings : Type 1 where
  -- a contract of a function or function type, behind whose parameters it stands
  pub contract : Owner → Contract → Scope → Walked → Type 0
  -- an invariant of a loop that stands in a file
  pub invariant : ℕ → Invariant → Scope → Walked → Type 0
  -- a ghost command
  pub command : GhostCommandTree → Scope → Walked → Type 0
  -- a ghost item
  pub item : GhostItem → Scope → Walked → Type 0
  -- whether a function with its body that has no contract takes that of its prototype, and so the names of its parameters
  pub takes : Bool

-- annotations that declare nothing and are never refused, as where there are none
abbrev pub no_meanings : Meanings
no_meanings = record { contract = λ o c s. Only (Ok s); invariant = λ f i s. Only (Ok s); command = λ c s. Only (Ok s); item = λ i s. Only (Ok s); takes = false }
