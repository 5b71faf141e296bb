-- What the annotations inside C text come to, as functions.
use Rattle.std.specs.Prelude.{ℕ, Bool, true}
use Rattle.vf_declared.specs.declared.scope.Scope.{Scope}
use Rattle.vf_syntax.specs.declared.contract.Contract.{Contract}
use Rattle.vf_syntax.specs.declared.contract.Invariant.{Invariant}
use Rattle.vf_syntax.specs.declared.item.GhostItem.{GhostItem}
use Rattle.vf_syntax.specs.GhostCommandTree.{GhostCommandTree}
use Rattle.vf_walk.specs.declared.annotations.Owner.{Owner}
use Rattle.vf_walk.specs.Walking.{Walked}
use Rattle.vf_datatypes.specs.declared.stated.Stated.{Stated}
use Rattle.vf_commands.specs.Comes.{around_statements}
use Rattle.vf_order_laws.specs.walk.Contracting.{ghost_command_of, invariant_of, owned_contract_of}
use Rattle.vf_order_laws.specs.walk.Forms.{form_of}

-- what each annotation comes to where something is declared in front of it
pub record Walks : Type 0 where
  -- a contract of a function or function type
  pub contract : Owner → Contract → Scope → Walked
  -- an invariant of a loop that stands in a file
  pub invariant : ℕ → Invariant → Scope → Walked
  -- a ghost command
  pub command : GhostCommandTree → Scope → Walked
  -- a ghost item
  pub item : GhostItem → Scope → Walked
  -- whether a function with its body that has no contract takes that of its prototype
  pub takes : Bool

-- what the annotations of a unit come to in which these datatypes stand
abbrev pub walks_of : Stated → Walks
walks_of d = record { contract = λ o c s. owned_contract_of o c s; invariant = λ f i s. invariant_of i s; command = λ c s. ghost_command_of around_statements c s; item = λ x s. form_of d x.form s; takes = true }
