-- What units come to, as functions: what they declare, or the first refusal in them and in the phases behind their names.
use Rattle.std.specs.Prelude.{List, Option, Some, None, Result, Ok, Err}
use Rattle.vf_base.specs.declared.place.Place.{Place}
use Rattle.vf_base.specs.declared.refusal.Refusal.{Refusal}
use Rattle.vf_base.specs.declared.rule.Rule.{Rule}
use Rattle.vf_base.specs.declared.rule.Rule.TheVariants as rules
use Rattle.vf_declared.specs.declared.scope.Scope.{Scope}
use Rattle.vf_syntax.specs.declared.item.Item.{Item}
use Rattle.vf_sorting.specs.Refusals.{refused}
use Rattle.vf_walk.specs.Walking.{Walked}
use Rattle.vf_gathering.specs.Named.{datatypes_in}
use Rattle.vf_gathering.specs.Standing.{no_names, with_names}
use Rattle.vf_order.specs.Statements.{first_unordered}
use Rattle.vf_recursion.specs.Faults.{first_fault}
use Rattle.vf_resolve.specs.declared.files.Files.{Files}
use Rattle.vf_resolve.specs.Beginning.{beginning}
use Rattle.vf_order_laws.specs.walk.Following.{after, unless_refused}
use Rattle.vf_order_laws.specs.walk.Items.{items_of}
use Rattle.vf_order_laws.specs.walk.Walks.{walks_of}

-- the items of a unit, by the datatypes that stand in it
abbrev pub unit_of : List Item → Scope → Walked
unit_of xs s = items_of (walks_of (with_names no_names (datatypes_in xs))) xs s

-- the refusal by a rule at a place, if there is one
abbrev pub refused_where : Rule → Option Place → Option Refusal
refused_where k None = None
refused_where k (Some p) = Some (refused k p)

-- a phase that keeps what is declared, unless it refuses a place by a rule
abbrev pub phase : Rule → Option Place → Scope → Walked
phase k o s = unless_refused s (refused_where k o)

-- a unit in its phases: its names, its fixpoints, the order of its operands
abbrev pub phased : Files → List Item → Result Scope Refusal
phased f xs = after (phase rules.Order (first_unordered xs)) (after (phase rules.Fixpoint (first_fault xs)) (unit_of xs (beginning f xs)))

-- the refusal that something comes to, if it comes to one
abbrev pub refusal_in : {A : Type 0} → Result A Refusal → Option Refusal
refusal_in (Ok a) = None
refusal_in (Err r) = Some r

-- the first refusal of a unit in its phases, if there is one
abbrev pub first_refusal : Files → List Item → Option Refusal
first_refusal f xs = refusal_in (phased f xs)
