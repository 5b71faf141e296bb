-- What contracts, invariants, ghost commands alone and bodies of predicates come to, as functions: what is declared then, or the first refusal.
use Rattle.std.specs.Prelude.{ℕ, [], Ok}
use Rattle.vf_declared.specs.declared.scope.Scope.{Scope}
use Rattle.vf_syntax.specs.declared.contract.Contract.{Contract}
use Rattle.vf_syntax.specs.declared.contract.Invariant.{Invariant}
use Rattle.vf_syntax.specs.AssertionTree.{PartTrees, part_list}
use Rattle.vf_syntax.specs.GhostCommandTree.{GhostCommandTree, GhostCommandTrees, no_ghost_command, more_ghost_command}
use Rattle.vf_sorting.specs.declared.context.Context.{Context}
use Rattle.vf_asserting.specs.Leaving.{count}
use Rattle.vf_walk.specs.declared.annotations.Owner.{Owner}
use Rattle.vf_walk.specs.Walking.{Walked}
use Rattle.vf_contracts.specs.Comes.{around_invariant, around_postcondition, around_precondition}
use Rattle.vf_commands.specs.declared.around.Around.{Around}
use Rattle.vf_predicates.specs.Bodies.{around_body}
use Rattle.vf_order_laws.specs.walk.Following.{after}
use Rattle.vf_order_laws.specs.walk.Assertions.{parts_of}
use Rattle.vf_order_laws.specs.walk.Commands.{command_of}
use Rattle.vf_order_laws.specs.walk.Equations.{left_of}

-- what is declared, without what is known of unknown sorts
abbrev pub known_scope : Scope → Walked
known_scope s = Ok s

-- a contract, by what stands around its precondition and around its postcondition: nothing is known in front of the precondition, and what the postcondition declares is gone behind it
abbrev pub contract_of : Context → Context → Contract → Scope → Walked
contract_of c d x s = after (λ r. after (λ t. left_of (count r.0) t.0) (parts_of d r.0 r.1 (part_list x.postcondition))) (parts_of c s [] (part_list x.precondition))

-- the contract of a function or function type
abbrev pub owned_contract_of : Owner → Contract → Scope → Walked
owned_contract_of o x s = contract_of (around_precondition o) (around_postcondition o) x s

-- the invariant of a loop, in front of which nothing is known
abbrev pub invariant_of : Invariant → Scope → Walked
invariant_of x s = after (λ r. known_scope r.0) (parts_of around_invariant s [] (part_list x.assertion))

-- a ghost command in front of which nothing is known
abbrev pub ghost_command_of : Around → GhostCommandTree → Scope → Walked
ghost_command_of w x s = after (λ r. known_scope r.0) (command_of w s [] x)

-- ghost commands one after the other, in front of each of which nothing is known
abbrev pub ghost_commands_of : Around → GhostCommandTrees → Scope → Walked
ghost_commands_of w no_ghost_command s = known_scope s
ghost_commands_of w (more_ghost_command x xs) s = after (ghost_commands_of w xs) (ghost_command_of w x s)

-- an assertion that is the body of a predicate, behind which so many locals are left
abbrev pub body_of : ℕ → PartTrees → Scope → Walked
body_of n xs s = after (λ r. left_of n r.0) (parts_of around_body s [] xs)
