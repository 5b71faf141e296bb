-- The rules of contracts, invariants, ghost commands alone and bodies of predicates come to what the functions come to, and to nothing else.
use Rattle.std.proofs.Common.{◌≡◌, refl, ℕ, []}
use Rattle.vf_declared.specs.declared.scope.Scope.{Scope}
use Rattle.vf_syntax.specs.declared.contract.Contract.{Contract}
use Rattle.vf_syntax.specs.declared.contract.Invariant.{Invariant}
use Rattle.vf_syntax.specs.AssertionTree.{PartTrees, part_list}
use Rattle.vf_syntax.specs.GhostCommandTree.{GhostCommandTree, GhostCommandTrees, no_ghost_command, more_ghost_command}
use Rattle.vf_sorting.specs.declared.context.Context.{Context}
use Rattle.vf_walk.specs.declared.annotations.Owner.{Owner}
use Rattle.vf_walk.specs.Walking.{Walked}
use Rattle.vf_contracts.specs.Comes.{around_invariant}
use Rattle.vf_contracts.specs.Comes as contracts
use Rattle.vf_commands.specs.declared.around.Around.{Around}
use Rattle.vf_commands.specs.Comes as commands
use Rattle.vf_predicates.specs.Bodies.{around_body}
use Rattle.vf_predicates.specs.Bodies as bodies
use Rattle.vf_order_laws.specs.walk.Contracting.{body_of, contract_of, ghost_command_of, ghost_commands_of, invariant_of, owned_contract_of}
use Rattle.vf_order_laws.proofs.walk.Results.{goes, stops}
use Rattle.vf_order_laws.proofs.walk.Finding.{comes_after}
use Rattle.vf_order_laws.proofs.walk.ThenCome.{then_comes, then_found}
use Rattle.vf_order_laws.proofs.walk.Finding.{nothing_resolved}
use Rattle.vf_order_laws.proofs.walk.AssertionsCome.{any_part_fails, parts_give}
use Rattle.vf_order_laws.proofs.walk.AssertionsFound.{parts_found}
use Rattle.vf_order_laws.proofs.walk.CommandsCome.{command_fails, command_gives}
use Rattle.vf_order_laws.proofs.walk.CommandsFound.{command_found}

-- ---- contracts
pub contract_comes : {c d : Context} {x : Contract} {s : Scope} {w : Walked} → contracts.ContractComes c d x s w → contract_of c d x s ≡ w
contract_comes (contracts.given (contracts.contract a b)) = goes _ (parts_give a) (goes _ (parts_give b) refl)
contract_comes (contracts.refused (contracts.precondition a)) = stops _ (any_part_fails a)
contract_comes (contracts.refused (contracts.postcondition a b)) = goes _ (parts_give a) (stops _ (any_part_fails b))

pub contract_found : (c d : Context) (x : Contract) (s : Scope) → contracts.ContractComes c d x s (contract_of c d x s)
contract_found c d x s = comes_after (contracts.ContractComes c d x s) (parts_found c s [] nothing_resolved (part_list x.precondition))
    (λ r h. comes_after (contracts.ContractComes c d x s) (parts_found d r.0 r.1 h.1.resolved (part_list x.postcondition)) (λ t i. contracts.given (contracts.contract h.0 i.0)) (λ y f. contracts.refused (contracts.postcondition h.0 f)))
    (λ y f. contracts.refused (contracts.precondition f))

pub owned_contract_comes : (o : Owner) {x : Contract} {s : Scope} {w : Walked} → contracts.OwnedComes o x s w → owned_contract_of o x s ≡ w
owned_contract_comes o h = contract_comes h

pub owned_contract_found : (o : Owner) (x : Contract) (s : Scope) → contracts.OwnedComes o x s (owned_contract_of o x s)
owned_contract_found o x s = contract_found _ _ x s

-- ---- invariants
pub invariant_comes : {x : Invariant} {s : Scope} {w : Walked} → contracts.InvariantComes x s w → invariant_of x s ≡ w
invariant_comes (contracts.given a) = goes _ (parts_give a) refl
invariant_comes (contracts.refused a) = stops _ (any_part_fails a)

pub invariant_found : (x : Invariant) (s : Scope) → contracts.InvariantComes x s (invariant_of x s)
invariant_found x s = comes_after (contracts.InvariantComes x s) (parts_found around_invariant s [] nothing_resolved (part_list x.assertion)) (λ r h. contracts.given h.0) (λ y f. contracts.refused f)

-- ---- ghost commands alone
pub command_comes : {w : Around} {x : GhostCommandTree} {s : Scope} {v : Walked} → commands.CommandComes w x s v → ghost_command_of w x s ≡ v
command_comes (commands.given a) = goes _ (command_gives a) refl
command_comes (commands.refused a) = stops _ (command_fails a)

pub command_alone_found : (w : Around) (x : GhostCommandTree) (s : Scope) → commands.CommandComes w x s (ghost_command_of w x s)
command_alone_found w x s = comes_after (commands.CommandComes w x s) (command_found w s [] nothing_resolved x) (λ r h. commands.given h.0) (λ y f. commands.refused f)

pub commands_come : (w : Around) (xs : GhostCommandTrees) (s : Scope) {v : Walked} → commands.BodyComes w xs s v → ghost_commands_of w xs s ≡ v
commands_come w no_ghost_command s h = h.is
commands_come w (more_ghost_command x xs) s h = then_comes (λ v a. command_comes a) (λ t v a. commands_come w xs t a) h

pub commands_alone_found : (w : Around) (xs : GhostCommandTrees) (s : Scope) → commands.BodyComes w xs s (ghost_commands_of w xs s)
commands_alone_found w no_ghost_command s = record { is = refl }
commands_alone_found w (more_ghost_command x xs) s = then_found _ _ (command_alone_found w x s) (λ t. commands_alone_found w xs t)

-- ---- bodies of predicates
pub body_comes : {n : ℕ} {xs : PartTrees} {s : Scope} {w : Walked} → bodies.BodyComes n xs s w → body_of n xs s ≡ w
body_comes (bodies.given a) = goes _ (parts_give a) refl
body_comes (bodies.refused a) = stops _ (any_part_fails a)

pub body_found : (n : ℕ) (xs : PartTrees) (s : Scope) → bodies.BodyComes n xs s (body_of n xs s)
body_found n xs s = comes_after (bodies.BodyComes n xs s) (parts_found around_body s [] nothing_resolved xs) (λ r h. bodies.given h.0) (λ y f. bodies.refused f)
