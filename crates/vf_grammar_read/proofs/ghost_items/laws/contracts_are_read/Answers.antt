use Rattle.vf_grammar_read.proofs.ghost_items.Clauses.{claim_full, contract_full, invariant_full}
use Rattle.vf_grammar_read.proofs.ghost_items.laws.contracts_are_read.Goals as goal

pub returns-clause-claims : goal.returns-clause-claims
returns-clause-claims c = claim_full

pub returns-clause-contracts : goal.returns-clause-contracts
returns-clause-contracts c = contract_full

pub returns-clause-invariants : goal.returns-clause-invariants
returns-clause-invariants c = invariant_full
