use Rattle.vf_parse_ghost.proofs.ContractsRead.{claim_sound, contract_sound, invariant_sound}
use Rattle.vf_parse_ghost.proofs.laws.contracts_are_spelled.Goals as goal

pub returns-clause-claims : goal.returns-clause-claims
returns-clause-claims c = claim_sound

pub returns-clause-contracts : goal.returns-clause-contracts
returns-clause-contracts c = contract_sound

pub returns-clause-invariants : goal.returns-clause-invariants
returns-clause-invariants c = invariant_sound
