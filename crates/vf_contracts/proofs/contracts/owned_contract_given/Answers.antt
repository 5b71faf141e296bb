use Rattle.vf_contracts.proofs.Steps.{owned}
use Rattle.vf_contracts.proofs.contracts.owned_contract_given.Goals as goal

pub returns : goal.returns
returns c = owned c.args.owner c.around_precondition-before.ensures c.around_postcondition-after.ensures c.contract_given.ensures
