use Rattle.vf_erasure_laws.proofs.erased.Laws.{units_are_erased}
use Rattle.vf_erasure_laws.proofs.erased.units_are_erased.Goals as goal

pub returns : goal.returns
returns c = units_are_erased
