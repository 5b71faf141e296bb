use Rattle.vf_erasure_laws.proofs.erased.Laws.{plain_readings_are_erased}
use Rattle.vf_erasure_laws.proofs.erased.plain_readings_are_erased.Goals as goal

pub returns : goal.returns
returns c = plain_readings_are_erased
