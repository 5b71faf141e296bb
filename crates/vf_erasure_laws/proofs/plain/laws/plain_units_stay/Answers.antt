use Rattle.vf_erasure_laws.proofs.plain.Stays.{stays}
use Rattle.vf_erasure_laws.proofs.plain.laws.plain_units_stay.Goals as goal

pub returns : goal.returns
returns n = stays
