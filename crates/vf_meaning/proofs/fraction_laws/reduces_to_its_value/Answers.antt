use Rattle.vf_meaning.proofs.Fractions.{reduces_to_its_value}
use Rattle.vf_meaning.proofs.fraction_laws.reduces_to_its_value.Goals as goal

pub returns : goal.returns
returns c = reduces_to_its_value
