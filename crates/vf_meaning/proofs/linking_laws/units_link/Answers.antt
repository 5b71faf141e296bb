use Rattle.vf_meaning.proofs.Linking.{units_link}
use Rattle.vf_meaning.proofs.linking_laws.units_link.Goals as goal

pub returns : goal.returns
returns c = units_link
