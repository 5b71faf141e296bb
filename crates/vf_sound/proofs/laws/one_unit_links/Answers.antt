use Rattle.vf_sound.proofs.Linking.{one_unit_links}
use Rattle.vf_sound.proofs.laws.one_unit_links.Goals as goal

pub returns : goal.returns
returns c = one_unit_links
