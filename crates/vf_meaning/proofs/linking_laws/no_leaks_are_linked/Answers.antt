use Rattle.vf_meaning.proofs.Linking.{no_leaks_are_linked}
use Rattle.vf_meaning.proofs.linking_laws.no_leaks_are_linked.Goals as goal

pub returns : goal.returns
returns c = no_leaks_are_linked
