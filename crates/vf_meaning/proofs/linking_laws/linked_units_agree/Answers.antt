use Rattle.vf_meaning.proofs.Linking.{linked_units_agree}
use Rattle.vf_meaning.proofs.linking_laws.linked_units_agree.Goals as goal

pub returns : goal.returns
returns c = linked_units_agree
