use Rattle.vf_fixpoint_laws.proofs.descending.Unmarked.{unmarked_items_have_plain_names}
use Rattle.vf_fixpoint_laws.proofs.descending.laws.unmarked_items_have_plain_names.Goals as goal

pub returns : goal.returns
returns c = unmarked_items_have_plain_names
