use Rattle.vf_meaning.proofs.ShareOuts.{members_are_apart}
use Rattle.vf_meaning.proofs.share_out_laws.members_are_apart.Goals as goal

pub returns : goal.returns
returns c = members_are_apart
