use Rattle.vf_meaning.proofs.ShareOuts.{sums_open}
use Rattle.vf_meaning.proofs.share_out_laws.sums_open.Goals as goal

pub returns : goal.returns
returns c = sums_open
