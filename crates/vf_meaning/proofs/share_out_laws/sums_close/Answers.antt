use Rattle.vf_meaning.proofs.ShareOuts.{sums_close}
use Rattle.vf_meaning.proofs.share_out_laws.sums_close.Goals as goal

pub returns : goal.returns
returns c = sums_close
