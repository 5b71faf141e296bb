use Rattle.vf_meaning.proofs.ShareOuts.{share_outs_exclude_races}
use Rattle.vf_meaning.proofs.share_out_laws.share_outs_exclude_races.Goals as goal

pub returns : goal.returns
returns c = share_outs_exclude_races
