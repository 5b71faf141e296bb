use Rattle.vf_parse_pattern.proofs.SharesRead.{share_sound, any_share_sound}
use Rattle.vf_parse_pattern.proofs.laws.reads_shares.Goals as goal

pub returns-clause-sound : goal.returns-clause-sound
returns-clause-sound c = share_sound

pub returns-clause-any : goal.returns-clause-any
returns-clause-any c = any_share_sound
