use Rattle.vf_parse_term.proofs.SortsRead.{sort_sound}
use Rattle.vf_parse_term.proofs.laws.reads_sorts.Goals as goal

pub returns : goal.returns
returns c = record { sound = sort_sound }
