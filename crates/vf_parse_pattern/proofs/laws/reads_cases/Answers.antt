use Rattle.vf_parse_pattern.proofs.PatternsRead.{case_pattern_sound}
use Rattle.vf_parse_pattern.proofs.laws.reads_cases.Goals as goal

pub returns : goal.returns
returns c = record { sound = case_pattern_sound }
