use Rattle.vf_parse_pattern.proofs.PatternsRead.{pattern_sound, patterns_sound, any_patterns_sound}
use Rattle.vf_parse_pattern.proofs.laws.reads_patterns.Goals as goal

pub returns-clause-sound : goal.returns-clause-sound
returns-clause-sound c = pattern_sound

pub returns-clause-listed : goal.returns-clause-listed
returns-clause-listed c = patterns_sound

pub returns-clause-any : goal.returns-clause-any
returns-clause-any c = any_patterns_sound
