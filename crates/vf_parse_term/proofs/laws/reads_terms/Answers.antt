use Rattle.vf_parse_term.specs.Terms.{term_at, operand_at}
use Rattle.vf_parse_term.proofs.TermsRead.{term_sound, arguments_sound, operand_sound, rest_sound}
use Rattle.vf_parse_term.proofs.laws.reads_terms.Goals as goal

pub returns-clause-sound : goal.returns-clause-sound
returns-clause-sound c = term_sound

pub returns-clause-listed : goal.returns-clause-listed
returns-clause-listed c = λ d. arguments_sound (term_at d) d (term_sound d)

pub returns-clause-goes_on : goal.returns-clause-goes_on
returns-clause-goes_on c = λ d j. rest_sound (operand_at d) d (operand_sound d) j
