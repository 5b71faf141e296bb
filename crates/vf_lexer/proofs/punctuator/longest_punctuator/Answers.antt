use Rattle.vf_lexer.proofs.Longest.{longest}
use Rattle.vf_lexer.proofs.punctuator.longest_punctuator.Goals as goal

pub returns : goal.returns
returns c = longest
