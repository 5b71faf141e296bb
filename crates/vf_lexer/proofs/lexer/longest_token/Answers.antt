use Rattle.vf_lexer.proofs.Spelled.{token_longest, token_spelled}
use Rattle.vf_lexer.proofs.lexer.longest_token.Goals as goal

pub returns-clause-spelled : goal.returns-clause-spelled
returns-clause-spelled c = token_spelled

pub returns-clause-longest : goal.returns-clause-longest
returns-clause-longest c = token_longest
