use Rattle.std.proofs.Common.{refl}
use Rattle.vf_lexer.proofs.Cutting.{cut_gives}
use Rattle.vf_lexer.proofs.Slices.{slices}
use Rattle.vf_lexer.proofs.lexer.tokens_are_slices.Goals as goal

pub returns : goal.returns
returns c = λ header file bytes tokens h. slices bytes (cut_gives header file bytes tokens h) refl
