use Rattle.std.proofs.Common.{refl}
use Rattle.vf_lexer.proofs.Cutting.{cut_gives}
use Rattle.vf_lexer.proofs.Slices.{places}
use Rattle.vf_lexer.proofs.lexer.tokens_have_their_places.Goals as goal

pub returns : goal.returns
returns c = λ header file bytes tokens h. places file bytes (cut_gives header file bytes tokens h) refl refl
