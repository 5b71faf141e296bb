use Rattle.vf_parse_chunk.specs.Chunks.{cell_at}
use Rattle.vf_grammar_depth.proofs.terms.Whole.{answers_deepen_by_two}
use Rattle.vf_grammar_depth.proofs.chunks.Whole.{cell_rises}
use Rattle.vf_grammar_depth.proofs.chunks.laws.cells_deepen.Goals as goal

pub returns : goal.returns
returns c = λ p s e d m ts lt. answers_deepen_by_two (λ n. cell_at n p s e) (cell_rises p s e) d m ts lt
