use Rattle.vf_parse_chunk.specs.Chunks.{begun_at}
use Rattle.vf_grammar_depth.proofs.terms.Whole.{answers_deepen_by_two}
use Rattle.vf_grammar_depth.proofs.chunks.Whole.{begun_rises}
use Rattle.vf_grammar_depth.proofs.chunks.laws.chunks_deepen.Goals as goal

pub returns : goal.returns
returns c = λ p d m ts lt. answers_deepen_by_two (λ n. begun_at n p) (begun_rises p) d m ts lt
