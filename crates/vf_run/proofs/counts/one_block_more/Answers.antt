use Rattle.std.proofs.Common.{◌+◌, ap, ◌∙◌, arith}
use Rattle.vf_run.proofs.Counting.{block_more}
use Rattle.vf_run.proofs.counts.one_block_more.Goals as goal

pub returns-clause-memory : goal.returns-clause-memory
returns-clause-memory c = λ m number block free ints there counts.
    let more = block_more m number block free in
    let cells = more.1 in
    let all = counts.1 in
    (more.0 ∙ ap (λ n. n + 1) there, omega (arith, cells, all, ints))
