use Rattle.std.proofs.Common.{sym, subst}
use Rattle.vf_core.specs.Shown.{program_of}
use Rattle.vf_run.specs.Counts.{HasCounts}
use Rattle.vf_run.proofs.Counting.{opened}
use Rattle.vf_run.proofs.opening.opening.Goals as goal

pub returns-clause-counted : goal.returns-clause-counted
returns-clause-counted c =
    subst (λ s. HasCounts s (record { blocks = 0; threads = 1; frames = c.main_count.result; cells = 0 })) (sym c.in_ok-running.ensures) (opened (program_of c.args.program.now.unit) c.main_count.result c.main_count.ensures.count)
