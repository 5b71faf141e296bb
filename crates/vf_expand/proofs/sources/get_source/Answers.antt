use Rattle.std.proofs.Common.{sym}
use Rattle.vf_expand.proofs.Learning.{reads_asked}
use Rattle.vf_expand.proofs.sources.get_source.Goals as goal

pub returns-in-None-clause-reads : goal.returns-in-None-clause-reads
returns-in-None-clause-reads g c =
    reads_asked _ _ c.args.path.now c.get.result (sym c.in-None.ensures) (λ n h is at. (c.get.ensures.known n h is at).1) c.get.ensures.learnt
    c.get.ensures.files_unchanged c.get.ensures.failures_never_fall c.get.ensures.absences_never_fall c.get.ensures.put_failures_never_fall c.get.ensures.missing
