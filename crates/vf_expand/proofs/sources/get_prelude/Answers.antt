use Rattle.std.proofs.Common.{refl}
use Rattle.vf_expand.specs.Worlds.{World, world}
use Rattle.vf_expand.proofs.Learning.{reads_same, reads_then, reads_kept, no_less}
use Rattle.vf_expand.proofs.sources.get_prelude.Goals as goal

pub returns-in_err-_number-clause-reads : goal.returns-in_err-_number-clause-reads
returns-in_err-_number-clause-reads g c = reads_same _ _ c.in_err-_number.ensures.unchanged refl (no_less _) (no_less _) (no_less _)

pub returns-clause-reads : goal.returns-clause-reads
returns-clause-reads g c =
    let now : World = world c.args.snapshot.now (g.F.Files.contents c.args.files.now) (g.F.Files.failures c.args.files.now) (g.F.Files.absences c.args.files.now) (g.F.Files.put_failures c.args.files.now) in
    let kept : World = world c.keep.new.self (g.F.Files.contents c.args.files.now) (g.F.Files.failures c.args.files.now) (g.F.Files.absences c.args.files.now) (g.F.Files.put_failures c.args.files.now) in
    let there = c.in_ok-_number.ensures.there in
    reads_then now kept _
    (reads_kept now kept c.args.path.now c.args.text.now c.requires (λ n is. (c.in_ok-_number.ensures.known n is).1) (λ none. (c.in_ok-_number.ensures.kept none).1) refl (no_less _) (no_less _) (no_less _))
    (reads_same kept _ (c.get.ensures.known _ there.0 there.1.0 there.1.1).1 c.get.ensures.files_unchanged c.get.ensures.failures_never_fall c.get.ensures.absences_never_fall c.get.ensures.put_failures_never_fall)
