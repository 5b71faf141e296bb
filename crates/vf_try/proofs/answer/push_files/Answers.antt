-- One file more is printed.
use Rattle.std.proofs.Common.{sym}
use Rattle.vf_try.proofs.Answering.{lines_on}
use Rattle.vf_try.proofs.answer.push_files.Goals as goal

pub loop-file-preserved : goal.loop-file-preserved
loop-file-preserved c = lines_on c.args.snapshot.now c.args.files.now c.loop-file.file-index c.file-item.result c.args.text.now _ _ c.loop-file-test.true (sym c.file-item.is) c.loop-file.invariant c.in_ok-push_file.ensures
