use Rattle.std.proofs.Common.{arith}
use Rattle.vf_manifest.specs.declared.line.Version.TheVariants.{Second}
use Rattle.vf_manifest.specs.Manifests.{head, ended}
use Rattle.vf_manifest.proofs.Walking.{one_more}
use Rattle.vf_manifest.proofs.spelling.write_manifest.Goals as goal

pub loop-at-preserved : goal.loop-at-preserved
loop-at-preserved c = one_more (ended Second) (head Second) c.loop-at.out c.push_line.new.out c.args.manifest.now c.loop-at.at (omega (arith, c.loop-at-test.true, c.len-at-end.ensures)) c.loop-at.invariant c.in_ok-push_line.ensures
