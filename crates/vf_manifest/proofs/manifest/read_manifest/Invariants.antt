use Rattle.std.proofs.Common.{length}
use Rattle.vf_manifest.proofs.ManifestLaws.{SoFar}
use Rattle.vf_manifest.proofs.manifest.read_manifest.Given as goal

abbrev pub invariant-lines : goal.invariant-lines
invariant-lines l = SoFar l.bytes l.version l.lines l.last l.left l.number

abbrev pub decreases-lines : goal.decreases-lines
decreases-lines l = length l.left
