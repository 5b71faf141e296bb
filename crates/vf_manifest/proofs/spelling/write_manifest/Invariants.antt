use Rattle.std.proofs.Common.{◌≡◌, ◌++◌, take}
use Rattle.std.specs.List.{flat_map}
use Rattle.vf_manifest.specs.declared.line.Version.TheVariants.{Second}
use Rattle.vf_manifest.specs.Manifests.{head, ended}
use Rattle.vf_manifest.proofs.spelling.write_manifest.Given as goal

abbrev pub invariant-loop-at : goal.invariant-loop-at
invariant-loop-at l = l.out ≡ head Second ++ flat_map (ended Second) (take l.at l.manifest)
