use Rattle.vf_manifest.proofs.ManifestLaws.{one_manifest, never_both}
use Rattle.vf_manifest.proofs.manifest.one_reading.Goals as goal

pub returns-clause-manifest : goal.returns-clause-manifest
returns-clause-manifest c = λ text first second t u. one_manifest text first second t u

pub returns-clause-never_both : goal.returns-clause-never_both
returns-clause-never_both c = λ text number lines f t. never_both text number lines f t
