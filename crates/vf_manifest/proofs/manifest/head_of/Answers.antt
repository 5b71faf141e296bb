use Rattle.std.proofs.Common.{sym, ◌∙◌}
use Rattle.vf_manifest.specs.declared.line.Version.TheVariants.{Second}
use Rattle.vf_manifest.specs.Manifests.{head}
use Rattle.vf_manifest.proofs.Cutting.{front_whole}
use Rattle.vf_manifest.proofs.manifest.head_of.Goals as goal

pub returns-then-starts_with-2-clause-found : goal.returns-then-starts_with-2-clause-found
returns-then-starts_with-2-clause-found c = front_whole c.args.text.now (head Second) (sym c.starts_with-else-starts_with.ensures.value ∙ c.if-starts_with-2.true)
