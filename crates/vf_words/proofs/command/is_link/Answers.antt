-- The words of a link.
use Rattle.vf_words.proofs.Suiting.{manifests_are, manifests_found}
use Rattle.vf_words.proofs.command.is_link.Goals as goal

pub returns : goal.returns
returns c = (λ e. manifests_found c.args.given.now c.if-given-eq0.false (c.are_manifest_paths.ensures.0 e), λ h. c.are_manifest_paths.ensures.1 (manifests_are c.args.given.now h))
