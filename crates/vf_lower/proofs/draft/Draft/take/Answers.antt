use Rattle.std.proofs.Common.{refl}
use Rattle.vf_lower.proofs.Parts.{did_take}
use Rattle.vf_lower.proofs.draft.Draft.take.Goals as goal

pub returns : goal.returns
returns c = did_take c.args.ctype c.args.self.now _ c.len-number.result c.len-number.ensures refl c.in_ok-push.ensures.pushed
