use Rattle.std.proofs.Common.{refl}
use Rattle.vf_steps.specs.Shown.{action_of}
use Rattle.vf_lower.proofs.Parts.{did_add, nodes_more}
use Rattle.vf_lower.proofs.draft.Draft.add.Goals as goal

pub returns : goal.returns
returns c = did_add c.args.statement (action_of c.args.action) c.args.self.now _ (nodes_more c.args.self.now.nodes.items _ _ c.in_ok-push.ensures.items) refl
