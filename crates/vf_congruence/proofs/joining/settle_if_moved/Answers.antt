use Rattle.vf_congruence.proofs.Meeting.{only_none}
use Rattle.vf_congruence.proofs.joining.settle_if_moved.Goals as goal

pub returns-then-is_still_at-clause-only : goal.returns-then-is_still_at-clause-only
returns-then-is_still_at-clause-only c = only_none c.args.nodes.now c.args.classes.now
