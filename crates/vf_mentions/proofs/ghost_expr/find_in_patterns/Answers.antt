use Rattle.std.proofs.Common.{refl, sym}
use Rattle.vf_mentions.specs.GhostText.{mentioned_in_pattern, mentioned_in_patterns}
use Rattle.vf_mentions.proofs.Loops.{one_more}
use Rattle.vf_mentions.proofs.ghost_expr.find_in_patterns.Goals as goal

pub loop-at-preserved : goal.loop-at-preserved
loop-at-preserved c = one_more (mentioned_in_pattern c.args.locals.now) (λ xs. mentioned_in_patterns c.args.locals.now xs) (λ x xs. refl) c.args.patterns.now c.loop-at.at _ _ _ _ (sym c.in-Some.ensures) c.in_ok-find_in_pattern.ensures c.loop-at.invariant
