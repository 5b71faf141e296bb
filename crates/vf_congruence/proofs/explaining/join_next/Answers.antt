use Rattle.vf_congruence.proofs.Explained.{pair_read, pair_in, pair_apart}
use Rattle.vf_congruence.proofs.explaining.join_next.Goals as goal

pub join-requires-clause-left : goal.join-requires-clause-left
join-requires-clause-left c = (c.requires.terms _ _ (pair_in c.args.merged.now c.in-Some.i c.in-Some.ensures.within)).0

pub join-requires-clause-right : goal.join-requires-clause-right
join-requires-clause-right c = (c.requires.terms _ _ (pair_in c.args.merged.now c.in-Some.i c.in-Some.ensures.within)).1

pub join-requires-clause-apart : goal.join-requires-clause-apart
join-requires-clause-apart c = pair_apart c.args.labels.now c.args.merged.now c.in-Some.i c.in-Some.ensures

pub join-requires-clause-step : goal.join-requires-clause-step
join-requires-clause-step c = c.requires.reasons.each c.in-Some.i _ _ (pair_read c.args.merged.now c.in-Some.i c.in-Some.ensures.within)
