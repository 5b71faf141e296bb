use Rattle.vf_log.proofs.Continued.{added_has, added_continues, continued_more}
use Rattle.vf_explain.proofs.Reaching.{own_level, own_within}
use Rattle.vf_explain.proofs.bound.derive_own.Goals as goal

pub level_above-requires : goal.level_above-requires
level_above-requires c = record { level = own_level c.args.log.now c.reflexive.new.self c.args.x c.in_ok-equal.equal c.in_ok-equal.ensures.added c.requires }

pub returns-clause-derived : goal.returns-clause-derived
returns-clause-derived c = added_has (own_within c.args.log.now c.reflexive.new.self c.level_above.new.self c.args.x c.in_ok-equal.equal c.in_ok-step.step c.in_ok-equal.ensures.added c.requires c.in_ok-step.ensures.added)

pub returns-clause-continued : goal.returns-clause-continued
returns-clause-continued c = continued_more (added_continues c.in_ok-equal.ensures.added) (added_continues (own_within c.args.log.now c.reflexive.new.self c.level_above.new.self c.args.x c.in_ok-equal.equal c.in_ok-step.step c.in_ok-equal.ensures.added c.requires c.in_ok-step.ensures.added))
