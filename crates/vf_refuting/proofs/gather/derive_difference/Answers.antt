use Rattle.std.proofs.Common.{inr}
use Rattle.vf_refute.specs.declared.steps.Derived.TheVariants.{HaveDifference}
use Rattle.vf_log.proofs.Continued.{added_has, added_continues, continued_more}
use Rattle.vf_refuting.proofs.Deriving.{of_difference, within_small, within_negative, still_has, two_derived}
use Rattle.vf_refuting.proofs.gather.derive_difference.Goals as goal

pub fact-requires : goal.fact-requires
fact-requires c = record { gives = (HaveDifference c.args.x c.args.y c.args.by, of_difference c.args.log.now.facts c.args.i c.args.x c.args.y c.args.by c.requires.fact, within_small c.args.by c.requires.small) }

pub level_above-requires : goal.level_above-requires
level_above-requires c =
    let a = c.in_ok-fact.ensures.added (HaveDifference c.args.x c.args.y c.args.by) (of_difference c.args.log.now.facts c.args.i c.args.x c.args.y c.args.by c.requires.fact) in
    record { level = (c.args.x, c.args.y, c.args.by, inr (added_has a), within_small c.args.by c.requires.small) }

pub level_below-requires : goal.level_below-requires
level_below-requires c =
    let a = c.in_ok-fact.ensures.added (HaveDifference c.args.x c.args.y c.args.by) (of_difference c.args.log.now.facts c.args.i c.args.x c.args.y c.args.by c.requires.fact) in
    let b = c.in_ok-above.ensures.added c.args.x c.args.y c.args.by (inr (added_has a)) in
    record { level = (c.args.x, c.args.y, c.args.by, inr (still_has c.in_ok-fact.fact (HaveDifference c.args.x c.args.y c.args.by) b (added_has a)), within_negative c.args.by c.requires.small) }

pub returns-clause-continued : goal.returns-clause-continued
returns-clause-continued c =
    let a = c.in_ok-fact.ensures.added (HaveDifference c.args.x c.args.y c.args.by) (of_difference c.args.log.now.facts c.args.i c.args.x c.args.y c.args.by c.requires.fact) in
    let b = c.in_ok-above.ensures.added c.args.x c.args.y c.args.by (inr (added_has a)) in
    let d = c.in_ok-below.ensures.added c.args.x c.args.y c.args.by (inr (still_has c.in_ok-fact.fact (HaveDifference c.args.x c.args.y c.args.by) b (added_has a))) in
    continued_more (continued_more (added_continues a) (added_continues b)) (added_continues d)

pub returns-clause-derived : goal.returns-clause-derived
returns-clause-derived c =
    let a = c.in_ok-fact.ensures.added (HaveDifference c.args.x c.args.y c.args.by) (of_difference c.args.log.now.facts c.args.i c.args.x c.args.y c.args.by c.requires.fact) in
    let b = c.in_ok-above.ensures.added c.args.x c.args.y c.args.by (inr (added_has a)) in
    two_derived b (c.in_ok-below.ensures.added c.args.x c.args.y c.args.by (inr (still_has c.in_ok-fact.fact (HaveDifference c.args.x c.args.y c.args.by) b (added_has a))))
