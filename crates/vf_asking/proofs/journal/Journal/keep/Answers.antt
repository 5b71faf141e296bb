use Rattle.std.proofs.Common.{arith, subst, sym}
use Rattle.vf_asking.specs.Journal.{HasNode}
use Rattle.vf_asking.specs.Whole.{AreOfUnits, ArePlaced}
use Rattle.vf_asking.proofs.Kept.{either_way, placed_kept, of_units_kept}
use Rattle.vf_asking.proofs.journal.Journal.keep.Goals as goal

pub invariant_of-self-clause-placed : goal.invariant_of-self-clause-placed
unfolding HasNode
invariant_of-self-clause-placed c =
    let j = c.args.self.now in
    either_way c.push.result c.push.ensures.pushed c.push.ensures.unchanged (λ e. placed_kept j.trail.facts j.entries _ _ e j.placed c.requires.there) (λ e. subst (ArePlaced j.trail.facts) (sym e) j.placed)

pub invariant_of-self-clause-of_units : goal.invariant_of-self-clause-of_units
invariant_of-self-clause-of_units c =
    let j = c.args.self.now in
    either_way c.push.result c.push.ensures.pushed c.push.ensures.unchanged (λ e. of_units_kept j.units j.entries _ _ e j.of_units (omega (arith, c.len.ensures, c.requires.begun))) (λ e. subst (AreOfUnits j.units) (sym e) j.of_units)
