use Rattle.std.proofs.Common.{◌≡◌, ℕ, Some, None, sym, ap, ◌∙◌, Bool, true, false}
use Rattle.std.specs.Prelude.{MatchBool}
use Rattle.vf_explain.specs.Reached.{IsClosed}
use Rattle.vf_explain.proofs.Reaching.{reached_at_last}
use Rattle.vf_explain.proofs.bound.reach.Goals as goal

closed_of : (b : Bool) (P Q R : Type 0) → b ≡ false → MatchBool b P (Q × R) → R
closed_of true P Q R e h = absurd cc
closed_of false P Q R e h = h.1

apart : (s : ℕ) → Some None ≡ Some (Some s) → ⊥
apart s e = absurd cc

pub unreachable-requires : goal.unreachable-requires
unreachable-requires c =
    let begun = c.loop-step.invariant.begun in
    let own = c.loop-step.invariant.reached c.args.first.to begun.0 begun.1 in
    let closed = closed_of c.in_ok-reach_more.field-0 _ _ (IsClosed c.args.bounds.now.edges c.args.first.to c.loop-step.steps) c.if-not-branch.true c.in_ok-reach_more.ensures.told in
    let there = reached_at_last c.args.bounds.now.edges c.args.first.to c.args.y c.requires.path.0 own.rest c.loop-step.steps c.requires.fine closed c.requires.path.1 own.least begun in
    apart there.0 (sym (c.step_of.ensures ∙ ap Some c.in-None.is) ∙ there.1)
