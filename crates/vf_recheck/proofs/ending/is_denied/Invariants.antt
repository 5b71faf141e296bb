use Rattle.std.proofs.Common.{◌≡◌, ℕ, ◌<◌, get_or}
use Rattle.vf_refute.specs.declared.steps.Fact.TheVariants.{NotDifference}
use Rattle.vf_recheck.proofs.ending.is_denied.Given as goal

abbrev pub invariant-loop-fact : goal.invariant-loop-fact
invariant-loop-fact l = (k : ℕ) → k < l.fact-index → get_or l.facts k (NotDifference l.x l.y l.c) ≡ NotDifference l.x l.y l.c → ⊥
