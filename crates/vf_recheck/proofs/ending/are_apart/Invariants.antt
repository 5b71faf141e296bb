use Rattle.std.proofs.Common.{◌≡◌, ℕ, ◌<◌, get_or}
use Rattle.vf_refute.specs.declared.steps.Fact.TheVariants.{NotEqual}
use Rattle.vf_recheck.proofs.ending.are_apart.Given as goal

abbrev pub invariant-loop-fact : goal.invariant-loop-fact
invariant-loop-fact l = (k : ℕ) → k < l.fact-index → get_or l.facts k (NotEqual l.x l.y) ≡ NotEqual l.x l.y → ⊥
