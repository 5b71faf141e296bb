use Rattle.std.proofs.Common.{◌≡◌, ◌<◌, ℕ}
use Rattle.vf_reasons.specs.Drafts.{IsNoCase}
use Rattle.vf_reasons.proofs.ways.find_case.Given as goal

abbrev pub invariant-loop-k : goal.invariant-loop-k
invariant-loop-k g l = record {
  none : (k : ℕ) → k < l.k → IsNoCase (g.U.Unfolder.unfoldings l.unfolder) l.unfolding l.basis l.x k;
  still : l.draft ≡ l.initial.draft;
}
