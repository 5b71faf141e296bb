use Rattle.std.proofs.Common.{◌≡◌, ◌⊎◌, ◌<◌, ◌+◌, ℕ, [], reverse, sym, subst, ◌∙◌, inl, inr, arith}
use Rattle.std.specs.Prelude.{Contains}
use Rattle.vf_cycles.specs.Walks.{IsRanked}
use Rattle.vf_cycles.proofs.Lists.{in_reverse}
use Rattle.vf_cycles.proofs.cycles.finishing_order.Goals as goal

below_or_at : (k n : ℕ) → k < n + 1 → (k < n) ⊎ (k ≡ n)
below_or_at k n h = grind arith

pub loop-root-preserved : goal.loop-root-preserved
loop-root-preserved c =
    let e = c.in_ok-visit_unseen.ensures in
    record {
      walk = e.walk;
      opened = e.opened;
      nodes = e.nodes ∙ c.loop-root.invariant.nodes;
      each = λ u b. elim (below_or_at u c.loop-root.root b) [
        | inl below ↦ e.kept u (c.loop-root.invariant.each u below)
        | inr at ↦ subst (λ x. Contains c.visit_unseen.new.self.finished.items x) (sym at) e.finished
      ];
    }

pub returns : goal.returns
returns c =
    let w = c.loop-root.walk in
    let inv = c.loop-root.invariant in
    record {
      nodes = λ u h. subst (λ n. u < n) inv.nodes (inv.walk.inside u (in_reverse w.finished.items u h));
      each = λ u b. inv.each u (let end = c.loop-root-test.false in omega arith);
      once = inv.walk.once;
      ranked = subst (λ s. IsRanked s c.args.targets.now [] (reverse w.finished.items)) c.in_ok-graph.ensures.sources
          (subst (λ t. IsRanked c.in_ok-graph.graph.sources.items t [] (reverse w.finished.items)) c.in_ok-graph.ensures.targets inv.walk.ranked);
    }
