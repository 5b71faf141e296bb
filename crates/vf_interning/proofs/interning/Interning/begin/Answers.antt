use Rattle.std.proofs.Common.{rules, ◌≡◌, ◌++◌, ◌∷◌, [], length, sym, subst, List, ℕ}
use Rattle.vf_table.specs.declared.node.Node.{Node}
use Rattle.vf_refute.specs.declared.steps.Fact.{Fact}
use Rattle.vf_combination.specs.Combined.{Begun}
use Rattle.vf_interning.specs.Interned.{AreLevels, IsInterned}
use Rattle.vf_interning.proofs.Levels.{levels_push}
use Rattle.vf_interning.proofs.interning.Interning.begin.Goals as goal

pub invariant_of-self-2 : goal.invariant_of-self-2
invariant_of-self-2 c =
    let ts = c.self.inside.terms.items in
    let old = c.self.inside.combination in
    let counts : c.push_reserved.new.self.items ≡ c.self.inside.counts.items ++ length ts ∷ [] = search rules in
    let levels : c.begin.new.self.levels ≡ old.levels ++ record { nodes = old.nodes; facts = old.facts } ∷ [] = c.in_ok-begin.ensures.levels in
    record {
      now = subst (λ (ns : List Node). IsInterned ns c.begin.new.self.facts ts) (sym c.begin.ensures.nodes) (subst (λ (fs : List Fact). IsInterned old.nodes fs ts) (sym c.begin.ensures.facts) c.self.invariant.now);
      levels = subst (λ (bs : List Begun). AreLevels bs c.push_reserved.new.self.items ts) (sym levels) (subst (λ (ns : List ℕ). AreLevels (old.levels ++ record { nodes = old.nodes; facts = old.facts } ∷ []) ns ts) (sym counts) (levels_push old.levels c.self.inside.counts.items old.nodes old.facts ts c.self.invariant.levels c.self.invariant.now));
    }
