use Rattle.std.proofs.Common.{◌≡◌, length, map, drop, sym, ap, ◌∙◌, subst, List}
use Rattle.vf_table.specs.declared.node.Node.{Node}
use Rattle.vf_refute.specs.declared.steps.Fact.{Fact}
use Rattle.vf_combination.specs.Combined.{Begun}
use Rattle.vf_interning.specs.Interned.{Interned, meant, AreLevels, IsInterned}
use Rattle.vf_interning.proofs.Parts.{goes_on}
use Rattle.vf_interning.proofs.Levels.{levels_stay, levels_mean}
use Rattle.vf_interning.proofs.interning.Interning.assume_equal.Goals as goal

pub invariant_of-self-in-Ok : goal.invariant_of-self-in-Ok
invariant_of-self-in-Ok c =
    let ts = c.self.inside.terms.items in
    let now = c.assume_equal_in.new.terms.items in
    let old = c.self.inside.combination in
    let begun : Begun = record { nodes = old.nodes; facts = old.facts } in
    let levels : c.keep.new.self.levels ≡ old.levels = c.keep.ensures.levels old.levels begun (c.assume_equal_in.ensures.levels ∙ c.in_ok-begin.ensures.levels) in
    record {
      now = subst (λ (ns : List Node). IsInterned ns c.keep.new.self.facts now) (sym c.keep.ensures.nodes) (subst (λ (fs : List Fact). IsInterned c.assume_equal_in.new.combination.nodes fs now) (sym c.keep.ensures.facts) c.in-Ok.ensures.interned);
      levels = subst (λ (bs : List Begun). AreLevels bs c.self.inside.counts.items now) (sym levels) (levels_stay old.levels c.self.inside.counts.items ts (drop (length ts) now) now (goes_on ts now c.assume_equal_in.ensures.kept) c.self.invariant.levels);
    }

pub returns-in-Ok-clause-levels : goal.returns-in-Ok-clause-levels
returns-in-Ok-clause-levels c =
    let ts = c.self.inside.terms.items in
    let now = c.assume_equal_in.new.terms.items in
    let old = c.self.inside.combination in
    let begun : Begun = record { nodes = old.nodes; facts = old.facts } in
    let levels : c.keep.new.self.levels ≡ old.levels = c.keep.ensures.levels old.levels begun (c.assume_equal_in.ensures.levels ∙ c.in_ok-begin.ensures.levels) in
    subst (λ (v : Interned). map (λ (b : Begun). meant now b.facts) c.keep.new.self.levels ≡ v.levels) c.self.view_is
    (ap (map (λ (b : Begun). meant now b.facts)) levels ∙ levels_mean old.levels c.self.inside.counts.items ts (drop (length ts) now) now (goes_on ts now c.assume_equal_in.ensures.kept) c.self.invariant.levels)
