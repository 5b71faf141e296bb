use Rattle.std.proofs.Common.{rules, ◌≡◌, ◌<◌, ◌++◌, ◌∷◌, [], length, map, take, sym, ap, ◌∙◌, subst, arith}
use Rattle.std.proofs.lemmas.List.{length-map}
use Rattle.vf_combination.specs.Combined.{Begun}
use Rattle.vf_interning.specs.Interned.{Interned, meant}
use Rattle.vf_interning.proofs.Levels.{as_many_levels, kept_end, end_means}
use Rattle.vf_interning.proofs.interning.Interning.end.Goals as goal

pub invariant_of-self : goal.invariant_of-self
invariant_of-self c =
    let ts = c.self.inside.terms.items in
    let popped : c.self.inside.counts.items ≡ c.pop.new.self.items ++ c.in-Some.count ∷ [] = search rules in
    let cut : c.truncate.new.self.items ≡ take c.in-Some.count ts = search rules in
    kept_end c.self.inside.combination c.end.new.self ts c.truncate.new.self.items c.self.inside.counts.items c.pop.new.self.items c.in-Some.count c.self.invariant.levels popped cut c.end.ensures

pub returns-in-Some : goal.returns-in-Some
returns-in-Some c = λ before level e.
    let ts = c.self.inside.terms.items in
    let popped : c.self.inside.counts.items ≡ c.pop.new.self.items ++ c.in-Some.count ∷ [] = search rules in
    let cut : c.truncate.new.self.items ≡ take c.in-Some.count ts = search rules in
    end_means c.self.inside.combination c.end.new.self ts c.truncate.new.self.items c.self.inside.counts.items c.pop.new.self.items c.in-Some.count c.self.invariant.levels popped cut c.end.ensures before level
    (ap (λ (v : Interned). v.levels) c.self.view_is ∙ e)

pub returns-in_default : goal.returns-in_default
returns-in_default c = λ before level e.
    let none : length c.self.inside.counts.items ≡ 0 = search rules in
    let many = as_many_levels c.self.inside.combination.levels c.self.inside.counts.items c.self.inside.terms.items c.self.invariant.levels in
    let l : 0 < length (map (λ (b : Begun). meant c.self.inside.terms.items b.facts) c.self.inside.combination.levels) = subst (λ (v : Interned). 0 < length v.levels) (sym c.self.view_is) c.requires in
    let m = length-map c.self.inside.combination.levels (λ (b : Begun). meant c.self.inside.terms.items b.facts) in
    absurd (omega arith)
