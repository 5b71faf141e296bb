use Rattle.std.proofs.Common.{rules, ◌≡◌, ◌<◌, ◌-◌, length, take, ◌∙◌, ap, sym, subst, refl}
use Rattle.vf_combination.specs.Combined.{Combined}
use Rattle.vf_combination.proofs.Levels.{some_level, path_keep, view_keep}
use Rattle.vf_combination.proofs.combination.Combination.keep.Goals as goal

pub invariant_of-self : goal.invariant_of-self
invariant_of-self c =
    let all = c.self.inside.levels.items in
    let some : 0 < length all = some_level all c.self.inside.classes.nodes c.self.inside.facts.items (subst (λ (v : Combined). 0 < length v.levels) (sym c.self.view_is) c.requires) in
    let t : c.truncate.new.self.items ≡ take (length all - 1) all = search rules in
    path_keep c.self.inside.classes c.self.inside.bounds c.self.inside.facts.items c.self.inside.clashed all c.truncate.new.self.items (length all - 1) c.self.invariant some refl t

pub returns-clause-levels : goal.returns-clause-levels
returns-clause-levels c = λ before level h.
    let all = c.self.inside.levels.items in
    let some : 0 < length all = some_level all c.self.inside.classes.nodes c.self.inside.facts.items (subst (λ (v : Combined). 0 < length v.levels) (sym c.self.view_is) c.requires) in
    let t : c.truncate.new.self.items ≡ take (length all - 1) all = search rules in
    view_keep all c.truncate.new.self.items c.self.inside.classes.nodes c.self.inside.facts.items (length all - 1) some refl t before level (ap (λ (v : Combined). v.levels) c.self.view_is ∙ h)
