use Rattle.std.proofs.Common.{◌≡◌, ℕ, ◌++◌, ◌∷◌, [], length, refl, ap, ◌∙◌, subst}
use Rattle.vf_growing.specs.Steps.{IsTermOf}
use Rattle.vf_combination.specs.Combined.{Combined}
use Rattle.vf_combination.proofs.Onward.{onward_same}
use Rattle.vf_combination.proofs.Levels.{path_on, view_on}
use Rattle.vf_combination.proofs.combination.Combination.add.Goals as goal

pub invariant_of-self-2 : goal.invariant_of-self-2
invariant_of-self-2 c = path_on c.self.inside.classes c.self.inside.bounds c.self.inside.clashed c.self.inside.facts.items c.self.inside.levels.items c.add_settled.new.classes c.add_settled.new.bounds c.add_settled.new.clashed c.self.inside.facts.items c.self.invariant c.in_ok-term.ensures.onward (onward_same c.self.inside.facts.items c.self.inside.facts.items refl) c.in_ok-term.ensures.size
    (c.in_ok-term.ensures.settled c.self.inside.facts.items c.self.invariant.settled)

pub returns-clause-present : goal.returns-clause-present
returns-clause-present c = subst (λ (v : Combined). (term : ℕ) → IsTermOf v.nodes term c.args.node → c.add_settled.new.classes.nodes ≡ v.nodes) c.self.view_is c.in_ok-term.ensures.present

pub returns-clause-absent : goal.returns-clause-absent
returns-clause-absent c = subst (λ (v : Combined). ((k : ℕ) → IsTermOf v.nodes k c.args.node → ⊥) → (c.in_ok-term.term ≡ length v.nodes) × (c.add_settled.new.classes.nodes ≡ v.nodes ++ c.args.node ∷ [])) c.self.view_is c.in_ok-term.ensures.absent

pub returns-clause-levels : goal.returns-clause-levels
returns-clause-levels c = view_on c.self.inside.classes c.self.inside.bounds c.self.inside.clashed c.self.inside.facts.items c.self.inside.levels.items c.add_settled.new.classes c.add_settled.new.bounds c.self.inside.facts.items c.self.invariant c.in_ok-term.ensures.onward (onward_same c.self.inside.facts.items c.self.inside.facts.items refl) ∙ ap (λ (v : Combined). v.levels) c.self.view_is
