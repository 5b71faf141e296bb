use Rattle.std.proofs.Common.{◌++◌, ◌∷◌, [], length, refl, sym, ap, ◌∙◌}
use Rattle.vf_combination.specs.Combined.{Combined}
use Rattle.vf_combination.proofs.Onward.{onward_push}
use Rattle.vf_combination.proofs.Levels.{path_on, view_on}
use Rattle.vf_combination.proofs.combination.Combination.assume.Goals as goal

pub invariant_of-self-2 : goal.invariant_of-self-2
invariant_of-self-2 c = let h = c.in_ok-assume_settled.ensures in
    rw (c.push_reserved.ensures.items, c.in_ok-reserve.ensures.items)
    (path_on c.self.inside.classes c.self.inside.bounds c.self.inside.clashed c.self.inside.facts.items c.self.inside.levels.items c.assume_settled.new.classes c.assume_settled.new.bounds c.assume_settled.new.clashed (c.self.inside.facts.items ++ c.args.fact ∷ []) c.self.invariant h.onward (onward_push c.self.inside.facts.items (c.self.inside.facts.items ++ c.args.fact ∷ []) c.args.fact refl)
    (h.size ∙ c.self.invariant.size ∙ ap length (sym h.nodes)) (h.settled c.self.inside.facts.items c.self.invariant.settled))

pub returns-clause-levels : goal.returns-clause-levels
returns-clause-levels c = let h = c.in_ok-assume_settled.ensures in
    rw (c.push_reserved.ensures.items, c.in_ok-reserve.ensures.items)
    (view_on c.self.inside.classes c.self.inside.bounds c.self.inside.clashed c.self.inside.facts.items c.self.inside.levels.items c.assume_settled.new.classes c.assume_settled.new.bounds (c.self.inside.facts.items ++ c.args.fact ∷ []) c.self.invariant h.onward (onward_push c.self.inside.facts.items (c.self.inside.facts.items ++ c.args.fact ∷ []) c.args.fact refl) ∙ ap (λ (v : Combined). v.levels) c.self.view_is)
