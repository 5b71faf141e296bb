use Rattle.std.proofs.Common.{refl, arith}
use Rattle.vf_combination.proofs.Levels.{path_begin}
use Rattle.vf_combination.proofs.combination.Combination.begin.Goals as goal

pub invariant_of-self-2 : goal.invariant_of-self-2
invariant_of-self-2 c = rw c.in_ok-push.ensures.items
    (path_begin c.self.inside.classes c.self.inside.bounds c.self.inside.clashed c.self.inside.facts.items c.self.inside.levels.items _ c.self.invariant
    c.steps.ensures.terms c.steps.ensures.merged c.steps-2.ensures.points c.steps-2.ensures.edges c.steps.ensures.steps c.steps-2.ensures.steps (omega (arith, c.size.ensures)) (omega (arith, c.len.ensures, c.self.inside.facts.ok.0)) refl)
