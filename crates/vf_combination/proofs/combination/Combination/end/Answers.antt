use Rattle.std.proofs.Common.{◌∙◌, ap}
use Rattle.vf_combination.specs.Combined.{Combined}
use Rattle.vf_combination.proofs.Levels.{raised_of, classes_reach, bounds_reach, path_end, view_end}
use Rattle.vf_combination.proofs.combination.Combination.end.Goals as goal

pub undo-requires : goal.undo-requires
undo-requires c = classes_reach c.pop.new.self.items c.in-Some.level c.self.inside.classes c.self.inside.bounds c.self.inside.facts.items (raised_of c.self.inside.classes c.self.inside.bounds c.self.inside.facts.items c.self.inside.clashed c.self.inside.levels.items c.pop.new.self.items c.in-Some.level c.self.invariant c.in-Some.ensures.items)

pub undo-requires-in-Some : goal.undo-requires-in-Some
undo-requires-in-Some c = bounds_reach c.pop.new.self.items c.in-Some.level c.self.inside.classes c.self.inside.bounds c.self.inside.facts.items (raised_of c.self.inside.classes c.self.inside.bounds c.self.inside.facts.items c.self.inside.clashed c.self.inside.levels.items c.pop.new.self.items c.in-Some.level c.self.invariant c.in-Some.ensures.items)

pub invariant_of-self : goal.invariant_of-self
invariant_of-self c =
    path_end c.pop.new.self.items c.in-Some.level c.self.inside.classes c.self.inside.bounds c.self.inside.facts.items c.undo.new.self c.undo-in-Some.new.self c.truncate.new.self.items
    (raised_of c.self.inside.classes c.self.inside.bounds c.self.inside.facts.items c.self.inside.clashed c.self.inside.levels.items c.pop.new.self.items c.in-Some.level c.self.invariant c.in-Some.ensures.items)
    (record {
      class_steps = c.undo.ensures.steps;
      nodes = c.undo.ensures.nodes;
      merged = c.undo.ensures.merged;
      bound_steps = c.undo-in-Some.ensures.steps;
      size = c.undo-in-Some.ensures.size;
      edges = c.undo-in-Some.ensures.edges;
      facts_are = c.truncate.ensures.items;
    })

pub returns-in-Some : goal.returns-in-Some
returns-in-Some c = λ before level h.
    view_end c.pop.new.self.items c.in-Some.level c.self.inside.classes c.self.inside.bounds c.self.inside.facts.items c.undo.new.self c.undo-in-Some.new.self c.truncate.new.self.items
    (raised_of c.self.inside.classes c.self.inside.bounds c.self.inside.facts.items c.self.inside.clashed c.self.inside.levels.items c.pop.new.self.items c.in-Some.level c.self.invariant c.in-Some.ensures.items)
    (record {
      class_steps = c.undo.ensures.steps;
      nodes = c.undo.ensures.nodes;
      merged = c.undo.ensures.merged;
      bound_steps = c.undo-in-Some.ensures.steps;
      size = c.undo-in-Some.ensures.size;
      edges = c.undo-in-Some.ensures.edges;
      facts_are = c.truncate.ensures.items;
    })
    c.self.inside.levels.items c.in-Some.ensures.items before level (ap (λ (v : Combined). v.levels) c.self.view_is ∙ h)
