use Rattle.std.proofs.Common.{rules, ◌≡◌, ◌++◌, ◌∷◌, [], take, ap, ◌∙◌}
use Rattle.vf_unfolding.specs.Walked.{Walked, kept}
use Rattle.vf_unfolding.proofs.Levels.{path_end, end_means, cut_is}
use Rattle.vf_unfolding.proofs.path.Path.pop.Goals as goal

pub invariant_of-self : goal.invariant_of-self
invariant_of-self c =
    let inside = c.self.inside in
    let popped : inside.marks.items ≡ c.pop.new.self.items ++ c.in-Some.mark ∷ [] = search rules in
    let facts : c.truncate.new.self.items ≡ take c.in-Some.mark.facts inside.facts.items = search rules in
    let made : c.truncate-in-Some.new.self.items ≡ take c.in-Some.mark.made inside.made.items = search rules in
    let asked : c.truncate-in-Some-2.new.self.items ≡ take c.in-Some.mark.asked inside.asked.items = search rules in
    path_end inside.interning c.end.new.self (kept inside.facts.items inside.made.items inside.asked.items) (kept c.truncate.new.self.items c.truncate-in-Some.new.self.items c.truncate-in-Some-2.new.self.items) inside.marks.items c.pop.new.self.items c.in-Some.mark c.self.invariant.levels popped
    (cut_is inside.facts.items c.truncate.new.self.items inside.made.items c.truncate-in-Some.new.self.items inside.asked.items c.truncate-in-Some-2.new.self.items c.in-Some.mark facts made asked) c.end.ensures

pub returns-in-Some : goal.returns-in-Some
returns-in-Some c = λ before level e.
    let inside = c.self.inside in
    let popped : inside.marks.items ≡ c.pop.new.self.items ++ c.in-Some.mark ∷ [] = search rules in
    let facts : c.truncate.new.self.items ≡ take c.in-Some.mark.facts inside.facts.items = search rules in
    let made : c.truncate-in-Some.new.self.items ≡ take c.in-Some.mark.made inside.made.items = search rules in
    let asked : c.truncate-in-Some-2.new.self.items ≡ take c.in-Some.mark.asked inside.asked.items = search rules in
    end_means inside.interning c.end.new.self (kept inside.facts.items inside.made.items inside.asked.items) (kept c.truncate.new.self.items c.truncate-in-Some.new.self.items c.truncate-in-Some-2.new.self.items) inside.marks.items c.pop.new.self.items c.in-Some.mark c.self.invariant.levels popped
    (cut_is inside.facts.items c.truncate.new.self.items inside.made.items c.truncate-in-Some.new.self.items inside.asked.items c.truncate-in-Some-2.new.self.items c.in-Some.mark facts made asked) c.end.ensures before level
    (ap (λ (w : Walked). w.levels) c.self.view_is ∙ e)
