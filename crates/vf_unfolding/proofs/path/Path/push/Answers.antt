use Rattle.std.proofs.Common.{rules, ◌≡◌, ◌++◌, ◌∷◌, [], length, sym, ◌∙◌, subst}
use Rattle.vf_unfolding.specs.declared.mark.Mark.{Mark}
use Rattle.vf_unfolding.specs.Rounds.{AreInTurn}
use Rattle.vf_unfolding.specs.Walked.{Walked, kept}
use Rattle.vf_unfolding.proofs.Levels.{kept_goes_on, mark_is, path_push, push_means}
use Rattle.vf_unfolding.proofs.path.Path.push.Goals as goal

pub add-requires-clause-turn : goal.add-requires-clause-turn
add-requires-clause-turn g c = subst (λ (w : Walked). AreInTurn (g.U.Unfolder.unfoldings c.args.unfolder.now) w.now.facts w.now.made) (sym c.self.view_is) c.requires.turn

pub invariant_of-self-in-Ok : goal.invariant_of-self-in-Ok
invariant_of-self-in-Ok g c =
    let i = c.self.inside in
    let n = c.add.new in
    let m : Mark = record { facts = c.len.result; made = c.len-2.result; asked = c.len-3.result } in
    let facts : c.len.result ≡ length i.facts.items = search rules in
    let made : c.len-2.result ≡ length i.made.items = search rules in
    let asked : c.len-3.result ≡ length i.asked.items = search rules in
    let goes = kept_goes_on i.facts.items n.facts.items i.made.items n.made.items i.asked.items n.asked.items c.add.ensures.facts c.add.ensures.made c.add.ensures.asked in
    let levels : n.interning.levels ≡ i.interning.levels ++ i.interning.literals ∷ [] = c.add.ensures.levels ∙ c.in_ok-begin.ensures.levels in
    let pushed : c.push_reserved.new.self.items ≡ i.marks.items ++ m ∷ [] = search rules in
    path_push i.interning n.interning (kept i.facts.items i.made.items i.asked.items) (kept n.facts.items n.made.items n.asked.items) i.marks.items c.push_reserved.new.self.items m c.self.invariant goes levels pushed
    (mark_is i.facts.items i.made.items i.asked.items m facts made asked) c.in-Ok.ensures.kept

pub returns-in-Ok-clause-levels : goal.returns-in-Ok-clause-levels
returns-in-Ok-clause-levels g c =
    let i = c.self.inside in
    let n = c.add.new in
    let m : Mark = record { facts = c.len.result; made = c.len-2.result; asked = c.len-3.result } in
    let facts : c.len.result ≡ length i.facts.items = search rules in
    let made : c.len-2.result ≡ length i.made.items = search rules in
    let asked : c.len-3.result ≡ length i.asked.items = search rules in
    let goes = kept_goes_on i.facts.items n.facts.items i.made.items n.made.items i.asked.items n.asked.items c.add.ensures.facts c.add.ensures.made c.add.ensures.asked in
    let levels : n.interning.levels ≡ i.interning.levels ++ i.interning.literals ∷ [] = c.add.ensures.levels ∙ c.in_ok-begin.ensures.levels in
    let pushed : c.push_reserved.new.self.items ≡ i.marks.items ++ m ∷ [] = search rules in
    push_means i.interning n.interning (kept i.facts.items i.made.items i.asked.items) (kept n.facts.items n.made.items n.asked.items) i.marks.items c.push_reserved.new.self.items m c.self.invariant goes levels pushed
    (mark_is i.facts.items i.made.items i.asked.items m facts made asked) c.args.self.now c.self.view_is
