use Rattle.std.proofs.Common.{rules, ◌≡◌, ◌≤◌, ◌++◌, ◌∷◌, [], List, length, sym, ap, ◌∙◌, subst}
use Rattle.vf_definitions.specs.Unfolded.{unfoldings_of}
use Rattle.vf_unfolding.specs.Walked.{Walked}
use Rattle.vf_prover.specs.Along.{StandBy}
use Rattle.vf_prover.proofs.Stepping.{at_most_one}
use Rattle.vf_prover.proofs.deciding.explain_from.Goals as goal

pub returns-clause-standing : goal.returns-clause-standing
returns-clause-standing c =
    let u = unfoldings_of c.args.definitions.now in
    let few : length c.args.paths.now.items ≤ 1 = at_most_one u c.args.trail.now.facts c.args.paths.now.items c.args.nodes.now.items c.requires.standing in
    let kept : c.reserve.new.self.items ≡ c.args.paths.now.items = search rules in
    let none : c.take_path.new.paths.items ≡ [] = c.take_path.ensures.taken (subst (λ (ws : List Walked). length ws ≤ 1) (sym kept) few) in
    let now : c.push_reserved.new.self.items ≡ c.take_path.new.paths.items ++ c.explain_along-explained.new.path ∷ [] = search rules in
    subst (λ (ws : List Walked). StandBy u c.args.trail.now.facts ws c.explain_along-explained.new.nodes.items) (sym (now ∙ ap (λ (ws : List Walked). ws ++ c.explain_along-explained.new.path ∷ []) none)) c.explain_along-explained.ensures.along
