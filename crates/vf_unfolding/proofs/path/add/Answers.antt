use Rattle.std.proofs.Common.{rules, ◌≡◌, ◌<◌, ◌++◌, ◌∷◌, [], ℕ, List, length, map, sym, ap, ◌∙◌, subst}
use Rattle.std.specs.Prelude.{All}
use Rattle.std.proofs.lemmas.List.{map_push}
use Rattle.vf_closure.specs.Literals.{compares}
use Rattle.vf_closure.specs.Literals as pure
use Rattle.vf_formula.specs.Literals.{shown_literal}
use Rattle.vf_formula.specs.declared.literal.Literal.{Literal}
use Rattle.vf_question.specs.Numbered.{with_all, all_terms}
use Rattle.vf_question.specs.Questions.{at}
use Rattle.vf_unfolding.specs.Rounds.{AreKeptFor, AreInTurn}
use Rattle.vf_unfolding.proofs.Looping.{within_after, kept_marked}
use Rattle.vf_unfolding.proofs.Turning.{turn_more}
use Rattle.vf_unfolding.proofs.path.add.Goals as goal

pub mark_literal-requires-clause-within : goal.mark_literal-requires-clause-within
mark_literal-requires-clause-within g c =
    within_after c.args.interning.now.literals c.assume.new.self.literals (map shown_literal c.args.facts.now.items) c.args.made.now.items c.args.asked.now.items (shown_literal c.args.fact.now) c.in_ok-assume.ensures.literals c.requires.kept

pub settle-requires-clause-kept : goal.settle-requires-clause-kept
settle-requires-clause-kept g c =
    let after = c.assume.new.self.literals in
    let l = shown_literal c.args.fact.now in
    let old = c.args.facts.now.items in
    let copied : c.in_ok-copy.field-0 ≡ c.args.fact.now = search rules in
    let pushed : c.push.new.self.items ≡ old ++ c.in_ok-copy.field-0 ∷ [] = search rules in
    let more : map shown_literal c.deref.result.now ≡ map shown_literal old ++ l ∷ [] = ap (map shown_literal) (c.deref.ensures.value ∙ pushed ∙ ap (λ (f : Literal). old ++ f ∷ []) copied) ∙ map_push shown_literal old c.args.fact.now in
    let marked : map (at (all_terms after)) c.mark_literal.new.asked.items ≡ with_all (compares l) (map (at (all_terms after)) c.args.asked.now.items) = search rules in
    let within : All (λ k. k < length (all_terms after)) c.mark_literal.new.asked.items = search rules in
    subst (λ (os : List ℕ). AreKeptFor after (map shown_literal c.deref.result.now) c.args.made.now.items os) (sym c.deref-2.ensures.value)
    (kept_marked c.args.interning.now.literals after (map shown_literal old) c.args.made.now.items c.args.asked.now.items l c.in_ok-assume.ensures.literals c.requires.kept (map shown_literal c.deref.result.now) c.mark_literal.new.asked.items more c.requires.plain marked within)

pub settle-requires-clause-turn : goal.settle-requires-clause-turn
settle-requires-clause-turn g c =
    let l = shown_literal c.args.fact.now in
    let old = c.args.facts.now.items in
    let copied : c.in_ok-copy.field-0 ≡ c.args.fact.now = search rules in
    let pushed : c.push.new.self.items ≡ old ++ c.in_ok-copy.field-0 ∷ [] = search rules in
    let more : map shown_literal c.deref.result.now ≡ map shown_literal old ++ l ∷ [] = ap (map shown_literal) (c.deref.ensures.value ∙ pushed ∙ ap (λ (f : Literal). old ++ f ∷ []) copied) ∙ map_push shown_literal old c.args.fact.now in
    subst (λ (ls : List pure.Literal). AreInTurn (g.U.Unfolder.unfoldings c.args.unfolder.now) ls c.args.made.now.items) (sym more) (turn_more (g.U.Unfolder.unfoldings c.args.unfolder.now) (map shown_literal old) (l ∷ []) c.args.made.now.items c.requires.turn)
