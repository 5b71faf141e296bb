use Rattle.std.proofs.Common.{rules, ◌≡◌, ◌++◌, ◌∷◌, [], ℕ, sym, ap, ◌∙◌, subst}
use Rattle.std.specs.Prelude.{Contains}
use Rattle.vf_question.specs.Numbered.{place, all_terms}
use Rattle.vf_unfolding.proofs.Marks.{was_marked, is_marked}
use Rattle.vf_unfolding.proofs.marking.mark_one.Goals as goal

pub returns-then-is_among-clause-terms : goal.returns-then-is_among-clause-terms
returns-then-is_among-clause-terms c =
    let ts = all_terms c.args.interning.now.literals in
    let e : c.place-number.result ≡ place c.args.term.now ts = c.place-number.ensures ∙ ap (place c.args.term.now) c.terms.ensures.terms in
    let h : Contains c.args.asked.now.items c.place-number.result = search rules in
    was_marked c.args.interning.now.literals c.args.asked.now.items c.args.term.now c.requires.there c.requires.within (subst (Contains c.args.asked.now.items) e h)

pub returns-clause-terms : goal.returns-clause-terms
returns-clause-terms c =
    let ts = all_terms c.args.interning.now.literals in
    let e : c.place-number.result ≡ place c.args.term.now ts = c.place-number.ensures ∙ ap (place c.args.term.now) c.terms.ensures.terms in
    let n : Contains c.args.asked.now.items c.place-number.result → ⊥ = search rules in
    let p : c.push.new.self.items ≡ c.args.asked.now.items ++ c.place-number.result ∷ [] = search rules in
    is_marked c.args.interning.now.literals c.args.asked.now.items c.args.term.now c.requires.there c.requires.within (λ h. n (subst (Contains c.args.asked.now.items) (sym e) h)) c.push.new.self.items (p ∙ ap (λ (k : ℕ). c.args.asked.now.items ++ k ∷ []) e)
