-- The terms of more literals go on from those of fewer.
use Rattle.std.proofs.Common.{◌≡◌, List, [], ◌∷◌, ◌++◌, map, refl, sym, ap, ◌∙◌, subst, append-nil, append_assoc}
use Rattle.std.specs.Prelude.{pos}
use Rattle.vf_closure.specs.Terms.{Term, number}
use Rattle.vf_closure.specs.Literals.{Literal, compares}
use Rattle.vf_question.specs.Numbered.{with_term, with_all, with_literals, all_terms}
use Rattle.vf_question.specs.Tabled.{tabled_fact}
use Rattle.vf_question.specs.Unfolded.{equations}
use Rattle.vf_question.specs.declared.unfolding.Unfolding.{Unfolding}
use Rattle.vf_interning.proofs.Meaning.{there}
use Rattle.vf_unfolding.specs.Rounds.{zero_is_zero}
use Rattle.vf_recheck.proofs.Growing.{GoesOnTo, term_on, facts_stay}
use Rattle.vf_recheck.specs.Refutations.{facts_over}
use Rattle.vf_reasons.specs.Drafts.{with_equations}

pub on_through : (ts us vs : List Term) → GoesOnTo ts us → GoesOnTo us vs → GoesOnTo ts vs
on_through ts us vs h k = record { more = h.more ++ k.more; is = k.is ∙ ap (λ (ws : List Term). ws ++ k.more) h.is ∙ append_assoc ts h.more k.more }

all_on : (us ts : List Term) → GoesOnTo ts (with_all us ts)
all_on [] ts = record { more = []; is = sym (append-nil ts) }
all_on (u ∷ us) ts = on_through ts (with_term u ts) (with_all us (with_term u ts)) (term_on u ts) (all_on us (with_term u ts))

literals_on : (ls : List Literal) (ts : List Term) → GoesOnTo ts (with_literals ls ts)
literals_on [] ts = record { more = []; is = sym (append-nil ts) }
literals_on (l ∷ ls) ts = on_through ts (with_all (compares l) ts) (with_literals ls (with_all (compares l) ts)) (all_on (compares l) ts) (literals_on ls (with_all (compares l) ts))

pub literals_after : (ls ms : List Literal) (ts : List Term) → with_literals (ls ++ ms) ts ≡ with_literals ms (with_literals ls ts)
literals_after [] ms ts = refl
literals_after (l ∷ ls) ms ts = literals_after ls ms (with_all (compares l) ts)

-- the terms of a question go on to those with what was unfolded
pub question_on : (ls : List Literal) (made : List Unfolding) → GoesOnTo (all_terms ls) (all_terms (with_equations ls made))
question_on ls made =
    let zero = number (pos 0) in
    let first = with_term zero (all_terms ls) in
    let e : with_literals (with_equations ls made) [] ≡ with_literals (equations made) first = literals_after ls (zero_is_zero ∷ equations made) [] in
    let behind = on_through (all_terms ls) first (with_literals (equations made) first) (term_on zero (all_terms ls)) (literals_on (equations made) first) in
    let all = on_through (all_terms ls) (with_literals (equations made) first) (with_term zero (with_literals (equations made) first)) behind (term_on zero (with_literals (equations made) first)) in
    subst (λ (vs : List Term). GoesOnTo (all_terms ls) (with_term zero vs)) (sym e) all

-- the facts of a question stay what they are
pub facts_told : (ls : List Literal) (made : List Unfolding) (ts : List Term) → ts ≡ all_terms (with_equations ls made) → map (tabled_fact ts) ls ≡ facts_over ls
facts_told ls made ts g =
    let on = question_on ls made in
    ap (λ (vs : List Term). map (tabled_fact vs) ls) (g ∙ on.is) ∙ facts_stay (all_terms ls) on.more ls (λ l t h c. there ls l t h c)
