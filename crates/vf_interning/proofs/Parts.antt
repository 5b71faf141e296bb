-- The parts of a term, numbered one after the other.
use Rattle.std.proofs.Common.{◌≡◌, ◌≤◌, ◌<◌, ◌+◌, inl, inr, ℕ, zero, suc, List, [], ◌∷◌, ◌++◌, length, take, drop, get_or, refl, sym, ap, ap₂, ◌∙◌, subst, arith}
use Rattle.std.proofs.lemmas.List.{at_drop_more, take_more, take_all, take-append-drop, take-append-le, length-append}
use Rattle.vf_closure.specs.Terms.{Head, Term, term, IsAt, here, further_on, itself}
use Rattle.vf_formula.specs.Rows.{row}
use Rattle.vf_question.specs.Numbered.{place, with_term, with_row}
use Rattle.vf_question.specs.Tabled.{places}
use Rattle.vf_question.proofs.Has.{Has, has_contains, term_keeps, term_has}
use Rattle.vf_interning.specs.Interned.{HasParts}
use Rattle.vf_interning.proofs.Stable.{HasRow, place_stays, places_stay}
use Rattle.vf_interning.proofs.Adding.{split}

pub at_has : (ps : List Term) (p : Term) (i : ℕ) → IsAt p i (row ps) → Has ps p
at_has [] p i a = elim a [ ]
at_has (q ∷ qs) p zero here = inl refl
at_has (q ∷ qs) p (suc i) (further_on a) = inr (at_has qs p i a)

places_last : (ts ps : List Term) (p : Term) → places ts (row (ps ++ p ∷ [])) ≡ places ts (row ps) ++ place p ts ∷ []
places_last ts [] p = refl
places_last ts (q ∷ qs) p = ap (λ ns. place q ts ∷ ns) (places_last ts qs p)

-- a list goes on where its front stays
pub goes_on : (ts us : List Term) → take (length ts) us ≡ ts → us ≡ ts ++ drop (length ts) us
goes_on ts us k = sym (take-append-drop (length ts) us) ∙ ap (λ vs. vs ++ drop (length ts) us) k

module _ (items : List Term) (i : ℕ) (p : Term) (within : i < length items) (is : p ≡ get_or items i p) (ts now : List Term) (more : now ≡ with_term p ts) where
  pub rest_more : (whole : List Term) → with_row (row (drop i items)) ts ≡ whole → with_row (row (drop (i + 1) items)) now ≡ whole
  rest_more whole w =
      let a = at_drop_more (λ qs. with_row (row qs) ts) items i p within in
      ap (with_row (row (drop (i + 1) items))) (more ∙ ap (λ q. with_term q ts) is) ∙ sym a ∙ w

  pub there_more : ((q : Term) → Has (take i items) q → Has ts q) → (q : Term) → Has (take (i + 1) items) q → Has now q
  there_more h q k = subst (λ us. Has us q) (sym more) (elim (split (take i items) (get_or items i p) q (subst (λ us. Has us q) (take_more items i p within) k)) [
    | inl j ↦ term_keeps p ts q (h q j)
    | inr e ↦ subst (Has (with_term p ts)) (is ∙ e) (term_has p ts p itself)
  ])

  pub numbers_more : (parts : List ℕ) (n : ℕ) → parts ≡ places ts (row (take i items)) → ((q : Term) → Has (take i items) q → Has ts q) → take (length ts) now ≡ ts → n ≡ place p now → parts ++ n ∷ [] ≡ places now (row (take (i + 1) items))
  numbers_more parts n ep h kept en =
      let r : HasRow ts (row (take i items)) = λ q k a. h q (at_has (take i items) q k a) in
      let stay : places now (row (take i items)) ≡ places ts (row (take i items)) = ap (λ us. places us (row (take i items))) (goes_on ts now kept) ∙ places_stay ts (drop (length ts) now) (row (take i items)) r in
      ap₂ (λ ns k. ns ++ k ∷ []) (ep ∙ sym stay) (en ∙ ap (λ q. place q now) is) ∙ sym (places_last now (take i items) (get_or items i p)) ∙ ap (λ us. places now (row us)) (sym (take_more items i p within))

-- the front stays from step to step
pub kept_more : (first ts now : List Term) → take (length first) ts ≡ first → take (length ts) now ≡ ts → take (length first) now ≡ first
kept_more first ts now k l =
    let e = ap length (goes_on first ts k) in
    let n = length-append first (drop (length first) ts) in
    ap (take (length first)) (goes_on ts now l) ∙ take-append-le (length first) ts (drop (length ts) now) (omega arith) ∙ k

-- in the end each part is there
pub all_there : (items ts : List Term) (i : ℕ) (h : Head) (t : Term) → length items ≤ i → ((q : Term) → Has (take i items) q → Has ts q) → term h (row items) ≡ t → HasParts ts t
all_there items ts i h t l k e = subst (HasParts ts) e (λ p j a. has_contains ts p (k p (subst (λ us. Has us p) (sym (take_all i items l)) (at_has items p j a))))

-- the place of a term that was put there stays
pub place_kept : (t : Term) (ts first now : List Term) → first ≡ with_term t ts → take (length first) now ≡ first → place t now ≡ place t first
place_kept t ts first now m k = ap (place t) (goes_on first now k) ∙ place_stays t first (drop (length first) now) (subst (λ us. Has us t) (sym m) (term_has t ts t itself))
