-- Terms within others, and terms of a list.
use Rattle.std.proofs.Common.{◌≡◌, ◌≤◌, ◌<◌, ℕ, zero, suc, max, Option, Some, None, List, [], ◌∷◌, length, get_or, refl, sym, ◌∙◌, subst, arith}
use Rattle.std.specs.Prelude.{pos, All, MatchOption, slice_index}
use Rattle.std.proofs.lemmas.List.{get_or_default}
use Rattle.vf_closure.specs.Terms.{Head, Term, term, number, IsAt, here, further_on, IsWithin, itself, below}
use Rattle.vf_closure.specs.Literals.{Literal}
use Rattle.vf_closure.specs.Closure.{Unfoldings, no_unfoldings, Same}
use Rattle.vf_formula.specs.Rows.{row}
use Rattle.vf_question.specs.declared.unfolding.Unfolding.{Unfolding}
use Rattle.vf_question.specs.Numbered.{all_terms}
use Rattle.vf_question.specs.Plain.{IsPlain, IsPlainLiteral}
use Rattle.vf_question.specs.Questions.{at}
use Rattle.vf_unfolding.specs.Searched.{IsOfConstructor, IsExhausted, IsNew, IsCaseExhausted, IsNewCase}
use Rattle.vf_question.proofs.Has.{has_at}
use Rattle.vf_question.proofs.Asked.{term_arises}
use Rattle.vf_question.proofs.Plainness.{arising_plain}

-- the parts of a term stand in its row
pub at_row : (ps : List Term) (i : ℕ) (p : Term) → i < length ps → p ≡ get_or ps i p → IsAt p i (row ps)
at_row [] i p l e = absurd (omega arith)
at_row (q ∷ qs) zero p l e = subst (λ (u : Term). IsAt u 0 (row (q ∷ qs))) (sym e) here
at_row (q ∷ qs) (suc i) p l e = further_on (at_row qs i p (omega arith) e)

at_listed : (ps : List Term) (i : ℕ) (p : Term) → IsAt p i (row ps) → (i < length ps) × (p ≡ get_or ps i p)
at_listed [] i p a = elim a [ ]
at_listed (q ∷ qs) zero p here = (omega arith, refl)
at_listed (q ∷ qs) (suc i) p (further_on a) = let r = at_listed qs i p a in (omega (arith, r.0), r.1)

not_in : (t : Term) (h : Head) (ps : List Term) (n : ℕ) → length ps ≤ n → (term h (row ps) ≡ t → ⊥) → ((k : ℕ) (d : Term) → k < n → IsWithin t (get_or ps k d) → ⊥) → IsWithin t (term h (row ps)) → ⊥
not_in t h ps n l s k itself = s refl
not_in t h ps n l s k (below {u = p} {i = i} a w) = let r = at_listed ps i p a in k i p (omega (arith, r.0)) (subst (IsWithin t) r.1 w)

-- what is neither a term nor within one of its parts is not within it
pub not_within : (t whole : Term) (h : Head) (ps : List Term) (n : ℕ) → whole ≡ term h (row ps) → length ps ≤ n → (whole ≡ t → ⊥) → ((k : ℕ) (d : Term) → k < n → IsWithin t (get_or ps k d) → ⊥) → IsWithin t whole → ⊥
not_within t whole h ps n e l s k w = not_in t h ps n l (λ f. s (e ∙ f)) k (subst (IsWithin t) e w)

-- the term at a place of a list
pub at_index : (ts : List Term) (i : ℕ) (t : Term) → i < length ts → t ≡ get_or ts i t → at ts i ≡ t
at_index ts i t l e = get_or_default ts i (number (pos 0)) t l ∙ sym e

-- the terms of plain literals are plain
pub terms_plain : (ls : List Literal) (ts : List Term) → ts ≡ all_terms ls → All IsPlainLiteral ls → All IsPlain ts
terms_plain ls ts e plain =
    let h : All IsPlain (all_terms ls) = λ k d l. arising_plain ls zero (get_or (all_terms ls) k d) plain (term_arises ls (get_or (all_terms ls) k d) (has_at d (all_terms ls) k l)) in
    subst (All IsPlain) (sym e) h

-- what is found with a term is found with its number
pub by_term : (u : Unfoldings) (made : List Unfolding) (ls : List Literal) (ts : List Term) (ds : List ℕ) (t : Term) (d s b : ℕ) (k : Term) (deep : ℕ) → at ts b ≡ k → deep ≡ max d (slice_index ds b) → IsOfConstructor k → Same no_unfoldings ls (at ts s) (at ts b)
    → (o : Option Unfolding) → MatchOption o (IsExhausted made t deep (u.case t k)) (IsNew made t deep (u.case t k)) → MatchOption o (IsCaseExhausted u made ls ts ds t d s b) (IsNewCase u made ls ts ds t d s b)
by_term u made ls ts ds t d s b k deep w e i q None h = λ j r. subst (λ (x : Term). IsExhausted made t (max d (slice_index ds b)) (u.case t x)) (sym w) (subst (λ (n : ℕ). IsExhausted made t n (u.case t k)) e h)
by_term u made ls ts ds t d s b k deep w e i q (Some m) h = record {
  constructor = subst IsOfConstructor (sym w) i;
  equal = q;
  is = subst (λ (x : Term). IsNew made t (max d (slice_index ds b)) (u.case t x) m) (sym w) (subst (λ (n : ℕ). IsNew made t n (u.case t k) m) e h);
}
