-- The terms that are numbered, as they grow.
use Rattle.std.proofs.Common.{◌≡◌, ◌<◌, ◌⊎◌, inl, inr, ℕ, zero, suc, Bool, true, false, cond, List, [], ◌∷◌, ◌++◌, length, map, get_or, nat_lt, refl, sym, ap, ◌∙◌, subst, arith, append-nil, append_assoc, ap₂}
use Rattle.std.specs.Prelude.{pos, All}
use Rattle.std.proofs.lemmas.List.{get_or_append_left, length-append}
use Rattle.vf_closure.specs.Terms.{Head, Term, Terms, term, no_terms, and_term, number, IsAt, here, further_on, IsWithin, itself, below}
use Rattle.vf_refute.specs.declared.steps.Fact.TheVariants as facts_
use Rattle.vf_closure.specs.Literals.{Literal, Equal, NotEqual, AtMost, Difference, NotDifference, False, compares}
use Rattle.vf_question.specs.Numbered.{place, with_one, with_term, with_row, all_terms}
use Rattle.vf_question.specs.Tabled.{tabled_fact}
use Rattle.vf_question.specs.Questions.{at}
use Rattle.vf_question.specs.Plain.{IsPlain, ArePlain, IsPlainLiteral}
use Rattle.vf_question.proofs.Has.{Has, contains_has, has_contains, has_at, term_keeps, term_has, term_only}
use Rattle.vf_question.proofs.Asked.{within_through, term_arises, has_part}
use Rattle.vf_question.proofs.Plainness.{arising_plain}
use Rattle.vf_interning.specs.Interned.{AreClosed}
use Rattle.vf_interning.proofs.Stable.{place_stays}

-- a list goes on
pub record GoesOnTo (ts now : List Term) : Type 0 where
  pub more : List Term
  pub is : now ≡ ts ++ more

pub on_through : (ts us vs : List Term) → GoesOnTo ts us → GoesOnTo us vs → GoesOnTo ts vs
on_through ts us vs h k = record { more = h.more ++ k.more; is = k.is ∙ ap (λ ws. ws ++ k.more) h.is ∙ append_assoc ts h.more k.more }

on_by : (b : Bool) (t : Term) (ts : List Term) → GoesOnTo ts (cond b ts (ts ++ t ∷ []))
on_by true t ts = record { more = []; is = sym (append-nil ts) }
on_by false t ts = record { more = t ∷ []; is = refl }

-- with a term a list goes on
mutual
  pub term_on : (t : Term) (ts : List Term) → GoesOnTo ts (with_term t ts)
  term_on (term h ps) ts = on_through ts (with_row ps ts) (with_one (term h ps) (with_row ps ts)) (row_on ps ts) (on_by (nat_lt (place (term h ps) (with_row ps ts)) (length (with_row ps ts))) (term h ps) (with_row ps ts))

  row_on : (ps : Terms) (ts : List Term) → GoesOnTo ts (with_row ps ts)
  row_on no_terms ts = record { more = []; is = sym (append-nil ts) }
  row_on (and_term p ps) ts = on_through ts (with_term p ts) (with_row ps (with_term p ts)) (term_on p ts) (row_on ps (with_term p ts))

-- what is there stays in its place
pub at_stays : (ts us : List Term) (x : ℕ) → x < length ts → at (ts ++ us) x ≡ at ts x
at_stays ts us x l = get_or_append_left ts us (number (pos 0)) x l

pub still_within : (ts us : List Term) (x : ℕ) → x < length ts → x < length (ts ++ us)
still_within ts us x l = omega (arith, length-append ts us)

-- ---- facts
fact_stays : (ts us : List Term) (l : Literal) → ((t : Term) → Has (compares l) t → Has ts t) → tabled_fact (ts ++ us) l ≡ tabled_fact ts l
fact_stays ts us (Equal a b) h = ap₂ facts_.Equal (place_stays a ts us (h a (inl refl))) (place_stays b ts us (h b (inr (inl refl))))
fact_stays ts us (NotEqual a b) h = ap₂ facts_.NotEqual (place_stays a ts us (h a (inl refl))) (place_stays b ts us (h b (inr (inl refl))))
fact_stays ts us (AtMost p n c) h = ap₂ (λ x y. facts_.AtMost x y c) (place_stays p ts us (h p (inl refl))) (place_stays n ts us (h n (inr (inl refl))))
fact_stays ts us (Difference p n c) h = ap₂ (λ x y. facts_.Difference x y c) (place_stays p ts us (h p (inl refl))) (place_stays n ts us (h n (inr (inl refl))))
fact_stays ts us (NotDifference p n c) h = ap₂ (λ x y. facts_.NotDifference x y c) (place_stays p ts us (h p (inl refl))) (place_stays n ts us (h n (inr (inl refl))))
fact_stays ts us False h = refl

pub facts_stay : (ts us : List Term) (ls : List Literal) → ((l : Literal) (t : Term) → Has ls l → Has (compares l) t → Has ts t) → map (tabled_fact (ts ++ us)) ls ≡ map (tabled_fact ts) ls
facts_stay ts us [] h = refl
facts_stay ts us (l ∷ ls) h = ap₂ (λ k ks. k ∷ ks) (fact_stays ts us l (λ t c. h l t (inl refl) c)) (facts_stay ts us ls (λ k t c d. h k t (inr c) d))

-- ---- terms with their parts
closed_by : (b : Term) (ts : List Term) → AreClosed ts → (h : Head) (ps : Terms) (p : Term) (i : ℕ) → IsAt p i ps → Has ts (term h ps) ⊎ IsWithin (term h ps) b → Has (with_term b ts) p
closed_by b ts c h ps p i a (inl k) = term_keeps b ts p (contains_has ts p (c h ps p i (has_contains ts (term h ps) k) a))
closed_by b ts c h ps p i a (inr w) = term_has b ts p (within_through (below a itself) w)

pub closed_with : (b : Term) (ts : List Term) → AreClosed ts → AreClosed (with_term b ts)
closed_with b ts c h ps p i k a = has_contains (with_term b ts) p (closed_by b ts c h ps p i a (term_only b ts (term h ps) (contains_has (with_term b ts) (term h ps) k)))

pub closed_begun : (ls : List Literal) → AreClosed (all_terms ls)
closed_begun ls h ps p i k a = has_contains (all_terms ls) p (has_part ls h ps p i (contains_has (all_terms ls) (term h ps) k) a)

-- ---- plain terms
plain_part : (p : Term) (i : ℕ) (ps : Terms) → IsAt p i ps → ArePlain ps → IsPlain p
plain_part p i no_terms a h = elim a [ ]
plain_part p zero (and_term q qs) here h = h.0
plain_part p (suc i) (and_term q qs) (further_on a) h = plain_part p i qs a h.1

plain_within : (u t : Term) → IsWithin u t → IsPlain t → IsPlain u
plain_within u t itself h = h
plain_within u (term h ps) (below {u = p} {i = i} a w) k = plain_within u p w (plain_part p i ps a k.1)

-- each term of a list is plain
abbrev pub HasPlain : List Term → Type 0
HasPlain ts = (t : Term) → Has ts t → IsPlain t

plain_by : (b : Term) (ts : List Term) (t : Term) → HasPlain ts → IsPlain b → Has ts t ⊎ IsWithin t b → IsPlain t
plain_by b ts t h p (inl k) = h t k
plain_by b ts t h p (inr w) = plain_within t b w p

pub plain_with : (b : Term) (ts : List Term) → HasPlain ts → IsPlain b → HasPlain (with_term b ts)
plain_with b ts h p t k = plain_by b ts t h p (term_only b ts t k)

pub plain_begun : (ls : List Literal) → All IsPlainLiteral ls → HasPlain (all_terms ls)
plain_begun ls p t k = arising_plain ls zero t p (term_arises ls t k)

pub all_plain : (ts : List Term) → HasPlain ts → All IsPlain ts
all_plain ts h i d l = h (get_or ts i d) (has_at d ts i l)

pub each_plain : (ts : List Term) → All IsPlain ts → HasPlain ts
each_plain ts h t k = let c = has_contains ts t k in subst IsPlain c.2 (h c.0 t c.1)

-- the terms of plain literals are plain
pub all_plain_begun : (ls : List Literal) (ts : List Term) → ts ≡ all_terms ls → All IsPlainLiteral ls → All IsPlain ts
all_plain_begun ls ts e p = subst (All IsPlain) (sym e) (all_plain (all_terms ls) (plain_begun ls p))
