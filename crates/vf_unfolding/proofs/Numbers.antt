-- Numbers of terms, and the depths that they tell.
use Rattle.std.proofs.Common.{◌≡◌, ◌<◌, ◌+◌, ◌⊎◌, inl, inr, ℕ, suc, Bool, true, false, cond, List, [], ◌∷◌, ◌++◌, length, map, refl, sym, ap, ◌∙◌, subst, arith, below_more}
use Rattle.std.proofs.Math.ListN.{get_or-append}
use Rattle.std.proofs.Math.Seq.{get_or-append_seam}
use Rattle.std.specs.Prelude.{pos, All, Contains, slice_index}
use Rattle.std.proofs.lemmas.Bool.{false≢true}
use Rattle.vf_closure.specs.Terms.{Head, Term, Terms, term, number, IsAt, here, further_on, IsWithin, itself, below}
use Rattle.vf_closure.specs.Literals.{Literal}
use Rattle.vf_question.specs.declared.unfolding.Unfolding.{Unfolding}
use Rattle.vf_question.specs.Numbered.{place, terms_of, all_terms}
use Rattle.vf_question.specs.Questions.{at}
use Rattle.vf_question.specs.Unfolded.{is_in, least_depth, depth_of}
use Rattle.vf_question.proofs.Has.{Has, AreOnce, contains_has, has_contains, place_at, term_keeps, term_has, term_only}
use Rattle.vf_question.proofs.Asked.{terms_once}
use Rattle.vf_question.proofs.Settled.{in_has, has_in}
use Rattle.vf_unfolding.specs.Searched.{IsDepth, AreDepths}
use Rattle.vf_unfolding.specs.Rounds.{AreNumbers}

-- a number and the term that has it
pub record IsNumbered (ts : List Term) (numbers : List ℕ) (t : Term) : Type 0 where
  pub by : ℕ
  pub stands : Has numbers by
  pub is : at ts by ≡ t

pub number_of : (ts : List Term) (numbers : List ℕ) (t : Term) → Has (map (at ts) numbers) t → IsNumbered ts numbers t
number_of ts [] t h = absurd h
number_of ts (n ∷ ns) t (inl e) = record { by = n; stands = inl refl; is = e }
number_of ts (n ∷ ns) t (inr h) = let r = number_of ts ns t h in record { by = r.by; stands = inr r.stands; is = r.is }

pub has_number : (ts : List Term) (numbers : List ℕ) (k : ℕ) → Has numbers k → Has (map (at ts) numbers) (at ts k)
has_number ts [] k h = absurd h
has_number ts (n ∷ ns) k (inl e) = inl (ap (at ts) e)
has_number ts (n ∷ ns) k (inr h) = inr (has_number ts ns k h)

all_have : (P : ℕ → Type 0) (ns : List ℕ) (k : ℕ) → All P ns → Has ns k → P k
all_have P [] k a h = absurd h
all_have P (n ∷ ns) k a (inl e) = subst P e (a 0 n (omega arith))
all_have P (n ∷ ns) k a (inr h) = all_have P ns k (λ i d l. a (suc i) d (omega arith)) h

-- the number of a term that stands once
pub its_number : (ts : List Term) (numbers : List ℕ) (i : ℕ) → AreOnce ts → All (λ k. k < length ts) numbers → i < length ts → Has (map (at ts) numbers) (at ts i) → Has numbers i
its_number ts numbers i once within l h =
    let r = number_of ts numbers (at ts i) h in
    let w : r.by < length ts = all_have (λ k. k < length ts) numbers r.by within r.stands in
    let p : place (at ts r.by) ts ≡ r.by = place_at (number (pos 0)) ts r.by once w in
    let q : place (at ts i) ts ≡ i = place_at (number (pos 0)) ts i once l in
    let e : r.by ≡ i = sym p ∙ ap (λ (t : Term). place t ts) r.is ∙ q in
    subst (Has numbers) e r.stands

no_part : (p : Term) (i : ℕ) (h : Head) (ps : Terms) → IsAt p i ps → term h ps ≡ number (pos 0) → ⊥
no_part p i h ps here e = cc
no_part p i h ps (further_on a) e = cc

only_itself : (t s : Term) → IsWithin t s → s ≡ number (pos 0) → t ≡ number (pos 0)
only_itself t s itself e = e
only_itself t s (below {u = p} {i} {h} {ts = ps} a w) e = absurd (no_part p i h ps a e)

module _ (ls facts : List Literal) (made : List Unfolding) (asked : List ℕ) (numbers : AreNumbers ls facts asked) where
  abbrev ts : List Term
  ts = all_terms ls

  in_question : (i : ℕ) → i < length ts → Has (all_terms facts) (at ts i) → (at ts i ≡ number (pos 0)) ⊎ Contains asked i
  in_question i l h = elim (term_only (number (pos 0)) (terms_of facts) (at ts i) h) [
    | inl k ↦ inr (has_contains asked i (its_number ts asked i (terms_once ls) numbers.within l (subst (λ (us : List Term). Has us (at ts i)) (sym numbers.terms) k)))
    | inr w ↦ inl (only_itself (at ts i) (number (pos 0)) w refl)
  ]

  asked_in : (i : ℕ) → Contains asked i → Has (all_terms facts) (at ts i)
  asked_in i c = term_keeps (number (pos 0)) (terms_of facts) (at ts i) (subst (λ (us : List Term). Has us (at ts i)) numbers.terms (has_number ts asked i (contains_has asked i c)))

  zero_in : (t : Term) → t ≡ number (pos 0) → Has (all_terms facts) t
  zero_in t e = subst (Has (all_terms facts)) (sym e) (term_has (number (pos 0)) (terms_of facts) (number (pos 0)) itself)

  depth_case : (b : Bool) (i d : ℕ) → is_in (at ts i) (all_terms facts) ≡ b → i < length ts → IsDepth asked made ts i d → d ≡ cond b 0 (least_depth made (at ts i))
  depth_case true i d e l h = elim (in_question i l (in_has (at ts i) (all_terms facts) e)) [ inl z ↦ h.zero z | inr c ↦ h.asked_for c ]
  depth_case false i d e l h = h.made_for (λ z. false≢true (sym e ∙ has_in (at ts i) (all_terms facts) (zero_in (at ts i) z))) (λ c. false≢true (sym e ∙ has_in (at ts i) (all_terms facts) (asked_in i c)))

  pub depth_is_of : (ns : List ℕ) → AreDepths asked made ts ns → (i : ℕ) → i < length ts → slice_index ns i ≡ depth_of facts made (at ts i)
  depth_is_of ns h i l = depth_case (is_in (at ts i) (all_terms facts)) i (slice_index ns i) refl l (h.each i l)

-- one depth more
pub depth_more : (asked : List ℕ) (made : List Unfolding) (ts : List Term) (xs now : List ℕ) (i x : ℕ) → now ≡ xs ++ x ∷ [] → length xs ≡ i → ((k : ℕ) → k < i → IsDepth asked made ts k (slice_index xs k)) → IsDepth asked made ts i x → (k : ℕ) → k < i + 1 → IsDepth asked made ts k (slice_index now k)
depth_more asked made ts xs now i x e l h d =
    below_more (λ k. IsDepth asked made ts k (slice_index now k)) i
    (λ k w. subst (IsDepth asked made ts k) (sym (ap (λ ys. slice_index ys k) e ∙ get_or-append xs (x ∷ []) 0 k (omega (arith, l, w)))) (h k w))
    (subst (IsDepth asked made ts i) (sym (ap (λ ys. slice_index ys i) e ∙ ap (slice_index (xs ++ x ∷ [])) (sym l) ∙ get_or-append_seam xs x [] 0)) d)
