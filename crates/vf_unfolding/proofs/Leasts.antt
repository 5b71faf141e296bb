-- Least depths, unfolding by unfolding.
use Rattle.std.proofs.Common.{◌≡◌, ◌≤◌, ◌<◌, ◌+◌, ℕ, min, Bool, true, false, cond, List, [], ◌∷◌, length, drop, get_or, refl, sym, ap, ◌∙◌, arith}
use Rattle.std.proofs.lemmas.Bool.{false≢true}
use Rattle.std.proofs.lemmas.List.{at_drop_more}
use Rattle.vf_closure.specs.Terms.{Term, IsWithin}
use Rattle.vf_question.specs.declared.unfolding.Unfolding.{Unfolding}
use Rattle.vf_question.specs.Numbered.{with_term}
use Rattle.vf_question.specs.Unfolded.{is_in, least_depth}
use Rattle.vf_question.proofs.Settled.{in_body_within, within_in_body}

-- a depth that is not deeper than an unfolding's stays
pub deeper_stays : (b : Bool) (d l : ℕ) → l ≤ d → l ≡ cond b (min (d + 1) l) l
deeper_stays true d l h = omega arith
deeper_stays false d l h = refl

within_case : (b : Bool) (d l : ℕ) → b ≡ true → d < l → d + 1 ≡ cond b (min (d + 1) l) l
within_case true d l e h = omega arith
within_case false d l e h = absurd (false≢true e)

-- a term within a body is no deeper than one below
pub within_counts : (t b : Term) (d l : ℕ) → d < l → IsWithin t b → d + 1 ≡ cond (is_in t (with_term b [])) (min (d + 1) l) l
within_counts t b d l h w = within_case (is_in t (with_term b [])) d l (within_in_body t b w) h

other_case : (t b : Term) (x : Bool) (d l : ℕ) → is_in t (with_term b []) ≡ x → (IsWithin t b → ⊥) → l ≡ cond x (min (d + 1) l) l
other_case t b true d l e n = absurd (n (in_body_within t b e))
other_case t b false d l e n = refl

-- a body that has not the term within it does not count
pub others_stay : (t b : Term) (d l : ℕ) → (IsWithin t b → ⊥) → l ≡ cond (is_in t (with_term b [])) (min (d + 1) l) l
others_stay t b d l n = other_case t b (is_in t (with_term b [])) d l refl n

both_mins : (x : Bool) (d l n : ℕ) → min l (cond x (min d n) n) ≡ min (cond x (min d l) l) n
both_mins true d l n = omega arith
both_mins false d l n = refl

-- one unfolding after the other
pub least_step : (made : List Unfolding) (i : ℕ) (m : Unfolding) (t : Term) (l : ℕ) → i < length made → m ≡ get_or made i m
    → min l (least_depth (drop i made) t) ≡ min (cond (is_in t (with_term m.body [])) (min (m.depth + 1) l) l) (least_depth (drop (i + 1) made) t)
least_step made i m t l h e =
    ap (min l) (at_drop_more (λ ms. least_depth ms t) made i m h ∙ ap (λ (k : Unfolding). least_depth (k ∷ drop (i + 1) made) t) (sym e))
    ∙ both_mins (is_in t (with_term m.body [])) (m.depth + 1) l (least_depth (drop (i + 1) made) t)

-- no lesser depth than 5 or less
pub least_end : (l n : ℕ) → l ≤ 5 → min l 5 ≡ n → l ≡ n
least_end l n h e = omega (arith, e)

pub lesser_small : (b : Bool) (d l : ℕ) → l ≤ 5 → cond b (min d l) l ≤ 5
lesser_small true d l h = omega arith
lesser_small false d l h = h

least_bounded : (x : Bool) (d n : ℕ) → n ≤ 5 → cond x (min d n) n ≤ 5
least_bounded true d n h = omega arith
least_bounded false d n h = h

-- no least depth is above 5
pub least_small : (made : List Unfolding) (t : Term) → least_depth made t ≤ 5
least_small [] t = omega arith
least_small (m ∷ ms) t = least_bounded (is_in t (with_term m.body [])) (m.depth + 1) (least_depth ms t) (least_small ms t)
