-- The tests for which normal forms are given decide.
use Rattle.std.proofs.Common.{◌≡◌, ◌^◌, pos, Bool, true, false, cond, ◌&&◌, nat_lt, Some, None, refl, ap, subst, arith}
use Rattle.std.specs.Prelude.{ℤ, neg_ℤ, ◌≤ℤ◌, int_le}
use Rattle.std.specs.Bool.{Decides}
use Rattle.std.proofs.lemmas.Bool.Decides.{Decides-and, Decides-ltb, Decides-like}
use Rattle.std.proofs.lemmas.Int.{ints}
use Rattle.vf_model.specs.Values.{Dyadic}
use Rattle.vf_meaning.specs.Fractions.{product, numerator, exponent}
use Rattle.vf_closure.specs.Terms.{Head, Number, Share, Term, Terms, term, no_terms, and_term}
use Rattle.vf_normal.specs.Normal.{product_with, normal, all_normal}
use Rattle.vf_formula.specs.Fractions.{IsShare}
use Rattle.vf_formula.specs.Shares.{KeepsTimes, KeepsProducts, KeepsOver, KeepsFractions, AllKeepFractions}
use Rattle.vf_arith.specs.Paths.{IsSmall}
use Rattle.vf_question.specs.Plain.{IsPlainOver, IsPlain, ArePlain}
use Rattle.vf_definitions.specs.Kept.{has_no_terms, is_within, is_plain_over, is_plain, are_plain, is_share, keeps_times, keeps_products, keeps_over, keeps_fractions, all_keep_fractions, kept_form}

share_decides : (d : Dyadic) → Decides (is_share d) (IsShare d)
share_decides d = Decides-like (is_share d)
    (λ p. record { positive = p.0.0; numerator = p.0.1; exponent = let l = p.1 in omega (arith, l) })
    (λ s. ((s.positive, s.numerator), let l = s.exponent in omega (arith, l)))
    (Decides-and (nat_lt 0 (numerator d) && nat_lt (numerator d) (2 ^ 63)) (nat_lt (exponent d) 61)
    (Decides-and (nat_lt 0 (numerator d)) (nat_lt (numerator d) (2 ^ 63)) (Decides-ltb 0 (numerator d)) (Decides-ltb (numerator d) (2 ^ 63)))
    (Decides-ltb (exponent d) 61))

times_decides : (x : Dyadic) (t : Term) → Decides (keeps_times x t) (KeepsTimes x t)
times_decides x (term (Share y) ts) = share_decides (product x y)
times_decides x t = (λ e. tt, λ u. refl)

products_decide : (x : Dyadic) (ts : Terms) → Decides (keeps_products x ts) (KeepsProducts x ts)
products_decide x no_terms = (λ e. tt, λ u. refl)
products_decide x (and_term t ts) = Decides-and (keeps_products x ts) (keeps_times (product_with x ts).coefficient t) (products_decide x ts) (times_decides (product_with x ts).coefficient t)

over_decides : (h : Head) (ts : Terms) → Decides (keeps_over h ts) (KeepsOver h ts)
over_decides (Share x) ts = products_decide x ts
over_decides h ts = (λ e. tt, λ u. refl)

mutual
  fractions_decide : (t : Term) → Decides (keeps_fractions t) (KeepsFractions t)
  fractions_decide (term h ts) = Decides-and (all_keep_fractions ts) (keeps_over h (all_normal ts)) (all_decide ts) (over_decides h (all_normal ts))

  all_decide : (ts : Terms) → Decides (all_keep_fractions ts) (AllKeepFractions ts)
  all_decide no_terms = (λ e. tt, λ u. refl)
  all_decide (and_term t ts) = Decides-and (keeps_fractions t) (all_keep_fractions ts) (fractions_decide t) (all_decide ts)

none_decides : (ts : Terms) → Decides (has_no_terms ts) (ts ≡ no_terms)
none_decides no_terms = (λ e. refl, λ e. refl)
none_decides (and_term t ts) = (λ e. cc, λ e. cc)

at_most_decides : (a b : ℤ) → Decides (int_le a b) (a ≤ℤ b)
at_most_decides a b = (λ e. grind (arith, ints), λ h. grind (arith, ints))

-- the test whether a number is within 2^100 decides
pub within_decides : (z : ℤ) → Decides (is_within z) (IsSmall (2 ^ 100) z)
within_decides z = Decides-like (is_within z)
    (λ p. record { low = p.0; high = p.1 })
    (λ s. (s.low, s.high))
    (Decides-and (int_le (neg_ℤ (pos (2 ^ 100))) z) (int_le z (pos (2 ^ 100))) (at_most_decides (neg_ℤ (pos (2 ^ 100))) z) (at_most_decides z (pos (2 ^ 100))))

plain_over_decides : (h : Head) (ts : Terms) → Decides (is_plain_over h ts) (IsPlainOver h ts)
plain_over_decides (Number z) ts = Decides-and (has_no_terms ts) (is_within z) (none_decides ts) (within_decides z)
plain_over_decides h ts = (λ e. tt, λ u. refl)

mutual
  pub plain_decides : (t : Term) → Decides (is_plain t) (IsPlain t)
  plain_decides (term h ts) = Decides-and (is_plain_over h ts) (are_plain ts) (plain_over_decides h ts) (all_plain_decide ts)

  all_plain_decide : (ts : Terms) → Decides (are_plain ts) (ArePlain ts)
  all_plain_decide no_terms = (λ e. tt, λ u. refl)
  all_plain_decide (and_term t ts) = Decides-and (is_plain t) (are_plain ts) (plain_decides t) (all_plain_decide ts)

form_decides : (t : Term) → Decides (keeps_fractions t && is_plain (normal t)) (KeepsFractions t × IsPlain (normal t))
form_decides t = Decides-and (keeps_fractions t) (is_plain (normal t)) (fractions_decide t) (plain_decides (normal t))

none_by : (t : Term) (b : Bool) → keeps_fractions t && is_plain (normal t) ≡ b → (KeepsFractions t → IsPlain (normal t) → ⊥) → cond b (Some (normal t)) None ≡ None
none_by t true e n = let h = (form_decides t).0 e in absurd (n h.0 h.1)
none_by t false e n = refl

-- where products are kept and numbers small, the normal form is given
pub form_kept : (t : Term) → KeepsFractions t → IsPlain (normal t) → kept_form t ≡ Some (normal t)
form_kept t k p = ap (λ (b : Bool). cond b (Some (normal t)) None) ((form_decides t).1 (k, p))

-- where a product is not kept, nothing is
pub form_lost : (t : Term) → (KeepsFractions t → ⊥) → kept_form t ≡ None
form_lost t n = none_by t (keeps_fractions t && is_plain (normal t)) refl (λ k p. n k)

-- nor where a number is not small
pub form_large : (t : Term) → (IsPlain (normal t) → ⊥) → kept_form t ≡ None
form_large t n = none_by t (keeps_fractions t && is_plain (normal t)) refl (λ k p. n p)

-- a normal form that is given is plain
pub form_plain : (t b : Term) → kept_form t ≡ Some b → IsPlain b
form_plain t b e = by (keeps_fractions t && is_plain (normal t)) refl e
  where
    by : (c : Bool) → keeps_fractions t && is_plain (normal t) ≡ c → cond c (Some (normal t)) None ≡ Some b → IsPlain b
    by true d h = let s : normal t ≡ b = cc in subst IsPlain s ((form_decides t).0 d).1
    by false d h = absurd (cc)
