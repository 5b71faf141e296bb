-- Which normal forms are given: those whose products of fractions are kept and whose numbers are small.
use Rattle.std.specs.Prelude.{ℤ, pos, neg_ℤ, ◌^◌, Bool, true, false, ◌&&◌, nat_lt, int_le, cond, Option, Some, None}
use Rattle.vf_model.specs.Values.{Dyadic}
use Rattle.vf_meaning.specs.Fractions.{product, numerator, exponent}
use Rattle.vf_closure.specs.Terms.{Head, Number, Share, Term, Terms, term, no_terms, and_term}
use Rattle.vf_normal.specs.Normal.{product_with, normal, all_normal}

-- whether a fraction is above 0, with a numerator less than 2^63 and the exponent of its denominator less than 61
abbrev pub is_share : Dyadic → Bool
is_share d = nat_lt 0 (numerator d) && nat_lt (numerator d) (2 ^ 63) && nat_lt (exponent d) 61

-- whether the product of a fraction and a term is kept: of a share its fraction counts
abbrev pub keeps_times : Dyadic → Term → Bool
keeps_times x (term (Share y) ts) = is_share (product x y)
keeps_times x t = true

-- whether each product of a fraction and terms in a row is kept, from the last to the first
abbrev pub keeps_products : Dyadic → Terms → Bool
keeps_products x no_terms = true
keeps_products x (and_term t ts) = keeps_products x ts && keeps_times (product_with x ts).coefficient t

-- whether the products of a head over parts in normal form are kept
abbrev pub keeps_over : Head → Terms → Bool
keeps_over (Share x) ts = keeps_products x ts
keeps_over h ts = true

-- whether the products that the normal form of a term takes are all kept
abbrev mutual
  pub keeps_fractions : Term → Bool
  keeps_fractions (term h ts) = all_keep_fractions ts && keeps_over h (all_normal ts)

  -- the same of terms in a row
  pub all_keep_fractions : Terms → Bool
  all_keep_fractions no_terms = true
  all_keep_fractions (and_term t ts) = keeps_fractions t && all_keep_fractions ts

-- whether there are no terms in a row
abbrev pub has_no_terms : Terms → Bool
has_no_terms no_terms = true
has_no_terms (and_term t ts) = false

-- whether a number is within 2^100
abbrev pub is_within : ℤ → Bool
is_within z = int_le (neg_ℤ (pos (2 ^ 100))) z && int_le z (pos (2 ^ 100))

-- whether a number over parts has none and is within 2^100
abbrev pub is_plain_over : Head → Terms → Bool
is_plain_over (Number z) ts = has_no_terms ts && is_within z
is_plain_over h ts = true

-- whether each number that stands in a term has no parts and is within 2^100
abbrev mutual
  pub is_plain : Term → Bool
  is_plain (term h ts) = is_plain_over h ts && are_plain ts

  -- the same of terms in a row
  pub are_plain : Terms → Bool
  are_plain no_terms = true
  are_plain (and_term t ts) = is_plain t && are_plain ts

-- the normal form of a term, where the products that it takes are kept and its numbers are small
abbrev pub kept_form : Term → Option Term
kept_form t = cond (keeps_fractions t && is_plain (normal t)) (Some (normal t)) None
