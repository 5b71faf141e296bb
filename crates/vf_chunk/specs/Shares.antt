-- Shares: a fraction times the fractions that terms stand for.
use Rattle.std.specs.Prelude.{Bool, false, cond, drop, ◌&&◌, List, [], ◌∷◌, Option, Some, None}
use Rattle.std.specs.Ordering.{is_eq}
use Rattle.vf_model.specs.Values.{Dyadic}
use Rattle.vf_meaning.specs.Fractions.{whole, is_at_most}
use Rattle.vf_closure.specs.Terms.{Term}
use Rattle.vf_normal.specs.Order.{compare, compare_rows}
use Rattle.vf_formula.specs.Rows.{row}
use Rattle.vf_fractions.specs.Kept.{has_form}
use Rattle.vf_fractions.specs.Arithmetic.{quotient}
use Rattle.vf_chunk.specs.declared.share.Share.{Share}
use Rattle.vf_chunk.specs.declared.share.Ratio.{Ratio}
use Rattle.vf_chunk.specs.declared.share.Ratio.TheVariants as ratios

-- all of a thing
abbrev pub whole_share : Share
whole_share = record { coefficient = whole; factors = [] }

-- a share with another fraction
abbrev pub with_coefficient : Share → Dyadic → Share
with_coefficient s x = record { coefficient = x; factors = s.factors }

-- whether two shares are of one product of terms
abbrev pub are_of_one_product : Share → Share → Bool
are_of_one_product a b = is_eq (compare_rows (row a.factors) (row b.factors))

-- whether one share can be taken out of another: both are of one product, and its fraction is not greater
abbrev pub can_be_taken : Share → Share → Bool
can_be_taken wanted share = are_of_one_product wanted share && is_at_most wanted.coefficient share.coefficient

-- whether a share is all of another
abbrev pub is_all_of : Share → Share → Bool
is_all_of wanted share = are_of_one_product wanted share && is_at_most share.coefficient wanted.coefficient

-- a term in front of others, if there are others
abbrev pub in_front : Term → Option (List Term) → Option (List Term)
in_front t None = None
in_front t (Some ts) = Some (t ∷ ts)

-- whether a term is the first of some
abbrev pub is_first_of : Term → List Term → Bool
is_first_of t [] = false
is_first_of t (u ∷ us) = is_eq (compare u t)

-- the factors that are left when others are divided out, both in their order; none where one of these is not there
abbrev pub divided_out : List Term → List Term → Option (List Term)
divided_out [] [] = Some []
divided_out [] (t ∷ ts) = None
divided_out (u ∷ us) ts = cond (is_first_of u ts) (divided_out us (drop 1 ts)) (in_front u (divided_out us ts))

-- a fraction and factors as a share, if both are there
abbrev pub share_of : Option Dyadic → Option (List Term) → Option Share
share_of (Some x) (Some ts) = Some (record { coefficient = x; factors = ts })
share_of _ _ = None

-- one share over another: its factors without the other's, and the quotient of the fractions; none where a factor is not there or the quotient is no dyadic fraction
abbrev pub over : Share → Share → Option Share
over share scale = share_of (quotient share.coefficient scale.coefficient) (divided_out share.factors scale.factors)

-- what one share over another is, told apart: a share whose fraction has a form, one whose fraction has none, or no share
abbrev pub ratio_of : Option Share → Ratio
ratio_of (Some s) = cond (has_form s.coefficient) (ratios.Share s) ratios.NoForm
ratio_of None = ratios.NoShare
