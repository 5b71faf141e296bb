-- One share over another.
use Rattle.std.proofs.Common.{◌≡◌, refl, sym, ap, ◌∙◌, Bool, true, false, cond, List}
use Rattle.std.specs.Prelude.{Option, Some, None}
use Rattle.vf_model.specs.Values.{Dyadic}
use Rattle.vf_closure.specs.Terms.{Term}
use Rattle.vf_fractions.specs.Kept.{has_form}
use Rattle.vf_fractions.specs.Arithmetic.{quotient, told}
use Rattle.vf_fractions.specs.declared.dyadic.Quotient.TheVariants.{Fraction, NoForm, NotDyadic}
use Rattle.vf_chunk.specs.declared.share.Share.{Share}
use Rattle.vf_chunk.specs.declared.share.Ratio.TheVariants as ratios
use Rattle.vf_chunk.specs.Shares.{share_of, over, ratio_of, divided_out}

-- ---- a quotient that is told apart
module _ (ts : List Term) where
  of_fraction : (q : Option Dyadic) (x : Dyadic) → Fraction x ≡ told q → ratios.Share (record { coefficient = x; factors = ts }) ≡ ratio_of (share_of q (Some ts))
  of_fraction None x e = cc
  of_fraction (Some y) x e = by (has_form y) e
    where
      by : (b : Bool) → Fraction x ≡ cond b (Fraction y) NoForm → ratios.Share (record { coefficient = x; factors = ts }) ≡ cond b (ratios.Share (record { coefficient = y; factors = ts })) ratios.NoForm
      by true e = let is : x ≡ y = cc in ap (λ z. ratios.Share (record { coefficient = z; factors = ts })) is
      by false e = cc

  of_no_form : (q : Option Dyadic) → NoForm ≡ told q → ratios.NoForm ≡ ratio_of (share_of q (Some ts))
  of_no_form None e = cc
  of_no_form (Some y) e = by (has_form y) e
    where
      by : (b : Bool) → NoForm ≡ cond b (Fraction y) NoForm → ratios.NoForm ≡ cond b (ratios.Share (record { coefficient = y; factors = ts })) ratios.NoForm
      by true e = cc
      by false e = refl

  of_none : (q : Option Dyadic) → NotDyadic ≡ told q → ratios.NoShare ≡ ratio_of (share_of q (Some ts))
  of_none None e = refl
  of_none (Some y) e = by (has_form y) e
    where
      by : (b : Bool) → NotDyadic ≡ cond b (Fraction y) NoForm → ratios.NoShare ≡ cond b (ratios.Share (record { coefficient = y; factors = ts })) ratios.NoForm
      by true e = cc
      by false e = cc

apart : (q : Option Dyadic) → ratio_of (share_of q None) ≡ ratios.NoShare
apart (Some x) = refl
apart None = refl

-- ---- a share over another
module _ (share scale : Share) where
  abbrev fractions : Option Dyadic
  fractions = quotient share.coefficient scale.coefficient

  pub over_fraction : (ts : List Term) (x : Dyadic) → Some ts ≡ divided_out share.factors scale.factors → Fraction x ≡ told (quotient share.coefficient scale.coefficient) → ratios.Share (record { coefficient = x; factors = ts }) ≡ ratio_of (over share scale)
  over_fraction ts x e f = of_fraction ts fractions x f ∙ ap (λ o. ratio_of (share_of fractions o)) e

  pub over_no_form : (ts : List Term) → Some ts ≡ divided_out share.factors scale.factors → NoForm ≡ told (quotient share.coefficient scale.coefficient) → ratios.NoForm ≡ ratio_of (over share scale)
  over_no_form ts e f = of_no_form ts fractions f ∙ ap (λ o. ratio_of (share_of fractions o)) e

  pub over_none : (ts : List Term) → Some ts ≡ divided_out share.factors scale.factors → NotDyadic ≡ told (quotient share.coefficient scale.coefficient) → ratios.NoShare ≡ ratio_of (over share scale)
  over_none ts e f = of_none ts fractions f ∙ ap (λ o. ratio_of (share_of fractions o)) e

  pub over_apart : None ≡ divided_out share.factors scale.factors → ratios.NoShare ≡ ratio_of (over share scale)
  over_apart e = sym (apart fractions) ∙ ap (λ o. ratio_of (share_of fractions o)) e

pub ruleset ratios_told = (over_fraction, over_no_form, over_none, over_apart)
