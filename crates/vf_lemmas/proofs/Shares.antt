-- A chunk that is set aside is the sum of two shares of it, and a share of it is opened by itself.
use Rattle.std.proofs.Common.{◌≡◌, ℕ, zero, suc, ◌+◌, ◌*◌, ◌<◌, List, [], ◌∷◌, map, slice_get, Option, Some, None, sym, ap, ap₂, subst, ◌∙◌, refl, inl, inr, arith}
use Rattle.vf_model.specs.Values.{Dyadic, Values}
use Rattle.vf_meaning.specs.Fractions.{whole, nought, exponent, sum, product, half, IsPositive, units}
use Rattle.vf_meaning.specs.Ghost.{Name, GhostExpression}
use Rattle.vf_meaning.specs.Valuations.{Valuation, fraction_in, listed}
use Rattle.vf_meaning.specs.GhostValues.{Interpretation, value_of}
use Rattle.vf_meaning.specs.Assertions.{ShareTree, Times, PatternTree, Is, Head, BlockOf, Named, Family, Applied, Chunk, BodyName, Plain, Environment}
use Rattle.vf_meaning.specs.Parts.{Part}
use Rattle.vf_meaning.specs.Chunks.{product_if, times_names, Wanted, AllMeet, wanted, IsStructBlock}
use Rattle.vf_meaning.specs.Satisfaction.{IsShare, SatisfiesPrimitive, SatisfiesNamed, SatisfiesFamily, SatisfiesValue, SatisfiesHead, SatisfiesIf, MeansAt, SatisfiesAt}
use Rattle.vf_meaning.proofs.Fractions.{same_units, product_low, product_units, product_commutes, product_associates, whole_scales_nothing, product_distributes, stays_positive}
use Rattle.vf_meaning.proofs.Parts.{nought_or_positive, not_nought}
use Rattle.vf_meaning.proofs.Satisfaction.{scales_split}
use Rattle.vf_rules.specs.Mutexes.{full}
use Rattle.vf_rules.specs.States.{meaning, Meets, StoreMeans}
use Rattle.vf_lemmas.specs.Depths.{Inside}
use Rattle.vf_lemmas.specs.Shares.{ChunksAreShared, NamedSharesAreHalved, WrittenSharesAreAdded, OpeningShareGoesLower}
use Rattle.vf_lemmas.proofs.Openings.{argument_value}

some_same : {A : Type 0} {x y : A} → Some x ≡ Some y → x ≡ y
some_same e = cc

none_some : {A B : Type 0} {x : A} → None ≡ Some x → B
none_some e = cc

positive_whole : IsPositive whole
positive_whole = omega arith

positive_half : IsPositive (half whole)
positive_half = omega arith

-- ---- a chunk at another scale
module _ (M : Dyadic → BodyName → Values → Part → Type 0) (i : Interpretation) where
  head_scaled : (s t x y : Dyadic) (head : Head) (v : Valuation) (ws : List Wanted) (q : Part) → x ≡ y → SatisfiesHead M i s x head v ws q → SatisfiesHead M i t y head v ws q
  head_scaled s t x y (BlockOf g) v ws q is h = subst (λ z. IsStructBlock z g ws q) is h
  head_scaled s t x y (Named f) v ws q is h = subst (λ z. SatisfiesNamed M z f ws q) is h
  head_scaled s t x y (Family f a) v ws q is h = subst (λ z. SatisfiesFamily M z f (value_of i v a) ws q) is h
  head_scaled s t x y (Applied a) v ws q is h = subst (λ z. SatisfiesValue M z (value_of i v a) ws q) is h

-- a share of a chunk is all of the chunk, scaled by the share
as_scaled : (e : Environment) (n : ℕ) (x y : Dyadic) (head : Head) (xs : List PatternTree) (w : Valuation) (q : Part) → IsPositive x → x ≡ y → SatisfiesHead (MeansAt e n) (meaning e) whole (product whole x) head w (map (wanted (meaning e) w) xs) q
    → SatisfiesAt e n y (Chunk full head xs) w q
as_scaled e n x y head xs w q positive is h = (
  whole,
  record { is = refl; positive = positive_whole },
  head_scaled (MeansAt e n) (meaning e) whole y (product whole x) (product y whole) head w (map (wanted (meaning e) w) xs) q (ap (product whole) is ∙ product_commutes whole y) h,
)

-- and back
as_shared : (e : Environment) (n : ℕ) (y : Dyadic) (share : ShareTree) (head : Head) (xs : List PatternTree) (w : Valuation) (q : Part) → IsShare w share y → SatisfiesAt e n y (Chunk full head xs) w q → SatisfiesAt e n whole (Chunk share head xs) w q
as_shared e n y share head xs w q is h = (
  y,
  is,
  head_scaled (MeansAt e n) (meaning e) y whole (product y h.0) (product whole y) head w (map (wanted (meaning e) w) xs) q (ap (product y) (sym (some_same (h.1).is)) ∙ product_commutes y whole) h.2,
)

pub chunks_are_shared : ChunksAreShared
chunks_are_shared e path names share first second head xs pair = record {
  by = λ v m w means n q h.
      let (y, z, is, one, two) = pair.by w h.0 h.1 in
      let s = scales_split e n y z (Chunk full head xs) w q (as_scaled e n h.0 (sum y z) head xs w q (h.1).positive is h.2) in
      (s.left, s.right, s.sums, as_shared e n y first head xs w s.left one s.first, as_shared e n z second head xs w s.right two s.second);
}

-- ---- halves
two_halves : (x : Dyadic) → x ≡ sum (product (half whole) x) (product (half whole) x)
two_halves x = sym (whole_scales_nothing x) ∙ product_distributes (half whole) (half whole) x

pub named_shares_are_halved : NamedSharesAreHalved
named_shares_are_halved f = record {
  by = λ w x is.
      let own : fraction_in (w f) ≡ Some x = is.is in
      let share : IsShare w (Times (half whole) (f ∷ [])) (product (half whole) x) = record { is = ap (product_if (Some (half whole))) own; positive = (stays_positive.1) (half whole) x positive_half is.positive } in
      (product (half whole) x, product (half whole) x, two_halves x, share, share);
}

-- ---- sums
both_some : (o r : Option Dyadic) (t : Dyadic) → product_if o r ≡ Some t → (a : Dyadic) × (b : Dyadic) × (o ≡ Some a) × (r ≡ Some b) × (t ≡ product a b)
both_some (Some a) (Some b) t h = (a, b, refl, refl, sym (some_same h))
both_some None r t h = none_some h
both_some (Some a) None t h = none_some h

-- what the names of a share come to
record Factor (w : Valuation) (d t : Dyadic) (ys : List Name) : Type 0 where
  factor : Dyadic
  is : t ≡ product d factor
  for_each : (c : Dyadic) → times_names w c ys ≡ Some (product c factor)

times_whole : (d : Dyadic) → d ≡ product d whole
times_whole d = sym (whole_scales_nothing d) ∙ product_commutes whole d

factored : (w : Valuation) (d t : Dyadic) (ys : List Name) → times_names w d ys ≡ Some t → Factor w d t ys
factored w d t [] h = record { factor = whole; is = sym (some_same h) ∙ times_whole d; for_each = λ c. ap Some (times_whole c) }
factored w d t (y ∷ ys) h =
    let (a, b, first, second, is) = both_some (times_names w d ys) (fraction_in (w y)) t h in
    let f = factored w d a ys first in
    record {
      factor = product f.factor b;
      is = is ∙ ap (λ z. product z b) f.is ∙ product_associates d f.factor b;
      for_each = λ c. ap₂ product_if (f.for_each c) second ∙ ap Some (product_associates c f.factor b);
    }

no_units : (s : ℕ) → units nought s ≡ 0
unfolding units
no_units s = omega arith

zero_times : (m n : ℕ) → m ≡ 0 → m * n ≡ 0
zero_times m n h = ap (λ z. z * n) h ∙ none_times n
  where
    none_times : (n : ℕ) → 0 * n ≡ 0
    none_times n = omega arith

product_nought : (a b : Dyadic) → b ≡ nought → product a b ≡ nought
product_nought a b h = ap (product a) h ∙ product_commutes a nought ∙ none
  where
    none : product nought a ≡ nought
    none = same_units (product nought a) nought (0 + exponent a) (product_low nought a) (omega arith) (product_units nought a 0 (exponent a) (omega arith) (omega arith) ∙ zero_times (units nought 0) (units a (exponent a)) (no_units 0) ∙ sym (no_units (0 + exponent a)))

-- a factor of a positive product is positive
positive_factor : (a b t : Dyadic) → t ≡ product a b → IsPositive t → IsPositive b
positive_factor a b t is positive = elim (nought_or_positive b) [ inl none ↦ absurd (not_nought t (is ∙ product_nought a b none) positive) | inr some ↦ some ]

pub written_shares_are_added : WrittenSharesAreAdded
written_shares_are_added x y ys above also = record {
  by = λ w t is.
      let f = factored w (sum x y) t ys is.is in
      let u = f.factor in
      let some : IsPositive u = positive_factor (sum x y) u t f.is is.positive in
      (product x u, product y u, f.is ∙ product_distributes x y u, record { is = f.for_each x; positive = (stays_positive.1) x u above some }, record { is = f.for_each y; positive = (stays_positive.1) y u also some });
}

-- ---- a share is opened
pub opening_share_goes_lower : OpeningShareGoesLower
opening_share_goes_lower e path names share predicate body arguments sorts new inner rest other there comes = record {
  by = λ v m w means n q h.
      let (vs, meet, deep) = subst (λ z. SatisfiesPrimitive (MeansAt e n) z (product whole h.0) predicate (map (wanted (meaning e) w) (map Is arguments)) q) other h.2 in
      opened v m w means n vs q h.0 h.1 meet (subst (λ z. MeansAt e n z (Plain predicate) vs q) (whole_scales_nothing h.0) deep);
}
  where
    opened : (v : Valuation) → Meets e v path → (w : Valuation) → StoreMeans e v names w → (n : ℕ) (vs : Values) (q : Part) (c : Dyadic) → IsShare w share c → AllMeet (map (wanted (meaning e) w) (map Is arguments)) (listed vs)
        → MeansAt e n c (Plain predicate) vs q → (m : ℕ) × (m < n) × Inside e m sorts new inner rest w q
    opened v m w means zero vs q c is meet deep = absurd deep
    opened v m w means (suc n) vs q c is meet deep =
        let h = subst (λ b. SatisfiesIf e (MeansAt e n) c b vs q) there deep in
        (n, omega arith, comes.by v m w means h.under h.sorts (λ k x at. let a = argument_value (meaning e) w arguments vs meet k x at in h.begins k a.0 ∙ a.1) c is n q h.satisfies)
