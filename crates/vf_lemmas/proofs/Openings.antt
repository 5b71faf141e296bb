-- What a predicate's body comes to holds less deep than its chunk.
use Rattle.std.proofs.Common.{◌≡◌, ℕ, zero, suc, ◌<◌, List, [], ◌∷◌, map, slice_get, Some, None, sym, ap, subst, ◌∙◌, arith}
use Rattle.vf_model.specs.Values.{Dyadic, Value, Values}
use Rattle.vf_model.specs.Values as values
use Rattle.vf_meaning.specs.Fractions.{whole, product}
use Rattle.vf_meaning.specs.Ghost.{GhostExpression}
use Rattle.vf_meaning.specs.Valuations.{Valuation, count, listed, value_at}
use Rattle.vf_meaning.specs.GhostValues.{Interpretation, value_of}
use Rattle.vf_meaning.specs.Assertions.{Is, Plain}
use Rattle.vf_meaning.specs.Parts.{Part}
use Rattle.vf_meaning.specs.Chunks.{AllMeet, wanted}
use Rattle.vf_meaning.specs.Satisfaction.{SatisfiesIf, SatisfiesPrimitive, MeansAt}
use Rattle.vf_rules.specs.States.{meaning, Meets, StoreMeans}
use Rattle.vf_lemmas.specs.Depths.{Inside}
use Rattle.vf_lemmas.specs.Openings.{OpeningGoesLower}

some_same : {A : Type 0} {x y : A} → Some x ≡ Some y → x ≡ y
some_same e = cc

none_some : {A B : Type 0} {x : A} → None ≡ Some x → B
none_some e = cc

-- values that are as arguments ask are the arguments' values
pub argument_value : (i : Interpretation) (w : Valuation) (xs : List GhostExpression) (vs : Values) → AllMeet (map (wanted i w) (map Is xs)) (listed vs) → (k : ℕ) (x : GhostExpression) → slice_get xs k ≡ Some x → (k < count vs) × (value_at vs k ≡ value_of i w x)
argument_value i w [] vs meet k x is = none_some is
argument_value i w (y ∷ ys) values.none meet k x is = absurd meet
argument_value i w (y ∷ ys) (values.more u us) meet zero x is = (omega arith, meet.0 ∙ ap (value_of i w) (some_same is))
argument_value i w (y ∷ ys) (values.more u us) meet (suc k) x is = let h = argument_value i w ys us meet.1 k x is in (omega (arith, h.0), h.1)

pub whole_share : (c : Dyadic) → Some whole ≡ Some c → product whole c ≡ whole
whole_share c h = ap (λ z. product whole z) (sym (some_same h))

pub opening_goes_lower : OpeningGoesLower
opening_goes_lower e path names predicate body arguments sorts new inner rest other there comes = record {
  by = λ v m w means n q h.
      let (vs, meet, deep) = subst (λ z. SatisfiesPrimitive (MeansAt e n) z (product whole h.0) predicate (map (wanted (meaning e) w) (map Is arguments)) q) other h.2 in
      opened v m w means n vs q meet (subst (λ z. MeansAt e n z (Plain predicate) vs q) (whole_share h.0 (h.1).is) deep);
}
  where
    opened : (v : Valuation) → Meets e v path → (w : Valuation) → StoreMeans e v names w → (n : ℕ) (vs : Values) (q : Part) → AllMeet (map (wanted (meaning e) w) (map Is arguments)) (listed vs) → MeansAt e n whole (Plain predicate) vs q
        → (m : ℕ) × (m < n) × Inside e m sorts new inner rest w q
    opened v m w means zero vs q meet deep = absurd deep
    opened v m w means (suc n) vs q meet deep =
        let h = subst (λ b. SatisfiesIf e (MeansAt e n) whole b vs q) there deep in
        (n, omega arith, comes.by v m w means h.under h.sorts (λ k x is. let a = argument_value (meaning e) w arguments vs meet k x is in h.begins k a.0 ∙ a.1) n q h.satisfies)
