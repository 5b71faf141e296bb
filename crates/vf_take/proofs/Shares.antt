-- What is taken of shares.
use Rattle.std.proofs.Common.{◌≡◌, refl, sym, ap, ◌∙◌, Result, Ok, true, false, cond}
use Rattle.std.specs.Prelude.{Option, Some, None}
use Rattle.vf_base.specs.declared.place.Place.{Place}
use Rattle.vf_base.specs.declared.rule.Rule.TheVariants as rules
use Rattle.vf_base.specs.declared.refusal.Refusal.{Refusal}
use Rattle.vf_base.specs.declared.refusal.RuleFault.{RuleFault}
use Rattle.vf_base.specs.declared.refusal.RuleFault.TheVariants.{Refused, Memory}
use Rattle.vf_meaning.specs.Fractions.{is_at_most}
use Rattle.vf_asking.specs.Course.{refusal}
use Rattle.vf_chunk.specs.declared.share.Share.{Share}
use Rattle.vf_chunk.specs.declared.share.Ratio.{Ratio}
use Rattle.vf_chunk.specs.declared.share.Ratio.TheVariants as ratios
use Rattle.vf_chunk.specs.Shares.{can_be_taken, over, ratio_of}
use Rattle.vf_take.specs.declared.wanted.Places.{Places}
use Rattle.vf_take.specs.declared.wanted.SharePattern.{SharePattern}
use Rattle.vf_take.specs.declared.wanted.SharePattern.TheVariants as shares
use Rattle.vf_take.specs.declared.wanted.Match.{Match}
use Rattle.vf_take.specs.declared.wanted.Match.TheVariants.{Matches, Lacks, Differs}
use Rattle.vf_take.specs.declared.wanted.Portion.{Portion}
use Rattle.vf_take.specs.declared.wanted.Portion.TheVariants.{Whole, Part}
use Rattle.vf_take.specs.Results.{Faults}
use Rattle.vf_take.specs.Fits.{portion_of, named_portion, portion, known_of, shared}
use Rattle.vf_take.proofs.Results.{faults_refused, faults_memory}

-- ---- portions
module _ (place : Place) (wanted : SharePattern) (share : Share) where
  by_share : (w : Share) (r : Result (Option Portion) Refusal) → wanted ≡ shares.Is w → Ok (cond (can_be_taken w share) (Some (portion_of w share)) None) ≡ r → portion place wanted share ≡ r
  by_share w r e f = ap (λ z. portion place z share) e ∙ f

  pub portion_apart : (w : Share) → wanted ≡ shares.Is w → can_be_taken w share ≡ false → portion place wanted share ≡ Ok None
  portion_apart w e f = by_share w (Ok None) e (ap (λ b. Ok (cond b (Some (portion_of w share)) None)) f)

  pub portion_whole : (w : Share) → wanted ≡ shares.Is w → can_be_taken w share ≡ true → is_at_most share.coefficient w.coefficient ≡ true → portion place wanted share ≡ Ok (Some (Whole None))
  portion_whole w e f g = by_share w (Ok (Some (Whole None))) e (ap (λ b. Ok (cond b (Some (portion_of w share)) None)) f ∙ ap (λ b. Ok (Some (cond b (Whole None) (Part w.coefficient)))) g)

  pub portion_part : (w : Share) → wanted ≡ shares.Is w → can_be_taken w share ≡ true → is_at_most share.coefficient w.coefficient ≡ false → portion place wanted share ≡ Ok (Some (Part w.coefficient))
  portion_part w e f g = by_share w (Ok (Some (Part w.coefficient))) e (ap (λ b. Ok (cond b (Some (portion_of w share)) None)) f ∙ ap (λ b. Ok (Some (cond b (Whole None) (Part w.coefficient)))) g)

  by_ratio : (scale : Share) (r : Ratio) → wanted ≡ shares.Name scale → r ≡ ratio_of (over share scale) → portion place wanted share ≡ named_portion place r
  by_ratio scale r e f = ap (λ z. portion place z share) e ∙ ap (named_portion place) (sym f)

  pub portion_named : (scale b : Share) (r : Ratio) → wanted ≡ shares.Name scale → r ≡ ratio_of (over share scale) → r ≡ ratios.Share b → portion place wanted share ≡ Ok (Some (Whole (Some b)))
  portion_named scale b r e f g = by_ratio scale r e f ∙ ap (named_portion place) g

  pub portion_no_form : (scale : Share) (r : Ratio) (q : RuleFault) → wanted ≡ shares.Name scale → r ≡ ratio_of (over share scale) → r ≡ ratios.NoForm → q ≡ Refused (refusal rules.Fraction place) → Faults (portion place wanted share) q
  portion_no_form scale r q e f g h = faults_refused (portion place wanted share) (refusal rules.Fraction place) q h (by_ratio scale r e f ∙ ap (named_portion place) g)

  pub portion_none : (scale : Share) (r : Ratio) → wanted ≡ shares.Name scale → r ≡ ratio_of (over share scale) → r ≡ ratios.NoShare → portion place wanted share ≡ Ok None
  portion_none scale r e f g = by_ratio scale r e f ∙ ap (named_portion place) g

pub ruleset portions = (portion_apart, portion_whole, portion_part, portion_named, portion_no_form, portion_none, faults_memory)

-- ---- what follows the arguments
module _ (places : Places) (m : Match) (wanted : SharePattern) (share : Share) where
  pub shared_apart : m ≡ Differs → shared places m wanted share ≡ Ok None
  shared_apart e = ap (λ z. shared places z wanted share) e

  pub shared_gives : (p : Option Portion) → m ≡ Matches → portion places.statement wanted share ≡ Ok p → shared places m wanted share ≡ Ok p
  shared_gives p e f = ap (λ z. shared places z wanted share) e ∙ ap (known_of places.part Matches) f ∙ by p
    where
      by : (p : Option Portion) → known_of places.part Matches (Ok p) ≡ Ok p
      by None = refl
      by (Some x) = refl

  pub shared_faults : (q : RuleFault) → m ≡ Matches → Faults (portion places.statement wanted share) q → Faults (shared places m wanted share) q
  shared_faults (Refused r) e f = ap (λ z. shared places z wanted share) e ∙ ap (known_of places.part Matches) f
  shared_faults Memory e f = tt

  pub lacks_none : (p : Option Portion) → m ≡ Lacks → portion places.statement wanted share ≡ Ok p → p ≡ None → shared places m wanted share ≡ Ok None
  lacks_none p e f g = ap (λ z. shared places z wanted share) e ∙ ap (known_of places.part Lacks) (f ∙ ap Ok g)

  pub lacks_some : (p : Option Portion) (x : Portion) (q : RuleFault) → m ≡ Lacks → portion places.statement wanted share ≡ Ok p → p ≡ Some x → q ≡ Refused (refusal rules.Unset places.part) → Faults (shared places m wanted share) q
  lacks_some p x q e f g h = faults_refused (shared places m wanted share) (refusal rules.Unset places.part) q h (ap (λ z. shared places z wanted share) e ∙ ap (known_of places.part Lacks) (f ∙ ap Ok g))

  pub lacks_faults : (q : RuleFault) → m ≡ Lacks → Faults (portion places.statement wanted share) q → Faults (shared places m wanted share) q
  lacks_faults (Refused r) e f = ap (λ z. shared places z wanted share) e ∙ ap (known_of places.part Lacks) f
  lacks_faults Memory e f = tt

pub ruleset sharing = (shared_apart, shared_gives, shared_faults, lacks_none, lacks_some, lacks_faults)
