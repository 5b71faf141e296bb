-- Which sorts resolved patterns, values and shares are of.
use Rattle.std.specs.Prelude.{◌≡◌, ℕ, ◌+◌, List, [], ◌∷◌, Option, Some, None, slice_get}
use Rattle.vf_meaning.specs.Ghost.{Numbered}
use Rattle.vf_sorts.specs.Sorts.{Sort}
use Rattle.vf_binding.specs.declared.bound.Bound.{Bound}
use Rattle.vf_binding.specs.Shares.{fraction_sort}
use Rattle.vf_terms.specs.Settings.{Setting, settled}
use Rattle.vf_resolved.specs.declared.pattern.Argument.{Argument}
use Rattle.vf_resolved.specs.declared.pattern.Factor.{Factor}
use Rattle.vf_resolved.specs.declared.pattern.Factor.TheVariants as factors
use Rattle.vf_resolved.specs.declared.pattern.Pattern.{Pattern}
use Rattle.vf_resolved.specs.declared.pattern.Pattern.TheVariants as patterns
use Rattle.vf_resolved.specs.declared.pattern.Share.{Share}
use Rattle.vf_resolved.specs.declared.pattern.Share.TheVariants as shares
use Rattle.vf_resolved.specs.declared.pattern.Slot.{Slot}
use Rattle.vf_resolved_parts.specs.Names.{kind_for}
use Rattle.vf_resolved_laws.specs.Heads.{Vocabulary}
use Rattle.vf_resolved_laws.specs.Terms.{TermHasSort}

-- a name stands for values of a sort, and has its kind
pub record SlotHasSort (d : Vocabulary) (x : Slot) (t : Sort) : Type 0 where
  pub sort : d.names (Numbered x.number) ≡ t
  pub kind : x.kind ≡ kind_for t

-- a value has a sort, and its kind
pub record ArgumentHasSort (d : Vocabulary) (x : Argument) (t : Sort) : Type 0 where
  pub kind : x.kind ≡ kind_for t
  pub has_sort : TermHasSort d x.term t

-- a pattern stands for values of a sort
abbrev pub PatternHasSort : Vocabulary → Pattern → Sort → Type 0
PatternHasSort d (patterns.Is x) t = ArgumentHasSort d x t
PatternHasSort d (patterns.Binds x) t = SlotHasSort d x t
PatternHasSort d (patterns.Wild k) t = k ≡ kind_for t

-- patterns stand for values of these sorts, and values have them, one by one
abbrev pub AllHaveSorts : {A : Type 0} → (A → Sort → Type 0) → List A → List Sort → Type 0
AllHaveSorts P [] [] = Unit {0}
AllHaveSorts P (x ∷ xs) (t ∷ ts) = P x t × AllHaveSorts P xs ts
AllHaveSorts P _ _ = ⊥

-- a factor that is no number is a fraction
abbrev pub FactorHasSort : Vocabulary → Factor → Type 0
FactorHasSort d (factors.Named x) = TermHasSort d x fraction_sort
FactorHasSort d f = Unit {0}

-- so is each of some factors
abbrev pub FactorsHaveSort : Vocabulary → List Factor → Type 0
FactorsHaveSort d [] = Unit {0}
FactorsHaveSort d (f ∷ fs) = FactorHasSort d f × FactorsHaveSort d fs

-- a share is a fraction, where one is written
abbrev pub ShareHasSort : Vocabulary → Option Share → Type 0
ShareHasSort d None = Unit {0}
ShareHasSort d (Some (shares.Binds x)) = SlotHasSort d x fraction_sort
ShareHasSort d (Some (shares.Product fs)) = FactorsHaveSort d fs

-- the names that a part binds, behind so many names, have the sorts at which they are bound, as these are known in the end
pub record NamesHaveSorts (d : Vocabulary) (s : Setting) (m : ℕ) (b : Bound) : Type 0 where
  pub each : (i : ℕ) (t : Sort) → slice_get b.sorts i ≡ Some t → d.names (Numbered (m + i)) ≡ settled s t
