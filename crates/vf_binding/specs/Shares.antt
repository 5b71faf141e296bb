-- Which shares may stand in front of a chunk, and which are refused.
use Rattle.std.specs.Prelude.{◌≡◌, ℕ, Bool, true, false, not, nat_eq, List, [], ◌∷◌, Option, Some, None}
use Rattle.std.specs.Int.{is_power_of_two}
use Rattle.vf_base.specs.declared.int_type.IntType.{IntType}
use Rattle.vf_base.specs.declared.place.Place.{Place}
use Rattle.vf_base.specs.declared.refusal.Refusal.{Refusal}
use Rattle.vf_base.specs.declared.rule.Rule.TheVariants as rules
use Rattle.vf_sorts.specs.declared.sort.Head.TheVariants as heads
use Rattle.vf_sorts.specs.Sorts.{Sort}
use Rattle.vf_sorts.specs.Unknowns.{Known, leaf}
use Rattle.vf_declared.specs.declared.scope.Scope.{Scope}
use Rattle.vf_syntax.specs.declared.pattern.Amount.{Amount}
use Rattle.vf_syntax.specs.declared.pattern.Amount.TheVariants as amounts
use Rattle.vf_syntax.specs.declared.pattern.Factor.{Factor}
use Rattle.vf_syntax.specs.declared.pattern.Factor.TheVariants as factors
use Rattle.vf_syntax.specs.declared.pattern.FactorLink.{FactorLink}
use Rattle.vf_syntax.specs.declared.pattern.Share.{Share}
use Rattle.vf_syntax.specs.declared.written.Name.{Name}
use Rattle.vf_syntax.specs.GhostExprTree as tree
use Rattle.vf_sorting.specs.declared.context.Context.{Context}
use Rattle.vf_sorting.specs.HasSort.{Passes}
use Rattle.vf_sorting.specs.IsRefused.{Fails}
use Rattle.vf_sorting.specs.Refusals.{refused}
use Rattle.vf_binding.specs.declared.bound.Bound.{Bound}
use Rattle.vf_binding.specs.Bound.{name_refusal, with_bound}

-- positive fractions
abbrev pub fraction_sort : Sort
fraction_sort = leaf heads.Real

-- a number may be a factor, which is not 0, or a divisor, which is a power of two
abbrev pub is_factor : Bool → ℕ → Bool
is_factor true n = is_power_of_two n
is_factor false n = not (nat_eq n 0)

-- a factor or divisor of a share is right: a number as above, or the name of a fraction that is no divisor
pub data FactorPasses (s : Scope) (c : Context) : Known → Bool → Factor → Known → Type 0 where
  number : {k : Known} {d : Bool} {n : ℕ} {i : IntType} {p : Place} → is_factor d n ≡ true → FactorPasses s c k d (factors.Number n i p) k
  named : {k k' : Known} {n : Name} → Passes s c k fraction_sort n.place (tree.name_ n.place n.text) k' → FactorPasses s c k false (factors.Name n) k'

-- a factor or divisor of a share is refused
pub data FactorFails (s : Scope) (c : Context) : Known → Bool → Factor → Refusal → Type 0 where
  number : {k : Known} {d : Bool} {n : ℕ} {i : IntType} {p : Place} → is_factor d n ≡ false → FactorFails s c k d (factors.Number n i p) (refused rules.Typing p)
  named : {k : Known} {d : Bool} {n : Name} {r : Refusal} → Fails s c k fraction_sort n.place (tree.name_ n.place n.text) r → FactorFails s c k d (factors.Name n) r
  divisor : {k k' : Known} {n : Name} → Passes s c k fraction_sort n.place (tree.name_ n.place n.text) k' → FactorFails s c k true (factors.Name n) (refused rules.Typing n.place)

-- factors and divisors behind the first factor are right, from left to right
pub data LinksPass (s : Scope) (c : Context) : Known → List FactorLink → Known → Type 0 where
  none_pass : {k : Known} → LinksPass s c k [] k
  one_passes : {k k₁ k' : Known} {l : FactorLink} {ls : List FactorLink} → FactorPasses s c k l.divides l.factor k₁ → LinksPass s c k₁ ls k' → LinksPass s c k (l ∷ ls) k'

-- the first of some factors and divisors that is refused
pub data AnyLinkFails (s : Scope) (c : Context) : Known → List FactorLink → Refusal → Type 0 where
  this_link : {k : Known} {l : FactorLink} {ls : List FactorLink} {r : Refusal} → FactorFails s c k l.divides l.factor r → AnyLinkFails s c k (l ∷ ls) r
  later_link : {k k₁ : Known} {l : FactorLink} {ls : List FactorLink} {r : Refusal} → FactorPasses s c k l.divides l.factor k₁ → AnyLinkFails s c k₁ ls r → AnyLinkFails s c k (l ∷ ls) r

-- how much a share is may be told so: `?f` binds a name for a fraction
pub data AmountPasses (s : Scope) (c : Context) : Known → Bound → Amount → Known → Bound → Type 0 where
  bound : {k : Known} {b : Bound} {p : Place} {n : Name} → name_refusal s b n ≡ None → AmountPasses s c k b (amounts.Binds p n) k (with_bound b n.text fraction_sort)
  product : {k k₁ k' : Known} {b : Bound} {f : Factor} {ls : List FactorLink} → FactorPasses s c k false f k₁ → LinksPass s c k₁ ls k' → AmountPasses s c k b (amounts.Product f ls) k' b

-- how much a share is may not be told so
pub data AmountFails (s : Scope) (c : Context) : Known → Bound → Amount → Refusal → Type 0 where
  bound : {k : Known} {b : Bound} {p : Place} {n : Name} {r : Refusal} → name_refusal s b n ≡ Some r → AmountFails s c k b (amounts.Binds p n) r
  first : {k : Known} {b : Bound} {f : Factor} {ls : List FactorLink} {r : Refusal} → FactorFails s c k false f r → AmountFails s c k b (amounts.Product f ls) r
  links : {k k₁ : Known} {b : Bound} {f : Factor} {ls : List FactorLink} {r : Refusal} → FactorPasses s c k false f k₁ → AnyLinkFails s c k₁ ls r → AmountFails s c k b (amounts.Product f ls) r

-- a share may stand, where there is one
pub data SharePasses (s : Scope) (c : Context) : Known → Bound → Option Share → Known → Bound → Type 0 where
  whole : {k : Known} {b : Bound} → SharePasses s c k b None k b
  part : {k k' : Known} {b b' : Bound} {h : Share} → AmountPasses s c k b h.amount k' b' → SharePasses s c k b (Some h) k' b'

-- a share is refused
pub data ShareFails (s : Scope) (c : Context) : Known → Bound → Option Share → Refusal → Type 0 where
  part : {k : Known} {b : Bound} {h : Share} {r : Refusal} → AmountFails s c k b h.amount r → ShareFails s c k b (Some h) r
