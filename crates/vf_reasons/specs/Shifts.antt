-- The steps of a refutation over a basis, behind the steps that were written.
use Rattle.std.specs.Prelude.{◌≡◌, ℕ, ◌+◌, ◌<◌, pos, List, [], ◌∷◌, ◌++◌, map, Some, slice_get, All}
use Rattle.vf_refute.specs.declared.steps.Fact.{Fact}
use Rattle.vf_refute.specs.declared.steps.Fact.TheVariants as facts_
use Rattle.vf_refute.specs.declared.steps.Numbers.{Numbers}
use Rattle.vf_refute.specs.declared.steps.Step.{Step}
use Rattle.vf_refute.specs.declared.steps.Step.TheVariants as steps_
use Rattle.vf_closure.specs.Terms.{number}
use Rattle.vf_question.specs.Numbered.{place}
use Rattle.vf_recheck.specs.declared.steps.Step as outer
use Rattle.vf_recheck.specs.declared.steps.Step.TheVariants as outer_
use Rattle.vf_reasons.specs.declared.basis.Basis.{Basis}

-- a step that derives what the fact with a number of a basis says: the fact of the question; that 0 is 0; or the equation of an unfolding, by the step that derived it the other way round
pub record IsForFact (basis : Basis) (i : ℕ) (step : Step) : Type 0 where
  pub question : i < basis.asked → step ≡ steps_.Fact i
  pub zero : i ≡ basis.asked → step ≡ steps_.Reflexive (place (number (pos 0)) basis.terms.items)
  pub equation : (k n : ℕ) → i ≡ basis.asked + 1 + k → slice_get basis.equations.items k ≡ Some n → step ≡ steps_.Symmetric n

-- two parts and the numbers of steps behind a base
pub record IsShiftedCongruence (base a b : ℕ) (numbers : List ℕ) (step : Step) : Type 0 where
  pub shifted : Numbers
  pub is : step ≡ steps_.Congruent a b shifted
  pub numbers_are : shifted.numbers.items ≡ map (λ n. base + n) numbers

-- the step for one of a refutation over a basis, where so many steps stand before that
abbrev pub IsShifted : Basis → ℕ → Step → Step → Type 0
IsShifted basis base (steps_.Fact i) step = IsForFact basis i step
IsShifted basis base (steps_.Reflexive t) step = step ≡ steps_.Reflexive t
IsShifted basis base (steps_.Symmetric a) step = step ≡ steps_.Symmetric (base + a)
IsShifted basis base (steps_.Transitive a b) step = step ≡ steps_.Transitive (base + a) (base + b)
IsShifted basis base (steps_.Congruent a b numbers) step = IsShiftedCongruence base a b numbers.numbers.items step
IsShifted basis base (steps_.Part a i) step = step ≡ steps_.Part (base + a) i
IsShifted basis base (steps_.Above a origin) step = step ≡ steps_.Above a origin
IsShifted basis base (steps_.Below a origin) step = step ≡ steps_.Below a origin
IsShifted basis base (steps_.LevelAbove a) step = step ≡ steps_.LevelAbove (base + a)
IsShifted basis base (steps_.LevelBelow a) step = step ≡ steps_.LevelBelow (base + a)
IsShifted basis base (steps_.Chain a b) step = step ≡ steps_.Chain (base + a) (base + b)
IsShifted basis base (steps_.Squeezed a b) step = step ≡ steps_.Squeezed (base + a) (base + b)
IsShifted basis base (steps_.Conflict a) step = step ≡ steps_.Conflict (base + a)
IsShifted basis base (steps_.DeniedDifference a b) step = step ≡ steps_.DeniedDifference (base + a) (base + b)
IsShifted basis base (steps_.Falsehood i) step = step ≡ steps_.Falsehood i

-- such a step was written behind others
pub record HasWritten (basis : Basis) (base : ℕ) (step : Step) (before after : List outer.Step) : Type 0 where
  pub shifted : Step
  pub is : IsShifted basis base step shifted
  pub written : after ≡ before ++ outer_.Plain shifted ∷ []

-- a fact says that two terms are not equal
abbrev pub IsDenial : Fact → Type 0
IsDenial (facts_.NotEqual x y) = Unit {0}
IsDenial _ = ⊥

-- each of some facts does
abbrev pub AreDenials : List Fact → Type 0
AreDenials facts = All IsDenial facts
