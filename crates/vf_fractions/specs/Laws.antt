-- Laws of differences and quotients. Each is the contract of a public function with an empty body.
use Rattle.std.specs.Prelude.{◌≡◌, ◌↔◌, Some}
use Rattle.vf_model.specs.Values.{Dyadic}
use Rattle.vf_meaning.specs.Fractions.{nought, sum, product, IsPositive, AtMost}
use Rattle.vf_fractions.specs.Arithmetic.{difference, quotient}

-- what is taken off and what is left make the whole, and nothing is left of a fraction that is not greater
abbrev pub DifferencesAddUp : Type 0
DifferencesAddUp = ((a b : Dyadic) → AtMost b a → sum b (difference a b) ≡ a) × ((a b : Dyadic) → AtMost a b → difference a b ≡ nought)

-- a fraction is the quotient of two just where the second times it is the first
abbrev pub QuotientsMultiplyBack : Type 0
QuotientsMultiplyBack = (a b q : Dyadic) → IsPositive b → (quotient a b ≡ Some q) ↔ (product b q ≡ a)
