-- Laws of dyadic fractions. Each is the contract of a public function with an empty body.
use Rattle.std.specs.Prelude.{◌≡◌, ℕ, ◌+◌, ◌*◌, ◌^◌, ◌≤◌, ◌⊎◌, ◌↔◌, IsTrue}
use Rattle.vf_model.specs.Values.{Dyadic}
use Rattle.vf_meaning.specs.Fractions.{numerator, exponent, reduced, nought, whole, sum, product, half, IsPositive, AtMost, is_at_most, units}

-- the form is one: two fractions of the same value are the same
abbrev pub FormIsOne : Type 0
FormIsOne = (a b : Dyadic) → numerator a * 2 ^ exponent b ≡ numerator b * 2 ^ exponent a → a ≡ b

-- bringing to its form keeps the value
abbrev pub ReducesToItsValue : Type 0
ReducesToItsValue = (k m : ℕ) → numerator (reduced k m) * 2 ^ m ≡ k * 2 ^ exponent (reduced k m)

-- in units that are small enough, sums and products are those of numbers
abbrev pub CountsInUnits : Type 0
CountsInUnits =
    ((a b : Dyadic) (s : ℕ) → exponent a + exponent b ≤ s → units (sum a b) s ≡ units a s + units b s)
    × ((a b : Dyadic) (s t : ℕ) → exponent a ≤ s → exponent b ≤ t → units (product a b) (s + t) ≡ units a s * units b t)

-- a sum is the same from both sides
abbrev pub SumCommutes : Type 0
SumCommutes = (a b : Dyadic) → sum a b ≡ sum b a

-- a sum of three is the same however it is grouped
abbrev pub SumAssociates : Type 0
SumAssociates = (a b c : Dyadic) → sum (sum a b) c ≡ sum a (sum b c)

-- a sum with 0 is the other summand
abbrev pub NoughtAddsNothing : Type 0
NoughtAddsNothing = (a : Dyadic) → sum nought a ≡ a

-- a product is the same from both sides
abbrev pub ProductCommutes : Type 0
ProductCommutes = (a b : Dyadic) → product a b ≡ product b a

-- a product of three is the same however it is grouped
abbrev pub ProductAssociates : Type 0
ProductAssociates = (a b c : Dyadic) → product (product a b) c ≡ product a (product b c)

-- a product with 1 is the other factor
abbrev pub WholeScalesNothing : Type 0
WholeScalesNothing = (a : Dyadic) → product whole a ≡ a

-- a product distributes over a sum
abbrev pub ProductDistributes : Type 0
ProductDistributes = (a b c : Dyadic) → product (sum a b) c ≡ sum (product a c) (product b c)

-- half and half is the whole
abbrev pub HalvesMakeTheWhole : Type 0
HalvesMakeTheWhole = (a : Dyadic) → sum (half a) (half a) ≡ a

-- sums, products and halves of positive fractions are positive
abbrev pub StaysPositive : Type 0
StaysPositive =
    ((a b : Dyadic) → IsPositive a → IsPositive (sum a b))
    × ((a b : Dyadic) → IsPositive a → IsPositive b → IsPositive (product a b))
    × ((a : Dyadic) → IsPositive a → IsPositive (half a))

-- the order is total, and two fractions each of which is at most the other are one
abbrev pub OrderIsTotal : Type 0
OrderIsTotal = ((a b : Dyadic) → AtMost a b ⊎ AtMost b a) × ((a b : Dyadic) → AtMost a b → AtMost b a → a ≡ b)

-- the order goes on from one to the next
abbrev pub OrderIsTransitive : Type 0
OrderIsTransitive = (a b c : Dyadic) → AtMost a b → AtMost b c → AtMost a c

-- one fraction is at most another just where the other is the sum of it and some fraction
abbrev pub OrderIsBySums : Type 0
OrderIsBySums = (a b : Dyadic) → AtMost a b ↔ ((c : Dyadic) × (sum a c ≡ b))

-- the test of the order says just that
abbrev pub TellsOrder : Type 0
TellsOrder = (a b : Dyadic) → IsTrue (is_at_most a b) ↔ AtMost a b
