-- Values as they come to ghost text: lists of them, their sizes, equality of any two, and valuations of names.
use Rattle.std.specs.Prelude.{ℕ, zero, suc, ◌+◌, ℤ, pos, ◌+ℤ◌, Bool, true, false, cond, ◌&&◌, ◌==◌, List, [], ◌∷◌, Option, Some, None}
use Rattle.std.specs.Ordering.{int_eq}
use Rattle.vf_model.specs.Values.{Dyadic, Whole, Odd, Value, Values, none, more, same_identity, same_truth}
use Rattle.vf_model.specs.Values as values
use Rattle.vf_meaning.specs.Ghost.{Name, Numbered, same_name}

-- what stands where a value has no other: the number 0
abbrev pub no_value : Value
no_value = values.Number (pos 0)

-- values one after the other
abbrev pub appended : Values → Values → Values
appended none ws = ws
appended (more v vs) ws = more v (appended vs ws)

-- how many values
abbrev pub count : Values → ℕ
count none = 0
count (more v vs) = suc (count vs)

-- the value at a place, counted from 0
abbrev pub value_at : Values → ℕ → Value
value_at none k = no_value
value_at (more v vs) zero = v
value_at (more v vs) (suc k) = value_at vs k

-- values in a row as a list
abbrev pub listed : Values → List Value
listed none = []
listed (more v vs) = v ∷ listed vs

-- a list of values as values in a row
abbrev pub in_row : List Value → Values
in_row [] = none
in_row (v ∷ vs) = more v (in_row vs)

-- the size of a value: a constructor's term is greater than each of its arguments
abbrev mutual
  pub size : Value → ℕ
  size (values.Number z) = 0
  size (values.Truth b) = 0
  size values.Null = 0
  size (values.Pointer b o) = 0
  size (values.Function g) = 0
  size (values.Constructed c vs) = suc (sizes vs)
  size (values.Predicate p vs) = 0
  size (values.Fraction d) = 0

  pub sizes : Values → ℕ
  sizes none = 0
  sizes (more v vs) = size v + sizes vs

-- whether two fractions are one
abbrev pub same_fraction : Dyadic → Dyadic → Bool
same_fraction (Whole k) (Whole l) = k == l
same_fraction (Odd j m) (Odd i n) = (j == i) && (m == n)
same_fraction _ _ = false

-- whether two values of any sort are one, as ghost text compares them
abbrev mutual
  pub is_same : Value → Value → Bool
  is_same (values.Number y) (values.Number z) = int_eq y z
  is_same (values.Truth a) (values.Truth b) = same_truth a b
  is_same values.Null values.Null = true
  is_same (values.Pointer b o) (values.Pointer c q) = (b == c) && int_eq o q
  is_same (values.Function g) (values.Function h) = same_identity g h
  is_same (values.Constructed c vs) (values.Constructed d ws) = same_identity c d && are_same vs ws
  is_same (values.Predicate p vs) (values.Predicate q ws) = same_identity p q && are_same vs ws
  is_same (values.Fraction d) (values.Fraction e) = same_fraction d e
  is_same _ _ = false

  pub are_same : Values → Values → Bool
  are_same none none = true
  are_same (more v vs) (more w ws) = is_same v w && are_same vs ws
  are_same _ _ = false

-- the truth value that a value is, and false for every other value
abbrev pub is_true : Value → Bool
is_true (values.Truth b) = b
is_true _ = false

-- the fraction that a value is, if it is one
abbrev pub fraction_in : Value → Option Dyadic
fraction_in (values.Fraction d) = Some d
fraction_in _ = None

-- a pointer by a number of places further on; what is no pointer stays as it is
abbrev pub further : Value → ℤ → Value
further (values.Pointer b o) i = values.Pointer b (o +ℤ i)
further v i = v

-- a value for each name
abbrev pub Valuation : Type 0
Valuation = Name → Value

-- the valuation with another value for one name
abbrev pub bound : Valuation → Name → Value → Valuation
bound v x w y = cond (same_name y x) w (v y)

-- the valuation with values for several names, in order; a name for which there is no value left has none
abbrev pub all_bound : Valuation → List Name → Values → Valuation
all_bound v [] ws = v
all_bound v (x ∷ xs) none = all_bound (bound v x no_value) xs none
all_bound v (x ∷ xs) (more w ws) = all_bound (bound v x w) xs ws

-- a valuation in which the first names are the parameters and have these values, and every other name has none
abbrev pub of_arguments : Values → Valuation
of_arguments vs (Numbered k) = value_at vs k
of_arguments vs _ = no_value
