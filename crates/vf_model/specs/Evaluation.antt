-- What an expression gives: a value, or the first fault in the order of evaluation, operands from left to right (the profile of C11 6.5 that has no other order).
-- In a typed program an arithmetic operand is a number. Any other value counts as the number 0 there, so that evaluation is defined throughout.
use Rattle.std.specs.Prelude.{cond, List, [], ◌∷◌, slice_get, Option, Some, ℤ, neg_ℤ}
use Rattle.vf_base.specs.declared.place.Place.{Place}
use Rattle.vf_base.specs.declared.int_type.IntType.{IntType}
use Rattle.vf_tree.specs.Core.{ArithmeticOperator, ExpressionTree, Read, Number, Truth, Null, Function, Negate, Arithmetic, Convert}
use Rattle.vf_model.specs.declared.words.FaultKind.{FaultKind}
use Rattle.vf_model.specs.declared.words.FaultKind.TheVariants as faults
use Rattle.vf_model.specs.Values.{Value, number_of}
use Rattle.vf_model.specs.Values as values
use Rattle.vf_model.specs.Integers.{in_range, arithmetic, divides_badly}

-- a result, or a fault and its place
pub data Evaluated (A : Type 0) : Type 0 where
  Gives : A → Evaluated A
  Fails : FaultKind → Place → Evaluated A

-- what comes next, where there is a result
abbrev pub and_then : {A B : Type 0} → Evaluated A → (A → Evaluated B) → Evaluated B
and_then (Gives v) next = next v
and_then (Fails kind place) next = Fails kind place

-- a local that is read: fault unset where it holds no value
abbrev pub local_read : Option (Option Value) → Place → Evaluated Value
local_read (Some (Some v)) place = Gives v
local_read _ place = Fails faults.Unset place

-- a number of the type, or fault range
abbrev pub ranged : IntType → Place → ℤ → Evaluated Value
ranged t place z = cond (in_range t z) (Gives (values.Number z)) (Fails faults.Range place)

-- arithmetic: fault divisor before fault range
abbrev pub computed : ArithmeticOperator → IntType → Place → ℤ → ℤ → Evaluated Value
computed op t place a b = cond (divides_badly op t a b) (Fails faults.Divisor place) (ranged t place (arithmetic op a b))

-- an expression over the locals
abbrev pub evaluate : List (Option Value) → ExpressionTree → Evaluated Value
evaluate locals (Read x place) = local_read (slice_get locals x) place
evaluate locals (Number z) = Gives (values.Number z)
evaluate locals (Truth b) = Gives (values.Truth b)
evaluate locals Null = Gives values.Null
evaluate locals (Function g) = Gives (values.Function g)
evaluate locals (Negate t e place) = and_then (evaluate locals e) (λ v. ranged t place (neg_ℤ (number_of v)))
evaluate locals (Arithmetic op t left right place) =
    and_then (evaluate locals left) (λ v. and_then (evaluate locals right) (λ w. computed op t place (number_of v) (number_of w)))
evaluate locals (Convert t e place) = and_then (evaluate locals e) (λ v. ranged t place (number_of v))

-- expressions in order
abbrev pub evaluate_all : List (Option Value) → List ExpressionTree → Evaluated (List Value)
evaluate_all locals [] = Gives []
evaluate_all locals (e ∷ es) = and_then (evaluate locals e) (λ v. and_then (evaluate_all locals es) (λ vs. Gives (v ∷ vs)))
