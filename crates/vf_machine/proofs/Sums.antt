-- Faults of sums, from left to right.
use Rattle.std.proofs.Common.{◌≡◌, ℕ, zero, suc, ◌<◌, List, [], ◌∷◌, length, take, Option, ℤ, get_or, refl, sym, arith}
use Rattle.std.specs.List.{fold}
use Rattle.vf_base.specs.declared.place.Place.{Place}
use Rattle.vf_base.specs.declared.int_type.IntType.TheVariants as types
use Rattle.vf_tree.specs.Core.{ExpressionTree}
use Rattle.vf_tree.specs.Shown.{operand_of, operator_of, linked}
use Rattle.vf_tree.specs.declared.unit.Link.{Link}
use Rattle.vf_model.specs.declared.words.FaultKind.{FaultKind}
use Rattle.vf_model.specs.Values.{Value, Number, number_of}
use Rattle.vf_model.specs.Evaluation.{Evaluated, Gives, Fails, and_then, computed, evaluate}

-- what a link makes of the value on its left
abbrev pub link_value : List (Option Value) → ℤ → Link → Evaluated Value
link_value locals left link = and_then (evaluate locals (operand_of link.operand)) (λ right. computed (operator_of link.operator) types.Int link.place left (number_of right))

abbrev pub IsFault : Evaluated Value → Type 0
IsFault (Gives v) = ⊥
IsFault (Fails kind place) = Unit {0}

-- a sum whose left part has a fault has that fault
pub sum_fails : (locals : List (Option Value)) (left : ExpressionTree) (links : List Link) (kind : FaultKind) (place : Place)
    → evaluate locals left ≡ Fails kind place → evaluate locals (fold linked left links) ≡ Fails kind place
sum_fails locals left [] kind place h = h
sum_fails locals left (link ∷ links) kind place h = sum_fails locals (linked left link) links kind place (rw h refl)

-- the first fault from the left is the sum's: here the links before i give a value, and the one at i has a fault
pub sum_stops : (locals : List (Option Value)) (left : ExpressionTree) (links : List Link) (i : ℕ) (d : Link) (value : ℤ) (fault : Evaluated Value)
    → i < length links → IsFault fault
    → evaluate locals (fold linked left (take i links)) ≡ Gives (Number value)
    → fault ≡ link_value locals value (get_or links i d)
    → fault ≡ evaluate locals (fold linked left links)
sum_stops locals left [] i d value fault within is h e = absurd (omega arith)
sum_stops locals left (link ∷ links) zero d value (Fails kind place) within is h e =
    sym (sum_fails locals (linked left link) links kind place (rw h (sym e)))
sum_stops locals left (link ∷ links) zero d value (Gives v) within is h e = absurd is
sum_stops locals left (link ∷ links) (suc i) d value fault within is h e = sum_stops locals (linked left link) links i d value fault (omega arith) is h e
