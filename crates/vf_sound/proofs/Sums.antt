-- Sums that are asked to fit are evaluated without a fault, to the number that the rules keep.
use Rattle.std.proofs.Common.{◌≡◌, ◌∙◌, refl, sym, ap, List, [], ◌∷◌, map, Option, Some, None, slice_get, Bool, true, false, cond, Result, Ok, Err, arith}
use Rattle.std.specs.Prelude.{ℤ, ◌≤ℤ◌, int_le}
use Rattle.std.specs.Option.{option_map}
use Rattle.std.specs.List.{fold}
use Rattle.std.proofs.lemmas.Int.{ints}
use Rattle.std.proofs.lemmas.Option.{slice_get-map}
use Rattle.std.proofs.lemmas.Bool.{and_from}
use Rattle.vf_base.specs.declared.place.Place.{Place}
use Rattle.vf_base.specs.declared.int_type.IntType.TheVariants.{Int}
use Rattle.vf_base.specs.declared.rule.Rule.TheVariants as rules
use Rattle.vf_base.specs.declared.refusal.Refusal.{Refusal}
use Rattle.vf_tree.specs.Core.{ExpressionTree, Arithmetic}
use Rattle.vf_tree.specs.Shown.{operator_of, operand_of, linked, expression_of}
use Rattle.vf_tree.specs.declared.unit.Operator.{Operator}
use Rattle.vf_tree.specs.declared.unit.Operator.TheVariants as operators
use Rattle.vf_tree.specs.declared.unit.Operand.{Operand}
use Rattle.vf_tree.specs.declared.unit.Operand.TheVariants as operands
use Rattle.vf_tree.specs.declared.unit.Link.{Link}
use Rattle.vf_tree.specs.declared.unit.Expression.{Expression}
use Rattle.vf_model.specs.declared.words.FaultKind.TheVariants as faults
use Rattle.vf_model.specs.Values.{Value, number_of}
use Rattle.vf_model.specs.Values as values
use Rattle.vf_model.specs.Integers.{least, greatest, in_range}
use Rattle.vf_model.specs.Evaluation.{Gives, Fails, and_then, local_read, ranged, computed, evaluate}
use Rattle.vf_closure.specs.Literals.{Literal}
use Rattle.vf_meaning.specs.Valuations.{Valuation}
use Rattle.vf_meaning.specs.GhostValues.{Interpretation}
use Rattle.vf_tree.specs.Core.{LessEqual}
use Rattle.vf_closure.specs.Terms.{number}
use Rattle.vf_closure.specs.Literals.{Holds, Meets}
use Rattle.vf_normal.proofs.Compared.{comparisons_meant}
use Rattle.vf_exec.specs.Literals.{at_most_of}
use Rattle.vf_asking.specs.Course.{refusal}
use Rattle.vf_exec.specs.declared.sum.NumberTerm.{NumberTerm}
use Rattle.vf_exec.specs.Main.{Locals, required, fits, is_folded, folded, local_value, operand_value, combined, sum_with, adds_one, adds, evaluates}
use Rattle.vf_sound.specs.Allowed.{Allows}
use Rattle.vf_sound.proofs.Allowing.{allows_try, allows_done, had, required_entails}

-- what the machine has for a local's term
abbrev pub held : Option NumberTerm → Option Value
held None = None
held (Some z) = Some (values.Number z.number)

-- the machine's locals for those of the rules
abbrev pub values_of : Locals → List (Option Value)
values_of locals = map held locals

-- a result that is no refusal
abbrev okay : {A : Type 0} → A → Result A Refusal
okay x = Ok x

ok_same : {A : Type 0} {x y : A} → okay x ≡ okay y → x ≡ y
ok_same e = cc

err_not_ok : {A : Type 0} {x : A} {r : Refusal} → Err r ≡ okay x → ⊥
err_not_ok e = cc

-- ---- operands
chosen : (b : Bool) (x z : NumberTerm) (r : Refusal) → cond b (okay x) (Err r) ≡ okay z → z ≡ x
chosen true x z r e = sym (ok_same e)
chosen false x z r e = absurd (err_not_ok e)

folded_is : (place : Place) (n : ℤ) (z : NumberTerm) → folded place n ≡ Ok z → z.number ≡ n
folded_is place n z e = ap (λ (y : NumberTerm). y.number) (chosen (is_folded n) (record { number = n }) z (refusal rules.Range place) e)

local_is : (place : Place) (o : Option (Option NumberTerm)) (z : NumberTerm) → local_value place o ≡ Ok z → local_read (option_map held o) place ≡ Gives (values.Number z.number)
local_is place None z e = absurd (err_not_ok e)
local_is place (Some None) z e = absurd (err_not_ok e)
local_is place (Some (Some x)) z e = ap (λ (y : NumberTerm). Gives (values.Number y.number)) (ok_same e)

operand_is : (name : Place) (locals : Locals) (x : Operand) (z : NumberTerm) → operand_value name locals x ≡ Ok z → evaluate (values_of locals) (operand_of x) ≡ Gives (values.Number z.number)
operand_is name locals (operands.Number n) z e = ap (λ (k : ℤ). Gives (values.Number k)) (sym (folded_is name n z e))
operand_is name locals (operands.Local x place) z e =
    ap (λ o. local_read o place) (slice_get-map held locals x) ∙ local_is place (slice_get locals x) z e

-- ---- one more operand
-- two numbers were added to a third
record Added (name : Place) (locals : Locals) (z w : NumberTerm) (link : Link) : Type 0 where
  pub right : NumberTerm
  pub operand : operand_value name locals link.operand ≡ Ok right
  pub sum : w.number ≡ combined link.operator z.number right.number

added : (name : Place) (locals : Locals) (z w : NumberTerm) (link : Link) (r : Result NumberTerm Refusal) → operand_value name locals link.operand ≡ r → sum_with r z link ≡ Ok w → Added name locals z w link
added name locals z w link (Ok right) is e = record { right = right; operand = is; sum = folded_is link.place (combined link.operator z.number right.number) w e }
added name locals z w link (Err x) is e = absurd (err_not_ok e)

-- a comparison of numbers says what it seems to
from_at_most : (a b : ℤ) → int_le a b ≡ true → a ≤ℤ b
from_at_most a b h = grind (arith, ints)

at_most : (i : Interpretation) (v : Valuation) (a b : ℤ) → Holds i v (at_most_of a b) → a ≤ℤ b
at_most i v a b h = from_at_most a b ((comparisons_meant i v LessEqual (number a) (number b) refl refl).0 h)

in_range_is : (z : ℤ) → least Int ≤ℤ z → z ≤ℤ greatest Int → in_range Int z ≡ true
in_range_is z low high = and_from (int_le (least Int) z) (int_le z (greatest Int)) (grind (arith, ints)) (grind (arith, ints))

-- under facts that hold, what was proved to fit is in the range of int
within : (i : Interpretation) (v : Valuation) (place : Place) (path : List Literal) (w : NumberTerm) → Meets i v path → Allows i (fits place path w) (Ok tt) → in_range Int w.number ≡ true
unfolding fits
within i v place path w meets p =
    let both = allows_try i (required rules.Range place path (at_most_of (least Int) w.number)) _ tt p in
    let low = required_entails i rules.Range place path (at_most_of (least Int) w.number) both.first v meets in
    let high = required_entails i rules.Range place path (at_most_of w.number (greatest Int)) both.later v meets in
    in_range_is w.number (at_most i v (least Int) w.number low) (at_most i v w.number (greatest Int) high)

ranged_is : (place : Place) (z : ℤ) (b : Bool) → b ≡ true → cond b (Gives (values.Number z)) (Fails faults.Range place) ≡ Gives (values.Number z)
ranged_is place z b is = ap (λ (x : Bool). cond x (Gives (values.Number z)) (Fails faults.Range place)) is

computed_is : (o : Operator) (place : Place) (a b w : ℤ) → w ≡ combined o a b → in_range Int w ≡ true → computed (operator_of o) Int place a b ≡ Gives (values.Number w)
computed_is operators.Add place a b w sum fits = ap (λ z. ranged Int place z) (sym sum) ∙ ranged_is place w (in_range Int w) fits
computed_is operators.Subtract place a b w sum fits = ap (λ z. ranged Int place z) (sym sum) ∙ ranged_is place w (in_range Int w) fits

-- an operator whose operands give numbers
operated : (locals : List (Option Value)) (left right : ExpressionTree) (o : Operator) (place : Place) (a b : ℤ) → evaluate locals left ≡ Gives (values.Number a) → evaluate locals right ≡ Gives (values.Number b)
    → evaluate locals (Arithmetic (operator_of o) Int left right place) ≡ computed (operator_of o) Int place a b
operated locals left right o place a b p q =
    ap (λ x. and_then x (λ v. and_then (evaluate locals right) (λ w. computed (operator_of o) Int place (number_of v) (number_of w)))) p
    ∙ ap (λ x. and_then x (λ w. computed (operator_of o) Int place a (number_of w))) q

module _ (i : Interpretation) (v : Valuation) (name : Place) (path : List Literal) (locals : Locals) (meets : Meets i v path) where
  add_one : (z w : NumberTerm) (link : Link) (left : ExpressionTree) → evaluate (values_of locals) left ≡ Gives (values.Number z.number) → Allows i (adds_one name path locals z link) (Ok w) → evaluate (values_of locals) (linked left link) ≡ Gives (values.Number w.number)
  unfolding adds_one
  add_one z w link left is p =
      let summed = had i (sum_with (operand_value name locals link.operand) z link) _ w p in
      let fitted = allows_try i (fits link.place path summed.0) _ w summed.2 in
      let same : w ≡ summed.0 = ok_same (allows_done i (Ok summed.0) (Ok w) fitted.later) in
      let parts = added name locals z summed.0 link (operand_value name locals link.operand) refl summed.1 in
      let right = operand_is name locals link.operand parts.right parts.operand in
      let range = within i v link.place path summed.0 meets fitted.first in
      operated (values_of locals) left (operand_of link.operand) link.operator link.place z.number parts.right.number is right
      ∙ computed_is link.operator link.place z.number parts.right.number summed.0.number parts.sum range
      ∙ ap (λ (y : NumberTerm). Gives (values.Number y.number)) (sym same)

  add_all : (z w : NumberTerm) (links : List Link) (left : ExpressionTree) → evaluate (values_of locals) left ≡ Gives (values.Number z.number) → Allows i (adds name path locals z links) (Ok w) → evaluate (values_of locals) (fold linked left links) ≡ Gives (values.Number w.number)
  unfolding adds
  add_all z w [] left is p = is ∙ ap (λ (y : NumberTerm). Gives (values.Number y.number)) (sym (ok_same (allows_done i (Ok z) (Ok w) p)))
  add_all z w (link ∷ links) left is p =
      let one = allows_try i (adds_one name path locals z link) _ w p in
      add_all one.value w links (linked left link) (add_one z one.value link left is one.first) one.later

  -- a sum that the rules have a term for has that term's number in the machine
  pub evaluates_is : (w : NumberTerm) (e : Expression) → Allows i (evaluates name path locals e) (Ok w) → evaluate (values_of locals) (expression_of e) ≡ Gives (values.Number w.number)
  unfolding evaluates
  evaluates_is w e p =
      let first = had i (operand_value name locals e.first) _ w p in
      add_all first.0 w e.rest (operand_of e.first) (operand_is name locals e.first first.0 first.1) first.2
