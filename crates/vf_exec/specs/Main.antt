-- The written rules for a main of sums: which questions are asked, in which order, and what comes of each answer.
-- They walk the body once, step by step, and keep for each local the term that it is equal to. In this form every term is a number.
use Rattle.std.specs.Prelude.{ℤ, pos, neg_ℤ, ◌^◌, ◌+ℤ◌, ◌-ℤ◌, Bool, true, ◌&&◌, int_le, if◌then◌else◌, cond, List, [], ◌∷◌, slice_get, slice_set, replicate, Option, Some, None, Result, Ok, Err}
use Rattle.vf_base.specs.declared.place.Place.{Place}
use Rattle.vf_base.specs.declared.int_type.IntType.TheVariants.{Int}
use Rattle.vf_base.specs.declared.rule.Rule.{Rule}
use Rattle.vf_base.specs.declared.rule.Rule.TheVariants as rules
use Rattle.vf_base.specs.declared.refusal.Refusal.{Refusal}
use Rattle.vf_tree.specs.declared.unit.Operator.{Operator}
use Rattle.vf_tree.specs.declared.unit.Operator.TheVariants as operators
use Rattle.vf_tree.specs.declared.unit.Operand.{Operand}
use Rattle.vf_tree.specs.declared.unit.Operand.TheVariants as operands
use Rattle.vf_tree.specs.declared.unit.Link.{Link}
use Rattle.vf_tree.specs.declared.unit.Expression.{Expression}
use Rattle.vf_tree.specs.declared.unit.CoreStep.{CoreStep}
use Rattle.vf_tree.specs.declared.unit.CoreStep.TheVariants as steps
use Rattle.vf_tree.specs.declared.unit.Pure.{Pure}
use Rattle.vf_tree.specs.declared.unit.Pure.TheVariants as parts
use Rattle.vf_tree.specs.declared.unit.Function.{Function}
use Rattle.vf_tree.specs.declared.unit.Core.{Core}
use Rattle.vf_model.specs.Integers.{least, greatest}
use Rattle.vf_closure.specs.Literals.{Literal}
use Rattle.vf_exec.specs.declared.sum.NumberTerm.{NumberTerm}
use Rattle.vf_closure.specs.Literals.{False}
use Rattle.vf_exec.specs.Literals.{at_most_of, equal_of, truth_of}
use Rattle.vf_asking.specs.Course.{Course, done, try, asked, pushed, refusal}

-- the locals' terms, each a number, and None where the local is unset
abbrev pub Locals : Type 0
Locals = List (Option NumberTerm)

-- a goal that has to be proved: where it is not, the rule refuses at the place
unfoldable pub required : Rule → Place → List Literal → Literal → Course (Result (Unit {0}) Refusal)
required rule place path goal = try (asked place path goal) (λ proved. if proved then done (Ok tt) else done (Err (refusal rule place)))

-- a sum is at least the least int, and then at most the greatest (rule 20 at the operator)
unfoldable pub fits : Place → List Literal → NumberTerm → Course (Result (Unit {0}) Refusal)
fits place path z = try (required rules.Range place path (at_most_of (least Int) z.number)) (λ _. required rules.Range place path (at_most_of z.number (greatest Int)))

-- whether a number is one that terms have: within plus and minus 2^90
abbrev pub is_folded : ℤ → Bool
is_folded z = int_le (neg_ℤ (pos (2 ^ 90))) z && int_le z (pos (2 ^ 90))

-- A number that is one of a term. Beyond, a sum is no number; where the answers are right a sum has been asked to fit long before, and rule 20 stands here for an asker that answered otherwise.
abbrev pub folded : Place → ℤ → Result NumberTerm Refusal
folded place z = if is_folded z then Ok (record { number = z }) else Err (refusal rules.Range place)

-- the term of a local that is read (rule 23 at its name where it is unset)
abbrev pub local_value : Place → Option (Option NumberTerm) → Result NumberTerm Refusal
local_value place (Some (Some z)) = Ok z
local_value place _ = Err (refusal rules.Unset place)

-- the term of an operand; the place of a number is the name of the function
abbrev pub operand_value : Place → Locals → Operand → Result NumberTerm Refusal
operand_value name locals (operands.Number n) = folded name n
operand_value name locals (operands.Local x place) = local_value place (slice_get locals x)

-- what an operator makes of two numbers
abbrev pub combined : Operator → ℤ → ℤ → ℤ
combined operators.Add a b = a +ℤ b
combined operators.Subtract a b = a -ℤ b

-- a sum with one more operand on its right, as a term
abbrev pub sum_with : Result NumberTerm Refusal → NumberTerm → Link → Result NumberTerm Refusal
sum_with (Ok right) z link = folded link.place (combined link.operator z.number right.number)
sum_with (Err e) z link = Err e

-- the same, asked to fit
unfoldable pub adds_one : Place → List Literal → Locals → NumberTerm → Link → Course (Result NumberTerm Refusal)
adds_one name path locals z link =
    try (done (sum_with (operand_value name locals link.operand) z link)) (λ w.
    try (fits link.place path w) (λ _. done (Ok w)))

-- a sum with more operands on its right, one after another
unfoldable pub adds : Place → List Literal → Locals → NumberTerm → List Link → Course (Result NumberTerm Refusal)
adds name path locals z [] = done (Ok z)
adds name path locals z (link ∷ links) = try (adds_one name path locals z link) (λ w. adds name path locals w links)

-- the term of a sum
unfoldable pub evaluates : Place → List Literal → Locals → Expression → Course (Result NumberTerm Refusal)
evaluates name path locals e = try (done (operand_value name locals e.first)) (λ z. adds name path locals z e.rest)

-- what a pure part of a postcondition says of the returned term; a number beyond those of terms is no int, and rule 24 stands without a question
abbrev pub postcondition_of : Pure → NumberTerm → Result Literal Refusal
postcondition_of (parts.True place) result = Ok (truth_of true)
postcondition_of (parts.ResultIs n place) result = if is_folded n then Ok (equal_of result.number n) else Err (refusal rules.Pure place)

-- what a pure part of a precondition says: of a result nothing holds before there is one
abbrev pub precondition_of : Pure → Literal
precondition_of (parts.True place) = truth_of true
precondition_of (parts.ResultIs n place) = False

-- the first token of a pure part
abbrev pub place_of : Pure → Place
place_of (parts.True place) = place
place_of (parts.ResultIs n place) = place

-- Return: the postcondition at the returned term (rule 24 at the part)
unfoldable pub returns : Pure → List Literal → NumberTerm → Course (Result (Unit {0}) Refusal)
returns post path z = try (done (postcondition_of post z)) (λ goal. required rules.Pure (place_of post) path goal)

-- a Return: its sum, and then the postcondition
unfoldable pub leaves : Place → Pure → List Literal → Locals → Expression → Course (Result (Unit {0}) Refusal)
leaves name post path locals e = try (evaluates name path locals e) (returns post path)

-- A body from a step on. A body that comes to its end owes a value (rule 32 at the closing brace)
unfoldable pub runs : Place → Place → Pure → List Literal → Locals → List CoreStep → Course (Result (Unit {0}) Refusal)
runs closing name post path locals [] = done (Err (refusal rules.NoReturn closing))
runs closing name post path locals (steps.Set x e next ∷ more) = try (evaluates name path locals e) (λ z. runs closing name post path (slice_set locals x (Some z)) more)
runs closing name post path locals (steps.Return e ∷ more) = leaves name post path locals e

-- a body once its precondition is assumed: where that is absurd, nothing is left to show
unfoldable pub enters : Function → Core → List Literal → Course (Result (Unit {0}) Refusal)
enters f core path = try (asked core.name path False) (λ is_absurd. cond is_absurd (done (Ok tt)) (runs f.closing core.name core.contract.postcondition path (replicate f.locals None) f.steps))

-- main's precondition is had from nothing (rule 28 at its name), and is then assumed
unfoldable pub assumes : Core → Course (Result (List Literal) Refusal)
assumes core = try (required rules.Contract core.name [] (precondition_of core.contract.precondition)) (λ _. pushed core.name [] (precondition_of core.contract.precondition))

-- A function: its precondition, and then its body, which may assume it
unfoldable pub checks_function : Core → Function → Course (Result (Unit {0}) Refusal)
checks_function core f = try (assumes core) (enters f core)

-- the main that a unit has, if it has one
unfoldable pub checks_main : Core → Option Function → Course (Result (Unit {0}) Refusal)
checks_main core None = done (Ok tt)
checks_main core (Some f) = checks_function core f

-- A unit is checked by its main.
unfoldable pub checks : Core → Course (Result (Unit {0}) Refusal)
checks core = checks_main core (slice_get core.plain.functions core.plain.main)
