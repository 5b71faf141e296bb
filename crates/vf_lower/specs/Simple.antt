-- What assignments and calls become whose value is not used.
use Rattle.std.specs.Prelude.{ℕ, Bool, true, false, ◌&&◌, ◌||◌, if◌then◌else◌}
use Rattle.vf_base.specs.declared.int_type.IntType.TheVariants as integers
use Rattle.vf_base.specs.declared.place.Place.{Place}
use Rattle.vf_declared.specs.declared.ctype.CType.{CType}
use Rattle.vf_declared.specs.declared.ctype.CType.TheVariants as types
use Rattle.vf_declared.specs.Types.{same_type}
use Rattle.vf_syntax.specs.declared.operator.AssignmentOperator.{AssignmentOperator}
use Rattle.vf_syntax.specs.declared.operator.AssignmentOperator.TheVariants as assignments
use Rattle.vf_syntax.specs.declared.operator.BinaryOperator.{BinaryOperator}
use Rattle.vf_syntax.specs.declared.operator.BinaryOperator.TheVariants as operators
use Rattle.vf_syntax.specs.declared.operator.StepOperator.{StepOperator}
use Rattle.vf_syntax.specs.declared.operator.StepOperator.TheVariants as steppers
use Rattle.vf_syntax.specs.declared.simple.Simple.{Simple}
use Rattle.vf_syntax.specs.declared.simple.Simple.TheVariants as simples
use Rattle.vf_syntax.specs.ExprTree.{ExprTree}
use Rattle.vf_syntax.specs.ExprTree as tree
use Rattle.vf_typing.specs.Types.{result_type}
use Rattle.vf_steps.specs.declared.action.FieldNumber.{FieldNumber}
use Rattle.vf_steps.specs.Tree.{ValueTree}
use Rattle.vf_steps.specs.Tree as steps
use Rattle.vf_lower.specs.Lowering.{Lowering, gives, ◌⨾◌, does, taken}
use Rattle.vf_lower.specs.Settings.{Setting, kind, place_of}
use Rattle.vf_lower.specs.Conversions.{adapted}
use Rattle.vf_lower.specs.Operands.{Access, Outcome, Left, left, into, as_value, joined, left_passed, passed, value_into}
use Rattle.vf_lower.specs.Operands as outcomes
use Rattle.vf_lower.specs.Expressions.{outcome, value_as}

-- it is a pointer type
abbrev pub is_pointer : CType → Bool
is_pointer types.VoidPointer = true
is_pointer types.IntPointer = true
is_pointer (types.StructPointer n) = true
is_pointer (types.FunctionPointer n) = true
is_pointer t = false

-- what has the second type goes into a local of the first as it is: the types are the same, or both are pointer types
abbrev pub goes_into : CType → CType → Bool
goes_into t u = same_type t u || (is_pointer t && is_pointer u)

-- what is left of an expression as a value that passes for one of a type
abbrev pub outcome_as : Setting → CType → ExprTree → Outcome → Lowering ValueTree
outcome_as c t e o = as_value c (kind c e).ctype (place_of e) o ⨾ λ v. adapted c.statement t (kind c e) v (place_of e)

-- the result of an access is put into a local of a type: at once where it can
abbrev pub put_result : Setting → ℕ → CType → ExprTree → Access → Lowering (Unit {0})
put_result c k t e a = if goes_into t (kind c e).ctype then does c.statement (into k a) else value_into c k (outcome_as c t e (outcomes.awaits a))

-- what is left of an expression is put into a local of a type
abbrev pub put : Setting → ℕ → CType → ExprTree → Outcome → Lowering (Unit {0})
put c k t e (outcomes.awaits a) = put_result c k t e a
put c k t e o = value_into c k (outcome_as c t e o)

-- an expression is put into a local of a type
abbrev pub put_local : Setting → ℕ → CType → ExprTree → Lowering (Unit {0})
put_local c k t e = outcome c e ⨾ λ o. put c k t e o

-- an expression is assigned to a value that reads a local of a type
abbrev pub becomes_local : Setting → CType → ValueTree → ExprTree → Lowering (Unit {0})
becomes_local c t (steps.read k p) e = put_local c k t e
becomes_local c t v e = gives tt

-- an expression is assigned to a field of a type behind a pointer, at the `->`
abbrev pub becomes_field : Setting → CType → ValueTree → FieldNumber → Place → ExprTree → Lowering (Unit {0})
becomes_field c t v f q e = value_as c t e ⨾ λ w. does c.statement (steps.store v f w q)

-- an expression is assigned to an element of a type, by its pointer and index, at the `[`
abbrev pub becomes_element : Setting → CType → ValueTree → ValueTree → Place → ExprTree → Lowering (Unit {0})
becomes_element c t v i q e = value_as c t e ⨾ λ w. does c.statement (steps.store_at v i w q)

-- an expression is assigned to what an access of a type reads
abbrev pub becomes_at : Setting → CType → Access → ExprTree → Lowering (Unit {0})
becomes_at c t (outcomes.load v f q) e = becomes_field c t v f q e
becomes_at c t (outcomes.load_at v i q) e = becomes_element c t v i q e
becomes_at c t a e = gives tt

-- an expression is assigned to what is left of a left side of a type
abbrev pub becomes : Setting → CType → Outcome → ExprTree → Lowering (Unit {0})
becomes c t (outcomes.is v) e = becomes_local c t v e
becomes c t (outcomes.awaits a) e = becomes_at c t a e
becomes c t o e = gives tt

-- a value of a type at a place, and what an operator at another makes of it and an expression, as a value of the type
abbrev pub changed : Setting → CType → Place → ValueTree → BinaryOperator → Place → ExprTree → Lowering ValueTree
changed c t p v o q e = joined c p (left (outcomes.is v) t) q o e (outcome c e) ⨾ λ r. left_passed c p t (left r (result_type o t (kind c e).ctype))

-- a local of a type that a value at a place reads changes by an operator at another and an expression
abbrev pub changes_local : Setting → CType → Place → ValueTree → BinaryOperator → Place → ExprTree → Lowering (Unit {0})
changes_local c t p (steps.read k r) o q e = value_into c k (changed c t p (steps.read k r) o q e)
changes_local c t p v o q e = gives tt

-- a field of a type changes: its pointer is evaluated once
abbrev pub changes_field : Setting → CType → Place → ValueTree → FieldNumber → Place → BinaryOperator → Place → ExprTree → Lowering (Unit {0})
changes_field c t p v f a o q e = taken t ⨾ λ k. does c.statement (steps.load k v f a) ⨾ λ u. changed c t p (steps.read k p) o q e ⨾ λ w. does c.statement (steps.store v f w a)

-- an element of a type changes: its pointer and index are evaluated once
abbrev pub changes_element : Setting → CType → Place → ValueTree → ValueTree → Place → BinaryOperator → Place → ExprTree → Lowering (Unit {0})
changes_element c t p v i a o q e = taken t ⨾ λ k. does c.statement (steps.load_at k v i a) ⨾ λ u. changed c t p (steps.read k p) o q e ⨾ λ w. does c.statement (steps.store_at v i w a)

-- what an access of a type at a place reads changes
abbrev pub changes_at : Setting → CType → Place → Access → BinaryOperator → Place → ExprTree → Lowering (Unit {0})
changes_at c t p (outcomes.load v f a) o q e = changes_field c t p v f a o q e
changes_at c t p (outcomes.load_at v i a) o q e = changes_element c t p v i a o q e
changes_at c t p x o q e = gives tt

-- what is left of a left side of a type at a place changes by an operator at another and an expression
abbrev pub changes : Setting → CType → Place → Outcome → BinaryOperator → Place → ExprTree → Lowering (Unit {0})
changes c t p (outcomes.is v) o q e = changes_local c t p v o q e
changes c t p (outcomes.awaits a) o q e = changes_at c t p a o q e
changes c t p x o q e = gives tt

-- the operator that stands in front of the `=` in another
abbrev pub operator_in : AssignmentOperator → BinaryOperator
operator_in assignments.MinusBecomes = operators.Minus
operator_in assignments.TimesBecomes = operators.Times
operator_in assignments.DivideBecomes = operators.Divide
operator_in assignments.RemainderBecomes = operators.Remainder
operator_in o = operators.Plus

-- an assignment by an operator at a place to what a left side is
abbrev pub assigned : Setting → ExprTree → AssignmentOperator → Place → ExprTree → Outcome → Lowering (Unit {0})
assigned c l assignments.Becomes q e o = becomes c (kind c l).ctype o e
assigned c l x q e o = changes c (kind c l).ctype (place_of l) o (operator_in x) q e

-- the operator that adds or takes away 1
abbrev pub step_operator : StepOperator → BinaryOperator
step_operator steppers.Increment = operators.Plus
step_operator steppers.Decrement = operators.Minus

-- the number 1 at a place
abbrev pub one : Place → ExprTree
one p = tree.number p 1 integers.Int

-- `++` or `--` at a place: what a left side is changes by 1, an `int` (C11 6.5.2.4)
abbrev pub stepped : Setting → ExprTree → StepOperator → Place → Lowering (Unit {0})
stepped c l o q = outcome c l ⨾ λ x. changes c (kind c l).ctype (place_of l) x (step_operator o) q (one (place_of l))

-- a result that is not used goes into a local of its own
abbrev pub unused : Setting → CType → Outcome → Lowering (Unit {0})
unused c t (outcomes.awaits a) = taken t ⨾ λ k. does c.statement (into k a)
unused c t o = gives tt

-- an assignment or a call
abbrev pub simple : Setting → Simple → Lowering (Unit {0})
simple c (simples.Assignment l o q e) = outcome c l ⨾ λ x. assigned c l o q e x
simple c (simples.StepAfter l o q) = stepped c l o q
simple c (simples.StepBefore q o l) = stepped c l o q
simple c (simples.Call e) = outcome c e ⨾ λ o. unused c (kind c e).ctype o
