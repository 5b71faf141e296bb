-- What is left of an expression: a value, a test that tells a truth value, or what a step is still to put somewhere.
use Rattle.std.specs.Prelude.{ℕ, true, false, if◌then◌else◌, List, Some}
use Rattle.vf_base.specs.declared.int_type.IntType.TheVariants as integers
use Rattle.vf_base.specs.declared.place.Place.{Place}
use Rattle.vf_core.specs.declared.words.Comparison.{Comparison}
use Rattle.vf_core.specs.declared.words.Comparison.TheVariants as comparisons
use Rattle.vf_core.specs.declared.words.Operator.{Operator}
use Rattle.vf_core.specs.declared.words.Operator.TheVariants as arithmetics
use Rattle.vf_ctypes.specs.Types.{common_type}
use Rattle.vf_declared.specs.declared.ctype.CType.{CType}
use Rattle.vf_declared.specs.declared.ctype.CType.TheVariants as types
use Rattle.vf_syntax.specs.declared.operator.BinaryOperator.{BinaryOperator}
use Rattle.vf_syntax.specs.declared.operator.BinaryOperator.TheVariants as operators
use Rattle.vf_syntax.specs.ExprTree.{ExprTree}
use Rattle.vf_typing.specs.Types.{is_arithmetic, is_int_pointer, result_type}
use Rattle.vf_steps.specs.declared.action.FieldNumber.{FieldNumber}
use Rattle.vf_steps.specs.Tree.{ValueTree, ActionTree}
use Rattle.vf_steps.specs.Tree as steps
use Rattle.vf_lower.specs.Lowering.{Lowering, gives, ◌⨾◌, does, taken}
use Rattle.vf_lower.specs.Settings.{Setting, Kind, plain, kind, place_of, integer_in}
use Rattle.vf_lower.specs.Branches.{Test, test, either, selected}
use Rattle.vf_lower.specs.Conversions.{adapted, as_truth, is_set}

-- an access to memory or a call whose result is still to be put into a local
pub data Access : Type 0 where
  load : ValueTree → FieldNumber → Place → Access
  load_at : ValueTree → ValueTree → Place → Access
  allocate : ℕ → Access
  allocate_ints : ValueTree → Place → Access
  call : ℕ → List ValueTree → Place → Access
  call_pointer : ValueTree → ℕ → List ValueTree → Place → Access

-- the step that puts its result into a local
abbrev pub into : ℕ → Access → ActionTree
into x (load v f p) = steps.load x v f p
into x (load_at v i p) = steps.load_at x v i p
into x (allocate n) = steps.allocate x n
into x (allocate_ints v p) = steps.allocate_ints x v p
into x (call f vs p) = steps.call (Some x) f vs p
into x (call_pointer v t vs p) = steps.call_pointer (Some x) v t vs p

-- what is left of an expression; of a call that gives nothing, nothing is
pub data Outcome : Type 0 where
  is : ValueTree → Outcome
  holds : Test → Outcome
  awaits : Access → Outcome
  nothing : Outcome

-- what is left as a value of a type at a place: a test sets a `bool`, and a result goes into a new local
abbrev pub as_value : Setting → CType → Place → Outcome → Lowering ValueTree
as_value c t p (is v) = gives v
as_value c t p (holds x) = selected c.statement x (types.Integer integers.Bool) (steps.truth true) (steps.truth false) p
as_value c t p (awaits a) = taken t ⨾ λ k. does c.statement (into k a) ⨾ λ u. gives (steps.read k p)
as_value c t p nothing = gives steps.null

-- what is left as a test
abbrev pub as_test : Setting → CType → Place → Outcome → Lowering Test
as_test c t p (holds x) = gives x
as_test c t p o = as_value c t p o ⨾ λ v. gives (is_set t v)

-- an operand on the left of something: what is left of it, and its kind
pub record Left : Type 0 where
  pub outcome : Outcome
  pub kind : Kind

-- a left operand of a type that is no `0`
abbrev pub left : Outcome → CType → Left
left o t = record { outcome = o; kind = plain t }

-- an expression as a value, given what is left of it
abbrev pub valued : Setting → ExprTree → Lowering Outcome → Lowering ValueTree
valued c e m = m ⨾ λ o. as_value c (kind c e).ctype (place_of e) o

-- an expression as a test
abbrev pub tested : Setting → ExprTree → Lowering Outcome → Lowering Test
tested c e m = m ⨾ λ o. as_test c (kind c e).ctype (place_of e) o

-- an expression as a value that passes for one of a type
abbrev pub passed : Setting → CType → ExprTree → Lowering Outcome → Lowering ValueTree
passed c t e m = valued c e m ⨾ λ v. adapted c.statement t (kind c e) v (place_of e)

-- an expression as a truth value
abbrev pub truth_of : Setting → ExprTree → Lowering Outcome → Lowering ValueTree
truth_of c e m = valued c e m ⨾ λ v. as_truth c.statement (kind c e).ctype v (place_of e)

-- a left operand at a place as a value
abbrev pub left_value : Setting → Place → Left → Lowering ValueTree
left_value c p l = as_value c l.kind.ctype p l.outcome

-- a left operand at a place as a value that passes for one of a type
abbrev pub left_passed : Setting → Place → CType → Left → Lowering ValueTree
left_passed c p t l = left_value c p l ⨾ λ v. adapted c.statement t l.kind v p

-- the arithmetic operator that is written so
abbrev pub arithmetic_operator : BinaryOperator → Operator
arithmetic_operator operators.Times = arithmetics.Multiply
arithmetic_operator operators.Divide = arithmetics.Divide
arithmetic_operator operators.Remainder = arithmetics.Remainder
arithmetic_operator operators.Minus = arithmetics.Subtract
arithmetic_operator o = arithmetics.Add

-- the comparison that is written so
abbrev pub comparison_of : BinaryOperator → Comparison
comparison_of operators.Less = comparisons.Less
comparison_of operators.LessOrEqual = comparisons.LessEqual
comparison_of operators.Greater = comparisons.Greater
comparison_of operators.GreaterOrEqual = comparisons.GreaterEqual
comparison_of operators.NotEqual = comparisons.NotEqual
comparison_of o = comparisons.Equal

-- the type of which an operand of the first type is compared with one of the second: the common type of integers, else that of the pointer
abbrev pub compared_type : CType → CType → CType
compared_type (types.Integer i) (types.Integer j) = types.Integer (common_type i j)
compared_type (types.Integer i) u = u
compared_type t u = t

-- two operands of a common type, converted as each is evaluated, and an operator at a place between them
abbrev pub arithmetic : Setting → Place → Left → Place → BinaryOperator → ExprTree → Lowering Outcome → Lowering Outcome
arithmetic c p l q o b m =
    let t = result_type o l.kind.ctype (kind c b).ctype in
    left_passed c p t l ⨾ λ v. passed c t b m ⨾ λ w. gives (is (steps.arithmetic (arithmetic_operator o) (integer_in t) v w q))

-- a pointer sum: the pointer with a greater offset goes into a new local
abbrev pub pointer_sum : Setting → Place → Left → Place → ExprTree → Lowering Outcome → Lowering Outcome
pointer_sum c p l q b m = left_value c p l ⨾ λ v. valued c b m ⨾ λ i. taken types.IntPointer ⨾ λ k. does c.statement (steps.offset k v i q) ⨾ λ u. gives (is (steps.read k p))

-- a sum and its like, at the operator
abbrev pub sum : Setting → Place → Left → Place → BinaryOperator → ExprTree → Lowering Outcome → Lowering Outcome
sum c p l q o b m = if is_int_pointer l.kind.ctype then pointer_sum c p l q b m else arithmetic c p l q o b m

-- a comparison
abbrev pub compared : Setting → Place → Left → BinaryOperator → ExprTree → Lowering Outcome → Lowering Outcome
compared c p l o b m =
    let t = l.kind.ctype in
    let u = (kind c b).ctype in
    left_passed c p (compared_type t u) l ⨾ λ v. passed c (compared_type u t) b m ⨾ λ w. gives (holds (test (comparison_of o) v w))

-- a value that is put into a local
abbrev pub value_into : Setting → ℕ → Lowering ValueTree → Lowering (Unit {0})
value_into c k m = m ⨾ λ v. does c.statement (steps.set k v)

-- an operand as a truth value that is put into a local
abbrev pub truth_into : Setting → ℕ → ExprTree → Lowering Outcome → Lowering (Unit {0})
truth_into c k e m = value_into c k (truth_of c e m)

-- `&&`: where the left operand holds the right one is evaluated, and else it is false (C11 6.5.13)
abbrev pub both : Setting → Place → Left → ExprTree → Lowering Outcome → Lowering Outcome
both c p l b m = as_test c l.kind.ctype p l.outcome ⨾ λ x. taken (types.Integer integers.Bool) ⨾ λ k. either c.statement x (truth_into c k b m) (does c.statement (steps.set k (steps.truth false))) ⨾ λ u. gives (is (steps.read k p))

-- `||`: where the left operand holds it is true, and else the right one is evaluated (C11 6.5.14)
abbrev pub one_of : Setting → Place → Left → ExprTree → Lowering Outcome → Lowering Outcome
one_of c p l b m = as_test c l.kind.ctype p l.outcome ⨾ λ x. taken (types.Integer integers.Bool) ⨾ λ k. either c.statement x (does c.statement (steps.set k (steps.truth true))) (truth_into c k b m) ⨾ λ u. gives (is (steps.read k p))

-- a left operand at a place, an operator at another, and the right operand
abbrev pub joined : Setting → Place → Left → Place → BinaryOperator → ExprTree → Lowering Outcome → Lowering Outcome
joined c p l q operators.And b m = both c p l b m
joined c p l q operators.Or b m = one_of c p l b m
joined c p l q o b m = if is_arithmetic o then sum c p l q o b m else compared c p l o b m

-- a choice at a place, of a type, behind its test: one of two operands is evaluated and put into a new local (C11 6.5.15)
abbrev pub choice : Setting → Place → CType → Test → Lowering ValueTree → Lowering ValueTree → Lowering Outcome
choice c p t x a b = taken t ⨾ λ k. either c.statement x (value_into c k a) (value_into c k b) ⨾ λ u. gives (is (steps.read k p))
