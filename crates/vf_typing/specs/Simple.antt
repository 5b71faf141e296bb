-- Assignments, and conditions.
use Rattle.std.specs.Prelude.{Bool, true, ◌||◌, if◌then◌else◌, is_some, Option, Some, None, Result, Ok, Err}
use Rattle.vf_base.specs.declared.refusal.Refusal.{Refusal}
use Rattle.vf_base.specs.declared.rule.Rule.TheVariants as rules
use Rattle.vf_declared.specs.declared.ctype.CType.{CType}
use Rattle.vf_declared.specs.declared.scope.Scope.{Scope}
use Rattle.vf_declared.specs.Scopes.{local_of}
use Rattle.vf_syntax.specs.declared.operator.AssignmentOperator.{AssignmentOperator}
use Rattle.vf_syntax.specs.declared.operator.AssignmentOperator.TheVariants as assignments
use Rattle.vf_syntax.specs.declared.operator.StepOperator.{StepOperator}
use Rattle.vf_syntax.specs.declared.operator.StepOperator.TheVariants as steps
use Rattle.vf_syntax.specs.declared.simple.Simple.{Simple}
use Rattle.vf_syntax.specs.declared.simple.Simple.TheVariants as simples
use Rattle.vf_syntax.specs.ExprTree.{ExprTree}
use Rattle.vf_syntax.specs.ExprTree as tree
use Rattle.vf_typing.specs.declared.operand.Operand.{Operand}
use Rattle.vf_typing.specs.Refusals.{refused}
use Rattle.vf_typing.specs.Types.{is_index, is_int_pointer, is_integer}
use Rattle.vf_typing.specs.Operands.{assigned_refusal, if_typed, used}
use Rattle.vf_typing.specs.Typed.{typed}

-- an expression of a form that is assigned: a name is that of a local
abbrev pub is_target : Scope → ExprTree → Bool
is_target s (tree.name_ p x) = is_some (local_of s x)
is_target s e = true

-- an operand that is assigned, where it may be
abbrev pub target_if : Bool → Result Operand Refusal → Result Operand Refusal
target_if b (Err x) = Err x
target_if b (Ok o) = if_typed b o.place o

-- the left side of an assignment
abbrev pub target : Scope → ExprTree → Result Operand Refusal
target s e = target_if (is_target s e) (used (typed s e))

-- an operator other than `=` takes a left side of a type
abbrev pub takes_target : AssignmentOperator → CType → Bool
takes_target assignments.PlusBecomes t = is_integer t || is_int_pointer t
takes_target o t = is_integer t

-- an operator other than `=` takes a right side of the second type beside a left side of the first
abbrev pub takes_value : AssignmentOperator → CType → CType → Bool
takes_value assignments.PlusBecomes t u = if is_int_pointer t then is_index u else is_integer u
takes_value o t u = is_integer u

-- the refusal of a right side
abbrev pub value_refusal : AssignmentOperator → CType → Result Operand Refusal → Option Refusal
value_refusal o t (Err x) = Some x
value_refusal o t (Ok r) = if takes_value o t r.ctype then None else Some (refused rules.Typing r.place)

-- the refusal of an assignment to an operand by an operator other than `=`: whether that takes it is asked before the right side is looked at
abbrev pub changed_refusal : AssignmentOperator → Operand → Result Operand Refusal → Option Refusal
changed_refusal o l r = if takes_target o l.ctype then value_refusal o l.ctype r else Some (refused rules.Typing l.place)

-- the refusal of an assignment to an operand
abbrev pub assignment_refusal : Scope → AssignmentOperator → Operand → Result Operand Refusal → Option Refusal
assignment_refusal s assignments.Becomes l r = assigned_refusal s l.ctype r
assignment_refusal s o l r = changed_refusal o l r

-- the refusal of an assignment of a right side to a left side
abbrev pub assigned : Scope → AssignmentOperator → Result Operand Refusal → Result Operand Refusal → Option Refusal
assigned s o (Err x) r = Some x
assigned s o (Ok l) r = assignment_refusal s o l r

-- `++` and `--` take an operand of a type
abbrev pub takes_step : StepOperator → CType → Bool
takes_step steps.Increment t = is_integer t || is_int_pointer t
takes_step steps.Decrement t = is_integer t

-- the refusal of `++` or `--`
abbrev pub step_refusal : StepOperator → Result Operand Refusal → Option Refusal
step_refusal o (Err x) = Some x
step_refusal o (Ok l) = if takes_step o l.ctype then None else Some (refused rules.Typing l.place)

-- the refusal that may be there
abbrev pub refusal_of : Result Operand Refusal → Option Refusal
refusal_of (Err x) = Some x
refusal_of (Ok o) = None

-- the first refusal of an assignment or a call, whose value is not used
abbrev pub refused_simple : Scope → Simple → Option Refusal
refused_simple s (simples.Assignment a o q e) = assigned s o (target s a) (typed s e)
refused_simple s (simples.StepAfter a o q) = step_refusal o (target s a)
refused_simple s (simples.StepBefore q o a) = step_refusal o (target s a)
refused_simple s (simples.Call e) = refusal_of (typed s e)

-- the first refusal of a condition: it is a number, a truth value or a pointer
abbrev pub refused_condition : Scope → ExprTree → Option Refusal
refused_condition s e = refusal_of (used (typed s e))
