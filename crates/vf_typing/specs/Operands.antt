-- What typing keeps of expressions, and what it makes of operands. Where an operand is refused, so is what stands around it.
use Rattle.std.specs.Prelude.{ℕ, Bool, true, false, ◌&&◌, ◌||◌, not, if◌then◌else◌, Option, Some, None, Result, Ok, Err}
use Rattle.vf_base.specs.declared.int_type.IntType.TheVariants as integers
use Rattle.vf_base.specs.declared.place.Place.{Place}
use Rattle.vf_base.specs.declared.refusal.Refusal.{Refusal}
use Rattle.vf_base.specs.declared.rule.Rule.TheVariants as rules
use Rattle.vf_ctypes.specs.Types.{promoted}
use Rattle.vf_declared.specs.declared.ctype.CType.{CType}
use Rattle.vf_declared.specs.declared.ctype.CType.TheVariants as types
use Rattle.vf_declared.specs.declared.declaration.Signature.{Signature}
use Rattle.vf_declared.specs.declared.scope.Scope.{Scope}
use Rattle.vf_declared.specs.Types.{same_type, same_types}
use Rattle.vf_declared.specs.Scopes.{signature_of, function_type_of}
use Rattle.vf_syntax.specs.declared.operator.BinaryOperator.{BinaryOperator}
use Rattle.vf_syntax.specs.declared.operator.BinaryOperator.TheVariants as operators
use Rattle.vf_syntax.specs.declared.operator.UnaryOperator.{UnaryOperator}
use Rattle.vf_syntax.specs.declared.operator.UnaryOperator.TheVariants as unaries
use Rattle.vf_typing.specs.declared.operand.Operand.{Operand}
use Rattle.vf_typing.specs.Refusals.{refused}
use Rattle.vf_typing.specs.Types.{is_void, is_integer, is_index, is_int_pointer, is_address, same_pointer, choice_type, result_type}

-- what is kept of an expression at a place that has a type, and is or is not a `0`
abbrev pub operand : Place → CType → Bool → Operand
operand p t z = record { place = p; ctype = t; is_null = z }

-- what is kept of an expression that is no `0`
abbrev pub value : Place → CType → Operand
value p t = operand p t false

-- what is kept where a test holds, and else a refusal of types at a place
abbrev pub if_typed : Bool → Place → Operand → Result Operand Refusal
if_typed b p o = if b then Ok o else Err (refused rules.Typing p)

-- an operand whose value is used: it is not `void`
abbrev pub used : Result Operand Refusal → Result Operand Refusal
used (Err x) = Err x
used (Ok o) = if is_void o.ctype then Err (refused rules.Typing o.place) else Ok o

-- two signatures have the same result and the same parameters
abbrev pub same_signature : Option Signature → Option Signature → Bool
same_signature (Some a) (Some b) = same_type a.result b.result && same_types a.parameters b.parameters
same_signature a b = false

-- a function's name passes for a pointer: for `void *`, and for pointers to each function type of its signature
abbrev pub takes_function : Scope → CType → ℕ → Bool
takes_function s types.VoidPointer f = true
takes_function s (types.FunctionPointer t) f = same_signature (signature_of s f) (function_type_of s t)
takes_function s t f = false

-- a value of the second type passes for a pointer of the first
abbrev pub takes_pointer : Scope → CType → CType → Bool
takes_pointer s t types.Void = false
takes_pointer s t (types.Integer i) = false
takes_pointer s t (types.Function f) = takes_function s t f
takes_pointer s t u = same_pointer t u

-- an operand of the second type, that is or is not a `0`, passes for a value of the first (C11 6.5.16.1): integers for integers, a `0` for each pointer, and pointers for pointers of the same type and of `void *`
abbrev pub passes : Scope → CType → Bool → CType → Bool
passes s types.Void z u = false
passes s (types.Integer i) z u = is_integer u
passes s (types.Function f) z u = false
passes s t z u = z || takes_pointer s t u

-- two operands can be compared, or chosen between, of which each is or is not a `0` and has a type (C11 6.5.9, 6.5.15)
abbrev pub comparable : Scope → Bool → CType → Bool → CType → Bool
comparable s y (types.Integer i) z (types.Integer j) = true
comparable s y (types.Integer i) z u = y
comparable s y t z (types.Integer j) = z
comparable s y (types.Function f) z (types.Function g) = true
comparable s y (types.Function f) z u = takes_function s u f
comparable s y t z (types.Function g) = takes_function s t g
comparable s y t z u = same_pointer t u

-- an operator takes a left operand of a type
abbrev pub takes_left : BinaryOperator → CType → Bool
takes_left operators.Plus t = is_integer t || is_int_pointer t
takes_left operators.Equal t = not (is_void t)
takes_left operators.NotEqual t = not (is_void t)
takes_left operators.And t = not (is_void t)
takes_left operators.Or t = not (is_void t)
takes_left o t = is_integer t

-- an operator takes a right operand beside a left one, of which each is or is not a `0` and has a type
abbrev pub takes_right : Scope → BinaryOperator → Bool → CType → Bool → CType → Bool
takes_right s operators.Plus y t z u = if is_int_pointer t then is_index u else is_integer u
takes_right s operators.Equal y t z u = not (is_void u) && comparable s y t z u
takes_right s operators.NotEqual y t z u = not (is_void u) && comparable s y t z u
takes_right s operators.And y t z u = not (is_void u)
takes_right s operators.Or y t z u = not (is_void u)
takes_right s o y t z u = is_integer u

-- what an operator makes of two operands
abbrev pub joined : Scope → BinaryOperator → Operand → Operand → Result Operand Refusal
joined s o l r = if_typed (takes_right s o l.is_null l.ctype r.is_null r.ctype) r.place (value l.place (result_type o l.ctype r.ctype))

-- an operator behind a left operand: whether it takes that is asked before the right one is looked at
abbrev pub linked : Scope → BinaryOperator → Operand → Result Operand Refusal → Result Operand Refusal
linked s o l (Err x) = if takes_left o l.ctype then Err x else Err (refused rules.Typing l.place)
linked s o l (Ok r) = if takes_left o l.ctype then joined s o l r else Err (refused rules.Typing l.place)

-- the type of a negative: its operand is promoted (C11 6.5.3.3)
abbrev pub negative : Place → Operand → CType → Result Operand Refusal
negative p o (types.Integer i) = Ok (value p (types.Integer (promoted i)))
negative p o t = Err (refused rules.Typing o.place)

-- an operator at a place in front of its operand
abbrev pub prefixed : Place → UnaryOperator → Result Operand Refusal → Result Operand Refusal
prefixed p o (Err x) = Err x
prefixed p unaries.Minus (Ok o) = negative p o o.ctype
prefixed p unaries.Not (Ok o) = if_typed (not (is_void o.ctype)) o.place (value p (types.Integer integers.Bool))

-- a cast to the first type takes an operand of the second, that is or is not a `0`: integers to integers, pointers to pointers
abbrev pub casts : CType → Bool → CType → Bool
casts (types.Integer i) z u = is_integer u
casts t z u = z || is_address u

-- a cast at a place
abbrev pub cast : Place → Result CType Refusal → Result Operand Refusal → Result Operand Refusal
cast p (Err x) r = Err x
cast p (Ok t) (Err x) = Err x
cast p (Ok t) (Ok o) = if_typed (casts t o.is_null o.ctype) o.place (value p t)

-- a choice at a place between two operands
abbrev pub chosen : Scope → Place → Operand → Operand → Result Operand Refusal
chosen s p y n = if_typed (comparable s y.is_null y.ctype n.is_null n.ctype) n.place (value p (choice_type y.ctype n.ctype))

-- a test and two operands
abbrev pub conditional : Scope → Place → Result Operand Refusal → Result Operand Refusal → Result Operand Refusal → Result Operand Refusal
conditional s p (Err x) y n = Err x
conditional s p (Ok t) (Err x) n = Err x
conditional s p (Ok t) (Ok y) (Err x) = Err x
conditional s p (Ok t) (Ok y) (Ok n) = chosen s p y n

-- an expression in parentheses at a place
abbrev pub enclosed : Place → Result Operand Refusal → Result Operand Refusal
enclosed p (Err x) = Err x
enclosed p (Ok o) = Ok (operand p o.ctype o.is_null)

-- the refusal of an operand that has to pass for a type
abbrev pub assigned_refusal : Scope → CType → Result Operand Refusal → Option Refusal
assigned_refusal s t (Err x) = Some x
assigned_refusal s t (Ok o) = if passes s t o.is_null o.ctype then None else Some (refused rules.Typing o.place)
