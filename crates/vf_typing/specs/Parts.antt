-- Memory, reads and calls.
use Rattle.std.specs.Prelude.{ℕ, ◌+◌, Bool, ◌&&◌, not, nat_eq, if◌then◌else◌, List, [], length, codes, is_some, Option, Some, None, Result, Ok, Err}
use Rattle.std.specs.Str.{bytes_eq}
use Rattle.vf_base.specs.declared.int_type.IntType.TheVariants as integers
use Rattle.vf_base.specs.declared.place.Place.{Place}
use Rattle.vf_base.specs.declared.refusal.Refusal.{Refusal}
use Rattle.vf_base.specs.declared.rule.Rule.TheVariants as rules
use Rattle.vf_declared.specs.declared.ctype.CType.{CType}
use Rattle.vf_declared.specs.declared.ctype.CType.TheVariants as types
use Rattle.vf_declared.specs.declared.declaration.Signature.{Signature}
use Rattle.vf_declared.specs.declared.scope.Scope.{Scope}
use Rattle.vf_declared.specs.Scopes.{field_of, function_type_of, has_fields, is_declared, local_of, signature_of, tag_of}
use Rattle.vf_syntax.specs.declared.written.Name.{Name}
use Rattle.vf_syntax.specs.ExprTree.{ExprTree, ExprTrees, no_expr, more_expr}
use Rattle.vf_syntax.specs.ExprTree as tree
use Rattle.vf_typing.specs.declared.operand.Operand.{Operand}
use Rattle.vf_typing.specs.Refusals.{refused}
use Rattle.vf_typing.specs.Types.{is_int, is_index, is_int_pointer}
use Rattle.vf_typing.specs.Operands.{value, if_typed}

-- memory for a struct by its number, whose fields are declared
abbrev pub struct_memory : Scope → Place → Place → Option ℕ → Result Operand Refusal
struct_memory s p q None = Err (refused rules.Name q)
struct_memory s p q (Some n) = if_typed (has_fields s n) p (value p (types.StructPointer n))

-- `malloc(sizeof(struct S))` at a place: it needs `<stdlib.h>`, and the fields of the struct
abbrev pub allocated : Scope → Place → Name → Result Operand Refusal
allocated s p n = if s.has_stdlib then struct_memory s p n.place (tag_of s n.text n.place.file) else Err (refused rules.Name p)

-- memory for some ints, whose number is an `int`
abbrev pub int_memory : Place → Result Operand Refusal → Result Operand Refusal
int_memory p (Err x) = Err x
int_memory p (Ok o) = if_typed (is_int o.ctype) o.place (value p types.IntPointer)

-- `malloc(n * sizeof(int))` at a place: it needs `<stdlib.h>` and `<vf_arrays.h>`
abbrev pub ints_allocated : Scope → Place → Result Operand Refusal → Result Operand Refusal
ints_allocated s p r = if s.has_stdlib && s.has_arrays then int_memory p r else Err (refused rules.Name p)

-- a name means the `free` of `<stdlib.h>`: neither a local nor anything of file level has it
abbrev pub means_free : Scope → List ℕ → Bool
means_free s x = bytes_eq x (codes "free") && (not (is_some (local_of s x)) && not (is_declared s x))

-- where an expression, in parentheses or not, is the name `free` of `<stdlib.h>`: the place of the name
abbrev pub free_place : Scope → ExprTree → Option Place
free_place s (tree.name_ p x) = if means_free s x then Some p else None
free_place s (tree.parenthesized p a) = free_place s a
free_place s e = None

-- what `free` at a place makes of a pointer of a type: it takes an `int *`, and a pointer to a struct whose fields are declared
abbrev pub freed_type : Scope → Place → Place → CType → Result Operand Refusal
freed_type s p q types.IntPointer = Ok (value p types.Void)
freed_type s p q (types.StructPointer n) = if_typed (has_fields s n) p (value p types.Void)
freed_type s p q t = Err (refused rules.Typing q)

-- a call of `free` at a place with one argument
abbrev pub freed : Scope → Place → Result Operand Refusal → Result Operand Refusal
freed s p (Err x) = Err x
freed s p (Ok o) = freed_type s p o.place o.ctype

-- the type of a field behind a type: that is a pointer to a struct, and the field is seen there
abbrev pub field_found : Place → Place → Option CType → Result Operand Refusal
field_found p q None = Err (refused rules.Name q)
field_found p q (Some t) = Ok (value p t)

-- the field of a name behind a type
abbrev pub field_behind : Scope → Place → Name → CType → Result Operand Refusal
field_behind s p n (types.StructPointer k) = field_found p n.place (field_of s k n.text n.place.file)
field_behind s p n t = Err (refused rules.Typing p)

-- an element of an array, of which the index is an integer other than a `bool`: `[` needs `<vf_arrays.h>`
abbrev pub element : Scope → Place → Place → Operand → Result Operand Refusal
element s p q i = if is_index i.ctype then (if s.has_arrays then Ok (value p (types.Integer integers.Int)) else Err (refused rules.Name q)) else Err (refused rules.Typing i.place)

-- an index at a `[` behind an operand: whether that is an `int *` is asked before the index is looked at
abbrev pub indexed : Scope → Place → Operand → Result Operand Refusal → Result Operand Refusal
indexed s q o (Err x) = if is_int_pointer o.ctype then Err x else Err (refused rules.Typing o.place)
indexed s q o (Ok i) = if is_int_pointer o.ctype then element s o.place q i else Err (refused rules.Typing o.place)

-- what is called: a function by its name, or what a pointer to functions points to
abbrev pub called : Scope → CType → Option Signature
called s (types.Function f) = signature_of s f
called s (types.FunctionPointer t) = function_type_of s t
called s t = None

-- how many arguments there are
abbrev pub count : ExprTrees → ℕ
count no_expr = 0
count (more_expr a xs) = count xs + 1

-- what a call gives whose arguments are taken
abbrev pub returned : Place → CType → Option Refusal → Result Operand Refusal
returned p t None = Ok (value p t)
returned p t (Some x) = Err x

-- the types of the parameters of what is called
abbrev pub parameters_of : Option Signature → List CType
parameters_of None = []
parameters_of (Some g) = g.parameters

-- a call at a place of what has a signature, with so many arguments, of which the last tells the first refusal: they are as many as the parameters
abbrev pub call : Place → Option Signature → ℕ → Option Refusal → Result Operand Refusal
call p None n r = Err (refused rules.Typing p)
call p (Some g) n r = if nat_eq (length g.parameters) n then returned p g.result r else Err (refused rules.Typing p)
