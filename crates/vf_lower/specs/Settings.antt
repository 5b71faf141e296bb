-- Where an expression stands, and what is known of expressions there.
use Rattle.std.specs.Prelude.{ℕ, Bool, false, List, Option, Some, None, Result, Ok, Err, slice_get}
use Rattle.vf_base.specs.declared.int_type.IntType.{IntType}
use Rattle.vf_base.specs.declared.int_type.IntType.TheVariants as integers
use Rattle.vf_base.specs.declared.place.Place.{Place}
use Rattle.vf_base.specs.declared.refusal.Refusal.{Refusal}
use Rattle.vf_names.specs.Names.{number_of}
use Rattle.vf_declared.specs.declared.ctype.CType.{CType}
use Rattle.vf_declared.specs.declared.ctype.CType.TheVariants as types
use Rattle.vf_declared.specs.declared.declaration.Fields.{Fields}
use Rattle.vf_declared.specs.declared.declaration.Meaning.{Meaning}
use Rattle.vf_declared.specs.declared.declaration.Meaning.TheVariants as meanings
use Rattle.vf_declared.specs.declared.scope.Scope.{Scope}
use Rattle.vf_declared.specs.Scopes.{at_name, declaration_of, fields_in, tag_of}
use Rattle.vf_syntax.specs.declared.written.Name.{Name}
use Rattle.vf_syntax.specs.ExprTree.{ExprTree}
use Rattle.vf_syntax.specs.ExprTree as tree
use Rattle.vf_typing.specs.declared.operand.Operand.{Operand}
use Rattle.vf_typing.specs.Typed.{typed}
use Rattle.vf_steps.specs.declared.action.FieldNumber.{FieldNumber}
use Rattle.vf_steps.specs.Tree.{ValueTree}
use Rattle.vf_steps.specs.Tree as steps

-- where an expression stands: what is declared there; beside each visible local its number among the locals of the body; and the first token of the statement
pub record Setting : Type 0 where
  pub scope : Scope
  pub numbers : List ℕ
  pub statement : Place

-- the place of the first token of an expression
abbrev pub place_of : ExprTree → Place
place_of (tree.number p n i) = p
place_of (tree.character p b) = p
place_of (tree.true_ p) = p
place_of (tree.false_ p) = p
place_of (tree.name_ p x) = p
place_of (tree.parenthesized p a) = p
place_of (tree.malloc p g) = p
place_of (tree.malloc_ints p a q) = p
place_of (tree.postfix p a xs) = p
place_of (tree.unary p o a) = p
place_of (tree.cast p w a) = p
place_of (tree.chain p v a xs) = p
place_of (tree.conditional p a b d) = p

-- a type, and whether what has it is a `0`
pub record Kind : Type 0 where
  pub ctype : CType
  pub is_null : Bool

-- a kind of what is no `0`
abbrev pub plain : CType → Kind
plain t = record { ctype = t; is_null = false }

-- the kind that typing finds, and that of nothing where it finds none
abbrev pub kind_in : Result Operand Refusal → Kind
kind_in (Ok o) = record { ctype = o.ctype; is_null = o.is_null }
kind_in (Err x) = plain types.Void

-- the kind of an expression
abbrev pub kind : Setting → ExprTree → Kind
kind c e = kind_in (typed c.scope e)

-- the integer type that a type is, and `int` where it is none
abbrev pub integer_in : CType → IntType
integer_in (types.Integer i) = i
integer_in t = integers.Int

-- the number that there may be, and else 0
abbrev pub or_nought : Option ℕ → ℕ
or_nought None = 0
or_nought (Some n) = n

-- the number of the struct that a type points to
abbrev pub structure_in : CType → ℕ
structure_in (types.StructPointer n) = n
structure_in t = 0

-- the number of the struct of a tag
abbrev pub tag_number : Setting → Name → ℕ
tag_number c g = or_nought (tag_of c.scope g.text g.place.file)

-- the place of a field of a name among fields
abbrev pub index_in : Option Fields → List ℕ → ℕ
index_in None x = 0
index_in (Some fields) x = or_nought (number_of fields.names x)

-- the field of a name behind a type
abbrev pub field_number : Setting → CType → Name → FieldNumber
field_number c t g = record { structure = structure_in t; index = index_in (fields_in (slice_get c.scope.structures (structure_in t))) g.text }

-- what a name of file level is as a value
abbrev pub declared_value : Option Meaning → ValueTree
declared_value (Some (meanings.Function f)) = steps.function f
declared_value m = steps.null

-- what a name at a place is as a value: a local by its number, else a function
abbrev pub named_value : Setting → Place → List ℕ → Option ℕ → ValueTree
named_value c p x (Some n) = steps.read n p
named_value c p x None = declared_value (declaration_of c.scope x p.file)

-- the number that a local of a name has among the locals of the body
abbrev pub local_number : Setting → List ℕ → Option ℕ
local_number c x = at_name c.scope.locals.names c.numbers x

-- a name at a place as a value
abbrev pub named : Setting → Place → List ℕ → ValueTree
named c p x = named_value c p x (local_number c x)
