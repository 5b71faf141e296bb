-- What C text sees does not hang on what annotations declare.
use Rattle.std.proofs.Common.{◌≡◌, ℕ, Bool, ◌||◌, ◌&&◌, not, if◌then◌else◌, List, [], ◌∷◌, Option, Some, None, Result, Ok, Err, slice_get, refl, ap, ◌∙◌}
use Rattle.vf_base.specs.declared.place.Place.{Place}
use Rattle.vf_base.specs.declared.refusal.Refusal.{Refusal}
use Rattle.vf_base.specs.declared.rule.Rule.TheVariants as rules
use Rattle.vf_names.specs.Names.{number_of}
use Rattle.vf_sorts.specs.Sorts.{Sort}
use Rattle.vf_declared.specs.declared.ctype.CType.{CType}
use Rattle.vf_declared.specs.declared.ctype.CType.TheVariants as types
use Rattle.vf_declared.specs.declared.declaration.Datatype.{Datatype}
use Rattle.vf_declared.specs.declared.declaration.Declaration.{Declaration}
use Rattle.vf_declared.specs.declared.declaration.Fields.{Fields}
use Rattle.vf_declared.specs.declared.declaration.GhostDeclaration.{GhostDeclaration}
use Rattle.vf_declared.specs.declared.declaration.GhostSides.{GhostSides}
use Rattle.vf_declared.specs.declared.declaration.Sides.{Sides}
use Rattle.vf_declared.specs.declared.declaration.Structure.{Structure}
use Rattle.vf_declared.specs.declared.locals.Locals.{Locals}
use Rattle.vf_declared.specs.declared.scope.Scope.{Scope}
use Rattle.vf_declared.specs.Scopes.{at_name, declaration_of, declared_in, field_in, field_of, fields_in, is_visible, sees, tag_of, visible_number, visible_tag}
use Rattle.vf_syntax.specs.declared.operator.BinaryOperator.{BinaryOperator}
use Rattle.vf_syntax.specs.declared.operator.BinaryOperator.TheVariants as operators
use Rattle.vf_syntax.specs.declared.written.Name.{Name}
use Rattle.vf_typing.specs.declared.operand.Operand.{Operand}
use Rattle.vf_typing.specs.Operands.{assigned_refusal, chosen, comparable, if_typed, joined, linked, passes, takes_function, takes_left, takes_pointer, takes_right, value}
use Rattle.vf_typing.specs.Parts.{allocated, called, field_behind, field_found, freed_type, struct_memory}
use Rattle.vf_typing.specs.Refusals.{refused}
use Rattle.vf_typing.specs.Types.{choice_type, is_void, result_type}

-- what of a scope may be another where C text is to see the same
pub record Names : Type 0 where
  pub locals : Locals
  pub names : List (List ℕ)
  pub declarations : List Declaration
  pub predicates : List (List ℕ)
  pub predicate_files : List (List ℕ)
  pub predicate_sorts : List (List Sort)
  pub sides : List Sides
  pub ghosts : List GhostDeclaration
  pub ghost_sides : List GhostSides
  pub datatypes : List Datatype

-- a scope with these names
abbrev pub with_names : Scope → Names → Scope
with_names s v = record s { locals = v.locals; names = v.names; declarations = v.declarations; predicates = v.predicates; predicate_files = v.predicate_files; predicate_sorts = v.predicate_sorts; sides = v.sides; ghosts = v.ghosts; ghost_sides = v.ghost_sides; datatypes = v.datatypes }

-- what is seen from a file
pub visible_same : (s : Scope) (v : Names) (from : ℕ) (files : List ℕ) → is_visible (with_names s v) from files ≡ is_visible s from files
visible_same s v from [] = refl
visible_same s v from (file ∷ files) = ap (λ b. sees s from file || b) (visible_same s v from files)

number_same : (s : Scope) (v : Names) (from n : ℕ) (x : Option Structure) → visible_number (with_names s v) from n x ≡ visible_number s from n x
number_same s v from n None = refl
number_same s v from n (Some x) = ap (λ b. if b then Some n else None) (visible_same s v from x.files)

visible_tag_same : (s : Scope) (v : Names) (from : ℕ) (o : Option ℕ) → visible_tag (with_names s v) from o ≡ visible_tag s from o
visible_tag_same s v from None = refl
visible_tag_same s v from (Some n) = number_same s v from n (slice_get s.structures n)

pub tag_same : (s : Scope) (v : Names) (x : List ℕ) (from : ℕ) → tag_of (with_names s v) x from ≡ tag_of s x from
tag_same s v x from = visible_tag_same s v from (number_of s.tags x)

field_in_same : (s : Scope) (v : Names) (from : ℕ) (x : List ℕ) (o : Option Fields) → field_in (with_names s v) from x o ≡ field_in s from x o
field_in_same s v from x None = refl
field_in_same s v from x (Some fields) = refl

pub field_same : (s : Scope) (v : Names) (n : ℕ) (x : List ℕ) (from : ℕ) → field_of (with_names s v) n x from ≡ field_of s n x from
field_same s v n x from = field_in_same s v from x (fields_in (slice_get s.structures n))

-- which pointers and functions pass for which
function_same : (s : Scope) (v : Names) (t : CType) (f : ℕ) → takes_function (with_names s v) t f ≡ takes_function s t f
function_same s v types.Void h = refl
function_same s v (types.Integer i) h = refl
function_same s v types.VoidPointer h = refl
function_same s v types.IntPointer h = refl
function_same s v (types.StructPointer n) h = refl
function_same s v (types.FunctionPointer n) h = refl
function_same s v (types.Function f) h = refl

pointer_same : (s : Scope) (v : Names) (t u : CType) → takes_pointer (with_names s v) t u ≡ takes_pointer s t u
pointer_same s v t types.Void = refl
pointer_same s v t (types.Integer j) = refl
pointer_same s v t types.VoidPointer = refl
pointer_same s v t types.IntPointer = refl
pointer_same s v t (types.StructPointer m) = refl
pointer_same s v t (types.FunctionPointer m) = refl
pointer_same s v t (types.Function g) = function_same s v t g

passes_same : (s : Scope) (v : Names) (t : CType) (z : Bool) (u : CType) → passes (with_names s v) t z u ≡ passes s t z u
passes_same s v types.Void z u = refl
passes_same s v (types.Integer i) z u = refl
passes_same s v types.VoidPointer z u = ap (λ b. z || b) (pointer_same s v types.VoidPointer u)
passes_same s v types.IntPointer z u = ap (λ b. z || b) (pointer_same s v types.IntPointer u)
passes_same s v (types.StructPointer n) z u = ap (λ b. z || b) (pointer_same s v (types.StructPointer n) u)
passes_same s v (types.FunctionPointer n) z u = ap (λ b. z || b) (pointer_same s v (types.FunctionPointer n) u)
passes_same s v (types.Function f) z u = refl

comparable_same : (s : Scope) (v : Names) (y : Bool) (t : CType) (z : Bool) (u : CType) → comparable (with_names s v) y t z u ≡ comparable s y t z u
comparable_same s v y types.Void z types.Void = refl
comparable_same s v y types.Void z (types.Integer j) = refl
comparable_same s v y types.Void z types.VoidPointer = refl
comparable_same s v y types.Void z types.IntPointer = refl
comparable_same s v y types.Void z (types.StructPointer m) = refl
comparable_same s v y types.Void z (types.FunctionPointer m) = refl
comparable_same s v y types.Void z (types.Function g) = function_same s v types.Void g
comparable_same s v y (types.Integer i) z types.Void = refl
comparable_same s v y (types.Integer i) z (types.Integer j) = refl
comparable_same s v y (types.Integer i) z types.VoidPointer = refl
comparable_same s v y (types.Integer i) z types.IntPointer = refl
comparable_same s v y (types.Integer i) z (types.StructPointer m) = refl
comparable_same s v y (types.Integer i) z (types.FunctionPointer m) = refl
comparable_same s v y (types.Integer i) z (types.Function g) = refl
comparable_same s v y types.VoidPointer z types.Void = refl
comparable_same s v y types.VoidPointer z (types.Integer j) = refl
comparable_same s v y types.VoidPointer z types.VoidPointer = refl
comparable_same s v y types.VoidPointer z types.IntPointer = refl
comparable_same s v y types.VoidPointer z (types.StructPointer m) = refl
comparable_same s v y types.VoidPointer z (types.FunctionPointer m) = refl
comparable_same s v y types.VoidPointer z (types.Function g) = function_same s v types.VoidPointer g
comparable_same s v y types.IntPointer z types.Void = refl
comparable_same s v y types.IntPointer z (types.Integer j) = refl
comparable_same s v y types.IntPointer z types.VoidPointer = refl
comparable_same s v y types.IntPointer z types.IntPointer = refl
comparable_same s v y types.IntPointer z (types.StructPointer m) = refl
comparable_same s v y types.IntPointer z (types.FunctionPointer m) = refl
comparable_same s v y types.IntPointer z (types.Function g) = function_same s v types.IntPointer g
comparable_same s v y (types.StructPointer n) z types.Void = refl
comparable_same s v y (types.StructPointer n) z (types.Integer j) = refl
comparable_same s v y (types.StructPointer n) z types.VoidPointer = refl
comparable_same s v y (types.StructPointer n) z types.IntPointer = refl
comparable_same s v y (types.StructPointer n) z (types.StructPointer m) = refl
comparable_same s v y (types.StructPointer n) z (types.FunctionPointer m) = refl
comparable_same s v y (types.StructPointer n) z (types.Function g) = function_same s v (types.StructPointer n) g
comparable_same s v y (types.FunctionPointer n) z types.Void = refl
comparable_same s v y (types.FunctionPointer n) z (types.Integer j) = refl
comparable_same s v y (types.FunctionPointer n) z types.VoidPointer = refl
comparable_same s v y (types.FunctionPointer n) z types.IntPointer = refl
comparable_same s v y (types.FunctionPointer n) z (types.StructPointer m) = refl
comparable_same s v y (types.FunctionPointer n) z (types.FunctionPointer m) = refl
comparable_same s v y (types.FunctionPointer n) z (types.Function g) = function_same s v (types.FunctionPointer n) g
comparable_same s v y (types.Function f) z types.Void = function_same s v types.Void f
comparable_same s v y (types.Function f) z (types.Integer j) = refl
comparable_same s v y (types.Function f) z types.VoidPointer = function_same s v types.VoidPointer f
comparable_same s v y (types.Function f) z types.IntPointer = function_same s v types.IntPointer f
comparable_same s v y (types.Function f) z (types.StructPointer m) = function_same s v (types.StructPointer m) f
comparable_same s v y (types.Function f) z (types.FunctionPointer m) = function_same s v (types.FunctionPointer m) f
comparable_same s v y (types.Function f) z (types.Function g) = refl

right_same : (s : Scope) (v : Names) (o : BinaryOperator) (y : Bool) (t : CType) (z : Bool) (u : CType) → takes_right (with_names s v) o y t z u ≡ takes_right s o y t z u
right_same s v operators.Times y t z u = refl
right_same s v operators.Divide y t z u = refl
right_same s v operators.Remainder y t z u = refl
right_same s v operators.Plus y t z u = refl
right_same s v operators.Minus y t z u = refl
right_same s v operators.Less y t z u = refl
right_same s v operators.LessOrEqual y t z u = refl
right_same s v operators.Greater y t z u = refl
right_same s v operators.GreaterOrEqual y t z u = refl
right_same s v operators.Equal y t z u = ap (λ b. not (is_void u) && b) (comparable_same s v y t z u)
right_same s v operators.NotEqual y t z u = ap (λ b. not (is_void u) && b) (comparable_same s v y t z u)
right_same s v operators.And y t z u = refl
right_same s v operators.Or y t z u = refl

joined_same : (s : Scope) (v : Names) (o : BinaryOperator) (l r : Operand) → joined (with_names s v) o l r ≡ joined s o l r
joined_same s v o l r = ap (λ b. if_typed b r.place (value l.place (result_type o l.ctype r.ctype))) (right_same s v o l.is_null l.ctype r.is_null r.ctype)

pub linked_same : (s : Scope) (v : Names) (o : BinaryOperator) (l r : Operand) → linked (with_names s v) o l (Ok r) ≡ linked s o l (Ok r)
linked_same s v o l r = ap (λ j. if takes_left o l.ctype then j else Err (refused rules.Typing l.place)) (joined_same s v o l r)

pub chosen_same : (s : Scope) (v : Names) (p : Place) (y n : Operand) → chosen (with_names s v) p y n ≡ chosen s p y n
chosen_same s v p y n = ap (λ b. if_typed b n.place (value p (choice_type y.ctype n.ctype))) (comparable_same s v y.is_null y.ctype n.is_null n.ctype)

pub assigned_same : (s : Scope) (v : Names) (t : CType) (r : Result Operand Refusal) → assigned_refusal (with_names s v) t r ≡ assigned_refusal s t r
assigned_same s v t (Err x) = refl
assigned_same s v t (Ok o) = ap (λ b. if b then None else Some (refused rules.Typing o.place)) (passes_same s v t o.is_null o.ctype)

-- what is called
pub called_same : (s : Scope) (v : Names) (t : CType) → called (with_names s v) t ≡ called s t
called_same s v types.Void = refl
called_same s v (types.Integer i) = refl
called_same s v types.VoidPointer = refl
called_same s v types.IntPointer = refl
called_same s v (types.StructPointer n) = refl
called_same s v (types.FunctionPointer n) = refl
called_same s v (types.Function f) = refl

-- memory and fields
pub freed_same : (s : Scope) (v : Names) (p q : Place) (t : CType) → freed_type (with_names s v) p q t ≡ freed_type s p q t
freed_same s v p q types.Void = refl
freed_same s v p q (types.Integer i) = refl
freed_same s v p q types.VoidPointer = refl
freed_same s v p q types.IntPointer = refl
freed_same s v p q (types.StructPointer n) = refl
freed_same s v p q (types.FunctionPointer n) = refl
freed_same s v p q (types.Function f) = refl

struct_same : (s : Scope) (v : Names) (p q : Place) (o : Option ℕ) → struct_memory (with_names s v) p q o ≡ struct_memory s p q o
struct_same s v p q None = refl
struct_same s v p q (Some n) = refl

pub allocated_same : (s : Scope) (v : Names) (p : Place) (n : Name) → allocated (with_names s v) p n ≡ allocated s p n
allocated_same s v p n = ap (λ r. if s.has_stdlib then r else Err (refused rules.Name p)) (struct_same s v p n.place (tag_of (with_names s v) n.text n.place.file) ∙ ap (struct_memory s p n.place) (tag_same s v n.text n.place.file))

pub behind_same : (s : Scope) (v : Names) (p : Place) (n : Name) (t : CType) → field_behind (with_names s v) p n t ≡ field_behind s p n t
behind_same s v p g types.Void = refl
behind_same s v p g (types.Integer i) = refl
behind_same s v p g types.VoidPointer = refl
behind_same s v p g types.IntPointer = refl
behind_same s v p g (types.StructPointer n) = ap (field_found p g.place) (field_same s v n g.text g.place.file)
behind_same s v p g (types.FunctionPointer n) = refl
behind_same s v p g (types.Function f) = refl

-- what a name of file level means does not hang on the locals
pub meaning_same : (s : Scope) (l : Locals) (x : List ℕ) (f : ℕ) → declaration_of (record s { locals = l }) x f ≡ declaration_of s x f
meaning_same s l x f = by_declaration (at_name s.names s.declarations x)
  where
    by_declaration : (o : Option Declaration) → declared_in (record s { locals = l }) f o ≡ declared_in s f o
    by_declaration None = refl
    by_declaration (Some d) = ap (λ b. if b then Some d.meaning else None) (visible_same s (record { locals = l; names = s.names; declarations = s.declarations; predicates = s.predicates; predicate_files = s.predicate_files; predicate_sorts = s.predicate_sorts; sides = s.sides; ghosts = s.ghosts; ghost_sides = s.ghost_sides; datatypes = s.datatypes }) f d.files)
