-- What is declared behind items, or their first refusal in the order of the text.
use Rattle.std.specs.Prelude.{ℕ, Bool, true, false, ◌&&◌, if◌then◌else◌, nat_eq, List, [], ◌∷◌, ◌++◌, length, codes, is_some, Option, Some, None, Result, Ok, Err, slice_get}
use Rattle.std.specs.Str.{bytes_eq}
use Rattle.vf_base.specs.declared.place.Place.{Place}
use Rattle.vf_base.specs.declared.refusal.Refusal.{Refusal}
use Rattle.vf_base.specs.declared.rule.Rule.TheVariants as rules
use Rattle.vf_names.specs.Names.{number_of}
use Rattle.vf_declared.specs.declared.ctype.CType.{CType}
use Rattle.vf_declared.specs.declared.ctype.CType.TheVariants as types
use Rattle.vf_declared.specs.declared.declaration.Fields.{Fields}
use Rattle.vf_declared.specs.declared.declaration.Meaning.TheVariants as meanings
use Rattle.vf_declared.specs.declared.declaration.Sides.{Sides}
use Rattle.vf_declared.specs.declared.declaration.Signature.{Signature}
use Rattle.vf_declared.specs.declared.locals.Local.{Local}
use Rattle.vf_declared.specs.declared.locals.Local.TheVariants as locals
use Rattle.vf_declared.specs.declared.locals.Locals.{Locals}
use Rattle.vf_declared.specs.declared.scope.Scope.{Scope}
use Rattle.vf_declared.specs.Writing.{with_body, with_fields, with_function, with_name, with_name_again, with_prototype, with_struct, with_struct_again}
use Rattle.vf_syntax.specs.declared.contract.Contract.{Contract}
use Rattle.vf_syntax.specs.declared.item.Body.{Body}
use Rattle.vf_syntax.specs.declared.item.Item.{Item}
use Rattle.vf_syntax.specs.declared.item.Item.TheVariants as items
use Rattle.vf_syntax.specs.declared.item.Parameters.{Parameters}
use Rattle.vf_syntax.specs.declared.item.Parameters.TheVariants as parameters
use Rattle.vf_syntax.specs.declared.item.Signature.{Signature as WrittenSignature}
use Rattle.vf_syntax.specs.declared.item.Typed.{Typed}
use Rattle.vf_syntax.specs.declared.written.Name.{Name}
use Rattle.vf_syntax.specs.declared.written.ResultType.{ResultType}
use Rattle.vf_syntax.specs.declared.written.ResultType.TheVariants as results
use Rattle.vf_syntax.specs.StmtTree.{stmt_list}
use Rattle.vf_typing.specs.Names.{written_type}
use Rattle.vf_typing.specs.Refusals.{refused}
use Rattle.vf_typing.specs.Types.{is_int}
use Rattle.vf_walk.specs.declared.annotations.Owner.{Owner}
use Rattle.vf_walk.specs.declared.function.Head.{Head}
use Rattle.vf_walk.specs.Meanings.{Meanings}
use Rattle.vf_walk.specs.Names.{earlier, has_types, is_new, may_be_stated}
use Rattle.vf_walk.specs.Statements.{variable, WalksStmts}
use Rattle.vf_walk.specs.Walking.{Walked, behind, Only, Optional, Then}

-- no locals
abbrev pub no_locals : Locals
no_locals = record { names = []; meanings = [] }

-- the same declarations, without locals
abbrev pub without_locals : Scope → Scope
without_locals s = record s { locals = no_locals }

-- the number of a struct that is declared, where it may be declared before
abbrev pub struct_number : Scope → Option ℕ → ℕ
struct_number s None = length s.structures
struct_number s (Some k) = k

-- a struct is declared, where it may be declared before
abbrev pub struct_found : Name → Bool → Option ℕ → Scope → Walked
struct_found n opaque None s = Ok (with_struct s n.text n.place.file opaque)
struct_found n opaque (Some k) s = if may_be_stated s n.place.file opaque (slice_get s.structures k) then Ok (with_struct_again s k n.place.file opaque) else Err (refused rules.Name n.place)

-- a struct is declared as opaque, or its fields are to follow
abbrev pub struct_ : Name → Bool → Scope → Walked
struct_ n opaque s = struct_found n opaque (number_of s.tags n.text) s

-- one more field of a type, which has another name than those before
abbrev pub with_field : Typed → CType → Fields → Result Fields Refusal
with_field x t fs = if is_some (number_of fs.names x.name.text) then Err (refused rules.Name x.name.place) else Ok (record fs { names = fs.names ++ x.name.text ∷ []; types = fs.types ++ t ∷ [] })

-- one more field
abbrev pub field_walked : Scope → Typed → Fields → Result Fields Refusal
field_walked s x fs = behind (λ t. with_field x t fs) (written_type s x.written)

-- more fields
abbrev pub fields_behind : Scope → List Typed → Fields → Result Fields Refusal
fields_behind s [] fs = Ok fs
fields_behind s (x ∷ xs) fs = behind (fields_behind s xs) (field_walked s x fs)

-- fields that begin in a file
abbrev pub no_fields : ℕ → Fields
no_fields file = record { file = file; names = []; types = [] }

-- the struct with a number has the fields that are found
abbrev pub with_found : ℕ → Scope → Fields → Walked
with_found k s fs = Ok (with_fields s k fs)

-- the fields of the struct with a number
abbrev pub fields_walked : Name → List Typed → ℕ → Scope → Walked
fields_walked n xs k s = behind (with_found k s) (fields_behind s xs (no_fields n.place.file))

-- a struct with its fields: it is declared before them, so that they may point to it
abbrev pub struct_walked : Name → List Typed → Scope → Walked
struct_walked n xs s = behind (fields_walked n xs (struct_number s (number_of s.tags n.text))) (struct_ n false s)

-- what a function gives
abbrev pub result_type : Scope → ResultType → Result CType Refusal
result_type s (results.Void p) = Ok types.Void
result_type s (results.Value t) = written_type s t

-- the parameters that are listed
abbrev pub listed : Parameters → List Typed
listed parameters.Void = []
listed (parameters.Listed xs) = xs

-- parameters are locals, each visible behind itself
abbrev pub parameters_walked : List Typed → Scope → Walked
parameters_walked [] s = Ok s
parameters_walked (x ∷ xs) s = behind (parameters_walked xs) (variable x.name x.written s)

-- the types of locals of C
abbrev pub real_types : List Local → List CType
real_types [] = []
real_types (locals.Real t ∷ ls) = t ∷ real_types ls
real_types (locals.Ghost g ∷ ls) = real_types ls

-- a function type or function gives a type, and takes the locals
abbrev pub signature_of : CType → Scope → Signature
signature_of t s = record { «result» = t; parameters = real_types s.locals.meanings }

-- the name of the function that a program begins with
abbrev pub is_main : List ℕ → Bool
is_main x = bytes_eq x (codes "main")

-- there are none
abbrev pub is_empty : List Typed → Bool
is_empty [] = true
is_empty (x ∷ xs) = false

-- `main` gives an int and takes nothing
abbrev pub main_is_right : CType → WrittenSignature → Bool
main_is_right t g = if is_main g.name.text then is_int t && is_empty (listed g.parameters) else true

-- what stands in front of the parameters of a function, where it is of an earlier one or of none
abbrev pub head_of : CType → WrittenSignature → Option ℕ → Result Head Refusal
head_of t g k = if main_is_right t g then Ok (record { given = t; earlier = k }) else Err (refused rules.Typing g.name.place)

-- the same of a function that gives a type
abbrev pub head_giving : Scope → WrittenSignature → Bool → CType → Result Head Refusal
head_giving s g body t = behind (head_of t g) (earlier s g.name body)

-- what stands in front of the parameters of a function: what it gives, and which function it is
abbrev pub head : Scope → WrittenSignature → Bool → Result Head Refusal
head s g body = behind (head_giving s g body) (result_type s g.«result»)

-- the number of a function that is declared
abbrev pub function_number : Scope → Option ℕ → ℕ
function_number s None = length s.functions
function_number s (Some k) = k

-- a name that is declared in one more file
abbrev pub again_in : ℕ → Option ℕ → Scope → Scope
again_in file None s = s
again_in file (Some k) s = with_name_again s k file

-- behind its parameters a function is declared: it is new, or has the types of the earlier one
abbrev pub declared_as : Name → CType → Option ℕ → Scope → Walked
declared_as n t None s = Ok (with_function s n.text n.place.file (signature_of t s))
declared_as n t (Some k) s = if has_types t (real_types s.locals.meanings) (slice_get s.functions k) then Ok (again_in n.place.file (number_of s.names n.text) s) else Err (refused rules.Name n.place)

-- the parameters of a function, and its declaration behind them
abbrev pub signature_walked : WrittenSignature → Head → Scope → Walked
signature_walked g h s = behind (declared_as g.name h.given h.earlier) (parameters_walked (listed g.parameters) s)

-- whose contract it is
abbrev pub owner : WrittenSignature → CType → Bool → Owner
owner g t of_type = record { file = g.name.place.file; given = t; is_type = of_type }

-- the locals behind a prototype are kept with it
abbrev pub kept : ℕ → Scope → Walked
kept k s = Ok (without_locals (with_prototype s k s.locals))

-- a prototype, by what it gives and the function that it is of
abbrev pub WalksPrototypeOf : Meanings → WrittenSignature → Option Contract → Scope → Head → Walked → Type 0
WalksPrototypeOf m g c s h = Then (Then (Only (signature_walked g h s)) (Optional (m.contract (owner g h.given false)) c)) (λ t. Only (kept (function_number s h.earlier) t))

-- a prototype
abbrev pub WalksPrototype : Meanings → WrittenSignature → Option Contract → Scope → Walked → Type 0
WalksPrototype m g c s = Then (Only (head s g false)) (WalksPrototypeOf m g c s)

-- the first of some parameters whose name is not the one that it has in the prototype
abbrev pub first_renamed : List (List ℕ) → List Typed → Option Place
first_renamed (x ∷ xs) (p ∷ ps) = if bytes_eq x p.name.text then first_renamed xs ps else Some p.name.place
first_renamed xs ps = None

-- the locals of a prototype, unless a parameter has another name there
abbrev pub taken_unless : Locals → Option Place → Scope → Walked
taken_unless l None s = Ok (record s { locals = l })
taken_unless l (Some p) s = Err (refused rules.Name p)

-- a definition without a contract has that of its prototype, with the same names
abbrev pub taken_from : List Typed → Option Locals → Scope → Walked
taken_from ps None s = Ok s
taken_from ps (Some l) s = taken_unless l (first_renamed l.names ps) s

-- the locals behind the prototype among sides, if there is one
abbrev pub prototype_in : Option Sides → Option Locals
prototype_in None = None
prototype_in (Some x) = x.prototype

-- a definition without a contract has that of its prototype, where such contracts are taken
abbrev pub taken_where : Bool → List Typed → Option Locals → Scope → Walked
taken_where true ps l s = taken_from ps l s
taken_where false ps l s = Ok s

-- the contract of the definition of the function with a number, or that of its prototype
abbrev pub WalksContract : Meanings → WrittenSignature → CType → ℕ → Option Contract → Scope → Walked → Type 0
WalksContract m g t k None s = Only (taken_where m.takes (listed g.parameters) (prototype_in (slice_get s.sides k)) s)
WalksContract m g t k (Some c) s = m.contract (owner g t false) c s

-- the body of a function that may have one or not
abbrev pub WalksBodyIf : Bool → Meanings → CType → Body → Scope → Walked → Type 0
WalksBodyIf true m t b s = WalksStmts m t (stmt_list b.statements) s
WalksBodyIf false m t b s = Only (Err (refused rules.Unsupported b.place))

-- the body of a function: none stands in a header
abbrev pub WalksBody : Meanings → Name → CType → Body → Scope → Walked → Type 0
WalksBody m n t b s = WalksBodyIf (nat_eq n.place.file s.file) m t b s

-- the function with a number has a body
abbrev pub defined : ℕ → Scope → Walked
defined k s = Ok (with_body s k)

-- the declaration of a function with a body, in front of its contract
abbrev pub defined_walked : WrittenSignature → Head → Scope → Walked
defined_walked g h s = behind (defined (function_number s h.earlier)) (signature_walked g h s)

-- behind an item no locals are left
abbrev pub cleared : Scope → Walked
cleared s = Ok (without_locals s)

-- a function with its body, by what it gives and the function that it is of
abbrev pub WalksDefinitionOf : Meanings → WrittenSignature → Option Contract → Body → Scope → Head → Walked → Type 0
WalksDefinitionOf m g c b s h = Then (Then (Then (Only (defined_walked g h s)) (WalksContract m g h.given (function_number s h.earlier) c)) (WalksBody m g.name h.given b)) (λ t. Only (cleared t))

-- a function with its body
abbrev pub WalksDefinition : Meanings → WrittenSignature → Option Contract → Body → Scope → Walked → Type 0
WalksDefinition m g c b s = Then (Only (head s g true)) (WalksDefinitionOf m g c b s)

-- a function type is declared by its name, so that its own parameters may have it
abbrev pub type_named : Name → Scope → Walked
type_named n s = if is_new s n.text then Ok (with_name s n.text (meanings.FunctionType (length s.function_types)) n.place.file) else Err (refused rules.Name n.place)

-- it has the types of the locals
abbrev pub type_signed : CType → Scope → Walked
type_signed t s = Ok (record s { function_types = s.function_types ++ signature_of t s ∷ [] })

-- the name and the parameters of a function type that gives a type
abbrev pub type_declared : WrittenSignature → CType → Scope → Walked
type_declared g t s = behind (type_signed t) (behind (parameters_walked (listed g.parameters)) (type_named g.name s))

-- a function type that gives a type
abbrev pub WalksTypeOf : Meanings → WrittenSignature → Option Contract → Scope → CType → Walked → Type 0
WalksTypeOf m g c s t = Then (Then (Only (type_declared g t s)) (Optional (m.contract (owner g t true)) c)) (λ u. Only (cleared u))

-- a function type
abbrev pub WalksType : Meanings → WrittenSignature → Option Contract → Scope → Walked → Type 0
WalksType m g c s = Then (Only (result_type s g.«result»)) (WalksTypeOf m g c s)

-- the walk over an item comes to what is declared behind it or to its refusal
abbrev pub WalksItem : Meanings → Item → Scope → Walked → Type 0
WalksItem m (items.Opaque p n) s = Only (struct_ n true s)
WalksItem m (items.Struct p n xs) s = Only (struct_walked n xs s)
WalksItem m (items.FunctionType p g c) s = WalksType m g c s
WalksItem m (items.Prototype g k c) s = WalksPrototype m g c s
WalksItem m (items.Function g k c b) s = WalksDefinition m g c b s
WalksItem m (items.Ghost g) s = m.item g s

-- the same of some items, one after another
abbrev pub WalksItems : Meanings → List Item → Scope → Walked → Type 0
WalksItems m [] s = Only (Ok s)
WalksItems m (x ∷ xs) s = Then (WalksItem m x s) (WalksItems m xs)
