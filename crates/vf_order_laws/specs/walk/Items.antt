-- What items come to, as functions: what is declared behind them, or the first refusal.
use Rattle.std.specs.Prelude.{ℕ, Bool, true, false, nat_eq, List, [], ◌∷◌, Option, Some, None, Ok, Err, slice_get}
use Rattle.vf_base.specs.declared.rule.Rule.TheVariants as rules
use Rattle.vf_declared.specs.declared.ctype.CType.{CType}
use Rattle.vf_declared.specs.declared.scope.Scope.{Scope}
use Rattle.vf_syntax.specs.declared.contract.Contract.{Contract}
use Rattle.vf_syntax.specs.declared.item.Body.{Body}
use Rattle.vf_syntax.specs.declared.item.Item.{Item}
use Rattle.vf_syntax.specs.declared.item.Item.TheVariants as items
use Rattle.vf_syntax.specs.declared.item.Signature.{Signature}
use Rattle.vf_syntax.specs.declared.written.Name.{Name}
use Rattle.vf_syntax.specs.StmtTree.{stmt_list}
use Rattle.vf_typing.specs.Refusals.{refused}
use Rattle.vf_walk.specs.declared.function.Head.{Head}
use Rattle.vf_walk.specs.Items.{cleared, defined_walked, function_number, head, kept, listed, owner, prototype_in, result_type, signature_walked, struct_, struct_walked, taken_where, type_declared}
use Rattle.vf_walk.specs.Walking.{Walked, optional}
use Rattle.vf_order_laws.specs.walk.Following.{after}
use Rattle.vf_order_laws.specs.walk.Statements.{stmts_of}
use Rattle.vf_order_laws.specs.walk.Walks.{Walks}

-- a prototype, by what it gives and the function that it is of
abbrev pub prototype_at : Walks → Signature → Option Contract → Scope → Head → Walked
prototype_at f g c s h = after (kept (function_number s h.earlier)) (after (optional (f.contract (owner g h.given false)) c) (signature_walked g h s))

-- a prototype
abbrev pub prototype_of : Walks → Signature → Option Contract → Scope → Walked
prototype_of f g c s = after (prototype_at f g c s) (head s g false)

-- the contract of the definition of the function with a number, or that of its prototype
abbrev pub contract_at : Walks → Signature → CType → ℕ → Option Contract → Scope → Walked
contract_at f g t k None s = taken_where f.takes (listed g.parameters) (prototype_in (slice_get s.sides k)) s
contract_at f g t k (Some c) s = f.contract (owner g t false) c s

-- the body of a function that may have one or not
abbrev pub body_if : Bool → Walks → CType → Body → Scope → Walked
body_if true f t b s = stmts_of f t (stmt_list b.statements) s
body_if false f t b s = Err (refused rules.Unsupported b.place)

-- the body of a function: none stands in a header
abbrev pub body_at : Walks → Name → CType → Body → Scope → Walked
body_at f n t b s = body_if (nat_eq n.place.file s.file) f t b s

-- a function with its body, by what it gives and the function that it is of
abbrev pub definition_at : Walks → Signature → Option Contract → Body → Scope → Head → Walked
definition_at f g c b s h = after cleared (after (body_at f g.name h.given b) (after (contract_at f g h.given (function_number s h.earlier) c) (defined_walked g h s)))

-- a function with its body
abbrev pub definition_of : Walks → Signature → Option Contract → Body → Scope → Walked
definition_of f g c b s = after (definition_at f g c b s) (head s g true)

-- a function type that gives a type
abbrev pub type_at : Walks → Signature → Option Contract → Scope → CType → Walked
type_at f g c s t = after cleared (after (optional (f.contract (owner g t true)) c) (type_declared g t s))

-- a function type
abbrev pub type_of : Walks → Signature → Option Contract → Scope → Walked
type_of f g c s = after (type_at f g c s) (result_type s g.«result»)

-- an item
abbrev pub item_of : Walks → Item → Scope → Walked
item_of f (items.Opaque p n) s = struct_ n true s
item_of f (items.Struct p n xs) s = struct_walked n xs s
item_of f (items.FunctionType p g c) s = type_of f g c s
item_of f (items.Prototype g k c) s = prototype_of f g c s
item_of f (items.Function g k c b) s = definition_of f g c b s
item_of f (items.Ghost g) s = f.item g s

-- some items, one after another
abbrev pub items_of : Walks → List Item → Scope → Walked
items_of f [] s = Ok s
items_of f (x ∷ xs) s = after (items_of f xs) (item_of f x s)
