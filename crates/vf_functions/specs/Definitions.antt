-- What a function with its body becomes in steps.
use Rattle.std.specs.Prelude.{ℕ, List, [], ◌∷◌, Option}
use Rattle.vf_base.specs.declared.place.Place.{Place}
use Rattle.vf_declared.specs.declared.ctype.CType.{CType}
use Rattle.vf_declared.specs.declared.ctype.CType.TheVariants as types
use Rattle.vf_declared.specs.declared.scope.Scope.{Scope}
use Rattle.vf_syntax.specs.declared.contract.Contract.{Contract}
use Rattle.vf_syntax.specs.declared.item.Body.{Body}
use Rattle.vf_syntax.specs.declared.item.Signature.{Signature as WrittenSignature}
use Rattle.vf_syntax.specs.declared.item.Typed.{Typed}
use Rattle.vf_syntax.specs.declared.written.Name.{Name}
use Rattle.vf_syntax.specs.declared.written.ResultType.{ResultType}
use Rattle.vf_syntax.specs.declared.written.ResultType.TheVariants as results
use Rattle.vf_syntax.specs.StmtTree.{stmt_list}
use Rattle.vf_typing.specs.Names.{written_type}
use Rattle.vf_walk.specs.Items.{is_main, listed}
use Rattle.vf_steps.specs.Tree.{NodeTree}
use Rattle.vf_lower.specs.Lowering.{Lowered, Lowering, gives, ◌⨾◌, taken}
use Rattle.vf_lower.specs.Settings.{Setting}
use Rattle.vf_lower.specs.Statements.{body, type_in, with_variable}

-- a parameter of a type is a local that has a value: the setting behind it
abbrev pub variable : Setting → List ℕ → CType → Lowering Setting
variable c x t = taken t ⨾ λ k. gives (with_variable c x t k)

-- a parameter
abbrev pub parameter : Setting → Typed → Lowering Setting
parameter c x = variable c x.name.text (type_in (written_type c.scope x.written))

-- parameters in order
abbrev pub parameters : Setting → List Typed → Lowering Setting
parameters c [] = gives c
parameters c (x ∷ xs) = parameter c x ⨾ λ d. parameters d xs

-- the type of what a function gives
abbrev pub given : Scope → ResultType → CType
given s (results.Void p) = types.Void
given s (results.Value t) = type_in (written_type s t)

-- a function with its body: its parameters are the first locals
abbrev pub function_lowered : Setting → WrittenSignature → Body → Lowering (Unit {0})
function_lowered c g b = parameters c (listed g.parameters) ⨾ λ d. body d (given c.scope g.«result») (is_main g.name.text) (stmt_list b.statements) b.last

-- a setting where these things are declared, and no locals that have numbers
abbrev pub outside : Scope → Place → Setting
outside s p = record { scope = s; numbers = []; statement = p }

-- a function with its body in steps: its name; its contract, where it has one of its own; the types of its locals, the parameters first; its nodes; and the place of the closing brace
pub record CoreTree : Type 0 where
  pub name : Name
  pub contract : Option Contract
  pub locals : List CType
  pub nodes : List NodeTree
  pub closing : Place

-- a function by what its body becomes
abbrev pub core_by : WrittenSignature → Option Contract → Body → Lowered (Unit {0}) → CoreTree
core_by g c b l = record { name = g.name; contract = c; locals = l.locals; nodes = l.nodes; closing = b.last }

-- a function with its body in steps, where these things are declared
abbrev pub core_of : Scope → WrittenSignature → Option Contract → Body → CoreTree
core_of s g c b = core_by g c b (function_lowered (outside s g.name.place) g b 0)
