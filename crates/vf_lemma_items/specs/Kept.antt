-- What is kept of a lemma that is declared without a body, and what a body without a contract takes of it.
use Rattle.std.specs.Prelude.{ℕ, if◌then◌else◌, List, ◌∷◌, ◌++◌, length, drop, Option, Some, None, Ok, Err}
use Rattle.std.specs.Str.{bytes_eq}
use Rattle.vf_base.specs.declared.place.Place.{Place}
use Rattle.vf_base.specs.declared.rule.Rule.TheVariants as rules
use Rattle.vf_declared.specs.Beginning.{no_locals}
use Rattle.vf_declared.specs.Writing.{with_ghost_prototype}
use Rattle.vf_declared.specs.declared.declaration.GhostSides.{GhostSides}
use Rattle.vf_declared.specs.declared.locals.Locals.{Locals}
use Rattle.vf_declared.specs.declared.scope.Scope.{Scope}
use Rattle.vf_syntax.specs.declared.item.GhostParameter.{GhostParameter}
use Rattle.vf_sorting.specs.Refusals.{refused}
use Rattle.vf_asserting.specs.Leaving.{left}
use Rattle.vf_walk.specs.Walking.{Walked}

-- some locals, and behind them others from an index on
abbrev pub with_rest : Locals → Locals → ℕ → Locals
with_rest l m n = record { names = l.names ++ drop n m.names; meanings = l.meanings ++ drop n m.meanings }

-- a lemma with a number is declared without a body: the locals from an index on, which are its parameters and the names of its precondition, are kept with it and gone behind it
abbrev pub kept : ℕ → ℕ → Scope → Scope
kept n k s = with_ghost_prototype (left n s) k (with_rest no_locals s.locals n)

-- the locals that were kept, if any
abbrev pub kept_in : Option GhostSides → Option Locals
kept_in None = None
kept_in (Some x) = x.prototype

-- the first of some parameters whose name is not the one among names that stands there
abbrev pub first_renamed : List (List ℕ) → List GhostParameter → Option Place
first_renamed (x ∷ xs) (g ∷ gs) = if bytes_eq x g.name.text then first_renamed xs gs else Some g.name.place
first_renamed xs gs = None

-- behind parameters the names of the precondition that were kept are visible, unless a parameter has another name there
abbrev pub taken_unless : List GhostParameter → Locals → Option Place → Scope → Walked
taken_unless gs l None s = Ok (record s { locals = with_rest s.locals l (length gs) })
taken_unless gs l (Some p) s = Err (refused rules.Name p)

-- a body without a contract has that of the declaration without a body, with the same names, if there is one
abbrev pub taken_from : List GhostParameter → Option Locals → Scope → Walked
taken_from gs None s = Ok s
taken_from gs (Some l) s = taken_unless gs l (first_renamed l.names gs) s
