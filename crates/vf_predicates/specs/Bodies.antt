-- Bodies of predicates: assertions in which no words of contracts mean anything.
use Rattle.std.specs.Prelude.{ℕ, false, [], None, Ok, Err}
use Rattle.vf_base.specs.declared.refusal.Refusal.{Refusal}
use Rattle.vf_sorts.specs.Unknowns.{Known}
use Rattle.vf_declared.specs.declared.scope.Scope.{Scope}
use Rattle.vf_syntax.specs.AssertionTree.{PartTrees}
use Rattle.vf_sorting.specs.declared.context.Context.{Context}
use Rattle.vf_asserting.specs.Gives.{Gives}
use Rattle.vf_asserting.specs.IsRefused.{AnyPartFails}
use Rattle.vf_asserting.specs.Leaving.{left}
use Rattle.vf_walk.specs.Walking.{Walked}

-- around a body: none of `result`, `this` and `currentThread` may stand in it
abbrev pub around_body : Context
around_body = record { «result» = None; has_this = false; has_thread = false; own = None }

-- a body comes to what was declared before it, of which as many locals as a count says are left behind it, or to its refusal
pub data BodyComes (n : ℕ) (xs : PartTrees) (s : Scope) : Walked → Type 0 where
  given : {s' : Scope} {k : Known} → Gives around_body s [] xs s' k → BodyComes n xs s (Ok (left n s'))
  refused : {r : Refusal} → AnyPartFails around_body s [] xs r → BodyComes n xs s (Err r)
