-- What stands around annotations, and what is declared and numbered at a place of one.
use Rattle.std.specs.Prelude.{ℕ, suc, List, [], ◌∷◌, ◌++◌, length, take}
use Rattle.vf_closure.specs.Terms.{Term}
use Rattle.vf_sorts.specs.Sorts.{Sort}
use Rattle.vf_sorts.specs.Unknowns.{Known, filled, settling}
use Rattle.vf_declared.specs.declared.scope.Scope.{Scope}
use Rattle.vf_sorting.specs.declared.context.Context.{Context}
use Rattle.vf_binding.specs.declared.bound.Bound.{Bound}
use Rattle.vf_binding.specs.Bound.{with_names}
use Rattle.vf_asserting.specs.Leaving.{left}
use Rattle.vf_terms.specs.Settings.{Setting}
use Rattle.vf_resolved.specs.declared.pattern.Slot.{Slot}
use Rattle.vf_resolved_parts.specs.Names.{slot_for, symbol_for}
use Rattle.vf_resolved_parts.specs.declared.progress.Progress.{Progress}
use Rattle.vf_resolving.specs.declared.standing.Around as code
use Rattle.vf_resolving.specs.declared.standing.Standing as code_standing

-- The words that may stand in an annotation, and in whose text; what is known of unknown sorts when all of them are sorted; the paths of files, by their numbers; and the terms of the result, of `this` and of the current thread
pub record Around : Type 0 where
  pub context : Context
  pub known : Known
  pub paths : List (List ℕ)
  pub result : Term
  pub this_value : Term
  pub thread : Term

-- What is declared; the terms of the locals, in their order; the sorts of all names so far, in the order of their numbers; and the first number of unknown sorts that is not used yet
pub record Standing : Type 0 where
  pub scope : Scope
  pub terms : List Term
  pub sorts : List Sort
  pub next : ℕ

-- the same as the code has them
abbrev pub around_of : code.Around → Around
around_of a = record {
  context = a.context.now;
  known = a.unknowns.now;
  paths = a.paths.now;
  «result» = a.result.now;
  this_value = a.this_value.now;
  thread = a.thread.now;
}

abbrev pub standing_of : code_standing.Standing → Standing
standing_of s = record { scope = s.scope; terms = s.terms.items; sorts = s.sorts; next = s.next }

-- what stands around expressions there
abbrev pub setting_at : Around → Standing → Setting
setting_at a s = record {
  scope = s.scope;
  context = a.context;
  known = a.known;
  paths = a.paths;
  locals = s.terms;
  «result» = a.result;
  this_value = a.this_value;
  thread = a.thread;
}

-- a sort as it is known in the end
abbrev pub known_sort : Around → Sort → Sort
known_sort a t = filled (settling a.known) t

-- another number is the first of unknown sorts that is not used
abbrev pub counting : ℕ → Standing → Standing
counting u s = record { scope = s.scope; terms = s.terms; sorts = s.sorts; next = u }

-- names are declared as locals, without their terms
abbrev pub declaring : Bound → Standing → Standing
declaring b s = record { scope = with_names s.scope b; terms = s.terms; sorts = s.sorts; next = s.next }

-- one local more has a name of a sort
abbrev pub with_name : Sort → Standing → Standing
with_name t s = record { scope = s.scope; terms = s.terms ++ symbol_for (slot_for (length s.sorts) t) ∷ []; sorts = s.sorts ++ t ∷ []; next = s.next }

-- locals more have names of these sorts, as they are known in the end
abbrev pub with_sorts : Around → List Sort → Standing → Standing
with_sorts a [] s = s
with_sorts a (t ∷ ts) s = with_sorts a ts (with_name (known_sort a t) s)

-- what is declared and numbered behind what a part binds
abbrev pub behind : Around → Progress → Standing → Standing
behind a g s = counting g.next (with_sorts a g.bound.sorts (declaring g.bound s))

-- so many locals alone are declared: the others are gone, and their names keep their numbers
abbrev pub leaving : ℕ → Standing → Standing
leaving n s = record { scope = left n s.scope; terms = take n s.terms; sorts = s.sorts; next = s.next }

-- the names with numbers from one on, of these sorts as they are known in the end
abbrev pub slots_for : Around → ℕ → List Sort → List Slot
slots_for a n [] = []
slots_for a n (t ∷ ts) = slot_for n (known_sort a t) ∷ slots_for a (suc n) ts
