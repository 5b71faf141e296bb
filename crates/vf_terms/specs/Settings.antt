-- What stands around ghost expressions, and what is known in the end of their sorts.
use Rattle.std.specs.Prelude.{ℕ, List}
use Rattle.vf_closure.specs.Terms.{Kind, Integer, Other, Term}
use Rattle.vf_sorts.specs.declared.sort.Head.TheVariants as heads
use Rattle.vf_sorts.specs.Sorts.{Sort, sort}
use Rattle.vf_sorts.specs.Unknowns.{Known, filled, settling}
use Rattle.vf_declared.specs.declared.scope.Scope.{Scope}
use Rattle.vf_sorting.specs.declared.context.Context.{Context}
use Rattle.vf_terms.specs.declared.setting.Setting as declared

-- What is declared; the words that may stand there, and in whose text; what is known of unknown sorts when all of them are sorted; the paths of files, by their numbers; and the terms of the locals in their order, of the result, of `this` and of the current thread
pub record Setting : Type 0 where
  pub scope : Scope
  pub context : Context
  pub known : Known
  pub paths : List (List ℕ)
  pub locals : List Term
  pub result : Term
  pub this_value : Term
  pub thread : Term

-- the setting that the code has
abbrev pub setting_of : declared.Setting → Setting
setting_of s = record {
  scope = s.scope.now;
  context = s.context.now;
  known = s.unknowns.now;
  paths = s.paths.now;
  locals = s.locals.now;
  result = s.result.now;
  this_value = s.this_value.now;
  thread = s.thread.now;
}

-- a sort as it is known in the end
abbrev pub settled : Setting → Sort → Sort
settled s t = filled (settling s.known) t

-- the kind of terms of a sort
abbrev pub kind_of_sort : Sort → Kind
kind_of_sort (sort heads.Int ts) = Integer
kind_of_sort t = Other
