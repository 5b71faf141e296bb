-- What is given of a setting: the terms that stand in it have their sorts.
use Rattle.std.specs.Prelude.{◌≡◌, ℕ, true, Some, slice_get}
use Rattle.vf_sorts.specs.Sorts.{Sort}
use Rattle.vf_declared.specs.declared.locals.Local.{Local}
use Rattle.vf_declared.specs.Changes.{IsAligned}
use Rattle.vf_sorting.specs.Kinds.{int_sort, pointer_sort}
use Rattle.vf_sorting.specs.Schemes.{sort_of_local}
use Rattle.vf_terms.specs.Settings.{Setting, settled}
use Rattle.vf_terms.specs.Named.{local_term}
use Rattle.vf_resolved_laws.specs.Heads.{Vocabulary}
use Rattle.vf_resolved_laws.specs.Terms.{TermHasSort}

-- the locals, the result, `this` and the current thread have terms of their sorts, each where it may stand
pub record GivesSorts (d : Vocabulary) (s : Setting) : Type 0 where
  pub aligned : IsAligned s.scope.locals
  pub locals : (n : ℕ) (l : Local) → slice_get s.scope.locals.meanings n ≡ Some l → TermHasSort d (local_term (slice_get s.locals n)) (settled s (sort_of_local l))
  pub result : (t : Sort) → s.context.result ≡ Some t → TermHasSort d s.result (settled s t)
  pub this_value : s.context.has_this ≡ true → TermHasSort d s.this_value pointer_sort
  pub thread : s.context.has_thread ≡ true → TermHasSort d s.thread int_sort
