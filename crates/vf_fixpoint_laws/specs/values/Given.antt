-- What is given of a setting, an interpretation and a valuation: the terms that stand in the setting have values of their sorts, and fixpoints keep sorts.
use Rattle.std.specs.Prelude.{◌≡◌, ℕ, true, Some, slice_get, map}
use Rattle.vf_tree.specs.Core.{Identity}
use Rattle.vf_model.specs.Values.{Values}
use Rattle.vf_meaning.specs.Valuations.{Valuation}
use Rattle.vf_meaning.specs.GhostValues.{Interpretation}
use Rattle.vf_closure.specs.Terms.{Head, Fixpoint, Term, Terms, term, no_terms, and_term}
use Rattle.vf_closure.specs.Values.{value, all_values}
use Rattle.vf_sorts.specs.Sorts.{Sort}
use Rattle.vf_sorts.specs.Unknowns.{Filling}
use Rattle.vf_declared.specs.declared.declaration.Fixpoint as declaration
use Rattle.vf_declared.specs.declared.declaration.GhostDeclaration.TheVariants as ghosts
use Rattle.vf_declared.specs.declared.locals.Local.{Local}
use Rattle.vf_declared.specs.Changes.{IsAligned}
use Rattle.vf_sorting.specs.Kinds.{int_sort, pointer_sort}
use Rattle.vf_sorting.specs.Schemes.{sort_of_local}
use Rattle.vf_terms.specs.Settings.{Setting}
use Rattle.vf_terms.specs.Named.{local_term}
use Rattle.vf_fixpoint_laws.specs.values.Instances.{Instance, placed, settled_at}
use Rattle.vf_fixpoint_laws.specs.values.Declares.{Declared, Declares}
use Rattle.vf_fixpoint_laws.specs.values.Worth.{HasValue, HaveValues, Sets}

-- the locals, the result, `this` and the current thread have terms with values of their sorts by what is declared, each where it may stand
pub record GivesValues (d : Declared) (s : Setting) (i : Interpretation) (v : Valuation) (sets : Sets) (g : Instance) : Type 0 where
  pub aligned : IsAligned s.scope.locals
  pub locals : (n : ℕ) (l : Local) → slice_get s.scope.locals.meanings n ≡ Some l → HasValue d sets (value i v (local_term (slice_get s.locals n))) (settled_at s g (sort_of_local l))
  pub result : (t : Sort) → s.context.result ≡ Some t → HasValue d sets (value i v s.result) (settled_at s g t)
  pub this_value : s.context.has_this ≡ true → HasValue d sets (value i v s.this_value) pointer_sort
  pub thread : s.context.has_thread ≡ true → HasValue d sets (value i v s.thread) int_sort

-- a fixpoint keeps sorts at some values: where these are of its arguments' sorts, whatever sorts stand for its type parameters, it gives a value of its result's sort
abbrev pub KeepsSortsAt : Declared → Interpretation → Sets → Identity → Values → Type 0
KeepsSortsAt d i sets c vs = (x : declaration.Fixpoint) → Declares d c (ghosts.Fixpoint x) → (g : Instance) (f : Filling) → HaveValues d sets vs (map (placed g f) x.arguments) → HasValue d sets (i.fixpoint c vs) (placed g f x.result)

-- fixpoints keep sorts at all values
abbrev pub FixpointsKeepSorts : Declared → Interpretation → Sets → Type 0
FixpointsKeepSorts d i sets = (c : Identity) (vs : Values) → KeepsSortsAt d i sets c vs

-- a head over values keeps sorts: where it is that of a fixpoint, this does so at these
abbrev pub HeadKeepsSorts : Declared → Interpretation → Sets → Head → Values → Type 0
HeadKeepsSorts d i sets (Fixpoint k c) vs = KeepsSortsAt d i sets c vs
HeadKeepsSorts d i sets h vs = Unit {0}

abbrev mutual
  -- each fixpoint that a term applies keeps sorts at the values of its arguments there
  pub TermKeepsSorts : Declared → Interpretation → Valuation → Sets → Term → Type 0
  TermKeepsSorts d i v sets (term h ts) = HeadKeepsSorts d i sets h (all_values i v ts) × TermsKeepSorts d i v sets ts

  -- the same of terms in a row
  pub TermsKeepSorts : Declared → Interpretation → Valuation → Sets → Terms → Type 0
  TermsKeepSorts d i v sets no_terms = Unit {0}
  TermsKeepSorts d i v sets (and_term t ts) = TermKeepsSorts d i v sets t × TermsKeepSorts d i v sets ts
