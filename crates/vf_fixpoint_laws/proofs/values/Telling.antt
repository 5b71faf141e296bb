-- What it tells of a value that a sort has it.
use Rattle.std.proofs.Common.{◌≡◌, ℕ, ℤ, Bool, true, false, None, refl}
use Rattle.vf_tree.specs.Core.{Identity}
use Rattle.vf_model.specs.Values.{Dyadic, Value, Values}
use Rattle.vf_model.specs.Values as values
use Rattle.vf_meaning.specs.Fractions.{IsPositive}
use Rattle.vf_sorts.specs.declared.sort.Head.TheVariants as heads
use Rattle.vf_sorts.specs.Sorts.{Sort, Sorts, sort}
use Rattle.vf_sorts.specs.Told.{AreAlike, untold_head}
use Rattle.vf_sorts.specs.Pairs.{head_of}
use Rattle.vf_sorts.specs.Unknowns.{Filling, leaf}
use Rattle.vf_sorting.specs.declared.scheme.Scheme.{Scheme}
use Rattle.vf_sorting.specs.Kinds.{bool_sort, int_sort, pointer_sort}
use Rattle.vf_fixpoint_laws.specs.values.Instances.{Instance, placed}
use Rattle.vf_fixpoint_laws.specs.values.Declares.{BuildsPredicates, BuildsTerms, Declared, constructed, declared, made, later}
use Rattle.vf_fixpoint_laws.specs.values.Worth.{HasValue, Sets, passing}
use Rattle.vf_fixpoint_laws.specs.values.Telling.{IsPointing, IsTermOf, SortsTell, SortsTellValues}
use Rattle.vf_fixpoint_laws.proofs.values.Alike.{heads_alike}
use Rattle.vf_fixpoint_laws.proofs.values.Having.{of_any, value_alike}

module _ (d : Declared) (sets : Sets) where
  -- the head of the sort of what is built
  predicates_head : (p : Identity) (x : Scheme) → BuildsPredicates d p x → (g : Instance) (f : Filling) (t : Sort) → AreAlike (placed g f x.result) t → heads.Predicate ≡ untold_head (head_of t)
  predicates_head p x (declared is) g f t e = heads_alike (placed g f x.result) t e
  predicates_head p x (made is) g f t e = heads_alike (placed g f x.result) t e
  predicates_head p x (later y from stands is) g f t e = heads_alike (placed g f x.result) t e

  term_of : (c : Identity) (vs : Values) (x : Scheme) → BuildsTerms d c x → (g : Instance) (f : Filling) (n : ℕ) (ts : Sorts) → AreAlike (placed g f x.result) (sort (heads.Datatype n) ts) → IsTermOf d n (values.Constructed c vs)
  term_of c vs x (constructed {k} is) g f n ts e =
      record { identity = c; parts = vs; constructor_ = k; declares = is; built = (let r : heads.Datatype k.datatype ≡ heads.Datatype n = heads_alike (placed g f x.result) (sort (heads.Datatype n) ts) e in cc); is = refl }

  terms_head : (c : Identity) (x : Scheme) → BuildsTerms d c x → (g : Instance) (f : Filling) (t : Sort) → AreAlike (placed g f x.result) t → (n : ℕ) × (heads.Datatype n ≡ untold_head (head_of t))
  terms_head c x (constructed {k} is) g f t e = (k.datatype, heads_alike (placed g f x.result) t e)

  integers : (v : Value) → HasValue d sets v int_sort → (z : ℤ) × (v ≡ values.Number z)
  integers (values.Number z) h = (z, refl)
  integers (values.Truth b) h = absurd (let q : heads.Int ≡ heads.Bool = h in cc)
  integers values.Null h = absurd (let q : false ≡ true = h in cc)
  integers (values.Pointer b o) h = absurd (let q : false ≡ true = h in cc)
  integers (values.Function g) h = absurd (let q : false ≡ true = h in cc)
  integers (values.Constructed c vs) (x, is, g, f, whole, have) = absurd (let q = (terms_head c x is g f int_sort whole).1 in cc)
  integers (values.Predicate p vs) (x, is, g, f, whole, have) = absurd (let q = predicates_head p x is g f int_sort whole in cc)
  integers (values.Fraction q) (head, positive) = absurd cc

  truths : (v : Value) → HasValue d sets v bool_sort → (b : Bool) × (v ≡ values.Truth b)
  truths (values.Truth b) h = (b, refl)
  truths (values.Number z) h = absurd (let q : heads.Bool ≡ heads.Int = h in cc)
  truths values.Null h = absurd (let q : false ≡ true = h in cc)
  truths (values.Pointer b o) h = absurd (let q : false ≡ true = h in cc)
  truths (values.Function g) h = absurd (let q : false ≡ true = h in cc)
  truths (values.Constructed c vs) (x, is, g, f, whole, have) = absurd (let q = (terms_head c x is g f bool_sort whole).1 in cc)
  truths (values.Predicate p vs) (x, is, g, f, whole, have) = absurd (let q = predicates_head p x is g f bool_sort whole in cc)
  truths (values.Fraction q) (head, positive) = absurd cc

  pointers : (v : Value) → HasValue d sets v pointer_sort → IsPointing v
  pointers values.Null h = tt
  pointers (values.Pointer b o) h = tt
  pointers (values.Function g) h = tt
  pointers (values.Number z) h = absurd (let q : heads.Pointer None ≡ heads.Int = h in cc)
  pointers (values.Truth b) h = absurd (let q : heads.Pointer None ≡ heads.Bool = h in cc)
  pointers (values.Constructed c vs) (x, is, g, f, whole, have) = absurd (let q = (terms_head c x is g f pointer_sort whole).1 in cc)
  pointers (values.Predicate p vs) (x, is, g, f, whole, have) = absurd (let q = predicates_head p x is g f pointer_sort whole in cc)
  pointers (values.Fraction q) (head, positive) = absurd cc

  fractions : (v : Value) → HasValue d sets v (leaf heads.Real) → (q : Dyadic) × IsPositive q × (v ≡ values.Fraction q)
  fractions (values.Fraction q) (head, positive) = (q, positive, refl)
  fractions (values.Number z) h = absurd (let q : heads.Real ≡ heads.Int = h in cc)
  fractions (values.Truth b) h = absurd (let q : heads.Real ≡ heads.Bool = h in cc)
  fractions values.Null h = absurd (let q : false ≡ true = h in cc)
  fractions (values.Pointer b o) h = absurd (let q : false ≡ true = h in cc)
  fractions (values.Function g) h = absurd (let q : false ≡ true = h in cc)
  fractions (values.Constructed c vs) (x, is, g, f, whole, have) = absurd (let q = (terms_head c x is g f (leaf heads.Real) whole).1 in cc)
  fractions (values.Predicate p vs) (x, is, g, f, whole, have) = absurd (let q = predicates_head p x is g f (leaf heads.Real) whole in cc)

  terms : (v : Value) (n : ℕ) (ts : Sorts) → HasValue d sets v (sort (heads.Datatype n) ts) → IsTermOf d n v
  terms (values.Constructed c vs) n ts (x, is, g, f, whole, have) = term_of c vs x is g f n ts whole
  terms (values.Number z) n ts h = absurd (let q : heads.Datatype n ≡ heads.Int = h in cc)
  terms (values.Truth b) n ts h = absurd (let q : heads.Datatype n ≡ heads.Bool = h in cc)
  terms values.Null n ts h = absurd (let q : false ≡ true = h in cc)
  terms (values.Pointer b o) n ts h = absurd (let q : false ≡ true = h in cc)
  terms (values.Function g) n ts h = absurd (let q : false ≡ true = h in cc)
  terms (values.Predicate p vs) n ts (x, is, g, f, whole, have) = absurd (let q = predicates_head p x is g f (sort (heads.Datatype n) ts) whole in cc)
  terms (values.Fraction q) n ts (head, positive) = absurd cc

  -- all of it, for all sets
  pub sorts_tell : SortsTell d sets
  sorts_tell = record { integers = integers; truths = truths; pointers = pointers; fractions = fractions; terms = terms; alike = value_alike d sets; each = of_any d sets }

pub sorts_tell_values : SortsTellValues
sorts_tell_values d tests = sorts_tell d (passing tests)
