-- Sorts that are alike but for what pointers tell, and sorts that are one for terms.
use Rattle.std.proofs.Common.{◌≡◌, ℕ, ◌+◌, ◌<◌, Bool, true, false, refl, sym, ap, ap₂, ◌∙◌, arith}
use Rattle.std.specs.Prelude.{nat_lt, if◌then◌else◌}
use Rattle.std.proofs.lemmas.Bool.Decides.{nat_tests}
use Rattle.vf_closure.specs.Terms.{Other}
use Rattle.vf_sorts.specs.declared.sort.Head.{Head}
use Rattle.vf_sorts.specs.declared.sort.Head.TheVariants as heads
use Rattle.vf_sorts.specs.Sorts.{Sort, Sorts, sort, no_sorts, and_sort}
use Rattle.vf_sorts.specs.Told.{AreAlike, untold, untold_all, untold_head}
use Rattle.vf_sorts.specs.Pairs.{head_of}
use Rattle.vf_sorts.specs.Unknowns.{Filling, filled, filled_all, instance, instances, leaf}
use Rattle.vf_sorting.specs.Kinds.{is_any, is_pointer, pointer_sort, value_sort}
use Rattle.vf_terms.specs.Settings.{kind_of_sort}
use Rattle.vf_resolved_laws.specs.Terms.{AreOne, bare, bare_all, bare_head}

-- the heads of two sorts are one, but for what pointers tell
abbrev pub AreHeadsAlike : Sort → Sort → Type 0
AreHeadsAlike t u = untold_head (head_of t) ≡ untold_head (head_of u)

pub heads_alike : (t u : Sort) → AreAlike t u → AreHeadsAlike t u
heads_alike (sort h ts) (sort g us) e = ap head_of e

-- ---- what is told by the head
untold_pointer : (h : Head) (ts : Sorts) → is_pointer (leaf (untold_head h)) ≡ is_pointer (sort h ts)
untold_pointer heads.Int ts = refl
untold_pointer heads.Bool ts = refl
untold_pointer (heads.Pointer w) ts = refl
untold_pointer heads.Real ts = refl
untold_pointer heads.Any ts = refl
untold_pointer (heads.Parameter i) ts = refl
untold_pointer (heads.Unknown u) ts = refl
untold_pointer (heads.Datatype d) ts = refl
untold_pointer heads.Predicate ts = refl

untold_any : (h : Head) (ts : Sorts) → is_any (leaf (untold_head h)) ≡ is_any (sort h ts)
untold_any heads.Int ts = refl
untold_any heads.Bool ts = refl
untold_any (heads.Pointer w) ts = refl
untold_any heads.Real ts = refl
untold_any heads.Any ts = refl
untold_any (heads.Parameter i) ts = refl
untold_any (heads.Unknown u) ts = refl
untold_any (heads.Datatype d) ts = refl
untold_any heads.Predicate ts = refl

untold_kind : (h : Head) (ts : Sorts) → kind_of_sort (leaf (untold_head h)) ≡ kind_of_sort (sort h ts)
untold_kind heads.Int ts = refl
untold_kind heads.Bool ts = refl
untold_kind (heads.Pointer w) ts = refl
untold_kind heads.Real ts = refl
untold_kind heads.Any ts = refl
untold_kind (heads.Parameter i) ts = refl
untold_kind (heads.Unknown u) ts = refl
untold_kind (heads.Datatype d) ts = refl
untold_kind heads.Predicate ts = refl

pub pointer_alike : (t u : Sort) → AreHeadsAlike t u → is_pointer t ≡ is_pointer u
pointer_alike (sort h ts) (sort g us) e = sym (untold_pointer h ts) ∙ ap (λ (k : Head). is_pointer (leaf k)) e ∙ untold_pointer g us

pub any_alike : (t u : Sort) → AreHeadsAlike t u → is_any t ≡ is_any u
any_alike (sort h ts) (sort g us) e = sym (untold_any h ts) ∙ ap (λ (k : Head). is_any (leaf k)) e ∙ untold_any g us

pub kind_alike : (t u : Sort) → AreHeadsAlike t u → kind_of_sort t ≡ kind_of_sort u
kind_alike (sort h ts) (sort g us) e = sym (untold_kind h ts) ∙ ap (λ (k : Head). kind_of_sort (leaf k)) e ∙ untold_kind g us

-- a sort of pointers has the head of one
pub pointer_head : (t : Sort) → is_pointer t ≡ true → AreHeadsAlike pointer_sort t
pointer_head (sort (heads.Pointer w) ts) e = refl
pointer_head (sort heads.Int ts) e = absurd cc
pointer_head (sort heads.Bool ts) e = absurd cc
pointer_head (sort heads.Real ts) e = absurd cc
pointer_head (sort heads.Any ts) e = absurd cc
pointer_head (sort (heads.Parameter i) ts) e = absurd cc
pointer_head (sort (heads.Unknown u) ts) e = absurd cc
pointer_head (sort (heads.Datatype d) ts) e = absurd cc
pointer_head (sort heads.Predicate ts) e = absurd cc

-- `any` is no sort of pointers
pub any_not_pointer : (t : Sort) → is_any t ≡ true → is_pointer t ≡ false
any_not_pointer (sort heads.Any ts) e = refl
any_not_pointer (sort (heads.Pointer w) ts) e = absurd cc
any_not_pointer (sort heads.Int ts) e = refl
any_not_pointer (sort heads.Bool ts) e = refl
any_not_pointer (sort heads.Real ts) e = refl
any_not_pointer (sort (heads.Parameter i) ts) e = refl
any_not_pointer (sort (heads.Unknown u) ts) e = refl
any_not_pointer (sort (heads.Datatype d) ts) e = refl
any_not_pointer (sort heads.Predicate ts) e = refl

pub any_head : (t : Sort) → is_any t ≡ true → head_of t ≡ heads.Any
any_head (sort heads.Any ts) e = refl
any_head (sort (heads.Pointer w) ts) e = absurd cc
any_head (sort heads.Int ts) e = absurd cc
any_head (sort heads.Bool ts) e = absurd cc
any_head (sort heads.Real ts) e = absurd cc
any_head (sort (heads.Parameter i) ts) e = absurd cc
any_head (sort (heads.Unknown u) ts) e = absurd cc
any_head (sort (heads.Datatype d) ts) e = absurd cc
any_head (sort heads.Predicate ts) e = absurd cc

-- the kind of terms of pointers
pub pointer_kind : (t : Sort) → is_pointer t ≡ true → Other ≡ kind_of_sort t
pointer_kind (sort heads.Int ts) e = absurd cc
pointer_kind (sort heads.Bool ts) e = absurd cc
pointer_kind (sort (heads.Pointer w) ts) e = refl
pointer_kind (sort heads.Real ts) e = absurd cc
pointer_kind (sort heads.Any ts) e = absurd cc
pointer_kind (sort (heads.Parameter i) ts) e = absurd cc
pointer_kind (sort (heads.Unknown u) ts) e = absurd cc
pointer_kind (sort (heads.Datatype d) ts) e = absurd cc
pointer_kind (sort heads.Predicate ts) e = absurd cc

-- ---- sorts that are one for terms
pointer_bare : (t : Sort) → is_pointer t ≡ true → bare t ≡ pointer_sort
pointer_bare (sort heads.Int ts) e = absurd cc
pointer_bare (sort heads.Bool ts) e = absurd cc
pointer_bare (sort (heads.Pointer w) ts) e = refl
pointer_bare (sort heads.Real ts) e = absurd cc
pointer_bare (sort heads.Any ts) e = absurd cc
pointer_bare (sort (heads.Parameter i) ts) e = absurd cc
pointer_bare (sort (heads.Unknown u) ts) e = absurd cc
pointer_bare (sort (heads.Datatype d) ts) e = absurd cc
pointer_bare (sort heads.Predicate ts) e = absurd cc

-- each sort of pointers is one with each
pub pointers_one : (t u : Sort) → is_pointer t ≡ true → is_pointer u ≡ true → AreOne t u
pointers_one t u p q = pointer_bare t p ∙ sym (pointer_bare u q)

-- `any` is one with each sort that is such
pub any_one : (t : Sort) → is_any t ≡ true → AreOne value_sort t
any_one (sort heads.Int ts) e = absurd cc
any_one (sort heads.Bool ts) e = absurd cc
any_one (sort (heads.Pointer w) ts) e = absurd cc
any_one (sort heads.Real ts) e = absurd cc
any_one (sort heads.Any ts) e = refl
any_one (sort (heads.Parameter i) ts) e = absurd cc
any_one (sort (heads.Unknown u) ts) e = absurd cc
any_one (sort (heads.Datatype d) ts) e = absurd cc
any_one (sort heads.Predicate ts) e = absurd cc

bare_same : (h : Head) (ts us : Sorts) → ts ≡ us → bare_head (untold_head h) ts ≡ bare_head h us
bare_same heads.Int ts us e = refl
bare_same heads.Bool ts us e = refl
bare_same (heads.Pointer w) ts us e = refl
bare_same heads.Real ts us e = refl
bare_same heads.Any ts us e = refl
bare_same (heads.Parameter i) ts us e = refl
bare_same (heads.Unknown u) ts us e = refl
bare_same (heads.Datatype d) ts us e = ap (sort (heads.Datatype d)) e
bare_same heads.Predicate ts us e = ap (sort heads.Predicate) e

mutual
  bare_untold : (t : Sort) → bare (untold t) ≡ bare t
  bare_untold (sort h ts) = bare_same h (bare_all (untold_all ts)) (bare_all ts) (all_bare_untold ts)

  all_bare_untold : (ts : Sorts) → bare_all (untold_all ts) ≡ bare_all ts
  all_bare_untold no_sorts = refl
  all_bare_untold (and_sort t ts) = ap₂ and_sort (bare_untold t) (all_bare_untold ts)

-- sorts that are alike are one
pub alike_one : (t u : Sort) → AreAlike t u → AreOne t u
alike_one t u e = sym (bare_untold t) ∙ ap bare e ∙ bare_untold u

-- ---- a sort that is used without type parameters
module _ (f : Filling) (first : ℕ) where
  parameter_used : (i : ℕ) (b : Bool) → nat_lt i 0 ≡ b → bare (filled f (leaf (if b then heads.Unknown (first + i) else heads.Parameter i))) ≡ leaf (heads.Parameter i)
  parameter_used i true e = absurd (let lt : i < 0 = grind (arith, nat_tests) in omega (arith, lt))
  parameter_used i false e = refl

  mutual
    -- it is one with itself
    pub none_used : (t : Sort) → AreOne (filled f t) (filled f (instance first 0 t))
    none_used (sort heads.Int ts) = refl
    none_used (sort heads.Bool ts) = refl
    none_used (sort (heads.Pointer w) ts) = refl
    none_used (sort heads.Real ts) = refl
    none_used (sort heads.Any ts) = refl
    none_used (sort (heads.Parameter i) ts) = sym (parameter_used i (nat_lt i 0) refl)
    none_used (sort (heads.Unknown u) ts) = refl
    none_used (sort (heads.Datatype d) ts) = ap (sort (heads.Datatype d)) (all_none_used ts)
    none_used (sort heads.Predicate ts) = ap (sort heads.Predicate) (all_none_used ts)

    all_none_used : (ts : Sorts) → bare_all (filled_all f ts) ≡ bare_all (filled_all f (instances first 0 ts))
    all_none_used no_sorts = refl
    all_none_used (and_sort t ts) = ap₂ and_sort (none_used t) (all_none_used ts)
