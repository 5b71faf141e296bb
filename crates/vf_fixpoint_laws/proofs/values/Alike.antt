-- Sorts that are alike but for what pointers tell: their heads, their parts, and what is placed in them.
use Rattle.std.proofs.Common.{◌≡◌, ◌≢◌, ℕ, true, false, Option, None, refl, sym, ap, ap₂, ◌∙◌}
use Rattle.vf_sorts.specs.declared.sort.Head.{Head}
use Rattle.vf_sorts.specs.declared.sort.Head.TheVariants as heads
use Rattle.vf_sorts.specs.Sorts.{Sort, Sorts, sort, no_sorts, and_sort}
use Rattle.vf_sorts.specs.Told.{AreAlike, untold, untold_all, untold_head}
use Rattle.vf_sorts.specs.Pairs.{head_of}
use Rattle.vf_sorts.specs.Unknowns.{Filling, leaf}
use Rattle.vf_sorting.specs.Kinds.{is_any, is_pointer, pointer_sort}
use Rattle.vf_terms.specs.Settings.{kind_of_sort}
use Rattle.vf_fixpoint_laws.specs.values.Instances.{Instance, headed_at, placed, all_placed}

-- the heads of two sorts are one, but for what pointers tell
abbrev pub AreHeadsAlike : Sort → Sort → Type 0
AreHeadsAlike t u = untold_head (head_of t) ≡ untold_head (head_of u)

pub heads_alike : (t u : Sort) → AreAlike t u → AreHeadsAlike t u
heads_alike (sort h ts) (sort g us) e = ap head_of e

-- a head that is no pointer is told by its untold one
untold_same : (h : Head) → ((w : Option ℕ) → h ≢ heads.Pointer w) → untold_head h ≡ h
untold_same heads.Int n = refl
untold_same heads.Bool n = refl
untold_same (heads.Pointer w) n = absurd (n w refl)
untold_same heads.Real n = refl
untold_same heads.Any n = refl
untold_same (heads.Parameter i) n = refl
untold_same (heads.Unknown u) n = refl
untold_same (heads.Datatype d) n = refl
untold_same heads.Predicate n = refl

pub untold_back : (h g : Head) → untold_head h ≡ untold_head g → ((w : Option ℕ) → g ≢ heads.Pointer w) → h ≡ g
untold_back heads.Int g e n = e ∙ untold_same g n
untold_back heads.Bool g e n = e ∙ untold_same g n
untold_back (heads.Pointer w) g e n = absurd (n None (sym (e ∙ untold_same g n)))
untold_back heads.Real g e n = e ∙ untold_same g n
untold_back heads.Any g e n = e ∙ untold_same g n
untold_back (heads.Parameter i) g e n = e ∙ untold_same g n
untold_back (heads.Unknown u) g e n = e ∙ untold_same g n
untold_back (heads.Datatype d) g e n = e ∙ untold_same g n
untold_back heads.Predicate g e n = e ∙ untold_same g n

-- ---- what is told by the head
untold_pointer : (h : Head) (ts : Sorts) → is_pointer (leaf (untold_head h)) ≡ is_pointer (sort h ts)
untold_pointer heads.Int ts = refl
untold_pointer heads.Bool ts = refl
untold_pointer (heads.Pointer w) ts = refl
untold_pointer heads.Real ts = refl
untold_pointer heads.Any ts = refl
untold_pointer (heads.Parameter i) ts = refl
untold_pointer (heads.Unknown u) ts = refl
untold_pointer (heads.Datatype d) ts = refl
untold_pointer heads.Predicate ts = refl

untold_any : (h : Head) (ts : Sorts) → is_any (leaf (untold_head h)) ≡ is_any (sort h ts)
untold_any heads.Int ts = refl
untold_any heads.Bool ts = refl
untold_any (heads.Pointer w) ts = refl
untold_any heads.Real ts = refl
untold_any heads.Any ts = refl
untold_any (heads.Parameter i) ts = refl
untold_any (heads.Unknown u) ts = refl
untold_any (heads.Datatype d) ts = refl
untold_any heads.Predicate ts = refl

untold_kind : (h : Head) (ts : Sorts) → kind_of_sort (leaf (untold_head h)) ≡ kind_of_sort (sort h ts)
untold_kind heads.Int ts = refl
untold_kind heads.Bool ts = refl
untold_kind (heads.Pointer w) ts = refl
untold_kind heads.Real ts = refl
untold_kind heads.Any ts = refl
untold_kind (heads.Parameter i) ts = refl
untold_kind (heads.Unknown u) ts = refl
untold_kind (heads.Datatype d) ts = refl
untold_kind heads.Predicate ts = refl

pub pointer_alike : (t u : Sort) → AreHeadsAlike t u → is_pointer t ≡ is_pointer u
pointer_alike (sort h ts) (sort g us) e = sym (untold_pointer h ts) ∙ ap (λ (k : Head). is_pointer (leaf k)) e ∙ untold_pointer g us

pub any_alike : (t u : Sort) → AreHeadsAlike t u → is_any t ≡ is_any u
any_alike (sort h ts) (sort g us) e = sym (untold_any h ts) ∙ ap (λ (k : Head). is_any (leaf k)) e ∙ untold_any g us

pub kind_alike : (t u : Sort) → AreHeadsAlike t u → kind_of_sort t ≡ kind_of_sort u
kind_alike (sort h ts) (sort g us) e = sym (untold_kind h ts) ∙ ap (λ (k : Head). kind_of_sort (leaf k)) e ∙ untold_kind g us

-- a sort of pointers has the head of one
pub pointer_head : (t : Sort) → is_pointer t ≡ true → AreHeadsAlike pointer_sort t
pointer_head (sort (heads.Pointer w) ts) e = refl
pointer_head (sort heads.Int ts) e = absurd cc
pointer_head (sort heads.Bool ts) e = absurd cc
pointer_head (sort heads.Real ts) e = absurd cc
pointer_head (sort heads.Any ts) e = absurd cc
pointer_head (sort (heads.Parameter i) ts) e = absurd cc
pointer_head (sort (heads.Unknown u) ts) e = absurd cc
pointer_head (sort (heads.Datatype d) ts) e = absurd cc
pointer_head (sort heads.Predicate ts) e = absurd cc

-- `any` is no sort of pointers
pub any_not_pointer : (t : Sort) → is_any t ≡ true → is_pointer t ≡ false
any_not_pointer (sort heads.Any ts) e = refl
any_not_pointer (sort (heads.Pointer w) ts) e = absurd cc
any_not_pointer (sort heads.Int ts) e = refl
any_not_pointer (sort heads.Bool ts) e = refl
any_not_pointer (sort heads.Real ts) e = refl
any_not_pointer (sort (heads.Parameter i) ts) e = refl
any_not_pointer (sort (heads.Unknown u) ts) e = refl
any_not_pointer (sort (heads.Datatype d) ts) e = refl
any_not_pointer (sort heads.Predicate ts) e = refl

pub any_head : (t : Sort) → is_any t ≡ true → head_of t ≡ heads.Any
any_head (sort heads.Any ts) e = refl
any_head (sort (heads.Pointer w) ts) e = absurd cc
any_head (sort heads.Int ts) e = absurd cc
any_head (sort heads.Bool ts) e = absurd cc
any_head (sort heads.Real ts) e = absurd cc
any_head (sort (heads.Parameter i) ts) e = absurd cc
any_head (sort (heads.Unknown u) ts) e = absurd cc
any_head (sort (heads.Datatype d) ts) e = absurd cc
any_head (sort heads.Predicate ts) e = absurd cc

-- ---- what is placed in a sort
untold_headed : (g : Instance) (f : Filling) (h : Head) (ts us : Sorts) → untold_all ts ≡ untold_all us → AreAlike (headed_at g f (untold_head h) ts) (headed_at g f h us)
untold_headed g f heads.Int ts us e = ap (sort heads.Int) e
untold_headed g f heads.Bool ts us e = ap (sort heads.Bool) e
untold_headed g f (heads.Pointer w) ts us e = ap (sort (heads.Pointer None)) e
untold_headed g f heads.Real ts us e = ap (sort heads.Real) e
untold_headed g f heads.Any ts us e = ap (sort heads.Any) e
untold_headed g f (heads.Parameter i) ts us e = refl
untold_headed g f (heads.Unknown u) ts us e = refl
untold_headed g f (heads.Datatype d) ts us e = ap (sort (heads.Datatype d)) e
untold_headed g f heads.Predicate ts us e = ap (sort heads.Predicate) e

mutual
  untold_placed : (g : Instance) (f : Filling) (t : Sort) → AreAlike (placed g f (untold t)) (placed g f t)
  untold_placed g f (sort h ts) = untold_headed g f h (all_placed g f (untold_all ts)) (all_placed g f ts) (all_untold_placed g f ts)

  all_untold_placed : (g : Instance) (f : Filling) (ts : Sorts) → untold_all (all_placed g f (untold_all ts)) ≡ untold_all (all_placed g f ts)
  all_untold_placed g f no_sorts = refl
  all_untold_placed g f (and_sort t ts) = ap₂ and_sort (untold_placed g f t) (all_untold_placed g f ts)

-- in sorts that are alike, what is placed makes sorts that are alike
pub placed_alike : (g : Instance) (f : Filling) (t u : Sort) → AreAlike t u → AreAlike (placed g f t) (placed g f u)
placed_alike g f t u e = sym (untold_placed g f t) ∙ ap (λ (q : Sort). untold (placed g f q)) e ∙ untold_placed g f u
