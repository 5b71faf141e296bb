-- Values and the sorts that have them: sorts that are alike have the same values, `any` has each of them, and what operators make of them.
use Rattle.std.proofs.Common.{◌≡◌, ◌≢◌, inl, inr, ℕ, ℤ, Bool, true, false, cond, Option, refl, sym, subst, ap, ◌∙◌}
use Rattle.vf_tree.specs.Core.{Identity}
use Rattle.vf_model.specs.Values.{Value, Values, none, more}
use Rattle.vf_model.specs.Values as values
use Rattle.vf_meaning.specs.Valuations.{further}
use Rattle.vf_closure.specs.Values.{of_kind}
use Rattle.vf_sorts.specs.declared.sort.Head.{Head}
use Rattle.vf_sorts.specs.declared.sort.Head.TheVariants as heads
use Rattle.vf_sorts.specs.Sorts.{Sort, Sorts, sort}
use Rattle.vf_sorts.specs.Told.{AreAlike, untold_head}
use Rattle.vf_sorts.specs.Pairs.{head_of}
use Rattle.vf_sorts.specs.Unknowns.{Filling}
use Rattle.vf_sorting.specs.declared.scheme.Scheme.{Scheme}
use Rattle.vf_sorting.specs.Kinds.{is_any, is_pointer, pointer_sort, value_sort}
use Rattle.vf_terms.specs.Settings.{kind_of_sort}
use Rattle.vf_fixpoint_laws.specs.values.Instances.{Instance, placed, all_placed}
use Rattle.vf_fixpoint_laws.specs.values.Declares.{BuildsPredicates, BuildsTerms, Declared, constructed, declared, made, later}
use Rattle.vf_fixpoint_laws.specs.values.Worth.{Sets, TakesBy, Takes, HasOwn, HasValue}
use Rattle.vf_fixpoint_laws.proofs.values.Alike.{AreHeadsAlike, heads_alike, untold_back, pointer_alike}

-- ---- alike sorts
-- what a head takes does not depend on what pointers tell
untold_takes : (sets : Sets) (v : Value) (Own : Sort → Type 0) (h : Head) (t : Sort) → TakesBy sets v Own (untold_head h) t ≡ TakesBy sets v Own h t
untold_takes sets v Own heads.Int t = refl
untold_takes sets v Own heads.Bool t = refl
untold_takes sets v Own (heads.Pointer w) t = refl
untold_takes sets v Own heads.Real t = refl
untold_takes sets v Own heads.Any t = refl
untold_takes sets v Own (heads.Parameter i) t = refl
untold_takes sets v Own (heads.Unknown u) t = refl
untold_takes sets v Own (heads.Datatype d) t = refl
untold_takes sets v Own heads.Predicate t = refl

-- a head takes what it takes where its own sorts are others
takes_more : (sets : Sets) (v : Value) (Own : Sort → Type 0) (h : Head) (t u : Sort) → (Own t → Own u) → TakesBy sets v Own h t → TakesBy sets v Own h u
takes_more sets v Own heads.Int t u f x = f x
takes_more sets v Own heads.Bool t u f x = f x
takes_more sets v Own (heads.Pointer w) t u f x = f x
takes_more sets v Own heads.Real t u f x = f x
takes_more sets v Own heads.Any t u f x = x
takes_more sets v Own (heads.Parameter i) t u f x = x
takes_more sets v Own (heads.Unknown w) t u f x = f x
takes_more sets v Own (heads.Datatype d) t u f x = f x
takes_more sets v Own heads.Predicate t u f x = f x

takes_alike : (sets : Sets) (v : Value) (Own : Sort → Type 0) (t u : Sort) → AreHeadsAlike t u → (Own t → Own u) → Takes sets v Own t → Takes sets v Own u
takes_alike sets v Own t u e f x =
    subst (λ (A : Type 0). A) (sym (untold_takes sets v Own (head_of t) u) ∙ ap (λ (h : Head). TakesBy sets v Own h u) e ∙ untold_takes sets v Own (head_of u) u)
    (takes_more sets v Own (head_of t) t u f x)

-- the same head, where it is no pointer
same_head : (t u : Sort) (h : Head) → AreAlike t u → ((w : Option ℕ) → h ≢ heads.Pointer w) → head_of t ≡ h → head_of u ≡ h
same_head t u h e n is = untold_back (head_of u) h (sym (heads_alike t u e) ∙ ap untold_head is) n

still_pointer : (t u : Sort) → AreAlike t u → is_pointer t ≡ true → is_pointer u ≡ true
still_pointer t u e is = sym (pointer_alike t u (heads_alike t u e)) ∙ is

module _ (d : Declared) (sets : Sets) where
  own_alike : (v : Value) (t u : Sort) → AreAlike t u → HasOwn d sets v t → HasOwn d sets v u
  own_alike (values.Number z) t u e h = same_head t u heads.Int e (λ w p. cc) h
  own_alike (values.Truth b) t u e h = same_head t u heads.Bool e (λ w p. cc) h
  own_alike values.Null t u e h = still_pointer t u e h
  own_alike (values.Pointer b o) t u e h = still_pointer t u e h
  own_alike (values.Function g) t u e h = still_pointer t u e h
  own_alike (values.Constructed c vs) t u e (x, is, g, f, whole, have) = (x, is, g, f, whole ∙ e, have)
  own_alike (values.Predicate p vs) t u e (x, is, g, f, whole, have) = (x, is, g, f, whole ∙ e, have)
  own_alike (values.Fraction q) t u e (head, positive) = (same_head t u heads.Real e (λ w p. cc) head, positive)

  -- sorts that are alike have the same values
  pub value_alike : (v : Value) (t u : Sort) → AreAlike t u → HasValue d sets v t → HasValue d sets v u
  value_alike v t u e h = takes_alike sets v (HasOwn d sets v) t u (heads_alike t u e) (own_alike v t u e) h

  -- ---- `any`
  own_any : (v : Value) (h : Head) (ts : Sorts) → TakesBy sets v (HasOwn d sets v) h (sort h ts) → HasValue d sets v value_sort
  own_any v heads.Int ts x = inr (sort heads.Int ts, x)
  own_any v heads.Bool ts x = inr (sort heads.Bool ts, x)
  own_any v (heads.Pointer w) ts x = inr (sort (heads.Pointer w) ts, x)
  own_any v heads.Real ts x = inr (sort heads.Real ts, x)
  own_any v heads.Any ts x = x
  own_any v (heads.Parameter i) ts x = inl (i, x)
  own_any v (heads.Unknown u) ts x = inr (sort (heads.Unknown u) ts, x)
  own_any v (heads.Datatype n) ts x = inr (sort (heads.Datatype n) ts, x)
  own_any v heads.Predicate ts x = inr (sort heads.Predicate ts, x)

  -- `any` has each value that a sort has
  pub of_any : (v : Value) (t : Sort) → HasValue d sets v t → HasValue d sets v value_sort
  of_any v (sort h ts) x = own_any v h ts x

  -- what is built is of no sort of pointers
  terms_apart : (c : Identity) (x : Scheme) → BuildsTerms d c x → (g : Instance) (f : Filling) → is_pointer (placed g f x.result) ≡ false
  terms_apart c x (constructed is) g f = refl

  predicates_apart : (c : Identity) (x : Scheme) → BuildsPredicates d c x → (g : Instance) (f : Filling) → is_pointer (placed g f x.result) ≡ false
  predicates_apart c x (declared is) g f = refl
  predicates_apart c x (made is) g f = refl
  predicates_apart c x (later y from stands is) g f = refl

  no_pointer : {A : Type 0} (t u : Sort) → AreAlike t u → is_pointer t ≡ false → is_pointer u ≡ true → A
  no_pointer t u e out is = absurd (let q : false ≡ true = sym out ∙ pointer_alike t u (heads_alike t u e) ∙ is in cc)

  -- a value of some sort of pointers is of each of them
  pointer_own : (v : Value) (w : Option ℕ) (ts : Sorts) → HasOwn d sets v (sort (heads.Pointer w) ts) → HasOwn d sets v pointer_sort
  pointer_own (values.Number z) w ts x = absurd (let e : heads.Pointer w ≡ heads.Int = x in cc)
  pointer_own (values.Truth b) w ts x = absurd (let e : heads.Pointer w ≡ heads.Bool = x in cc)
  pointer_own values.Null w ts x = refl
  pointer_own (values.Pointer b o) w ts x = refl
  pointer_own (values.Function g) w ts x = refl
  pointer_own (values.Constructed c vs) w ts (x, is, g, f, whole, have) = no_pointer (placed g f x.result) (sort (heads.Pointer w) ts) whole (terms_apart c x is g f) refl
  pointer_own (values.Predicate p vs) w ts (x, is, g, f, whole, have) = no_pointer (placed g f x.result) (sort (heads.Pointer w) ts) whole (predicates_apart p x is g f) refl
  pointer_own (values.Fraction q) w ts (head, positive) = absurd cc

  -- a pointer stays one further on
  further_own : (v : Value) (n : ℤ) (t : Sort) → HasOwn d sets v t → HasOwn d sets (further v n) t
  further_own (values.Number z) n t x = x
  further_own (values.Truth b) n t x = x
  further_own values.Null n t x = x
  further_own (values.Pointer b o) n t x = x
  further_own (values.Function g) n t x = x
  further_own (values.Constructed c vs) n t x = x
  further_own (values.Predicate p vs) n t x = x
  further_own (values.Fraction q) n t x = x

  -- one of two values of a sort
  pub one_of_two : (b : Bool) (v w : Value) (t : Sort) → HasValue d sets v t → HasValue d sets w t → HasValue d sets (cond b v w) t
  one_of_two true v w t x y = x
  one_of_two false v w t x y = y

  -- ---- values of sorts in which sorts stand for type parameters
  module _ (g : Instance) (f : Filling) where
    -- each sort that is `any` has each value that a sort has
    pub of_each_any : (v : Value) (t u : Sort) → is_any u ≡ true → HasValue d sets v t → HasValue d sets v (placed g f u)
    of_each_any v t (sort heads.Any us) e x = of_any v t x
    of_each_any v t (sort (heads.Pointer w) us) e x = absurd cc
    of_each_any v t (sort heads.Int us) e x = absurd cc
    of_each_any v t (sort heads.Bool us) e x = absurd cc
    of_each_any v t (sort heads.Real us) e x = absurd cc
    of_each_any v t (sort (heads.Parameter i) us) e x = absurd cc
    of_each_any v t (sort (heads.Unknown w) us) e x = absurd cc
    of_each_any v t (sort (heads.Datatype n) us) e x = absurd cc
    of_each_any v t (sort heads.Predicate us) e x = absurd cc

    -- a value as the kind of its sort has it
    pub kinded : (v : Value) (t : Sort) → HasValue d sets v (placed g f t) → HasValue d sets (of_kind (kind_of_sort t) v) (placed g f t)
    kinded v (sort heads.Int ts) x = refl
    kinded v (sort heads.Bool ts) x = x
    kinded v (sort (heads.Pointer w) ts) x = x
    kinded v (sort heads.Real ts) x = x
    kinded v (sort heads.Any ts) x = x
    kinded v (sort (heads.Parameter i) ts) x = x
    kinded v (sort (heads.Unknown u) ts) x = x
    kinded v (sort (heads.Datatype n) ts) x = x
    kinded v (sort heads.Predicate ts) x = x

    -- a pointer further on
    pub still_further : (v : Value) (n : ℤ) (t : Sort) → is_pointer t ≡ true → HasValue d sets v (placed g f t) → HasValue d sets (further v n) pointer_sort
    still_further v n (sort (heads.Pointer w) ts) e x = further_own v n pointer_sort (pointer_own v w (all_placed g f ts) x)
    still_further v n (sort heads.Int ts) e x = absurd cc
    still_further v n (sort heads.Bool ts) e x = absurd cc
    still_further v n (sort heads.Real ts) e x = absurd cc
    still_further v n (sort heads.Any ts) e x = absurd cc
    still_further v n (sort (heads.Parameter i) ts) e x = absurd cc
    still_further v n (sort (heads.Unknown u) ts) e x = absurd cc
    still_further v n (sort (heads.Datatype m) ts) e x = absurd cc
    still_further v n (sort heads.Predicate ts) e x = absurd cc

    -- the null pointer is of each sort of pointers
    pub null_pointer : (t : Sort) → is_pointer t ≡ true → HasValue d sets values.Null (placed g f t)
    null_pointer (sort (heads.Pointer w) ts) e = refl
    null_pointer (sort heads.Int ts) e = absurd cc
    null_pointer (sort heads.Bool ts) e = absurd cc
    null_pointer (sort heads.Real ts) e = absurd cc
    null_pointer (sort heads.Any ts) e = absurd cc
    null_pointer (sort (heads.Parameter i) ts) e = absurd cc
    null_pointer (sort (heads.Unknown u) ts) e = absurd cc
    null_pointer (sort (heads.Datatype n) ts) e = absurd cc
    null_pointer (sort heads.Predicate ts) e = absurd cc
