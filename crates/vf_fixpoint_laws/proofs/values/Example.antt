-- The example's fixpoints keep sorts, and its expression has its sort.
use Rattle.std.proofs.Common.{◌≡◌, ◌↔◌, ℕ, zero, suc, ◌+◌, List, [], ◌∷◌, ◌++◌, length, Option, Some, None, Bool, true, false, refl, sym, subst, ap, ◌∙◌, arith}
use Rattle.std.specs.Prelude.{map, slice_get, codes}
use Rattle.vf_names.specs.Names.{number_of}
use Rattle.vf_names.proofs.Numbering.{name_there}
use Rattle.vf_tree.specs.Core.{Identity}
use Rattle.vf_model.specs.Values.{Value, Values, none, more}
use Rattle.vf_model.specs.Values as values
use Rattle.vf_meaning.specs.Valuations.{Valuation}
use Rattle.vf_sorts.specs.declared.sort.Head.TheVariants as heads
use Rattle.vf_sorts.specs.Sorts.{Sort, sort, no_sorts, and_sort}
use Rattle.vf_sorts.specs.Told.{AreAlike, as_told, untold}
use Rattle.vf_sorts.specs.Unknowns.{AgreesAsTold, Filling, Known, filled, leaf, settling}
use Rattle.vf_sorts.specs.Pairs.{left_to_do}
use Rattle.vf_sorts.specs.Unifying.{Equates, unified}
use Rattle.vf_declared.specs.declared.declaration.Constructor.{Constructor}
use Rattle.vf_declared.specs.declared.declaration.Declaration.{Declaration}
use Rattle.vf_declared.specs.declared.declaration.Fixpoint.{Fixpoint}
use Rattle.vf_declared.specs.declared.declaration.GhostDeclaration.{GhostDeclaration}
use Rattle.vf_declared.specs.declared.declaration.GhostDeclaration.TheVariants as ghosts
use Rattle.vf_declared.specs.declared.declaration.Meaning.TheVariants as meanings
use Rattle.vf_declared.specs.Scopes.{at_index, ghost_of}
use Rattle.vf_sorting.specs.HasSort.{HasSort, number, name_, application, as_wanted, none_passed, one_passed}
use Rattle.vf_sorting.specs.declared.scheme.Scheme.{Scheme}
use Rattle.vf_sorting.specs.Kinds.{int_sort}
use Rattle.vf_sorting.specs.Schemes.{constructor_scheme}
use Rattle.vf_terms.specs.Named.{identity_of}
use Rattle.vf_fixpoint_laws.specs.values.Instances.{Instance, placed}
use Rattle.vf_fixpoint_laws.specs.values.Declares.{BuildsTerms, constructed, file_level}
use Rattle.vf_fixpoint_laws.specs.values.Worth.{HaveValues, HasValue, Sets, passing}
use Rattle.vf_fixpoint_laws.specs.values.Given.{FixpointsKeepSorts, GivesValues}
use Rattle.vf_fixpoint_laws.specs.values.Example.{FirstHasItsSort, cons_constructor, declared_as, element, first_fixpoint, first_in, first_of_one, known_in_one, length_fixpoint, list_interpretation, list_of, list_scope, list_setting, nil_constructor, no_words}
use Rattle.vf_fixpoint_laws.proofs.values.Covering.{covers_itself}
use Rattle.vf_fixpoint_laws.proofs.values.Having.{value_alike}
use Rattle.vf_fixpoint_laws.proofs.values.Values.{values_have_sorts}

-- ---- sorts that agree with what is known, one by one
abbrev pub AllAgree : (Sort → Sort) → Filling → ℕ → Known → Type 0
AllAgree o f n [] = Unit {0}
AllAgree o f n (None ∷ k) = AllAgree o f (suc n) k
AllAgree o f n (Some t ∷ k) = (o (f n) ≡ o (filled f t)) × AllAgree o f (suc n) k

-- the same by their numbers
abbrev pub EachAgrees : (Sort → Sort) → Filling → ℕ → Known → Type 0
EachAgrees o f n k = (u : ℕ) (t : Sort) → slice_get k u ≡ Some (Some t) → o (f (n + u)) ≡ o (filled f t)

first_told : {t u : Sort} → Some (Some t) ≡ Some (Some u) → t ≡ u
first_told e = cc

each_agrees : (o : Sort → Sort) (f : Filling) (n : ℕ) (k : Known) → AllAgree o f n k → EachAgrees o f n k
each_agrees o f n [] a u t e = absurd cc
each_agrees o f n (None ∷ k) a zero t e = absurd cc
each_agrees o f n (None ∷ k) a (suc u) t e = subst (λ m. o (f m) ≡ o (filled f t)) (omega arith) (each_agrees o f (suc n) k a u t e)
each_agrees o f n (Some s ∷ k) a zero t e = subst (λ m. o (f m) ≡ o (filled f t)) (omega arith) (a.0 ∙ ap (λ q. o (filled f q)) (first_told e))
each_agrees o f n (Some s ∷ k) a (suc u) t e = subst (λ m. o (f m) ≡ o (filled f t)) (omega arith) (each_agrees o f (suc n) k a.1 u t e)

all_agree : (o : Sort → Sort) (f : Filling) (n : ℕ) (k : Known) → EachAgrees o f n k → AllAgree o f n k
all_agree o f n [] a = tt
all_agree o f n (None ∷ k) a = all_agree o f (suc n) k (λ u t e. subst (λ m. o (f m) ≡ o (filled f t)) (omega arith) (a (suc u) t e))
all_agree o f n (Some s ∷ k) a =
    (subst (λ m. o (f m) ≡ o (filled f s)) (omega arith) (a 0 s refl), all_agree o f (suc n) k (λ u t e. subst (λ m. o (f m) ≡ o (filled f t)) (omega arith) (a (suc u) t e)))

-- sorts that agree with all that is known, from the first number on
agree_first : (o : Sort → Sort) (f : Filling) (k : Known) → ((u : ℕ) (t : Sort) → slice_get k u ≡ Some (Some t) → o (f u) ≡ o (filled f t)) → AllAgree o f 0 k
agree_first o f k a = all_agree o f 0 k (λ u t e. subst (λ m. o (f m) ≡ o (filled f t)) (omega arith) (a u t e))

first_agree : (o : Sort → Sort) (f : Filling) (k : Known) → AllAgree o f 0 k → (u : ℕ) (t : Sort) → slice_get k u ≡ Some (Some t) → o (f u) ≡ o (filled f t)
first_agree o f k a u t e = subst (λ m. o (f m) ≡ o (filled f t)) (omega arith) (each_agrees o f 0 k a u t e)

-- two sorts are made equal, by what is known one by one
equal_by : (k : Known) (t u : Sort) (l : Known) → length l ≡ length k
    → ((f : Filling) → AllAgree untold f 0 l ↔ (AllAgree untold f 0 k × AreAlike (filled f t) (filled f u)))
    → ((f : Filling) → AllAgree as_told f 0 l → AllAgree as_told f 0 k)
    → ((f : Filling) → AllAgree as_told f 0 k → filled f t ≡ filled f u → AllAgree as_told f 0 l)
    → unified k t u ≡ Some l → Equates k t u l
equal_by k t u l long alike kept told made = record {
  long = long;
  alike = λ f. (
    (λ a. let b = (alike f).0 (agree_first untold f l a) in (first_agree untold f k b.0, b.1)),
    (λ b. first_agree untold f l ((alike f).1 (agree_first untold f k b.0, b.1))),
  );
  kept = λ f a. first_agree as_told f k (kept f (agree_first as_told f l a));
  told = λ f a e. first_agree as_told f l (told f (agree_first as_told f k a) e);
  made = made;
}

-- the sort of the elements of a list
abbrev part : Sort → Sort
part (sort h (and_sort t ts)) = t
part (sort h no_sorts) = sort h no_sorts

-- `1` is passed to `cons`
one_equated : Equates (None ∷ None ∷ []) int_sort (leaf (heads.Unknown 1)) (None ∷ Some int_sort ∷ [])
unfolding left_to_do
one_equated = equal_by _ _ _ _ refl (λ f. ((λ a. (tt, sym a.0)), (λ b. (sym b.1, tt)))) (λ f a. tt) (λ f a e. (sym e, tt)) refl

-- so is `nil`
nil_equated : Equates (None ∷ Some int_sort ∷ None ∷ []) (list_of (leaf (heads.Unknown 2))) (list_of (leaf (heads.Unknown 1))) (None ∷ Some int_sort ∷ Some int_sort ∷ [])
unfolding left_to_do
nil_equated = equal_by _ _ _ _ refl (λ f. ((λ a. ((a.0, tt), ap list_of (a.1.0 ∙ sym a.0))), (λ b. (b.0.0, (ap part b.1 ∙ b.0.0, tt))))) (λ f a. (a.0, tt)) (λ f a e. (a.0, (ap part e ∙ a.0, tt))) refl

-- the list is passed to `first`
list_equated : Equates (None ∷ Some int_sort ∷ Some int_sort ∷ []) (list_of (leaf (heads.Unknown 1))) (list_of (leaf (heads.Unknown 0))) known_in_one
unfolding left_to_do
list_equated = equal_by _ _ _ _ refl (λ f. ((λ a. (a.1, ap list_of (a.1.0 ∙ sym a.0))), (λ b. (sym (ap part b.1) ∙ b.0.0, b.0)))) (λ f a. a.1) (λ f a e. (sym (ap part e) ∙ a.0, a)) refl

-- so is `2`
two_equated : Equates known_in_one int_sort (leaf (heads.Unknown 0)) known_in_one
unfolding left_to_do
two_equated = equal_by _ _ _ _ refl (λ f. ((λ a. (a, sym a.0)), (λ b. b.0))) (λ f a. a) (λ f a e. a) refl

-- ---- the expression
first_sorted : HasSort list_scope no_words [] first_of_one (leaf (heads.Unknown 0)) known_in_one
first_sorted = application {g = record { parameters = 1; arguments = list_of element ∷ element ∷ []; result = element }} refl refl (((tt, tt), (tt, tt)), tt)
    (one_passed
    (as_wanted refl refl
    (application {g = record { parameters = 1; arguments = element ∷ list_of element ∷ []; result = list_of element }} refl refl ((tt, ((tt, tt), tt)), (tt, tt))
    (one_passed (as_wanted refl refl number one_equated)
    (one_passed (as_wanted refl refl (name_ {g = record { parameters = 1; arguments = []; result = list_of element }} refl (tt, (tt, tt))) nil_equated) none_passed)))
    list_equated)
    (one_passed (as_wanted refl refl number two_equated) none_passed))

known_agrees : AgreesAsTold (settling known_in_one) known_in_one
known_agrees = first_agree as_told (settling known_in_one) known_in_one (refl, (refl, (refl, tt)))

-- ---- what is declared
numbered : (m n : ℕ) (d : Declaration) → Some (declared_as m) ≡ Some d → d.meaning ≡ meanings.Ghost n → n ≡ m
numbered m n d found means = let e : declared_as m ≡ d = cc in let q : meanings.Ghost m ≡ meanings.Ghost n = ap (λ (a : Declaration). a.meaning) e ∙ means in cc

-- the fixpoint that stands at a number
fixpoint_at : (m n : ℕ) (f k : Fixpoint) → n ≡ m → ghost_of list_scope m ≡ Some (ghosts.Fixpoint k) → ghost_of list_scope n ≡ Some (ghosts.Fixpoint f) → k ≡ f
fixpoint_at m n f k e is stands = let q : Some (ghosts.Fixpoint k) ≡ Some (ghosts.Fixpoint f) = sym is ∙ ap (ghost_of list_scope) (sym e) ∙ stands in cc

abbrev is_fixpoint : Option GhostDeclaration → Bool
is_fixpoint (Some (ghosts.Fixpoint f)) = true
is_fixpoint o = false

no_fixpoint : (m n : ℕ) (f : Fixpoint) → n ≡ m → is_fixpoint (ghost_of list_scope m) ≡ false → ghost_of list_scope n ≡ Some (ghosts.Fixpoint f) → ⊥
no_fixpoint m n f e is stands = let q : false ≡ true = sym is ∙ ap is_fixpoint (ap (ghost_of list_scope) (sym e) ∙ stands) in absurd cc

-- an identity in the first file
identified : (m : ℕ) (c : Identity) (x y : List ℕ) (d : Declaration) → Some y ≡ Some x → Some (declared_as m) ≡ Some d → c ≡ identity_of list_setting.paths d.files x → c ≡ codes "one.c#" ++ y
identified m c x y d there found is =
    let e : declared_as m ≡ d = cc in
    let q : y ≡ x = cc in
    is ∙ ap (λ (a : Declaration). identity_of list_setting.paths a.files x) (sym e) ∙ ap (λ (z : List ℕ). codes "one.c#" ++ z) (sym q)

-- ---- the fixpoints
module _ (sets : Sets) where
  -- the first part of a term is of the sort over which its datatype is
  parts_first : (k : Constructor) (n : ℕ) → ghost_of list_scope n ≡ Some (ghosts.Constructor k) → (g : Instance) (f : Filling) (t : Sort) (v : Value) (vs : Values)
      → AreAlike (placed g f (constructor_scheme list_scope k).result) (list_of t) → HaveValues (file_level list_setting) sets (more v vs) (map (placed g f) k.arguments) → HasValue (file_level list_setting) sets v t
  parts_first k zero e g f t v vs whole h = absurd cc
  parts_first k (suc zero) e g f t v vs whole h = absurd (subst (λ (c : Constructor). HaveValues (file_level list_setting) sets (more v vs) (map (placed g f) c.arguments)) (let q : k ≡ nil_constructor = cc in q) h)
  parts_first k (suc (suc zero)) e g f t v vs whole h =
      let q : k ≡ cons_constructor = cc in
      value_alike (file_level list_setting) sets v (g 0) t (ap part (subst (λ (c : Constructor). AreAlike (placed g f (constructor_scheme list_scope c).result) (list_of t)) q whole))
      (subst (λ (c : Constructor). HaveValues (file_level list_setting) sets (more v vs) (map (placed g f) c.arguments)) q h).0
  parts_first k (suc (suc (suc zero))) e g f t v vs whole h = absurd cc
  parts_first k (suc (suc (suc (suc zero)))) e g f t v vs whole h = absurd cc
  parts_first k (suc (suc (suc (suc (suc n))))) e g f t v vs whole h = absurd cc

  first_built : (c : Identity) (x : Scheme) → BuildsTerms (file_level list_setting) c x → (g : Instance) (f : Filling) (t : Sort) (v : Value) (vs : Values)
      → AreAlike (placed g f x.result) (list_of t) → HaveValues (file_level list_setting) sets (more v vs) (map (placed g f) x.arguments) → HasValue (file_level list_setting) sets v t
  first_built c x (constructed {k} is) g f t v vs whole have = parts_first k is.number is.stands g f t v vs whole have

  first_of_list : (l w : Value) (t : Sort) → HasValue (file_level list_setting) sets l (list_of t) → HasValue (file_level list_setting) sets w t → HasValue (file_level list_setting) sets (first_in l w) t
  first_of_list (values.Constructed c (more v vs)) w t (x, is, g, f, whole, have) b = first_built c x is g f t v vs whole have
  first_of_list (values.Constructed c none) w t a b = b
  first_of_list (values.Number z) w t a b = b
  first_of_list (values.Truth x) w t a b = b
  first_of_list values.Null w t a b = b
  first_of_list (values.Pointer x o) w t a b = b
  first_of_list (values.Function g) w t a b = b
  first_of_list (values.Predicate p vs) w t a b = b
  first_of_list (values.Fraction d) w t a b = b

  -- a fixpoint keeps sorts
  abbrev pub Keeps : Identity → Fixpoint → Type 0
  Keeps c x = (g : Instance) (f : Filling) (vs : Values) → HaveValues (file_level list_setting) sets vs (map (placed g f) x.arguments) → HasValue (file_level list_setting) sets (list_interpretation.fixpoint c vs) (placed g f x.result)

  length_keeps : Keeps (codes "one.c#length") length_fixpoint
  length_keeps g f vs have = refl

  first_keeps : Keeps (codes "one.c#first") first_fixpoint
  first_keeps g f (more l (more w none)) have = first_of_list l w (g 0) have.0 have.1.0
  first_keeps g f none have = absurd have
  first_keeps g f (more l none) have = absurd have.1
  first_keeps g f (more l (more w (more x vs))) have = absurd have.1.1

  -- the fixpoint of a name that is declared
  named_keeps : (c : Identity) (f : Fixpoint) (x : List ℕ) (d : Declaration) (n k : ℕ) → slice_get list_scope.names k ≡ Some x → slice_get list_scope.declarations k ≡ Some d → d.meaning ≡ meanings.Ghost n
      → ghost_of list_scope n ≡ Some (ghosts.Fixpoint f) → c ≡ identity_of list_setting.paths d.files x → Keeps c f
  named_keeps c f x d n zero there found means stands is = absurd (no_fixpoint 0 n f (numbered 0 n d found means) refl stands)
  named_keeps c f x d n (suc zero) there found means stands is = absurd (no_fixpoint 1 n f (numbered 1 n d found means) refl stands)
  named_keeps c f x d n (suc (suc zero)) there found means stands is = absurd (no_fixpoint 2 n f (numbered 2 n d found means) refl stands)
  named_keeps c f x d n (suc (suc (suc zero))) there found means stands is =
      subst (λ (a : Identity). Keeps a f) (sym (identified 3 c x (codes "length") d there found is)) (subst (Keeps (codes "one.c#length")) (fixpoint_at 3 n f length_fixpoint (numbered 3 n d found means) refl stands) length_keeps)
  named_keeps c f x d n (suc (suc (suc (suc zero)))) there found means stands is =
      subst (λ (a : Identity). Keeps a f) (sym (identified 4 c x (codes "first") d there found is)) (subst (Keeps (codes "one.c#first")) (fixpoint_at 4 n f first_fixpoint (numbered 4 n d found means) refl stands) first_keeps)
  named_keeps c f x d n (suc (suc (suc (suc (suc k))))) there found means stands is = absurd cc

  fixpoints_keep : FixpointsKeepSorts (file_level list_setting) list_interpretation sets
  fixpoints_keep c vs f is g h have = by (number_of list_scope.names is.name) refl g h vs have
    where
      by : (o : Option ℕ) → number_of list_scope.names is.name ≡ o → Keeps c f
      by (Some k) e = named_keeps c f is.name is.declaration is.number k (name_there list_scope.names is.name k e) (ap (at_index list_scope.declarations) (sym e) ∙ is.found) is.means is.stands is.is
      by None e = absurd (let q : None ≡ Some is.declaration = ap (at_index list_scope.declarations) (sym e) ∙ is.found in cc)

-- ---- what is given
nothing_else : (v : Valuation) (sets : Sets) (g : Instance) → GivesValues (file_level list_setting) list_setting list_interpretation v sets g
nothing_else v sets g = record { aligned = refl; locals = λ n l e. absurd cc; result = λ t e. absurd cc; this_value = λ e. absurd cc; thread = λ e. absurd cc }

-- a type parameter stands for itself
itself : Instance
itself i = leaf (heads.Parameter i)

pub first_has_its_sort : FirstHasItsSort
first_has_its_sort = record {
  keeps = λ tests. fixpoints_keep (passing tests);
  gives = λ v tests g. nothing_else v (passing tests) g;
  sorted = first_sorted;
  agrees = known_agrees;
  has_value = λ v tests.
      (values_have_sorts (file_level list_setting) list_setting list_interpretation v tests itself (covers_itself (file_level list_setting)) (nothing_else v (passing tests) itself) (fixpoints_keep (passing tests)) [] known_in_one first_of_one known_agrees).0 (leaf (heads.Unknown 0)) first_sorted;
  is_one = λ v. refl;
}
