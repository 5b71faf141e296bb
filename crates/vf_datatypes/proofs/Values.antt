-- Where datatypes stand in order, each sort over them has a value.
use Rattle.std.proofs.Common.{◌≡◌, ℕ, zero, suc, ◌+◌, ◌<◌, ◌≤◌, Bool, true, false, not, ◌&&◌, ◌||◌, nat_eq, nat_lt, List, [], ◌∷◌, length, slice_get, Option, Some, refl, sym, subst, ◌∙◌, ◌⊎◌, inl, inr, arith}
use Rattle.std.proofs.lemmas.Bool.{ltb-true}
use Rattle.std.proofs.lemmas.Bool.Decides.{eqb_tells}
use Rattle.std.specs.List.{list_all, list_any}
use Rattle.vf_sorts.specs.declared.sort.Head.TheVariants as heads
use Rattle.vf_sorts.specs.Sorts.{Sort, Sorts, sort, no_sorts, and_sort}
use Rattle.vf_declared.specs.declared.declaration.GhostDeclaration.{GhostDeclaration}
use Rattle.vf_declared.specs.declared.declaration.GhostDeclaration.TheVariants as ghosts
use Rattle.vf_declared.specs.declared.scope.Scope.{Scope}
use Rattle.vf_declared.specs.Scopes.{datatype_of, ghost_of}
use Rattle.vf_datatypes.specs.Inhabited.{Known, all_name_below, all_told, AllHaveValues, and_one, AreToldRight, built, can_build, constructors_in, earlier, has_value, have_values, HasValue, IsBuilt, IsConstructorOf, names_below, no_sort_left, of_another, of_datatype, of_parameter, one_builds, parameter_has_value, StandInOrder, told_of_none, told_to_have, told_to_lack, ValuesAreBuilt}

-- where two truth values hold together, each does
both : (a b : Bool) → (a && b) ≡ true → (a ≡ true) × (b ≡ true)
both true b h = (refl, h)
both false b h = absurd cc

either : (a b : Bool) → (a || b) ≡ true → (a ≡ true) ⊎ (b ≡ true)
either true b h = inl refl
either false b h = inr h

-- one for which something holds stands in a list
record Found (A : Type 0) (p : A → Bool) (xs : List A) : Type 0 where
  at : ℕ
  item : A
  stands : slice_get xs at ≡ Some item
  holds : p item ≡ true

later : {A : Type 0} (p : A → Bool) (x : A) (xs : List A) → Found A p xs → Found A p (x ∷ xs)
later p x xs r = record { at = suc r.at; item = r.item; stands = r.stands; holds = r.holds }

found : {A : Type 0} (p : A → Bool) (xs : List A) → list_any p xs ≡ true → Found A p xs
found p [] h = absurd cc
found {A} p (x ∷ xs) h = elim (either (p x) (list_any p xs) h) [
  | inl e ↦ record { at = 0; item = x; stands = refl; holds = e }
  | inr e ↦ later p x xs (found p xs e)
]

-- where all type arguments have a value, each has
each_told : (told : List Bool) → all_told told ≡ true → (i : ℕ) → parameter_has_value told i ≡ true
each_told [] h i = refl
each_told (b ∷ told) h zero = (both b (all_told told) h).0
each_told (b ∷ told) h (suc i) = each_told told (both b (all_told told) h).1 i

-- what is told in one place to have a value is told so in another
abbrev Covers : List Bool → List Bool → Type 0
Covers told own = (i : ℕ) → parameter_has_value told i ≡ true → parameter_has_value own i ≡ true

below_next : (k j : ℕ) → nat_lt j (k + 1) ≡ true → nat_eq j k ≡ false → j < k
below_next k j h d = let l = ltb-true j (k + 1) h in elim (eqb_tells j k) [
  | inl e ↦ absurd (let x : true ≡ false = sym e.0 ∙ d in cc)
  | inr e ↦ (let n = e.1 in omega (arith, l, n))
]

not_true : (b : Bool) → not b ≡ true → b ≡ false
not_true true h = absurd cc
not_true false h = refl

-- datatypes below a number have values where they are known to
abbrev Right : Scope → Known → ℕ → Type 0
Right s known k = (j : ℕ) → j < k → (own : List Bool) → known j own ≡ true → IsBuilt s own j

-- what is told of one more sort
one_right : (s : Scope) (own : List Bool) (t : Sort) (ts : Sorts) (b : Bool) (bs : List Bool) → (b ≡ true → HasValue s own t) → AreToldRight s own bs ts → AreToldRight s own (b ∷ bs) (and_sort t ts)
one_right s own t ts true bs f r = told_to_have (f refl) r
one_right s own t ts false bs f r = told_to_lack r

-- a sort that a constructor of a datatype can have has a value, where the datatypes below have the values that are known
mutual
  sort_right : (s : Scope) (known : Known) (k : ℕ) → Right s known k → (told own : List Bool) → Covers told own → (t : Sort) → names_below (k + 1) t ≡ true → has_value known k told t ≡ true → HasValue s own t
  sort_right s known k r told own c (sort (heads.Parameter i) ts) n h = of_parameter i ts (c i h)
  sort_right s known k r told own c (sort (heads.Datatype j) ts) n h =
      let m = both (nat_lt j (k + 1)) (all_name_below (k + 1) ts) n in
      let b = both (not (nat_eq j k)) (known j (have_values known k told ts)) h in
      of_datatype j ts (have_values known k told ts) (sorts_right s known k r told own c ts m.1) (r j (below_next k j m.0 (not_true (nat_eq j k) b.0)) (have_values known k told ts) b.1)
  sort_right s known k r told own c t n h = of_another t refl

  sorts_right : (s : Scope) (known : Known) (k : ℕ) → Right s known k → (told own : List Bool) → Covers told own → (ts : Sorts) → all_name_below (k + 1) ts ≡ true → AreToldRight s own (have_values known k told ts) ts
  sorts_right s known k r told own c no_sorts n = told_of_none
  sorts_right s known k r told own c (and_sort t ts) n =
      let m = both (names_below (k + 1) t) (all_name_below (k + 1) ts) n in
      one_right s own t ts (has_value known k told t) (have_values known k told ts) (λ e. sort_right s known k r told own c t m.0 e) (sorts_right s known k r told own c ts m.1)

module _ (s : Scope) (known : Known) (k : ℕ) (r : Right s known k) (told own : List Bool) (c : Covers told own) where
  -- so have all arguments that a constructor can have
  all_right : (ts : List Sort) → list_all (names_below (k + 1)) ts ≡ true → list_all (has_value known k told) ts ≡ true → AllHaveValues s own ts
  all_right [] n h = no_sort_left
  all_right (t ∷ ts) n h =
      let m = both (names_below (k + 1) t) (list_all (names_below (k + 1)) ts) n in
      let b = both (has_value known k told t) (list_all (has_value known k told) ts) h in
      and_one (sort_right s known k r told own c t m.0 b.0) (all_right ts m.1 b.1)

  by_declaration : ((arguments : List Sort) → IsConstructorOf s k arguments → list_all (names_below (k + 1)) arguments ≡ true) → (at number : ℕ) → slice_get (constructors_in (datatype_of s k)) at ≡ Some number → (g : Option GhostDeclaration) → ghost_of s number ≡ g → can_build known k told g ≡ true → IsBuilt s own k
  by_declaration o at number q (Some (ghosts.Constructor x)) is h =
      let of_it : IsConstructorOf s k x.arguments = record { at = at; number = number; stands = q; datatype = x.datatype; is = is } in
      built x.arguments of_it (all_right x.arguments (o x.arguments of_it) h)
  by_declaration o at number q g is h = absurd cc

  -- where one of the constructors can have all its arguments, a value is built
  building : ((arguments : List Sort) → IsConstructorOf s k arguments → list_all (names_below (k + 1)) arguments ≡ true) → one_builds known s k told ≡ true → IsBuilt s own k
  building o h = let f = found (λ x. can_build known k told (ghost_of s x)) (constructors_in (datatype_of s k)) h in by_declaration o f.at f.item f.stands (ghost_of s f.item) refl f.holds

module _ (s : Scope) (o : StandInOrder s) where
  at_one : (k : ℕ) → k < length s.datatypes → ((n : ℕ) → Right s (earlier n s) k) → (n : ℕ) (own : List Bool) → earlier n s k own ≡ true → IsBuilt s own k
  at_one k within r n own h = by_depth n h
    where
      accepted : all_told own ≡ true → IsBuilt s own k
      accepted e = building s (earlier (length s.datatypes) s) k (r (length s.datatypes)) [] own (λ i _. each_told own e i) (o.ordered k) (o.inhabited k within)

      by_depth : (m : ℕ) → earlier m s k own ≡ true → IsBuilt s own k
      by_depth zero e = accepted e
      by_depth (suc m) e = elim (either (all_told own) (one_builds (earlier m s) s k own) e) [
        | inl t ↦ accepted t
        | inr b ↦ building s (earlier m s) k (r m) own own (λ i x. x) (o.ordered k) b
      ]

  one_more : (k : ℕ) → k < length s.datatypes → ((n : ℕ) → Right s (earlier n s) k) → (n : ℕ) → Right s (earlier n s) (suc k)
  one_more k within r n j below own h = elim (eqb_tells j k) [
    | inl e ↦ (let same = e.1 in subst (λ i. IsBuilt s own i) (sym same) (at_one k within r n own (subst (λ i. earlier n s i own ≡ true) same h)))
    | inr e ↦ (let other = e.1 in r n j (omega (arith, below, other)) own h)
  ]

  -- each datatype has the values that it is known to have
  all_datatypes : (k : ℕ) → k ≤ length s.datatypes → (n : ℕ) → Right s (earlier n s) k
  all_datatypes zero within n j below own h = absurd (omega (arith, below))
  all_datatypes (suc k) within n j below own h = one_more k (omega (arith, within)) (all_datatypes k (omega (arith, within))) n j below own h

  -- as many as there are sorts
  abbrev trues : Sorts → List Bool
  trues no_sorts = []
  trues (and_sort t ts) = true ∷ trues ts

  all_true : (ts : Sorts) → all_told (trues ts) ≡ true
  all_true no_sorts = refl
  all_true (and_sort t ts) = all_true ts

  mutual
    every : (t : Sort) → names_below (length s.datatypes) t ≡ true → HasValue s [] t
    every (sort (heads.Parameter i) ts) n = of_parameter i ts refl
    every (sort (heads.Datatype j) ts) n =
        let m = both (nat_lt j (length s.datatypes)) (all_name_below (length s.datatypes) ts) n in
        of_datatype j ts (trues ts) (every_one ts m.1) (all_datatypes (length s.datatypes) (omega arith) 0 j (ltb-true j (length s.datatypes) m.0) (trues ts) (all_true ts))
    every t n = of_another t refl

    every_one : (ts : Sorts) → all_name_below (length s.datatypes) ts ≡ true → AreToldRight s [] (trues ts) ts
    every_one no_sorts n = told_of_none
    every_one (and_sort t ts) n = let m = both (names_below (length s.datatypes) t) (all_name_below (length s.datatypes) ts) n in told_to_have (every t m.0) (every_one ts m.1)

pub values_are_built : ValuesAreBuilt
values_are_built s o t n = every s o t n
