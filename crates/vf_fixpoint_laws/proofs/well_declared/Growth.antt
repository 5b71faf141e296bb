-- Where more is declared, datatypes that had values have them.
use Rattle.std.proofs.Common.{◌≡◌, ℕ, zero, suc, ◌+◌, ◌<◌, ◌≤◌, Bool, true, false, not, ◌&&◌, ◌||◌, nat_eq, List, [], ◌∷◌, length, slice_get, Option, Some, None, refl, sym, ap, subst, ◌∙◌, ◌⊎◌, inl, inr, arith}
use Rattle.std.specs.List.{list_all, list_any}
use Rattle.vf_sorts.specs.declared.sort.Head.TheVariants as heads
use Rattle.vf_sorts.specs.Sorts.{Sort, Sorts, sort, no_sorts, and_sort}
use Rattle.vf_declared.specs.declared.declaration.Datatype.{Datatype}
use Rattle.vf_declared.specs.declared.declaration.GhostDeclaration.{GhostDeclaration}
use Rattle.vf_declared.specs.declared.declaration.GhostDeclaration.TheVariants as ghosts
use Rattle.vf_declared.specs.declared.scope.Scope.{Scope}
use Rattle.vf_declared.specs.Scopes.{datatype_of, ghost_of}
use Rattle.vf_datatypes.specs.Inhabited.{Known, all_told, can_build, constructors_in, earlier, has_value, have_values, is_inhabited, one_builds, parameter_has_value}

both : (a b : Bool) → (a && b) ≡ true → (a ≡ true) × (b ≡ true)
both true b h = (refl, h)
both false b h = absurd cc

either : (a b : Bool) → (a || b) ≡ true → (a ≡ true) ⊎ (b ≡ true)
either true b h = inl refl
either false b h = inr h

-- one for which something holds stands in a list
record Found (A : Type 0) (p : A → Bool) (xs : List A) : Type 0 where
  at : ℕ
  item : A
  stands : slice_get xs at ≡ Some item
  holds : p item ≡ true

later_found : {A : Type 0} (p : A → Bool) (x : A) (xs : List A) → Found A p xs → Found A p (x ∷ xs)
later_found p x xs r = record { at = suc r.at; item = r.item; stands = r.stands; holds = r.holds }

found : {A : Type 0} (p : A → Bool) (xs : List A) → list_any p xs ≡ true → Found A p xs
found p [] h = absurd cc
found {A} p (x ∷ xs) h = elim (either (p x) (list_any p xs) h) [
  | inl e ↦ record { at = 0; item = x; stands = refl; holds = e }
  | inr e ↦ later_found p x xs (found p xs e)
]

-- what is told in one place to have a value is told so in another
abbrev Covers : List Bool → List Bool → Type 0
Covers told own = (i : ℕ) → parameter_has_value told i ≡ true → parameter_has_value own i ≡ true

each_told : (told : List Bool) → all_told told ≡ true → (i : ℕ) → parameter_has_value told i ≡ true
each_told [] h i = refl
each_told (b ∷ told) h zero = (both b (all_told told) h).0
each_told (b ∷ told) h (suc i) = each_told told (both b (all_told told) h).1 i

-- what is declared in a scope is declared in another
pub record Goes (s t : Scope) : Type 0 where
  pub ghosts : (k : ℕ) (g : GhostDeclaration) → ghost_of s k ≡ Some g → ghost_of t k ≡ Some g
  pub datatypes : (k : ℕ) (d : Datatype) → datatype_of s k ≡ Some d → datatype_of t k ≡ Some d
  pub longer : length s.datatypes ≤ length t.datatypes

-- what is known in one place is known in another, of type arguments of which more have values
abbrev Wider : Known → Known → Type 0
Wider known more = (k : ℕ) (told own : List Bool) → Covers told own → known k told ≡ true → more k own ≡ true

all_told_again : (own : List Bool) → ((i : ℕ) → parameter_has_value own i ≡ true) → all_told own ≡ true
all_told_again [] f = refl
all_told_again (b ∷ own) f = ap (λ a. a && all_told own) (f 0) ∙ all_told_again own (λ i. f (suc i))

first_of : (a b : Bool) → a ≡ true → (a || b) ≡ true
first_of a b h = ap (λ x. x || b) h

second_of : (a b : Bool) → b ≡ true → (a || b) ≡ true
second_of true b h = refl
second_of false b h = h

both_of : (a b : Bool) → a ≡ true → b ≡ true → (a && b) ≡ true
both_of a b h k = ap (λ x. x && b) h ∙ k

any_at : {A : Type 0} (p : A → Bool) (xs : List A) (i : ℕ) (x : A) → slice_get xs i ≡ Some x → p x ≡ true → list_any p xs ≡ true
any_at p [] i x h e = absurd cc
any_at p (y ∷ xs) zero x h e = let q : y ≡ x = cc in first_of (p y) (list_any p xs) (ap p q ∙ e)
any_at p (y ∷ xs) (suc i) x h e = second_of (p y) (list_any p xs) (any_at p xs i x h e)

module _ (known more : Known) (wider : Wider known more) (own : ℕ) (told later : List Bool) (covers : Covers told later) where
  -- sorts that a constructor can have it can have
  mutual
    sort_goes : (t : Sort) → has_value known own told t ≡ true → has_value more own later t ≡ true
    sort_goes (sort (heads.Parameter i) ts) h = covers i h
    sort_goes (sort (heads.Datatype k) ts) h =
        let b = both (not (nat_eq k own)) (known k (have_values known own told ts)) h in
        both_of (not (nat_eq k own)) (more k (have_values more own later ts)) b.0 (wider k (have_values known own told ts) (have_values more own later ts) (sorts_go ts) b.1)
    sort_goes t h = refl

    sorts_go : (ts : Sorts) → Covers (have_values known own told ts) (have_values more own later ts)
    sorts_go no_sorts i h = refl
    sorts_go (and_sort t ts) zero h = sort_goes t h
    sorts_go (and_sort t ts) (suc i) h = sorts_go ts i h

  all_go : (ts : List Sort) → list_all (has_value known own told) ts ≡ true → list_all (has_value more own later) ts ≡ true
  all_go [] h = refl
  all_go (t ∷ ts) h = let b = both (has_value known own told t) (list_all (has_value known own told) ts) h in both_of (has_value more own later t) (list_all (has_value more own later) ts) (sort_goes t b.0) (all_go ts b.1)

  build_goes : (g : Option GhostDeclaration) → can_build known own told g ≡ true → (o : Option GhostDeclaration) → ((x : GhostDeclaration) → g ≡ Some x → o ≡ Some x) → can_build more own later o ≡ true
  build_goes (Some (ghosts.Constructor c)) h o f = ap (can_build more own later) (f (ghosts.Constructor c) refl) ∙ all_go c.arguments h
  build_goes g h o f = absurd cc

  one_goes : (s t : Scope) → Goes s t → one_builds known s own told ≡ true → one_builds more t own later ≡ true
  one_goes s t g h = by_datatype (datatype_of s own) refl h
    where
      by_datatype : (o : Option Datatype) → datatype_of s own ≡ o → list_any (λ c. can_build known own told (ghost_of s c)) (constructors_in o) ≡ true → one_builds more t own later ≡ true
      by_datatype None e k = absurd cc
      by_datatype (Some d) e k =
          let f = found (λ c. can_build known own told (ghost_of s c)) d.constructors k in
          ap (λ o. list_any (λ c. can_build more own later (ghost_of t c)) (constructors_in o)) (g.datatypes own d e)
          ∙ any_at (λ c. can_build more own later (ghost_of t c)) d.constructors f.at f.item f.stands (build_goes (ghost_of s f.item) f.holds (ghost_of t f.item) (λ x q. g.ghosts f.item x q))

module _ (s t : Scope) (g : Goes s t) where
  told_goes : (m k : ℕ) (told own : List Bool) → Covers told own → all_told told ≡ true → earlier m t k own ≡ true
  told_goes zero k told own c h = all_told_again own (λ i. c i (each_told told h i))
  told_goes (suc m) k told own c h = first_of (all_told own) (one_builds (earlier m t) t k own) (all_told_again own (λ i. c i (each_told told h i)))

  earlier_goes : (n m : ℕ) → n ≤ m → Wider (earlier n s) (earlier m t)
  earlier_goes zero m l k told own c h = told_goes m k told own c h
  earlier_goes (suc n) zero l k told own c h = absurd (omega (arith, l))
  earlier_goes (suc n) (suc m) l k told own c h = elim (either (all_told told) (one_builds (earlier n s) s k told) h) [
    | inl e ↦ told_goes (suc m) k told own c e
    | inr e ↦ second_of (all_told own) (one_builds (earlier m t) t k own) (one_goes (earlier n s) (earlier m t) (earlier_goes n m (omega (arith, l))) k told own c s t g e)
  ]

-- a datatype that has a value has one where more is declared
pub inhabited_goes : (s t : Scope) → Goes s t → (k : ℕ) → is_inhabited s k ≡ true → is_inhabited t k ≡ true
inhabited_goes s t g k h = one_goes (earlier (length s.datatypes) s) (earlier (length t.datatypes) t) (earlier_goes s t g (length s.datatypes) (length t.datatypes) g.longer) k [] [] (λ i x. x) s t g h
