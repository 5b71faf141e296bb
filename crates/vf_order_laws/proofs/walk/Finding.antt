-- What it is that a function finds just what the rules give, and how that goes on from part to part.
use Rattle.std.proofs.Common.{◌≡◌, refl, Bool, true, false, ◌≤◌, [], length, Option, Some, None, Result, Ok, Err, arith}
use Rattle.vf_base.specs.declared.place.Place.{Place}
use Rattle.vf_base.specs.declared.refusal.Refusal.{Refusal}
use Rattle.vf_sorts.specs.Sorts.{Sort}
use Rattle.vf_sorts.specs.Unknowns.{IsBelow, IsResolved, Known}
use Rattle.vf_declared.specs.declared.scope.Scope.{Scope}
use Rattle.vf_syntax.specs.GhostExprTree.{GhostExprTree}
use Rattle.vf_sorting.specs.declared.context.Context.{Context}
use Rattle.vf_sorting.specs.HasSort.{HasSort, Passes}
use Rattle.vf_sorting.specs.IsRefused.{Fails, IsRefused}
use Rattle.vf_order_laws.specs.walk.Following.{after, choose, unless_refused}

-- what is found is such, or the refusal is
pub data Found {A : Type 0} (P : A → Type 0) (R : Refusal → Type 0) : Result A Refusal → Type 0 where
  found : {a : A} → P a → Found P R (Ok a)
  stopped : {x : Refusal} → R x → Found P R (Err x)

-- what is known then is in order, and nothing that was unknown is lost
pub record Grows (k k' : Known) : Type 0 where
  pub resolved : IsResolved k'
  pub longer : length k ≤ length k'

pub stays : {k : Known} → IsResolved k → Grows k k
stays r = record { resolved = r; longer = omega (arith) }

-- nothing known is in order
pub nothing_resolved : IsResolved []
nothing_resolved u s e = absurd cc

pub grows_on : {k k₁ k' : Known} → Grows k k₁ → Grows k₁ k' → Grows k k'
grows_on g h = record { resolved = h.resolved; longer = let a = g.longer in let b = h.longer in omega (arith, a, b) }

-- what is found of an expression is a sort that it has, or its refusal
abbrev pub SortFound : Scope → Context → Known → GhostExprTree → Result (Sort × Known) Refusal → Type 0
SortFound s c k e r = Found (λ v. HasSort s c k e v.0 v.1 × Grows k v.1 × IsBelow (length v.1) v.0) (IsRefused s c k e) r

-- what is found of an expression of which a sort is wanted is that it passes, or how it fails to
abbrev pub PassFound : Scope → Context → Known → Sort → Place → GhostExprTree → Result Known Refusal → Type 0
PassFound s c k w q e r = Found (λ k'. Passes s c k w q e k' × Grows k k') (Fails s c k w q e) r

-- ---- from part to part
pub found_after : {A B : Type 0} {P : A → Type 0} {R S : Refusal → Type 0} {Q : B → Type 0} {f : A → Result B Refusal} {r : Result A Refusal} → Found P R r → ((a : A) → P a → Found Q S (f a)) → ((x : Refusal) → R x → S x) → Found Q S (after f r)
unfolding after
found_after (found {a = a} h) go stop = go a h
found_after (stopped {x = x} h) go stop = stopped (stop x h)

pub found_where : {A : Type 0} {P : A → Type 0} {R : Refusal → Type 0} {x y : Result A Refusal} (b : Bool) → (b ≡ true → Found P R x) → (b ≡ false → Found P R y) → Found P R (choose b x y)
unfolding choose
found_where true f g = f refl
found_where false f g = g refl

pub found_as : {A : Type 0} {P Q : A → Type 0} {R S : Refusal → Type 0} {r : Result A Refusal} → ((a : A) → P a → Q a) → ((x : Refusal) → R x → S x) → Found P R r → Found Q S r
found_as f g (found {a = a} h) = found (f a h)
found_as f g (stopped {x = x} h) = stopped (g x h)

pub found_unless : {A : Type 0} {P : A → Type 0} {R : Refusal → Type 0} (a : A) (o : Option Refusal) → (o ≡ None → P a) → ((x : Refusal) → o ≡ Some x → R x) → Found P R (unless_refused a o)
unfolding unless_refused
found_unless a None f g = found (f refl)
found_unless a (Some x) f g = stopped (g x refl)

-- what a part and what follows it come to, by what is found of the part
pub comes_after : {A B : Type 0} {P : A → Type 0} {R : Refusal → Type 0} (Q : Result B Refusal → Type 0) {f : A → Result B Refusal} {r : Result A Refusal} → Found P R r → ((a : A) → P a → Q (f a)) → ((x : Refusal) → R x → Q (Err x)) → Q (after f r)
unfolding after
comes_after Q (found {a = a} h) go stop = go a h
comes_after Q (stopped {x = x} h) go stop = stop x h

-- a result is found as it is
pub found_so : {A : Type 0} (r : Result A Refusal) → Found (λ a. r ≡ Ok a) (λ x. r ≡ Err x) r
found_so (Ok a) = found refl
found_so (Err x) = stopped refl
