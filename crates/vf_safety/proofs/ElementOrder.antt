-- The five fixpoints on lists of numbers are in order: each uses itself alone, and only on the rest of a list.
use Rattle.std.proofs.Common.{◌≡◌, ◌≢◌, zero, suc, ◌<◌, false, [], ◌∷◌, List, Some, refl, sym, ap, subst, ◌∙◌, ◌⊎◌, inl, inr, arith, ℕ}
use Rattle.std.specs.Prelude.{Contains}
use Rattle.vf_tree.specs.Core.{Identity}
use Rattle.vf_model.specs.Values.{same_identity}
use Rattle.vf_meaning.specs.Ghost.{Numbered, GhostExpression, FixpointTree}
use Rattle.vf_meaning.specs.Structural.{IsOneOf, IsStructural, Applies, BodyApplies}
use Rattle.vf_rules.specs.Mutexes.{name}
use Rattle.vf_safety.specs.ArrayLaws.{nil, cons, take_name, drop_name, append_name, apply, one_less, take_fixpoint, drop_fixpoint, append_fixpoint}
use Rattle.vf_safety.specs.ElementLaws.{nth_name, set_name, is_here, apply_three, nth_fixpoint, set_fixpoint, ElementsAreInOrder}
use Rattle.vf_safety.proofs.ListOrder.{rest_is_named, in_case, in_apply, in_cons, not_in_one_less, unlike, lists_are_in_order}

-- ---- each is used on the rest of a list
rest_is_second : IsOneOf (Numbered 3 ∷ Numbered 4 ∷ []) (Some (name 4))
rest_is_second = (Numbered 4, refl, (1, omega arith, refl))

nth_structural : IsStructural nth_fixpoint
nth_structural = (tt, (((tt, tt), tt, ((λ h. rest_is_named), (tt, ((tt, tt), tt)))), tt))

set_structural : IsStructural set_fixpoint
set_structural = (tt, (((tt, tt), (tt, (tt, tt)), (tt, (((λ h. rest_is_second), (tt, ((tt, tt), (tt, tt)))), tt))), tt))

-- ---- each uses itself alone
not_here : (g : Identity) → Applies is_here g → ⊥
not_here g (inl h) = h
not_here g (inr h) = h

nth_uses : (g : Identity) → BodyApplies nth_fixpoint.body g → g ≡ nth_name
nth_uses g h = elim (in_case _ _ g h) [ inl n ↦ absurd n | inr c ↦ at_cons c ]
  where
    at_cons : Applies is_here g ⊎ (⊥ ⊎ Applies (apply nth_name (name 3) one_less) g) → g ≡ nth_name
    at_cons (inl d) = absurd (not_here g d)
    at_cons (inr (inl d)) = absurd d
    at_cons (inr (inr d)) = in_apply nth_name g (name 3) one_less (λ y. y) (not_in_one_less g) d

set_uses : (g : Identity) → BodyApplies set_fixpoint.body g → g ≡ set_name
set_uses g (c, (zero, l, e), h) = absurd (none (subst (λ d. Applies d.result g) (sym e) h))
  where
    none : Applies nil g → ⊥
    none d = d
set_uses g (c, (suc (suc k), l, e), h) = absurd (no k l)
  where
    no : (k : ℕ) → suc (suc k) < 2 → ⊥
    no k l = omega (arith, l)
set_uses g (c, (suc zero, l, e), h) = at_cons (subst (λ d. Applies d.result g) (sym e) h)
  where
    in_three : Applies (apply_three set_name (name 4) one_less (name 2)) g → g ≡ set_name
    in_three (inl d) = sym d
    in_three (inr (inl d)) = absurd d
    in_three (inr (inr (inl d))) = absurd (not_in_one_less g d)
    in_three (inr (inr (inr (inl d)))) = absurd d
    in_three (inr (inr (inr (inr d)))) = absurd d

    at_cons : Applies is_here g ⊎ (Applies (cons (name 2) (name 4)) g ⊎ Applies (cons (name 3) (apply_three set_name (name 4) one_less (name 2))) g) → g ≡ set_name
    at_cons (inl d) = absurd (not_here g d)
    at_cons (inr (inl d)) = elim (in_cons g (name 2) (name 4) d) [ inl x ↦ absurd x | inr x ↦ absurd x ]
    at_cons (inr (inr d)) = elim (in_cons g (name 3) (apply_three set_name (name 4) one_less (name 2)) d) [ inl x ↦ absurd x | inr x ↦ in_three x ]

-- ---- they have different names
after_set : (h : FixpointTree) → Contains (take_fixpoint ∷ drop_fixpoint ∷ append_fixpoint ∷ []) h → h.identity ≢ set_name
after_set h (zero, l, e) = subst (λ f. f.identity ≢ set_name) e (unlike take_name set_name refl)
after_set h (suc zero, l, e) = subst (λ f. f.identity ≢ set_name) e (unlike drop_name set_name refl)
after_set h (suc (suc zero), l, e) = subst (λ f. f.identity ≢ set_name) e (unlike append_name set_name refl)
after_set h (suc (suc (suc k)), l, e) = absurd (no k l)
  where
    no : (k : ℕ) → suc (suc (suc k)) < 3 → ⊥
    no k l = omega (arith, l)

after_nth : (h : FixpointTree) → Contains (set_fixpoint ∷ take_fixpoint ∷ drop_fixpoint ∷ append_fixpoint ∷ []) h → h.identity ≢ nth_name
after_nth h (zero, l, e) = subst (λ f. f.identity ≢ nth_name) e (unlike set_name nth_name refl)
after_nth h (suc zero, l, e) = subst (λ f. f.identity ≢ nth_name) e (unlike take_name nth_name refl)
after_nth h (suc (suc zero), l, e) = subst (λ f. f.identity ≢ nth_name) e (unlike drop_name nth_name refl)
after_nth h (suc (suc (suc zero)), l, e) = subst (λ f. f.identity ≢ nth_name) e (unlike append_name nth_name refl)
after_nth h (suc (suc (suc (suc k))), l, e) = absurd (no k l)
  where
    no : (k : ℕ) → suc (suc (suc (suc k))) < 4 → ⊥
    no k l = omega (arith, l)

pub elements_are_in_order : ElementsAreInOrder
elements_are_in_order = (nth_structural, λ g h. inl (nth_uses g h), after_nth, (set_structural, λ g h. inl (set_uses g h), after_set, lists_are_in_order))
