-- The fixpoints on lists of numbers are in order: each uses itself alone, and only on the rest of a list.
use Rattle.std.proofs.Common.{◌≡◌, ◌≢◌, zero, suc, ◌<◌, false, [], ◌∷◌, Some, refl, sym, ap, subst, ◌∙◌, ◌⊎◌, inl, inr, arith, ℕ}
use Rattle.std.specs.Prelude.{Contains}
use Rattle.std.proofs.lemmas.Bool.{false≢true}
use Rattle.std.specs.Cmp.Lexicographic.{bytes_decides}
use Rattle.vf_tree.specs.Core.{Identity}
use Rattle.vf_model.specs.Values.{same_identity}
use Rattle.vf_meaning.specs.Ghost.{Numbered, GhostExpression, FixpointTree, Switches}
use Rattle.vf_meaning.specs.Structural.{IsOneOf, IsStructural, Applies, BodyApplies}
use Rattle.vf_rules.specs.Mutexes.{name}
use Rattle.vf_safety.specs.ArrayLaws.{nil, cons, cases_of, take_name, drop_name, append_name, apply, is_done, one_less, take_fixpoint, drop_fixpoint, append_fixpoint, ListsAreInOrder}

-- ---- each is used on the rest of a list
pub rest_is_named : IsOneOf (Numbered 2 ∷ Numbered 3 ∷ []) (Some (name 3))
rest_is_named = (Numbered 3, refl, (1, omega arith, refl))

take_structural : IsStructural take_fixpoint
take_structural = (tt, (((tt, tt), tt, (tt, (((λ h. rest_is_named), (tt, ((tt, tt), tt))), tt))), tt))

drop_structural : IsStructural drop_fixpoint
drop_structural = (tt, (((tt, tt), (tt, (tt, tt)), ((λ h. rest_is_named), (tt, ((tt, tt), tt)))), tt))

append_structural : IsStructural append_fixpoint
append_structural = (tt, ((tt, (((λ h. rest_is_named), (tt, (tt, tt))), tt)), tt))

-- ---- each uses itself alone
pub in_case : (at_nil at_cons : GhostExpression) (g : Identity) → BodyApplies (Switches 0 (cases_of at_nil at_cons)) g → Applies at_nil g ⊎ Applies at_cons g
in_case at_nil at_cons g (c, (zero, l, e), h) = inl (subst (λ d. Applies d.result g) (sym e) h)
in_case at_nil at_cons g (c, (suc zero, l, e), h) = inr (subst (λ d. Applies d.result g) (sym e) h)
in_case at_nil at_cons g (c, (suc (suc k), l, e), h) = absurd (no k l)
  where
    no : (k : ℕ) → suc (suc k) < 2 → ⊥
    no k l = omega (arith, l)

pub in_apply : (f g : Identity) (a b : GhostExpression) → (Applies a g → ⊥) → (Applies b g → ⊥) → Applies (apply f a b) g → g ≡ f
in_apply f g a b no_a no_b (inl e) = sym e
in_apply f g a b no_a no_b (inr (inl h)) = absurd (no_a h)
in_apply f g a b no_a no_b (inr (inr (inl h))) = absurd (no_b h)
in_apply f g a b no_a no_b (inr (inr (inr h))) = absurd h

pub in_cons : (g : Identity) (a b : GhostExpression) → Applies (cons a b) g → Applies a g ⊎ Applies b g
in_cons g a b (inl h) = inl h
in_cons g a b (inr (inl h)) = inr h
in_cons g a b (inr (inr h)) = absurd h

pub not_in_one_less : (g : Identity) → Applies one_less g → ⊥
not_in_one_less g (inl h) = h
not_in_one_less g (inr h) = h

not_in_done : (g : Identity) → Applies is_done g → ⊥
not_in_done g (inl h) = h
not_in_done g (inr h) = h

take_uses : (g : Identity) → BodyApplies take_fixpoint.body g → g ≡ take_name
take_uses g h = elim (in_case _ _ g h) [ inl n ↦ absurd n | inr c ↦ at_cons c ]
  where
    rest : Applies (cons (name 2) (apply take_name (name 3) one_less)) g → g ≡ take_name
    rest d = elim (in_cons g (name 2) (apply take_name (name 3) one_less) d) [ inl x ↦ absurd x | inr x ↦ in_apply take_name g (name 3) one_less (λ y. y) (not_in_one_less g) x ]

    at_cons : Applies is_done g ⊎ (Applies nil g ⊎ Applies (cons (name 2) (apply take_name (name 3) one_less)) g) → g ≡ take_name
    at_cons (inl d) = absurd (not_in_done g d)
    at_cons (inr (inl d)) = absurd d
    at_cons (inr (inr d)) = rest d

drop_uses : (g : Identity) → BodyApplies drop_fixpoint.body g → g ≡ drop_name
drop_uses g h = elim (in_case _ _ g h) [ inl n ↦ absurd n | inr c ↦ at_cons c ]
  where
    all : Applies (cons (name 2) (name 3)) g → ⊥
    all d = elim (in_cons g (name 2) (name 3) d) [ inl x ↦ x | inr x ↦ x ]

    at_cons : Applies is_done g ⊎ (Applies (cons (name 2) (name 3)) g ⊎ Applies (apply drop_name (name 3) one_less) g) → g ≡ drop_name
    at_cons (inl d) = absurd (not_in_done g d)
    at_cons (inr (inl d)) = absurd (all d)
    at_cons (inr (inr d)) = in_apply drop_name g (name 3) one_less (λ y. y) (not_in_one_less g) d

append_uses : (g : Identity) → BodyApplies append_fixpoint.body g → g ≡ append_name
append_uses g h = elim (in_case _ _ g h) [ inl n ↦ absurd n | inr c ↦ at_cons c ]
  where
    at_cons : Applies (cons (name 2) (apply append_name (name 3) (name 1))) g → g ≡ append_name
    at_cons d = elim (in_cons g (name 2) (apply append_name (name 3) (name 1)) d) [ inl x ↦ absurd x | inr x ↦ in_apply append_name g (name 3) (name 1) (λ y. y) (λ y. y) x ]

-- ---- they have different names
pub unlike : (f g : Identity) → same_identity f g ≡ false → f ≢ g
unlike f g other e = false≢true (sym other ∙ ap (same_identity f) (sym e) ∙ (bytes_decides f f).1 refl)

none_alike : (h : FixpointTree) → Contains {X = FixpointTree} [] h → (f : Identity) → h.identity ≢ f
none_alike h (k, l, e) f = absurd (no k l)
  where
    no : (k : ℕ) → k < 0 → ⊥
    no k l = omega (arith, l)

after_drop : (h : FixpointTree) → Contains (append_fixpoint ∷ []) h → h.identity ≢ drop_name
after_drop h (zero, l, e) = subst (λ f. f.identity ≢ drop_name) e (unlike append_name drop_name refl)
after_drop h (suc k, l, e) = absurd (no k l)
  where
    no : (k : ℕ) → suc k < 1 → ⊥
    no k l = omega (arith, l)

after_take : (h : FixpointTree) → Contains (drop_fixpoint ∷ append_fixpoint ∷ []) h → h.identity ≢ take_name
after_take h (zero, l, e) = subst (λ f. f.identity ≢ take_name) e (unlike drop_name take_name refl)
after_take h (suc zero, l, e) = subst (λ f. f.identity ≢ take_name) e (unlike append_name take_name refl)
after_take h (suc (suc k), l, e) = absurd (no k l)
  where
    no : (k : ℕ) → suc (suc k) < 2 → ⊥
    no k l = omega (arith, l)

pub lists_are_in_order : ListsAreInOrder
lists_are_in_order = (
  take_structural,
  λ g h. inl (take_uses g h),
  after_take,
  (drop_structural, λ g h. inl (drop_uses g h), after_drop, (append_structural, λ g h. inl (append_uses g h), λ h has. none_alike h has append_name, tt)),
)
