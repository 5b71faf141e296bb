-- The least of what has a property, put together.
use Rattle.std.proofs.Common.{◌≡◌, ◌⊎◌, ℕ, Bool, true, false, cond, List, Option, Some, None, Result, Ok, Err, IfOk, refl, sym, ap, ◌∙◌, inl, inr}
use Rattle.std.specs.declared.cmp.Ordering.{Ordering}
use Rattle.std.specs.declared.cmp.Ordering.TheVariants.{Less, Equal, Greater}
use Rattle.std.specs.Cmp.{IsTotalOrder}
use Rattle.std.specs.Cmp.Lexicographic.{slice_cmp, nat_list_cmp_total}
use Rattle.std.specs.Ordering.{nat_cmp, is_lt, ordering_reverse}
use Rattle.vf_link.specs.Least.{IsLeast, HasNone, IsLeastOf, lesser}

lt_is : (o : Ordering) → is_lt o ≡ true → o ≡ Less
lt_is Less h = refl
lt_is Equal h = absurd cc
lt_is Greater h = absurd cc

lt_not : (o : Ordering) → is_lt o ≡ false → o ≡ Less → ⊥
lt_not o h e = let t : is_lt o ≡ true = ap is_lt e in absurd cc

-- what stands before a text that stands not behind another stands before that one
before_both : (x s t : List ℕ) → slice_cmp nat_cmp x s ≡ Less → (slice_cmp nat_cmp t s ≡ Less → ⊥) → slice_cmp nat_cmp x t ≡ Less
before_both x s t h not_before = by (slice_cmp nat_cmp s t) refl
  where
    laws : IsTotalOrder (slice_cmp nat_cmp)
    laws = nat_list_cmp_total

    by : (o : Ordering) → slice_cmp nat_cmp s t ≡ o → slice_cmp nat_cmp x t ≡ Less
    by Less e = laws.trans x s t h e
    by Equal e = flipped
      where
        turned : slice_cmp nat_cmp s x ≡ slice_cmp nat_cmp t x
        turned = laws.congr s t x e

        flipped : slice_cmp nat_cmp x t ≡ Less
        flipped = laws.antisymm x t ∙ ap ordering_reverse (sym turned) ∙ sym (laws.antisymm x s) ∙ h
    by Greater e = absurd (not_before (laws.antisymm t s ∙ ap ordering_reverse e))

pub none_either : (P Q : List ℕ → Type 0) → HasNone P → HasNone Q → HasNone (λ x. P x ⊎ Q x)
none_either P Q p q x (inl h) = p x h
none_either P Q p q x (inr h) = q x h

only_left : (P Q : List ℕ → Type 0) (s : List ℕ) → IsLeast P s → HasNone Q → IsLeast (λ x. P x ⊎ Q x) s
only_left P Q s p q = record { is = inl p.is; least = λ x h. by x h }
  where
    by : (x : List ℕ) → P x ⊎ Q x → slice_cmp nat_cmp x s ≡ Less → ⊥
    by x (inl h) = p.least x h
    by x (inr h) = λ _. q x h

only_right : (P Q : List ℕ → Type 0) (s : List ℕ) → HasNone P → IsLeast Q s → IsLeast (λ x. P x ⊎ Q x) s
only_right P Q s p q = record { is = inr q.is; least = λ x h. by x h }
  where
    by : (x : List ℕ) → P x ⊎ Q x → slice_cmp nat_cmp x s ≡ Less → ⊥
    by x (inl h) = λ _. p x h
    by x (inr h) = q.least x h

both_found : (P Q : List ℕ → Type 0) (s t : List ℕ) (b : Bool) → is_lt (slice_cmp nat_cmp t s) ≡ b → IsLeast P s → IsLeast Q t → IsLeastOf (λ x. P x ⊎ Q x) (cond b (Some t) (Some s))
both_found P Q s t true e p q = record { is = inr q.is; least = λ x h. by x h }
  where
    by : (x : List ℕ) → P x ⊎ Q x → slice_cmp nat_cmp x t ≡ Less → ⊥
    by x (inl h) = λ l. p.least x h (nat_list_cmp_total.trans x t s l (lt_is (slice_cmp nat_cmp t s) e))
    by x (inr h) = q.least x h
both_found P Q s t false e p q = record { is = inl p.is; least = λ x h. by x h }
  where
    by : (x : List ℕ) → P x ⊎ Q x → slice_cmp nat_cmp x s ≡ Less → ⊥
    by x (inl h) = p.least x h
    by x (inr h) = λ l. q.least x h (before_both x s t l (lt_not (slice_cmp nat_cmp t s) e))

-- the lesser of two is the least of what has one property or the other
pub lesser_is : (P Q : List ℕ → Type 0) (a b : Option (List ℕ)) → IsLeastOf P a → IsLeastOf Q b → IsLeastOf (λ x. P x ⊎ Q x) (lesser a b)
lesser_is P Q None None p q = none_either P Q p q
lesser_is P Q None (Some t) p q = only_right P Q t p q
lesser_is P Q (Some s) None p q = only_left P Q s p q
lesser_is P Q (Some s) (Some t) p q = both_found P Q s t (is_lt (slice_cmp nat_cmp t s)) refl p q

-- properties that the same texts have
pub same_least : (P Q : List ℕ → Type 0) (o : Option (List ℕ)) → ((x : List ℕ) → P x → Q x) → ((x : List ℕ) → Q x → P x) → IsLeastOf P o → IsLeastOf Q o
same_least P Q None to back h = λ x q. h x (back x q)
same_least P Q (Some s) to back h = record { is = to s h.is; least = λ x q. h.least x (back x q) }

-- the same of what a call gives
pub if_same : {E : Type 0} (P Q : List ℕ → Type 0) (r : Result (Option (List ℕ)) E) → ((x : List ℕ) → P x → Q x) → ((x : List ℕ) → Q x → P x) → IfOk r (IsLeastOf P) → IfOk r (IsLeastOf Q)
if_same P Q (Ok o) to back h = same_least P Q o to back h
if_same P Q (Err e) to back h = tt

pub if_more : {E : Type 0} (P Q : Option (List ℕ) → Type 0) (r : Result (Option (List ℕ)) E) → ((o : Option (List ℕ)) → P o → Q o) → IfOk r P → IfOk r Q
if_more P Q (Ok o) to h = to o h
if_more P Q (Err e) to h = tt
