-- What becomes of a thread's duties when it enters a call and leaves one.
use Rattle.std.proofs.Common.{◌≡◌, ℕ, suc, ◌<◌, ◌==◌, Bool, true, false, cond, [], ◌∷◌, Option, refl, sym, ap, subst, ◌⊎◌, inl, inr, arith}
use Rattle.std.proofs.lemmas.Bool.{cases_Bool, eqb-true, eqb-false}
use Rattle.vf_model.specs.Values.{Value}
use Rattle.vf_meaning.specs.Assertions.{Environment}
use Rattle.vf_meaning.specs.Parts.{Part}
use Rattle.vf_safety.specs.Safe.{Duty, Duties, Within, left_after, Done, DoneAt, DutiesChange, duties_same, duty_done}

pub within_more : (n m : ℕ) (ds : Duties) → n < suc m → Within n ds → Within m ds
within_more n m [] l h = tt
within_more n m (d ∷ ds) l h = (omega (arith, l, h.0), h.1)

pub one_more_call : (n : ℕ) (ds : Duties) → Within n ds → Within (suc n) ds
one_more_call n ds h = within_more n (suc n) ds (omega arith) h

left_by : (n : ℕ) (d : Duty) (ds : Duties) (b : Bool) → (d.below == n) ≡ b → left_after n (d ∷ ds) ≡ cond b ds (d ∷ ds)
left_by n d ds b is = ap (λ z. cond z ds (d ∷ ds)) is

smaller : (a n : ℕ) → a < suc n → (a ≡ n → ⊥) → a < n
smaller a n l other = omega (arith, l, other)

pub left_within : (n : ℕ) (ds : Duties) → Within (suc n) ds → Within n (left_after n ds)
left_within n [] h = tt
left_within n (d ∷ ds) h =
    elim (cases_Bool (d.below == n)) [
      | inl same ↦ subst (Within n) (sym (left_by n d ds true same)) (subst (λ z. Within z ds) (eqb-true d.below n same) h.1)
      | inr other ↦ subst (Within n) (sym (left_by n d ds false other)) (smaller d.below n h.0 (eqb-false d.below n other), h.1)
    ]

pub left_changes : (n : ℕ) (ds : Duties) → DutiesChange (suc n) n ds (left_after n ds)
left_changes n [] = duties_same []
left_changes n (d ∷ ds) =
    elim (cases_Bool (d.below == n)) [
      | inl same ↦ subst (DutiesChange (suc n) n (d ∷ ds)) (sym (left_by n d ds true same)) (duty_done d ds (ap suc (sym (eqb-true d.below n same))) (sym (eqb-true d.below n same)))
      | inr other ↦ subst (DutiesChange (suc n) n (d ∷ ds)) (sym (left_by n d ds false other)) (duties_same (d ∷ ds))
    ]

no_less : (n : ℕ) → n < n → ⊥
no_less n h = omega (arith, h)

-- a call without a duty is left with the same duties
pub none_left : (n : ℕ) (ds : Duties) → Within n ds → left_after n ds ≡ ds
none_left n [] h = refl
none_left n (d ∷ ds) h =
    elim (cases_Bool (d.below == n)) [
      | inl same ↦ absurd (no_less n (subst (λ z. z < n) (eqb-true d.below n same) h.0))
      | inr other ↦ left_by n d ds false other
    ]

cons_same : {d c : Duty} {ds cs : Duties} → (d ∷ ds) ≡ (c ∷ cs) → d ≡ c
cons_same h = cc

pub none_done : (e : Environment) (n : ℕ) (ds : Duties) (result : Option Value) (own : Part) → Within n ds → DoneAt e n ds result own
none_done e n ds result own h d others is here = absurd (no_less n (subst (λ z. z < n) here (subst (Within n) is h).0))

-- the innermost duty is gone with its call
pub one_left : (n : ℕ) (d : Duty) (ds : Duties) → d.below ≡ n → left_after n (d ∷ ds) ≡ ds
one_left n d ds here =
    elim (cases_Bool (d.below == n)) [
      | inl same ↦ left_by n d ds true same
      | inr other ↦ absurd (eqb-false d.below n other here)
    ]

pub first_done : (e : Environment) (n : ℕ) (d : Duty) (ds : Duties) (result : Option Value) (own : Part) → Done e d result own → DoneAt e n (d ∷ ds) result own
first_done e n d ds result own done c others is here = subst (λ z. Done e z result own) (cons_same is) done

-- a duty is one of several
abbrev pub IsIn : Duty → Duties → Type 0
IsIn d [] = ⊥
IsIn d (c ∷ cs) = (c ≡ d) ⊎ IsIn d cs

in_below : (n : ℕ) (d : Duty) (ds : Duties) → Within n ds → IsIn d ds → d.below < n
in_below n d [] h i = absurd i
in_below n d (c ∷ cs) h (inl same) = subst (λ (z : Duty). z.below < n) same h.0
in_below n d (c ∷ cs) h (inr i) = let l = in_below c.below d cs h.1 i in omega (arith, l, h.0)

-- the duty of the innermost call is the innermost
pub first_within : (n : ℕ) (d : Duty) (ds : Duties) → Within (suc n) ds → IsIn d ds → d.below ≡ n → (others : Duties) × (ds ≡ d ∷ others)
first_within n d [] h i at = absurd i
first_within n d (c ∷ cs) h (inl same) at = (cs, ap (λ z. z ∷ cs) same)
first_within n d (c ∷ cs) h (inr i) at = absurd (between d.below c.below n (in_below c.below d cs h.1 i) h.0 at)
  where
    between : (a b n : ℕ) → a < b → b < suc n → a ≡ n → ⊥
    between a b n l m h = omega (arith, l, m, h)
