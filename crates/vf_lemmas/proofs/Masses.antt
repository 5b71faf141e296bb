-- How much a part owns: the sum of what it owns of any different places is bounded, and falls where the whole of one is given away.
use Rattle.std.proofs.Common.{◌≡◌, ℕ, zero, suc, ◌+◌, ◌*◌, ◌^◌, ◌≤◌, ◌<◌, true, false, List, [], ◌∷◌, refl, sym, ap, ap₂, subst, ◌∙◌, ◌⊎◌, inl, inr, arith, pow_pos}
use Rattle.std.proofs.lemmas.Bool.{cases_Bool}
use Rattle.vf_model.specs.Values.{Dyadic, Whole}
use Rattle.vf_meaning.specs.Fractions.{numerator, exponent, nought, whole, sum, IsPositive, units}
use Rattle.vf_meaning.specs.Parts.{Location, Content, same_location, Part, nothing, single, IsSum}
use Rattle.vf_meaning.proofs.Fractions.{same_units, sum_units, sum_commutes, sum_associates, nought_adds_nothing, order_is_by_sums}
use Rattle.vf_meaning.proofs.Parts.{tells_locations, same_or_not, nought_or_positive, not_nought, positive_left, positive_right, sum_at, single_here, single_only}

-- ---- sums of fractions
-- one fraction is at most another: that is the sum of it and some fraction
abbrev pub Below : Dyadic → Dyadic → Type 0
Below a b = (c : Dyadic) × (b ≡ sum a c)

plus_nought : (a : Dyadic) → sum a nought ≡ a
plus_nought a = sum_commutes a nought ∙ nought_adds_nothing a

below_self : (a : Dyadic) → Below a a
below_self a = (nought, sym (plus_nought a))

below_through : (a b c : Dyadic) → Below a b → Below b c → Below a c
below_through a b c h k = (sum h.0 k.0, k.1 ∙ ap (λ z. sum z k.0) h.1 ∙ sum_associates a h.0 k.0)

pub below_sum : (a b : Dyadic) → Below a (sum a b)
below_sum a b = (b, refl)

-- two sums added one by one
four : (a b c d : Dyadic) → sum (sum a b) (sum c d) ≡ sum (sum a c) (sum b d)
four a b c d =
    sum_associates a b (sum c d) ∙ ap (λ z. sum a z) (sym (sum_associates b c d) ∙ ap (λ z. sum z d) (sum_commutes b c) ∙ sum_associates c b d) ∙ sym (sum_associates a c (sum b d))

below_both : (a b c d : Dyadic) → Below a b → Below c d → Below (sum a c) (sum b d)
below_both a b c d h k = (sum h.0 k.0, ap₂ (λ x y. sum x y) h.1 k.1 ∙ four a h.0 c k.0)

-- whole numbers are added as numbers
wholes_add : (m n : ℕ) → sum (Whole m) (Whole n) ≡ Whole (m + n)
wholes_add m n = ap Whole (plain m n)
  where
    plain : (m n : ℕ) → m * 2 ^ 0 + n * 2 ^ 0 ≡ m + n
    plain m n = omega arith

below_whole : (a : Dyadic) → Below a (Whole (numerator a))
below_whole a = let k = (order_is_by_sums a (Whole (numerator a))).0 (times (numerator a) (exponent a)) in (k.0, sym k.1)
  where
    times : (n m : ℕ) → n * 2 ^ 0 ≤ n * 2 ^ m
    times n m = let p = pow_pos m in grind (arith, p)

-- what is added on both sides falls away
cancelled : (a b c : Dyadic) → sum a c ≡ sum b c → a ≡ b
cancelled a b c h =
    let s = exponent a + exponent b + exponent c in
    same_units a b s (omega arith) (omega arith)
    (alike (units a s) (units b s) (units c s) (sym (sum_units a c s (omega arith)) ∙ ap (λ z. units z s) h ∙ sum_units b c s (omega arith)))
  where
    alike : (x y z : ℕ) → x + z ≡ y + z → x ≡ y
    alike x y z h = omega (arith, h)

-- what is at most a number with 1 added is at most one number less
none_less : (a : Dyadic) → Below (sum a whole) (Whole 0) → ⊥
none_less a h = not_nought (sum (sum a whole) h.0) (sym h.1) (positive_left (sum a whole) h.0 (positive_right a whole positive_whole))
  where
    positive_whole : IsPositive whole
    positive_whole = omega arith

one_less : (a : Dyadic) (m : ℕ) → Below (sum a whole) (Whole (suc m)) → Below a (Whole m)
one_less a m h =
    let moved : sum (Whole m) whole ≡ sum (sum a h.0) whole =
    wholes_add m 1 ∙ ap Whole (one_more m) ∙ h.1 ∙ sum_associates a whole h.0 ∙ ap (λ z. sum a z) (sum_commutes whole h.0) ∙ sym (sum_associates a h.0 whole) in
    (h.0, cancelled (Whole m) (sum a h.0) whole moved)
  where
    one_more : (m : ℕ) → m + 1 ≡ suc m
    one_more m = omega arith

-- ---- sums over places
-- a location with a content
pub record Spot : Type 0 where
  pub location : Location
  pub content : Content

abbrev pub spot : Location → Content → Spot
spot l c = record { location = l; content = c }

abbrev pub IsIn : List Spot → Spot → Type 0
IsIn [] x = ⊥
IsIn (y ∷ ys) x = (y ≡ x) ⊎ IsIn ys x

abbrev pub AreDifferent : List Spot → Type 0
AreDifferent [] = Unit {0}
AreDifferent (x ∷ xs) = (IsIn xs x → ⊥) × AreDifferent xs

abbrev pub total : List Spot → Part → Dyadic
total [] p = nought
total (x ∷ xs) p = sum (p x.location x.content) (total xs p)

-- what a part owns of any different places is at most n in sum
abbrev pub HasMass : ℕ → Part → Type 0
HasMass n p = (xs : List Spot) → AreDifferent xs → Below (total xs p) (Whole n)

total_sum : (p q r : Part) → IsSum p q r → (xs : List Spot) → total xs r ≡ sum (total xs p) (total xs q)
total_sum p q r s [] = sym (nought_adds_nothing nought)
total_sum p q r s (x ∷ xs) =
    ap₂ (λ a b. sum a b) (sum_at p q r s x.location x.content) (total_sum p q r s xs) ∙ four (p x.location x.content) (q x.location x.content) (total xs p) (total xs q)

pub mass_left : (n : ℕ) (p q r : Part) → IsSum p q r → HasMass n r → HasMass n p
mass_left n p q r s h xs different = below_through (total xs p) (total xs r) (Whole n) (total xs q, total_sum p q r s xs) (h xs different)

pub mass_sum : (m n : ℕ) (p q r : Part) → IsSum p q r → HasMass m p → HasMass n q → HasMass (m + n) r
mass_sum m n p q r s h k xs different =
    subst (λ z. Below (total xs r) z) (wholes_add m n)
    (subst (λ z. Below z (sum (Whole m) (Whole n))) (sym (total_sum p q r s xs)) (below_both (total xs p) (Whole m) (total xs q) (Whole n) (h xs different) (k xs different)))

total_none : (p : Part) (xs : List Spot) → ((x : Spot) → IsIn xs x → p x.location x.content ≡ nought) → total xs p ≡ nought
total_none p [] h = refl
total_none p (x ∷ xs) h = ap₂ (λ a b. sum a b) (h x (inl refl)) (total_none p xs (λ y i. h y (inr i))) ∙ nought_adds_nothing nought

pub mass_nothing : HasMass 0 nothing
unfolding nothing
mass_nothing xs different = subst (λ z. Below z (Whole 0)) (sym (total_none nothing xs (λ x i. refl))) (below_self nought)

spot_same : (x : Spot) (l : Location) (c : Content) → x.location ≡ l → x.content ≡ c → x ≡ spot l c
spot_same x l c h k = ap₂ (λ a b. spot a b) h k

-- a place is one of several or not
in_later : (x : Spot) (xs : List Spot) (l : Location) (c : Content) → (x ≡ spot l c → ⊥) → IsIn xs (spot l c) ⊎ (IsIn xs (spot l c) → ⊥) → IsIn (x ∷ xs) (spot l c) ⊎ (IsIn (x ∷ xs) (spot l c) → ⊥)
in_later x xs l c not_here (inl i) = inl (inr i)
in_later x xs l c not_here (inr none) = inr (λ h. elim h [ inl e ↦ not_here e | inr i ↦ none i ])

false_true : false ≡ true → ⊥
false_true h = cc

in_or_not : (xs : List Spot) (l : Location) (c : Content) → IsIn xs (spot l c) ⊎ (IsIn xs (spot l c) → ⊥)
in_or_not [] l c = inr (λ h. h)
in_or_not (x ∷ xs) l c =
    elim (cases_Bool (same_location x.location l)) [
      | inl there ↦ elim (same_or_not x.content c) [
        | inl equal ↦ inl (inl (spot_same x l c ((tells_locations x.location l).0 there) equal))
        | inr other ↦ in_later x xs l c (λ e. other (ap (λ z. z.content) e)) (in_or_not xs l c)
      ]
      | inr elsewhere ↦ in_later x xs l c (λ e. false_true (sym elsewhere ∙ (tells_locations x.location l).1 (ap (λ z. z.location) e))) (in_or_not xs l c)
    ]

-- what a sum over places has of one of them
total_has : (p : Part) (xs : List Spot) (x : Spot) → IsIn xs x → Below (p x.location x.content) (total xs p)
total_has p [] x h = absurd h
total_has p (y ∷ ys) x (inl e) = subst (λ z. Below (p z.location z.content) (sum (p y.location y.content) (total ys p))) e (below_sum (p y.location y.content) (total ys p))
total_has p (y ∷ ys) x (inr i) =
    below_through (p x.location x.content) (total ys p) (sum (p y.location y.content) (total ys p)) (total_has p ys x i)
    (p y.location y.content, sum_commutes (p y.location y.content) (total ys p))

single_other : (l : Location) (c : Content) (x : Dyadic) (y : Spot) → (y ≡ spot l c → ⊥) → single l c x y.location y.content ≡ nought
single_other l c x y h = elim (nought_or_positive (single l c x y.location y.content)) [
  | inl none ↦ none
  | inr some ↦ let at = single_only l c x y.location y.content some in absurd (h (spot_same y l c at.0 at.1))
]

skipped : (l : Location) (c : Content) (x : Dyadic) (y : Spot) (ys : List Spot) → single l c x y.location y.content ≡ nought → Below (total ys (single l c x)) x → Below (total (y ∷ ys) (single l c x)) x
skipped l c x y ys none h = subst (λ z. Below z x) (sym (ap (λ a. sum a (total ys (single l c x))) none ∙ nought_adds_nothing (total ys (single l c x)))) h

single_total : (l : Location) (c : Content) (x : Dyadic) (xs : List Spot) → AreDifferent xs → Below (total xs (single l c x)) x
single_total l c x [] different = (x, sym (nought_adds_nothing x))
single_total l c x (y ∷ ys) different = elim (in_or_not (y ∷ ys) l c) [
  | inl i ↦ elim i [
    | inl e ↦
        let none = total_none (single l c x) ys (λ z j. single_other l c x z (λ same. different.0 (subst (λ a. IsIn ys a) (same ∙ sym e) j))) in
        let own : single l c x y.location y.content ≡ x = ap (λ z. single l c x z.location z.content) e ∙ single_here l c x in
        subst (λ z. Below z x) (sym (ap₂ (λ a b. sum a b) own none ∙ plus_nought x)) (below_self x)
    | inr j ↦ skipped l c x y ys (single_other l c x y (λ e. different.0 (subst (λ a. IsIn ys a) (sym e) j))) (single_total l c x ys different.1)
  ]
  | inr out ↦ skipped l c x y ys (single_other l c x y (λ e. out (inl e))) (single_total l c x ys different.1)
]

pub mass_single : (l : Location) (c : Content) (x : Dyadic) → HasMass (numerator x) (single l c x)
mass_single l c x xs different = below_through (total xs (single l c x)) x (Whole (numerator x)) (single_total l c x xs different) (below_whole x)

-- ---- where the whole of a place is in one part, another has less
-- with a place of which a part has the whole its sum over places has 1 more
with_place : (n : ℕ) (off left q : Part) (l : Location) (c : Content) → IsSum off left q → Below whole (left l c) → HasMass n q → (xs : List Spot) → AreDifferent xs → Below (sum (total xs off) whole) (Whole n)
with_place n off left q l c s has h xs different = elim (in_or_not xs l c) [
  | inl i ↦
      below_through (sum (total xs off) whole) (total xs q) (Whole n)
      (subst (λ z. Below (sum (total xs off) whole) z) (sym (total_sum off left q s xs))
      (below_both (total xs off) (total xs off) whole (total xs left) (below_self (total xs off)) (below_through whole (left l c) (total xs left) has (total_has left xs (spot l c) i))))
      (h xs different)
  | inr out ↦
      let ys = spot l c ∷ xs in
      below_through (sum (total xs off) whole) (total ys q) (Whole n)
      (subst (λ z. Below (sum (total xs off) whole) z) (sym (total_sum off left q s ys))
      (below_both (total xs off) (total ys off) whole (total ys left) (off l c, sum_commutes (off l c) (total xs off)) (below_through whole (left l c) (total ys left) has (below_sum (left l c) (total xs left)))))
      (h ys (out, different))
]

-- the bound of what is given away falls
pub mass_falls : (n : ℕ) (off left q : Part) (l : Location) (c : Content) → IsSum off left q → Below whole (left l c) → HasMass n q → (m : ℕ) × (m < n) × HasMass m off
mass_falls zero off left q l c s has h = absurd (none_less nought (with_place 0 off left q l c s has h [] tt))
mass_falls (suc m) off left q l c s has h = (m, omega arith, λ xs different. one_less (total xs off) m (with_place (suc m) off left q l c s has h xs different))
