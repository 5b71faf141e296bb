-- Laws of differences and quotients.
use Rattle.std.proofs.Common.{◌≡◌, ℕ, zero, suc, ◌+◌, ◌-◌, ◌*◌, ◌/◌, ◌%◌, ◌^◌, ◌<◌, ◌≤◌, Bool, true, false, cond, refl, sym, ap, subst, ◌∙◌, inl, inr, arith, pow-add}
use Rattle.std.specs.Prelude.{◌==◌, Some, None}
use Rattle.std.proofs.lemmas.Bool.{cases_order}
use Rattle.std.proofs.lemmas.Bool.Decides.{eqb_tells, nat_tests}
use Rattle.std.proofs.lemmas.Nat.{shl-shr, mod-mul-add}
use Rattle.vf_model.specs.Values.{Dyadic}
use Rattle.vf_meaning.specs.Fractions.{numerator, exponent, reduced, sum, product, IsPositive, AtMost, units}
use Rattle.vf_meaning.proofs.Fractions.{reduced_units, reduced_low, same_units, sum_low, sum_units, product_low, product_units, units_positive, reduces_to_its_value}
use Rattle.vf_fractions.specs.Kept.{IsLowest, lowest, lowest_numerator, lowest_exponent}
use Rattle.vf_fractions.specs.Arithmetic.{difference, odd_part, halvings, quotient}
use Rattle.vf_fractions.specs.Laws.{DifferencesAddUp, QuotientsMultiplyBack}
use Rattle.vf_fractions.proofs.Lowest.{reduced_lowest, nought_left}

grouped : (n p q : ℕ) → n * (p * q) ≡ n * p * q
grouped n p q = omega arith

cancel : (a b t : ℕ) → a * 2 ^ t ≡ b * 2 ^ t → a ≡ b
cancel a b t h = sym (shl-shr a t) ∙ ap (λ x. x / 2 ^ t) h ∙ shl-shr b t

-- ---- differences
missing : (u v w x y p : ℕ) → u ≡ x * p → v ≡ (y - x) * p → w ≡ y * p → x ≤ y → u + v ≡ w
missing u v w x y p e f g l =
    let d : y ≡ x + (y - x) = omega (arith, l) in
    let h : y * p ≡ x * p + (y - x) * p = ap (λ z. z * p) d ∙ split x (y - x) p in
    omega (arith, e, f, g, h)
  where
    split : (x z p : ℕ) → (x + z) * p ≡ x * p + z * p
    split x z p = omega arith

add_up : (a b : Dyadic) → AtMost b a → sum b (difference a b) ≡ a
unfolding units
add_up a b l =
    let x = numerator b * 2 ^ exponent a in
    let y = numerator a * 2 ^ exponent b in
    let c = exponent a + exponent b in
    let s = exponent b + c in
    let low : exponent (difference a b) ≤ c = reduced_low (y - x) c in
    same_units (sum b (difference a b)) a s (omega (arith, sum_low b (difference a b), low)) (omega arith)
    (sum_units b (difference a b) s (omega (arith, low))
    ∙ missing (units b s) (units (difference a b) s) (units a s) x y (2 ^ exponent b)
    (finer (numerator b) (exponent b) s (exponent a) (exponent b) (omega arith))
    (reduced_units (y - x) c s (omega arith) ∙ ap (λ z. (y - x) * 2 ^ z) (left (exponent b) c))
    (finer (numerator a) (exponent a) s (exponent b) (exponent b) (omega arith))
    l)
  where
    left : (x y : ℕ) → x + y - y ≡ x
    left x y = omega arith

    finer : (n e s i j : ℕ) → s - e ≡ i + j → n * 2 ^ (s - e) ≡ n * 2 ^ i * 2 ^ j
    finer n e s i j d = ap (λ z. n * 2 ^ z) d ∙ ap (λ z. n * z) (pow-add 2 i j) ∙ grouped n (2 ^ i) (2 ^ j)

pub differences_add_up : DifferencesAddUp
differences_add_up = (add_up, nought_left)

-- ---- odd parts
two_above : (n : ℕ) → n < 2 ^ n
two_above zero = omega arith
two_above (suc n) = let h = two_above n in let d : 2 ^ suc n ≡ 2 * 2 ^ n = omega arith in omega (arith, h, d)

reduced_odd : (k m : ℕ) → 0 < k → k < 2 ^ m → numerator (reduced k m) % 2 ≡ 1
reduced_odd k zero h g = absurd (omega (arith, h, g))
reduced_odd k (suc m) h g =
    let d : 2 ^ suc m ≡ 2 * 2 ^ m = omega arith in
    elim (eqb_tells (k % 2) 0) [
      | inl e ↦ rw e.0 (let half = e.1 in reduced_odd (k / 2) m (omega (arith, h, half)) (omega (arith, g, d)))
      | inr e ↦ rw e.0 (omega arith)
    ]

odd_is : (n : ℕ) → 0 < n → odd_part n % 2 ≡ 1
odd_is n h = reduced_odd n n h (two_above n)

-- a value over a denominator, with some of the halves taken off
back : (p e n m : ℕ) → e ≤ m → p * 2 ^ m ≡ n * 2 ^ e → p * 2 ^ (m - e) ≡ n
back p e n m l h =
    let d : m - e + e ≡ m = omega (arith, l) in
    cancel (p * 2 ^ (m - e)) n e (sym (grouped p (2 ^ (m - e)) (2 ^ e)) ∙ ap (λ x. p * x) (sym (pow-add 2 (m - e) e)) ∙ ap (λ x. p * 2 ^ x) d ∙ h)

odd_back : (n : ℕ) → odd_part n * 2 ^ halvings n ≡ n
odd_back n = back (odd_part n) (exponent (reduced n n)) n n (reduced_low n n) (reduces_to_its_value n n)

-- a power of two of which one is taken off
twice : (k q p : ℕ) → q ≡ 2 * p → 2 * (k * p) ≡ k * q
twice k q p e = rw e (omega arith)

doubled : (k e : ℕ) → 2 * (k * 2 ^ e) ≡ k * 2 ^ suc e
doubled k e = let p : 2 ^ suc e ≡ 2 * 2 ^ e = omega arith in twice k (2 ^ suc e) (2 ^ e) p

odd_unique : (p q x y : ℕ) → p % 2 ≡ 1 → q % 2 ≡ 1 → p * 2 ^ x ≡ q * 2 ^ y → (p ≡ q) × (x ≡ y)
odd_unique p q zero zero a b h = (omega (arith, h), refl)
odd_unique p q (suc x) (suc y) a b h =
    let f = doubled p x in
    let g = doubled q y in
    let r = odd_unique p q x y a b (omega (arith, f, g, h)) in (r.0, ap suc r.1)
odd_unique p q zero (suc y) a b h = let g = doubled q y in absurd (omega (arith, a, g, h))
odd_unique p q (suc x) zero a b h = let f = doubled p x in absurd (omega (arith, b, f, h))

-- what is lowered by many halves shows its odd part
odd_of_lowered : (n p e : ℕ) → 0 < n → n < 2 ^ 63 → reduced p e ≡ reduced n 63 → IsLowest p e → (odd_part n ≡ p) × (halvings n ≡ 63 - e) × (e ≤ 63)
odd_of_lowered n p e above below same low =
    let is : lowest p e ≡ reduced n 63 = sym (reduced_lowest p e low) ∙ same in
    let numbers : p ≡ numerator (reduced n 63) = sym (lowest_numerator p e low) ∙ ap numerator is in
    let exponents : e ≡ exponent (reduced n 63) = sym (lowest_exponent p e) ∙ ap exponent is in
    let few : e ≤ 63 = omega (arith, exponents, reduced_low n 63) in
    let valued : p * 2 ^ 63 ≡ n * 2 ^ e = ap (λ x. x * 2 ^ 63) numbers ∙ reduces_to_its_value n 63 ∙ ap (λ x. n * 2 ^ x) (sym exponents) in
    let shown : p * 2 ^ (63 - e) ≡ n = back p e n 63 few valued in
    let one = odd_unique (odd_part n) p (halvings n) (63 - e) (odd_is n above) (odd e few low shown) (odd_back n ∙ sym shown) in
    (one.0, one.1, few)
  where
    odd : (e : ℕ) → e ≤ 63 → IsLowest p e → p * 2 ^ (63 - e) ≡ n → p % 2 ≡ 1
    odd zero few low shown = absurd (much p n above below shown)
      where
        much : (p n : ℕ) → 0 < n → n < 2 ^ 63 → p * 2 ^ 63 ≡ n → ⊥
        much p n above below shown = omega arith
    odd (suc m) few low shown = low

pub odd_lowered_part : (n p e : ℕ) → 0 < n → n < 2 ^ 63 → reduced p e ≡ reduced n 63 → IsLowest p e → p ≡ odd_part n
odd_lowered_part n p e above below same low = sym (odd_of_lowered n p e above below same low).0

pub odd_lowered_halvings : (n p e : ℕ) → 0 < n → n < 2 ^ 63 → reduced p e ≡ reduced n 63 → IsLowest p e → 63 - e ≡ halvings n
odd_lowered_halvings n p e above below same low = sym (odd_of_lowered n p e above below same low).1

pub odd_lowered_few : (n p e : ℕ) → 0 < n → n < 2 ^ 63 → reduced p e ≡ reduced n 63 → IsLowest p e → e ≤ 63
odd_lowered_few n p e above below same low = (odd_of_lowered n p e above below same low).2

-- ---- what an odd number divides
divided : (o y c : ℕ) → o % 2 ≡ 1 → 2 * y ≡ o * c → y ≡ o * (c / 2)
divided o y c odd h =
    let is : o ≡ suc (2 * (o / 2)) = omega (arith, odd) in
    subst (λ x. y ≡ x * (c / 2)) (sym is) (by (o / 2) (subst (λ x. 2 * y ≡ x * c) is h))
  where
    by : (k : ℕ) → 2 * y ≡ suc (2 * k) * c → y ≡ suc (2 * k) * (c / 2)
    by k h =
        let even : c % 2 ≡ 0 = omega (arith, h) in
        let two : c ≡ 2 * (c / 2) = omega (arith, even) in
        let e : suc (2 * k) * c ≡ suc (2 * k) * (2 * (c / 2)) = ap (λ x. suc (2 * k) * x) two in
        omega (arith, h, e)

divides_power : (o : ℕ) → o % 2 ≡ 1 → (e k c : ℕ) → k * 2 ^ e ≡ o * c → (d : ℕ) × (k ≡ o * d)
divides_power o odd zero k c h = (c, omega (arith, h))
divides_power o odd (suc e) k c h = divides_power o odd e k (c / 2) (divided o (k * 2 ^ e) c odd (doubled k e ∙ h))

no_remainder : (o k d : ℕ) → 0 < o → k ≡ o * d → k % o ≡ 0
no_remainder o k d h e =
    let f : o * d ≡ d * o + 0 = omega arith in
    ap (λ x. x % o) (e ∙ f) ∙ mod-mul-add d o 0 h

whole_times : (o k : ℕ) → 0 < o → k % o ≡ 0 → k ≡ o * (k / o)
whole_times o k h e = omega (arith, h, e)

times_less : (l x y : ℕ) → 0 < l → x < y → l * x < l * y
times_less l x y k g = grind arith

times_cancel : (l x y : ℕ) → 0 < l → l * x ≡ l * y → x ≡ y
times_cancel l x y k g =
    elim (cases_order x y) [
      | inl is ↦ is
      | inr other ↦ absurd (elim other [
        | inl less ↦ let more = times_less l x y k less in omega (arith, more, g)
        | inr less ↦ let more = times_less l y x k less in omega (arith, more, g)
      ])
    ]

-- ---- quotients
module _ (a b : Dyadic) (h : IsPositive b) where
  -- the odd part of the divisor's numerator
  abbrev odd : ℕ
  odd = odd_part (numerator b)

  -- the quotient where it divides the other numerator
  abbrev found : Dyadic
  found = reduced (numerator a / odd * 2 ^ exponent b) (exponent a + halvings (numerator b))

  odd_above : 0 < odd
  odd_above = let one = odd_is (numerator b) h in omega (arith, one)

  counted : (l o c k n m z : ℕ) → o * 2 ^ z ≡ l → k ≡ o * c → l * 2 ^ (n - n) * (c * 2 ^ n * 2 ^ (m + z - (m + z))) ≡ k * 2 ^ (n + (m + z) - m)
  counted l o c k n m z e f =
      let u : n - n ≡ 0 = omega arith in
      let v : m + z - (m + z) ≡ 0 = omega arith in
      let w : n + (m + z) - m ≡ z + n = omega arith in
      let p : 2 ^ (z + n) ≡ 2 ^ z * 2 ^ n = pow-add 2 z n in
      rw (u, v, w, p, ← e, f) (omega arith)

  multiplies_back : numerator a % odd ≡ 0 → product b found ≡ a
  unfolding units
  multiplies_back none =
      let c = numerator a / odd in
      let n = exponent b in
      let m = exponent a in
      let z = halvings (numerator b) in
      let low = reduced_low (c * 2 ^ n) (m + z) in
      same_units (product b found) a (n + (m + z)) (omega (arith, product_low b found, low)) (omega arith)
      (product_units b found n (m + z) (omega arith) low
      ∙ ap (λ x. units b n * x) (reduced_units (c * 2 ^ n) (m + z) (m + z) (omega arith))
      ∙ counted (numerator b) odd c (numerator a) n m z (odd_back (numerator b)) (whole_times odd (numerator a) odd_above none))

  nought_is : (x : ℕ) → (x == 0) ≡ true → x ≡ 0
  nought_is x e = grind (arith, nat_tests)

  multiplied : (q : Dyadic) → quotient a b ≡ Some q → product b q ≡ a
  multiplied q e = by (numerator a % odd == 0) refl e
    where
      by : (t : Bool) → (numerator a % odd == 0) ≡ t → cond t (Some found) None ≡ Some q → product b q ≡ a
      by true f g =
          let is : found ≡ q = cc in
          subst (λ x. product b x ≡ a) is (multiplies_back (nought_is (numerator a % odd) f))
      by false f g = cc

  divides : (q : Dyadic) → product b q ≡ a → numerator a % odd ≡ 0
  unfolding units
  divides q e =
      let n = exponent b in
      let v = exponent q in
      let z = halvings (numerator b) in
      let same : numerator a * 2 ^ (n + v - exponent a) ≡ numerator b * 2 ^ (n - n) * (numerator q * 2 ^ (v - v)) =
      ap (λ x. units x (n + v)) (sym e) ∙ product_units b q n v (omega arith) (omega arith) in
      let d = divides_power odd (odd_is (numerator b) h) (n + v - exponent a) (numerator a) (2 ^ z * numerator q)
      (same ∙ split (numerator b) odd (numerator q) n v z (odd_back (numerator b))) in
      no_remainder odd (numerator a) d.0 odd_above d.1
    where
      split : (l o u n v z : ℕ) → o * 2 ^ z ≡ l → l * 2 ^ (n - n) * (u * 2 ^ (v - v)) ≡ o * (2 ^ z * u)
      split l o u n v z e =
          let f : n - n ≡ 0 = omega arith in
          let g : v - v ≡ 0 = omega arith in
          rw (f, g, ← e) (omega arith)

  one_quotient : (r q : Dyadic) → product b r ≡ product b q → r ≡ q
  one_quotient r q e =
      let s = exponent b in
      let t = exponent r + exponent q in
      same_units r q t (omega arith) (omega arith)
      (times_cancel (units b s) (units r t) (units q t) (units_positive b s h)
      (sym (product_units b r s t (omega arith) (omega arith)) ∙ ap (λ x. units x (s + t)) e ∙ product_units b q s t (omega arith) (omega arith)))

  divided_out : (q : Dyadic) → product b q ≡ a → quotient a b ≡ Some q
  divided_out q e =
      let none = divides q e in
      ap (λ x. cond (x == 0) (Some found) None) none ∙ ap Some (one_quotient found q (multiplies_back none ∙ sym e))

pub quotients_multiply_back : QuotientsMultiplyBack
quotients_multiply_back a b q h = (multiplied a b h q, divided_out a b h q)
