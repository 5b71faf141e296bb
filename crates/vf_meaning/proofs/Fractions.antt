-- The laws of dyadic fractions, from what fractions are in small units.
use Rattle.std.proofs.Common.{◌≡◌, ◌≢◌, ℕ, zero, suc, ◌+◌, ◌-◌, ◌*◌, ◌/◌, ◌%◌, ◌^◌, ◌<◌, ◌≤◌, refl, sym, ap, ap₂, subst, ◌∙◌, inl, inr, ⊎_elim, arith, pow-add, pow_pos}
use Rattle.std.proofs.lemmas.Bool.{cases_lt, cases_order, le-leb, leb-true}
use Rattle.std.proofs.lemmas.Bool.Decides.{eqb_tells}
use Rattle.std.proofs.lemmas.Nat.{shl-shr, mul-le}
use Rattle.vf_model.specs.Values.{Dyadic, Whole, Odd}
use Rattle.vf_meaning.specs.Fractions.{numerator, exponent, reduced, nought, whole, sum, product, half, IsPositive, AtMost, units}
use Rattle.vf_meaning.specs.FractionLaws.{FormIsOne, ReducesToItsValue, CountsInUnits, SumCommutes, SumAssociates, NoughtAddsNothing, ProductCommutes, ProductAssociates, WholeScalesNothing, ProductDistributes, HalvesMakeTheWhole, StaysPositive, OrderIsTotal, OrderIsTransitive, OrderIsBySums, TellsOrder}

-- ---- powers of two
power_step : (s m : ℕ) → suc m ≤ s → 2 ^ (s - m) ≡ 2 * 2 ^ (s - suc m)
power_step s m h = let e : s - m ≡ suc (s - suc m) = omega arith in rw e (omega arith)

cancel : (a b t : ℕ) → a * 2 ^ t ≡ b * 2 ^ t → a ≡ b
cancel a b t h = sym (shl-shr a t) ∙ ap (λ x. x / 2 ^ t) h ∙ shl-shr b t

times_less : (a b n : ℕ) → a < b → 0 < n → a * n < b * n
times_less a b n h k = grind arith

cancel_le : (a b t : ℕ) → a * 2 ^ t ≤ b * 2 ^ t → a ≤ b
cancel_le a b t h =
    ⊎_elim (λ less. let more : b * 2 ^ t < a * 2 ^ t = times_less b a (2 ^ t) less (pow_pos t) in absurd (omega (arith, more, h))) (λ least. least) (cases_lt b a)

positive_times : (a b : ℕ) → 0 < a → 0 < b → 0 < a * b
positive_times a b h k = grind arith

even_half : (k : ℕ) → k % 2 ≡ 0 → k ≡ 2 * (k / 2)
even_half k h = omega arith

odd_half : (k : ℕ) → k % 2 ≢ 0 → k ≡ suc (2 * (k / 2))
odd_half k h = omega arith

-- ---- fractions in units
pub reduced_units : (k m s : ℕ) → m ≤ s → units (reduced k m) s ≡ k * 2 ^ (s - m)
unfolding units
reduced_units k zero s h = refl
reduced_units k (suc m) s h =
    elim (eqb_tells (k % 2) 0) [
      | inl e ↦ rw e.0 (reduced_units (k / 2) m s (omega (arith, h)) ∙ halved (k / 2) (2 ^ (s - m)) (2 ^ (s - suc m)) k (even_half k e.1) (power_step s m h))
      | inr e ↦ rw e.0 (ap (λ x. x * 2 ^ (s - suc m)) (sym (odd_half k e.1)))
    ]
  where
    halved : (c p q k : ℕ) → k ≡ 2 * c → p ≡ 2 * q → c * p ≡ k * q
    halved c p q k e f = rw (e, f) (omega arith)

pub reduced_low : (k m : ℕ) → exponent (reduced k m) ≤ m
reduced_low k zero = omega arith
reduced_low k (suc m) =
    elim (eqb_tells (k % 2) 0) [
      | inl e ↦ rw e.0 (let l = reduced_low (k / 2) m in omega (arith, l))
      | inr e ↦ rw e.0 (omega arith)
    ]

reduced_positive : (k m : ℕ) → 0 < k → 0 < numerator (reduced k m)
reduced_positive k zero h = h
reduced_positive k (suc m) h =
    elim (eqb_tells (k % 2) 0) [
      | inl e ↦ rw e.0 (reduced_positive (k / 2) m (let d = even_half k e.1 in omega (arith, h, d)))
      | inr e ↦ rw e.0 (omega arith)
    ]

-- an even number of units is not an odd one
uneven : (x i e t : ℕ) → x * 2 ^ (suc e + t) ≡ suc (2 * i) * 2 ^ t → ⊥
uneven x i e t h = parity (x * 2 ^ e) i (cancel (2 * (x * 2 ^ e)) (suc (2 * i)) t (regroup x e t ∙ h))
  where
    parity : (y i : ℕ) → 2 * y ≡ suc (2 * i) → ⊥
    parity y i h = omega arith

    grouped : (x p q r : ℕ) → r ≡ 2 * p → 2 * (x * p) * q ≡ x * (r * q)
    grouped x p q r h = rw h (grind arith)

    regroup : (x e t : ℕ) → 2 * (x * 2 ^ e) * 2 ^ t ≡ x * 2 ^ (suc e + t)
    regroup x e t = let p = pow-add 2 (suc e) t in let d : 2 ^ suc e ≡ 2 * 2 ^ e = omega arith in rw p (grouped x (2 ^ e) (2 ^ t) (2 ^ suc e) d)

-- equal in units that are small enough is equal
pub same_units : (a b : Dyadic) (s : ℕ) → exponent a ≤ s → exponent b ≤ s → units a s ≡ units b s → a ≡ b
unfolding units
same_units (Whole k) (Whole l) s h g e = ap Whole (cancel k l (s - 0) e)
same_units (Whole k) (Odd j m) s h g e =
    let d : s - 0 ≡ suc m + (s - suc m) = omega (arith, g) in
    absurd (uneven k j m (s - suc m) (subst (λ x. k * 2 ^ x ≡ suc (2 * j) * 2 ^ (s - suc m)) d e))
same_units (Odd j m) (Whole k) s h g e =
    let d : s - 0 ≡ suc m + (s - suc m) = omega (arith, h) in
    absurd (uneven k j m (s - suc m) (subst (λ x. k * 2 ^ x ≡ suc (2 * j) * 2 ^ (s - suc m)) d (sym e)))
same_units (Odd j m) (Odd i n) s h g e =
    elim (cases_order m n) [
      | inl same ↦
          let f : suc (2 * j) * 2 ^ (s - suc n) ≡ suc (2 * i) * 2 ^ (s - suc n) = subst (λ x. suc (2 * j) * 2 ^ (s - suc x) ≡ suc (2 * i) * 2 ^ (s - suc n)) same e in
          let c = cancel (suc (2 * j)) (suc (2 * i)) (s - suc n) f in
          ap₂ Odd (halves j i c) same
      | inr other ↦ absurd (elim other [
        | inl less ↦
            let d : s - suc m ≡ suc (n - suc m) + (s - suc n) = omega (arith, g, less) in
            uneven (suc (2 * j)) i (n - suc m) (s - suc n) (subst (λ x. suc (2 * j) * 2 ^ x ≡ suc (2 * i) * 2 ^ (s - suc n)) d e)
        | inr more ↦
            let d : s - suc n ≡ suc (m - suc n) + (s - suc m) = omega (arith, h, more) in
            uneven (suc (2 * i)) j (m - suc n) (s - suc m) (subst (λ x. suc (2 * i) * 2 ^ x ≡ suc (2 * j) * 2 ^ (s - suc m)) d (sym e))
      ])
    ]
  where
    halves : (j i : ℕ) → suc (2 * j) ≡ suc (2 * i) → j ≡ i
    halves j i h = omega arith

-- smaller units are more by a power of two
units_finer : (a : Dyadic) (s t : ℕ) → exponent a ≤ s → units a (s + t) ≡ units a s * 2 ^ t
unfolding units
units_finer a s t h =
    let d : s + t - exponent a ≡ s - exponent a + t = omega (arith, h) in
    ap (λ x. numerator a * 2 ^ x) d ∙ ap (λ x. numerator a * x) (pow-add 2 (s - exponent a) t) ∙ grouped (numerator a) (2 ^ (s - exponent a)) (2 ^ t)
  where
    grouped : (n p q : ℕ) → n * (p * q) ≡ n * p * q
    grouped n p q = grind arith

-- in units of both denominators
units_common : (a b : Dyadic) → units a (exponent a + exponent b) ≡ numerator a * 2 ^ exponent b
unfolding units
units_common a b = let d : exponent a + exponent b - exponent a ≡ exponent b = omega arith in ap (λ x. numerator a * 2 ^ x) d

units_common_second : (a b : Dyadic) → units b (exponent a + exponent b) ≡ numerator b * 2 ^ exponent a
unfolding units
units_common_second a b = let d : exponent a + exponent b - exponent b ≡ exponent a = omega arith in ap (λ x. numerator b * 2 ^ x) d

pub sum_low : (a b : Dyadic) → exponent (sum a b) ≤ exponent a + exponent b
sum_low a b = reduced_low (numerator a * 2 ^ exponent b + numerator b * 2 ^ exponent a) (exponent a + exponent b)

pub sum_units : (a b : Dyadic) (s : ℕ) → exponent a + exponent b ≤ s → units (sum a b) s ≡ units a s + units b s
unfolding units
sum_units a b s h =
    reduced_units (numerator a * 2 ^ exponent b + numerator b * 2 ^ exponent a) (exponent a + exponent b) s h
    ∙ added (numerator a) (numerator b) (exponent a) (exponent b) s h
  where
    added : (n m x y s : ℕ) → x + y ≤ s → (n * 2 ^ y + m * 2 ^ x) * 2 ^ (s - (x + y)) ≡ n * 2 ^ (s - x) + m * 2 ^ (s - y)
    added n m x y s h =
        let t = s - (x + y) in
        let first : s - x ≡ y + t = omega arith in
        let second : s - y ≡ x + t = omega arith in
        rw (first, second, pow-add 2 y t, pow-add 2 x t) (omega arith)

pub product_low : (a b : Dyadic) → exponent (product a b) ≤ exponent a + exponent b
product_low a b = reduced_low (numerator a * numerator b) (exponent a + exponent b)

pub product_units : (a b : Dyadic) (s t : ℕ) → exponent a ≤ s → exponent b ≤ t → units (product a b) (s + t) ≡ units a s * units b t
unfolding units
product_units a b s t h g =
    reduced_units (numerator a * numerator b) (exponent a + exponent b) (s + t) (omega (arith, h, g))
    ∙ multiplied (numerator a) (numerator b) (exponent a) (exponent b) s t h g
  where
    grouped : (n m p q : ℕ) → n * m * (p * q) ≡ n * p * (m * q)
    grouped n m p q = grind arith

    multiplied : (n m x y s t : ℕ) → x ≤ s → y ≤ t → n * m * 2 ^ (s + t - (x + y)) ≡ n * 2 ^ (s - x) * (m * 2 ^ (t - y))
    multiplied n m x y s t h g =
        let d : s + t - (x + y) ≡ s - x + (t - y) = omega (arith, h, g) in
        ap (λ z. n * m * 2 ^ z) d ∙ ap (λ z. n * m * z) (pow-add 2 (s - x) (t - y)) ∙ grouped n m (2 ^ (s - x)) (2 ^ (t - y))

pub half_low : (a : Dyadic) → exponent (half a) ≤ suc (exponent a)
half_low a = reduced_low (numerator a) (suc (exponent a))

pub half_units : (a : Dyadic) (s : ℕ) → suc (exponent a) ≤ s → units (half a) s + units (half a) s ≡ units a s
unfolding units
half_units a s h =
    ap (λ x. x + x) (reduced_units (numerator a) (suc (exponent a)) s h) ∙ twice (numerator a) (2 ^ (s - exponent a)) (2 ^ (s - suc (exponent a))) (power_step s (exponent a) h)
  where
    twice : (n p q : ℕ) → p ≡ 2 * q → n * q + n * q ≡ n * p
    twice n p q e = rw e (omega arith)

pub units_positive : (a : Dyadic) (s : ℕ) → IsPositive a → 0 < units a s
unfolding units
units_positive a s h = positive_times (numerator a) (2 ^ (s - exponent a)) h (pow_pos (s - exponent a))

-- ---- the laws
pub form_is_one : FormIsOne
form_is_one a b e =
    same_units a b (exponent a + exponent b) (omega arith) (omega arith) (units_common a b ∙ e ∙ sym (units_common_second a b))

pub reduces_to_its_value : ReducesToItsValue
unfolding units
reduces_to_its_value k m =
    valued (numerator (reduced k m)) (exponent (reduced k m)) k m (reduced_low k m) (reduced_units k m m (omega arith))
  where
    grouped : (n p q : ℕ) → n * (p * q) ≡ n * p * q
    grouped n p q = grind arith

    valued : (n x k m : ℕ) → x ≤ m → n * 2 ^ (m - x) ≡ k * 2 ^ (m - m) → n * 2 ^ m ≡ k * 2 ^ x
    valued n x k m l e =
        let d : m ≡ m - x + x = omega (arith, l) in
        let z : m - m ≡ 0 = omega arith in
        let f : n * 2 ^ (m - x) ≡ k = e ∙ ap (λ y. k * 2 ^ y) z ∙ omega arith in
        ap (λ y. n * 2 ^ y) d ∙ ap (λ y. n * y) (pow-add 2 (m - x) x) ∙ grouped n (2 ^ (m - x)) (2 ^ x) ∙ ap (λ y. y * 2 ^ x) f

pub counts_in_units : CountsInUnits
counts_in_units = (sum_units, product_units)

pub sum_commutes : SumCommutes
sum_commutes a b =
    let s = exponent a + exponent b in
    same_units (sum a b) (sum b a) s (sum_low a b) (omega (arith, sum_low b a))
    (added (units (sum a b) s) (units (sum b a) s) (units a s) (units b s) (sum_units a b s (omega arith)) (sum_units b a s (omega arith)))
  where
    added : (x y u v : ℕ) → x ≡ u + v → y ≡ v + u → x ≡ y
    added x y u v e f = omega arith

pub sum_associates : SumAssociates
sum_associates a b c =
    let s = exponent a + exponent b + exponent c in
    same_units (sum (sum a b) c) (sum a (sum b c)) s
    (omega (arith, sum_low a b, sum_low (sum a b) c)) (omega (arith, sum_low b c, sum_low a (sum b c)))
    (omega (arith, sum_units (sum a b) c s (omega (arith, sum_low a b)), sum_units a b s (omega arith), sum_units a (sum b c) s (omega (arith, sum_low b c)), sum_units b c s (omega arith)))

no_units : (s : ℕ) → units nought s ≡ 0
unfolding units
no_units s = omega arith

pub nought_adds_nothing : NoughtAddsNothing
nought_adds_nothing a =
    let s = exponent a in
    same_units (sum nought a) a s (omega (arith, sum_low nought a)) (omega arith) (sum_units nought a s (omega arith) ∙ none (units nought s) (units a s) (no_units s))
  where
    none : (x y : ℕ) → x ≡ 0 → x + y ≡ y
    none x y h = omega arith

pub product_commutes : ProductCommutes
product_commutes a b =
    let s = exponent a in
    let t = exponent b in
    let d : t + s ≡ s + t = omega arith in
    same_units (product a b) (product b a) (s + t) (product_low a b) (omega (arith, product_low b a))
    (product_units a b s t (omega arith) (omega arith) ∙ turned (units a s) (units b t)
    ∙ sym (product_units b a t s (omega arith) (omega arith)) ∙ ap (λ x. units (product b a) x) d)
  where
    turned : (x y : ℕ) → x * y ≡ y * x
    turned x y = omega arith

pub product_associates : ProductAssociates
product_associates a b c =
    let s = exponent a in
    let t = exponent b in
    let u = exponent c in
    let d : s + (t + u) ≡ s + t + u = omega arith in
    same_units (product (product a b) c) (product a (product b c)) (s + t + u)
    (omega (arith, product_low a b, product_low (product a b) c)) (omega (arith, product_low b c, product_low a (product b c)))
    (product_units (product a b) c (s + t) u (product_low a b) (omega arith) ∙ ap (λ x. x * units c u) (product_units a b s t (omega arith) (omega arith))
    ∙ grouped (units a s) (units b t) (units c u)
    ∙ ap (λ x. units a s * x) (sym (product_units b c t u (omega arith) (omega arith)))
    ∙ sym (product_units a (product b c) s (t + u) (omega arith) (product_low b c)) ∙ ap (λ x. units (product a (product b c)) x) d)
  where
    grouped : (x y z : ℕ) → x * y * z ≡ x * (y * z)
    grouped x y z = grind arith

once : (x : ℕ) → units whole 0 * x ≡ x
unfolding units
once x = omega arith

pub whole_scales_nothing : WholeScalesNothing
whole_scales_nothing a =
    let s = exponent a in
    same_units (product whole a) a s (omega (arith, product_low whole a)) (omega arith)
    (ap (λ x. units (product whole a) x) (none s) ∙ product_units whole a 0 s (omega arith) (omega arith) ∙ once (units a s))
  where
    none : (s : ℕ) → s ≡ 0 + s
    none s = omega arith

pub product_distributes : ProductDistributes
product_distributes a b c =
    let s = exponent a + exponent b + exponent c in
    let u = exponent c in
    same_units (product (sum a b) c) (sum (product a c) (product b c)) (s + u)
    (omega (arith, sum_low a b, product_low (sum a b) c))
    (omega (arith, product_low a c, product_low b c, sum_low (product a c) (product b c)))
    (distributed (units (product (sum a b) c) (s + u)) (units (sum (product a c) (product b c)) (s + u)) (units (product a c) (s + u)) (units (product b c) (s + u)) (units (sum a b) s) (units a s) (units b s) (units c u)
    (product_units (sum a b) c s u (omega (arith, sum_low a b)) (omega arith))
    (sum_units a b s (omega arith))
    (sum_units (product a c) (product b c) (s + u) (omega (arith, product_low a c, product_low b c)))
    (product_units a c s u (omega arith) (omega arith))
    (product_units b c s u (omega arith) (omega arith)))
  where
    distributed : (l r m n p x y z : ℕ) → l ≡ p * z → p ≡ x + y → r ≡ m + n → m ≡ x * z → n ≡ y * z → l ≡ r
    distributed l r m n p x y z e f g h k = rw (e, f, g, h, k) (omega arith)

pub halves_make_the_whole : HalvesMakeTheWhole
halves_make_the_whole a =
    let s = suc (exponent a) + suc (exponent a) in
    same_units (sum (half a) (half a)) a s (omega (arith, half_low a, sum_low (half a) (half a))) (omega arith)
    (sum_units (half a) (half a) s (omega (arith, half_low a)) ∙ half_units a s (omega arith))

pub stays_positive : StaysPositive
stays_positive = (
  λ a b h. reduced_positive (numerator a * 2 ^ exponent b + numerator b * 2 ^ exponent a) (exponent a + exponent b)
      (let p = positive_times (numerator a) (2 ^ exponent b) h (pow_pos (exponent b)) in omega (arith, p)),
  λ a b h k. reduced_positive (numerator a * numerator b) (exponent a + exponent b) (positive_times (numerator a) (numerator b) h k),
  λ a h. reduced_positive (numerator a) (suc (exponent a)) h,
)

-- the order in units that are small enough
at_most_in_units : (a b : Dyadic) (s : ℕ) → exponent a ≤ s → exponent b ≤ s → AtMost a b → units a s ≤ units b s
at_most_in_units a b s h g l =
    let c = exponent a + exponent b in
    cancel_le (units a s) (units b s) c
    (compared (units a s * 2 ^ c) (units b s * 2 ^ c) (units a (c + s)) (units b (c + s)) (numerator a * 2 ^ exponent b * 2 ^ s) (numerator b * 2 ^ exponent a * 2 ^ s)
    (sym (units_finer a s c h) ∙ ap (λ x. units a x) (turned s c)) (sym (units_finer b s c g) ∙ ap (λ x. units b x) (turned s c))
    (units_finer a c s (omega arith) ∙ ap (λ x. x * 2 ^ s) (units_common a b)) (units_finer b c s (omega arith) ∙ ap (λ x. x * 2 ^ s) (units_common_second a b))
    (mul-le (numerator a * 2 ^ exponent b) (2 ^ s) (numerator b * 2 ^ exponent a) (2 ^ s) l (omega arith)))
  where
    turned : (x y : ℕ) → x + y ≡ y + x
    turned x y = omega arith

    compared : (x y u v m n : ℕ) → x ≡ u → y ≡ v → u ≡ m → v ≡ n → m ≤ n → x ≤ y
    compared x y u v m n e f g h l = omega arith

at_most_from_units : (a b : Dyadic) (s : ℕ) → exponent a ≤ s → exponent b ≤ s → units a s ≤ units b s → AtMost a b
at_most_from_units a b s h g l =
    let c = exponent a + exponent b in
    cancel_le (numerator a * 2 ^ exponent b) (numerator b * 2 ^ exponent a) s
    (compared (numerator a * 2 ^ exponent b * 2 ^ s) (numerator b * 2 ^ exponent a * 2 ^ s) (units a (c + s)) (units b (c + s)) (units a s * 2 ^ c) (units b s * 2 ^ c)
    (sym (units_finer a c s (omega arith) ∙ ap (λ x. x * 2 ^ s) (units_common a b))) (sym (units_finer b c s (omega arith) ∙ ap (λ x. x * 2 ^ s) (units_common_second a b)))
    (ap (λ x. units a x) (turned c s) ∙ units_finer a s c h) (ap (λ x. units b x) (turned c s) ∙ units_finer b s c g)
    (mul-le (units a s) (2 ^ c) (units b s) (2 ^ c) l (omega arith)))
  where
    turned : (x y : ℕ) → x + y ≡ y + x
    turned x y = omega arith

    compared : (x y u v m n : ℕ) → x ≡ u → y ≡ v → u ≡ m → v ≡ n → m ≤ n → x ≤ y
    compared x y u v m n e f g h l = omega arith

pub order_is_total : OrderIsTotal
order_is_total = (
  λ a b. ⊎_elim (λ less. inl (omega (arith, less))) (λ least. inr least) (cases_lt (numerator a * 2 ^ exponent b) (numerator b * 2 ^ exponent a)),
  λ a b l m. form_is_one a b (omega (arith, l, m)),
)

pub order_is_transitive : OrderIsTransitive
order_is_transitive a b c l m =
    let s = exponent a + exponent b + exponent c in
    at_most_from_units a c s (omega arith) (omega arith)
    (let first = at_most_in_units a b s (omega arith) (omega arith) l in
    let second = at_most_in_units b c s (omega arith) (omega arith) m in
    omega (arith, first, second))

pub order_is_by_sums : OrderIsBySums
order_is_by_sums a b = (
  λ l.
      let c = exponent a + exponent b in
      let x = numerator a * 2 ^ exponent b in
      let y = numerator b * 2 ^ exponent a in
      let d = reduced (y - x) c in
      let s = exponent a + c in (
        d,
        same_units (sum a d) b s (omega (arith, sum_low a d, reduced_low (y - x) c)) (omega arith)
            (sum_units a d s (omega (arith, reduced_low (y - x) c))
            ∙ missing (units a s) (units d s) (units b s) x y (2 ^ exponent a)
            (ap (λ z. units a z) (turned (exponent a) c) ∙ units_finer a c (exponent a) (omega arith) ∙ ap (λ z. z * 2 ^ exponent a) (units_common a b))
            (reduced_units (y - x) c s (omega arith) ∙ ap (λ z. (y - x) * 2 ^ z) (left (exponent a) c))
            (ap (λ z. units b z) (turned (exponent a) c) ∙ units_finer b c (exponent a) (omega arith) ∙ ap (λ z. z * 2 ^ exponent a) (units_common_second a b))
            l),
      ),
  λ found.
      let c = found.0 in
      let s = exponent a + exponent c in
      let low : exponent b ≤ s = subst (λ z. exponent z ≤ s) found.1 (sum_low a c) in
      at_most_from_units a b s (omega arith) low
      (let added = sum_units a c s (omega arith) in
      let same = ap (λ z. units z s) found.1 in
      omega (arith, added, same)),
)
  where
    turned : (x y : ℕ) → x + y ≡ y + x
    turned x y = omega arith

    left : (x y : ℕ) → x + y - y ≡ x
    left x y = omega arith

    missing : (u v w x y p : ℕ) → u ≡ x * p → v ≡ (y - x) * p → w ≡ y * p → x ≤ y → u + v ≡ w
    missing u v w x y p e f g l =
        let d : y ≡ x + (y - x) = omega arith in
        let h : y * p ≡ x * p + (y - x) * p = ap (λ z. z * p) d ∙ split x (y - x) p in
        omega (arith, e, f, g, h)
      where
        split : (x z p : ℕ) → (x + z) * p ≡ x * p + z * p
        split x z p = omega arith

pub order_told : TellsOrder
order_told a b = (leb-true (numerator a * 2 ^ exponent b) (numerator b * 2 ^ exponent a), le-leb (numerator a * 2 ^ exponent b) (numerator b * 2 ^ exponent a))
