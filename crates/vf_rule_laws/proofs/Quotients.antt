-- Quotients and remainders of numbers of a type by a divisor are of that type.
use Rattle.std.proofs.Common.{◌≡◌, ℕ, zero, suc, ◌-◌, ◌^◌, ◌≤◌, ◌<◌, ◌/◌, ◌%◌, List, ℤ, pos, negsuc, neg_ℤ, Bool, true, false, cond, not, refl, sym, subst, subst₂, ◌⊎◌, inl, inr, ⊎_elim, arith}
use Rattle.std.specs.Prelude.{int_le, int_div, int_rem, unsigned_abs}
use Rattle.std.specs.Ordering.{int_eq}
use Rattle.std.proofs.lemmas.Int.{ints}
use Rattle.std.proofs.lemmas.Bool.{false≢true}
use native.Mathlib.Nat.{div-le_self, div-lt_self, mod-le}
use Rattle.vf_base.specs.declared.int_type.IntType.{IntType}
use Rattle.vf_base.specs.declared.int_type.IntType.TheVariants as types
use Rattle.vf_tree.specs.Core.{Divide, Remainder, LessEqual, NotEqual}
use Rattle.vf_model.specs.Integers.{least, greatest}
use Rattle.vf_model.specs.Values.{number_of}
use Rattle.vf_model.specs.Values as values
use Rattle.vf_meaning.specs.Ghost.{Arithmetic}
use Rattle.vf_meaning.specs.Valuations.{Valuation}
use Rattle.vf_meaning.specs.GhostValues.{computed, compared}
use Rattle.vf_meaning.specs.Assertions.{Environment}
use Rattle.vf_rules.specs.Terms.{Term}
use Rattle.vf_rules.specs.States.{Fact, value_in, Meets}
use Rattle.vf_rules.specs.Evaluate.{IsInRange, IsDivisor, IsNumber}
use Rattle.vf_rules.proofs.Evaluates.{number_sort}
use Rattle.vf_rule_laws.specs.TypedLaws.{QuotientsAreInRange}

-- ---- numbers between bounds
abbrev Within : ℤ → ℤ → ℤ → Type 0
Within l g z = (int_le l z ≡ true) × (int_le z g ≡ true)

below_pos : (n g : ℕ) → n ≤ g → int_le (pos n) (pos g) ≡ true
below_pos n g h = grind (arith, ints)

below_back : (n g : ℕ) → int_le (pos n) (pos g) ≡ true → n ≤ g
below_back n g h = grind (arith, ints)

above_neg : (n g : ℕ) → n ≤ g → int_le (negsuc g) (negsuc n) ≡ true
above_neg n g h = grind (arith, ints)

above_back : (n g : ℕ) → int_le (negsuc g) (negsuc n) ≡ true → n ≤ g
above_back n g h = grind (arith, ints)

positive_within : (g n : ℕ) → n ≤ g → Within (negsuc g) (pos g) (pos n)
positive_within g n h = (refl, below_pos n g h)

natural_within : (g n : ℕ) → n ≤ g → Within (pos 0) (pos g) (pos n)
natural_within g n h = (below_pos 0 n (omega arith), below_pos n g h)

negative_within : (g n : ℕ) → n ≤ suc g → Within (negsuc g) (pos g) (neg_ℤ (pos n))
negative_within g zero h = (refl, below_pos 0 g (omega arith))
negative_within g (suc n) h = (above_neg n g (omega arith), refl)

differ : (a g : ℕ) → int_eq (negsuc a) (negsuc g) ≡ false → a ≤ g → a < g
differ a g h k = grind (arith, ints)

-- ---- quotients and remainders between bounds
negative_quotient : (g a b : ℕ) → a ≤ g → (int_eq (negsuc b) (negsuc 0) ≡ false) ⊎ (int_eq (negsuc a) (negsuc g) ≡ false) → suc a / suc b ≤ g
negative_quotient g a zero l (inl h) = absurd (false≢true (sym h))
negative_quotient g a (suc b) l (inl h) = omega (arith, l, div-lt_self {n = suc a} {k = suc (suc b)} (omega arith) (omega arith))
negative_quotient g a b l (inr h) = omega (arith, div-le_self (suc a) (suc b), differ a g h l)

signed_quotient : (g : ℕ) (x y : ℤ) → Within (negsuc g) (pos g) x → (int_eq y (negsuc 0) ≡ false) ⊎ (int_eq x (negsuc g) ≡ false) → Within (negsuc g) (pos g) (int_div x y)
signed_quotient g (pos a) (pos b) h k = positive_within g (a / b) (omega (arith, div-le_self a b, below_back a g h.1))
signed_quotient g (pos a) (negsuc b) h k = negative_within g (a / suc b) (omega (arith, div-le_self a (suc b), below_back a g h.1))
signed_quotient g (negsuc a) (pos b) h k = negative_within g (suc a / b) (omega (arith, div-le_self (suc a) b, above_back a g h.0))
signed_quotient g (negsuc a) (negsuc b) h k = positive_within g (suc a / suc b) (negative_quotient g a b (above_back a g h.0) k)

signed_remainder : (g : ℕ) (x y : ℤ) → Within (negsuc g) (pos g) x → Within (negsuc g) (pos g) (int_rem x y)
signed_remainder g (pos a) y h = positive_within g (a % unsigned_abs y) (omega (arith, mod-le a (unsigned_abs y), below_back a g h.1))
signed_remainder g (negsuc a) y h = negative_within g (suc a % unsigned_abs y) (omega (arith, mod-le (suc a) (unsigned_abs y), above_back a g h.0))

unsigned_quotient : (g : ℕ) (x y : ℤ) → Within (pos 0) (pos g) x → Within (pos 0) (pos g) y → Within (pos 0) (pos g) (int_div x y)
unsigned_quotient g (pos a) (pos b) h k = natural_within g (a / b) (omega (arith, div-le_self a b, below_back a g h.1))
unsigned_quotient g (pos a) (negsuc b) h k = absurd (false≢true k.0)
unsigned_quotient g (negsuc a) y h k = absurd (false≢true h.0)

unsigned_remainder : (g : ℕ) (x y : ℤ) → Within (pos 0) (pos g) x → Within (pos 0) (pos g) (int_rem x y)
unsigned_remainder g (pos a) y h = natural_within g (a % unsigned_abs y) (omega (arith, mod-le a (unsigned_abs y), below_back a g h.1))
unsigned_remainder g (negsuc a) y h = absurd (false≢true h.0)

-- ---- types
-- the greatest number of a type, and the least, which is 0 or one further from 0
bounds : (ty : IntType) → (g : ℕ) × (greatest ty ≡ pos g) × ((least ty ≡ pos 0) ⊎ (least ty ≡ negsuc g))
bounds types.Bool = (1, refl, inl refl)
bounds types.Char = (2 ^ 7 - 1, refl, inr refl)
bounds types.UChar = (2 ^ 8 - 1, refl, inl refl)
bounds types.Short = (2 ^ 15 - 1, refl, inr refl)
bounds types.UShort = (2 ^ 16 - 1, refl, inl refl)
bounds types.Int = (2 ^ 31 - 1, refl, inr refl)
bounds types.UInt = (2 ^ 32 - 1, refl, inl refl)
bounds types.Long = (2 ^ 63 - 1, refl, inr refl)
bounds types.ULong = (2 ^ 64 - 1, refl, inl refl)
bounds types.LongLong = (2 ^ 63 - 1, refl, inr refl)
bounds types.ULongLong = (2 ^ 64 - 1, refl, inl refl)

-- nought is a number of each type
nought_within : (l : ℤ) (g : ℕ) → (l ≡ pos 0) ⊎ (l ≡ negsuc g) → Within l (pos g) (pos 0)
nought_within l g (inl is) = subst (λ z. Within z (pos g) (pos 0)) (sym is) (natural_within g 0 (omega arith))
nought_within l g (inr is) = subst (λ z. Within z (pos g) (pos 0)) (sym is) (positive_within g 0 (omega arith))

divided : (l : ℤ) (g : ℕ) (x y : ℤ) → (l ≡ pos 0) ⊎ (l ≡ negsuc g) → Within l (pos g) x → Within l (pos g) y → (int_eq y (negsuc 0) ≡ false) ⊎ (int_eq x l ≡ false)
    → Within l (pos g) (int_div x y) × Within l (pos g) (int_rem x y)
divided l g x y (inl is) h k o =
    let hx = subst (λ z. Within z (pos g) x) is h in
    let hy = subst (λ z. Within z (pos g) y) is k in
    subst (λ z. Within z (pos g) (int_div x y) × Within z (pos g) (int_rem x y)) (sym is) (unsigned_quotient g x y hx hy, unsigned_remainder g x y hx)
divided l g x y (inr is) h k o =
    let hx = subst (λ z. Within z (pos g) x) is h in
    let ho = subst (λ z. (int_eq y (negsuc 0) ≡ false) ⊎ (int_eq x z ≡ false)) is o in
    subst (λ z. Within z (pos g) (int_div x y) × Within z (pos g) (int_rem x y)) (sym is) (signed_quotient g x y hx ho, signed_remainder g x y hx)

or_nought : (l g z : ℤ) (b : Bool) → Within l g (pos 0) → Within l g z → Within l g (cond b (pos 0) z)
or_nought l g z true h k = h
or_nought l g z false h k = k

computed_within : (ty : IntType) (x y : ℤ) → Within (least ty) (greatest ty) x → Within (least ty) (greatest ty) y → (int_eq y (negsuc 0) ≡ false) ⊎ (int_eq x (least ty) ≡ false)
    → Within (least ty) (greatest ty) (computed Divide x y) × Within (least ty) (greatest ty) (computed Remainder x y)
computed_within ty x y h k o =
    let (g, top, bottom) = bounds ty in
    let d = divided (least ty) g x y bottom (subst (λ z. Within (least ty) z x) top h) (subst (λ z. Within (least ty) z y) top k) o in
    let none = nought_within (least ty) g bottom in
    subst (λ z. Within (least ty) z (computed Divide x y) × Within (least ty) z (computed Remainder x y)) (sym top)
    (or_nought (least ty) (pos g) (int_div x y) (int_eq y (pos 0)) none d.0, or_nought (least ty) (pos g) (int_rem x y) (int_eq y (pos 0)) none d.1)

-- ---- terms
not_true : (b : Bool) → not b ≡ true → b ≡ false
not_true false h = refl
not_true true h = absurd (false≢true h)

module _ (e : Environment) (path : List Fact) (ty : IntType) (a b : Term) (na : IsNumber e path a) (nb : IsNumber e path b) (ra : IsInRange e path ty a) (rb : IsInRange e path ty b) (divisor : IsDivisor e path ty a b) where
  number_within : (t : Term) → IsInRange e path ty t → (v : Valuation) → Meets e v path → (z : ℤ) → value_in e v t ≡ values.Number z → Within (least ty) (greatest ty) z
  number_within t r v m z is = (subst (λ w. compared LessEqual (values.Number (least ty)) w ≡ true) is ((r.0).by v m), subst (λ w. compared LessEqual w (values.Number (greatest ty)) ≡ true) is ((r.1).by v m))

  both : (v : Valuation) → Meets e v path
      → Within (least ty) (greatest ty) (computed Divide (number_of (value_in e v a)) (number_of (value_in e v b))) × Within (least ty) (greatest ty) (computed Remainder (number_of (value_in e v a)) (number_of (value_in e v b)))
  both v m =
      let x = number_sort e (value_in e v a) (na.by v m) in
      let y = number_sort e (value_in e v b) (nb.by v m) in
      subst₂ (λ p q. Within (least ty) (greatest ty) (computed Divide (number_of p) (number_of q)) × Within (least ty) (greatest ty) (computed Remainder (number_of p) (number_of q))) (sym x.1) (sym y.1)
      (computed_within ty x.0 y.0 (number_within a ra v m x.0 x.1) (number_within b rb v m y.0 y.1)
      (⊎_elim (λ h. inl (not_true (int_eq y.0 (negsuc 0)) (subst (λ w. compared NotEqual w (values.Number (negsuc 0)) ≡ true) y.1 (h.by v m))))
      (λ h. inr (not_true (int_eq x.0 (least ty)) (subst (λ w. compared NotEqual w (values.Number (least ty)) ≡ true) x.1 (h.by v m)))) divisor.1))

  pub quotient_in_range : IsInRange e path ty (Arithmetic Divide a b)
  quotient_in_range = (record { by = λ v m. ((both v m).0).0 }, record { by = λ v m. ((both v m).0).1 })

  pub remainder_in_range : IsInRange e path ty (Arithmetic Remainder a b)
  remainder_in_range = (record { by = λ v m. ((both v m).1).0 }, record { by = λ v m. ((both v m).1).1 })

pub quotients_are_in_range : QuotientsAreInRange
quotients_are_in_range e path ty a b na nb ra rb divisor = (quotient_in_range e path ty a b na nb ra rb divisor, remainder_in_range e path ty a b na nb ra rb divisor)
