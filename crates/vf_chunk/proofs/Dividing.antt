-- Dividing factors out, one after another.
use Rattle.std.proofs.Common.{◌≡◌, ℕ, zero, suc, ◌+◌, ◌<◌, ◌≤◌, List, [], ◌∷◌, ◌++◌, drop, length, get_or, refl, sym, ap, ◌∙◌, Bool, true, false, cond, add-one, arith, append_assoc, length-drop}
use Rattle.std.specs.Prelude.{Option, Some, None}
use Rattle.std.specs.Ordering.{is_eq}
use Rattle.std.proofs.Math.Seq.{drop-cons}
use Rattle.std.proofs.Math.ListN.{drop_of_length-le}
use Rattle.std.proofs.lemmas.List.{append-nil}
use Rattle.vf_closure.specs.Terms.{Term}
use Rattle.vf_normal.specs.Order.{compare}
use Rattle.vf_chunk.specs.Shares.{in_front, is_first_of, divided_out}

-- factors that are left already, and those that are left of the others, if they are
abbrev pub behind : List Term → Option (List Term) → Option (List Term)
behind xs None = None
behind xs (Some ys) = Some (xs ++ ys)

rest_of : {A : Type 0} (xs : List A) (i : ℕ) (x : A) → i < length xs → x ≡ get_or xs i x → drop i xs ≡ x ∷ drop (i + 1) xs
rest_of xs i x low is = rw add-one (drop-cons xs i x low ∙ ap (λ y. y ∷ drop (suc i) xs) (sym is))

-- the first of what is left
pub first_is : (u : Term) (ts : List Term) (i : ℕ) (t : Term) → i < length ts → t ≡ get_or ts i t → is_first_of u (drop i ts) ≡ is_eq (compare t u)
first_is u ts i t low is = ap (is_first_of u) (rest_of ts i t low is)

pub first_not : (u : Term) (ts : List Term) (i : ℕ) → (i < length ts → ⊥) → is_first_of u (drop i ts) ≡ false
first_not u ts i high = ap (is_first_of u) (drop_of_length-le ts (omega (arith, high)))

behind_none : (o : Option (List Term)) → behind [] o ≡ o
behind_none None = refl
behind_none (Some ys) = refl

behind_front : (xs : List Term) (u : Term) (o : Option (List Term)) → behind xs (in_front u o) ≡ behind (xs ++ u ∷ []) o
behind_front xs u None = refl
behind_front xs u (Some ys) = ap Some (sym (append_assoc xs (u ∷ []) ys))

module _ (us ts : List Term) where
  pub divided_start : behind [] (divided_out (drop 0 us) (drop 0 ts)) ≡ divided_out us ts
  divided_start = behind_none (divided_out us ts)

  -- the first of what is left is a divisor
  divided_same : (xs : List Term) (i n : ℕ) (u : Term) (r : Option (List Term)) → i < length us → u ≡ get_or us i u → is_first_of u (drop n ts) ≡ true → behind xs (divided_out (drop i us) (drop n ts)) ≡ r → behind xs (divided_out (drop (i + 1) us) (drop (n + 1) ts)) ≡ r
  divided_same xs i n u r low is e h =
      let step : divided_out (u ∷ drop (i + 1) us) (drop n ts) ≡ divided_out (drop (i + 1) us) (drop 1 (drop n ts)) = ap (λ b. cond b (divided_out (drop (i + 1) us) (drop 1 (drop n ts))) (in_front u (divided_out (drop (i + 1) us) (drop n ts)))) e in
      ap (λ zs. behind xs (divided_out (drop (i + 1) us) zs)) (sym (dropped ts n))
      ∙ ap (behind xs) (sym step)
      ∙ ap (λ zs. behind xs (divided_out zs (drop n ts))) (sym (rest_of us i u low is))
      ∙ h
    where
      dropped : (zs : List Term) (n : ℕ) → drop 1 (drop n zs) ≡ drop (n + 1) zs
      dropped [] n = dropped_none n
        where
          dropped_none : (n : ℕ) → drop 1 (drop n []) ≡ drop {A = Term} (n + 1) []
          dropped_none zero = refl
          dropped_none (suc n) = sym (none (suc n + 1))
            where
              none : (k : ℕ) → drop {A = Term} k [] ≡ []
              none zero = refl
              none (suc k) = refl
      dropped (z ∷ zs) zero = refl
      dropped (z ∷ zs) (suc n) =
          let e : suc n + 1 ≡ suc (n + 1) = omega arith in
          dropped zs n ∙ ap (λ k. drop k (z ∷ zs)) (sym e)

  pub divided_next : (xs zs : List Term) (i n m : ℕ) (u : Term) (r : Option (List Term)) → i < length us → u ≡ get_or us i u → is_first_of u (drop n ts) ≡ true → zs ≡ xs → m ≡ n + 1 → behind xs (divided_out (drop i us) (drop n ts)) ≡ r → behind zs (divided_out (drop (i + 1) us) (drop m ts)) ≡ r
  divided_next xs zs i n m u r low is e f g h =
      (λ k. behind (f k) (divided_out (drop (i + 1) us) (drop (g k) ts))) ∙ divided_same xs i n u r low is e h

  pub next_low : (n m : ℕ) (u : Term) → is_first_of u (drop n ts) ≡ true → m ≡ n + 1 → m ≤ length ts
  next_low n m u e f = by (drop n ts) refl e
    where
      by : (zs : List Term) → drop n ts ≡ zs → is_first_of u zs ≡ true → m ≤ length ts
      by [] g e = cc
      by (z ∷ zs) g e =
          let left = length-drop n ts in
          let size : length (drop n ts) ≡ suc (length zs) = ap length g in
          omega (arith, f, left, size)

  divided_kept : (xs ys : List Term) (i n : ℕ) (u : Term) (r : Option (List Term)) → i < length us → u ≡ get_or us i u → (is_first_of u (drop n ts) ≡ true → ⊥) → ys ≡ xs ++ u ∷ [] → behind xs (divided_out (drop i us) (drop n ts)) ≡ r → behind ys (divided_out (drop (i + 1) us) (drop n ts)) ≡ r
  divided_kept xs ys i n u r low is no_ e h =
      ap (λ zs. behind zs (divided_out (drop (i + 1) us) (drop n ts))) e
      ∙ sym (behind_front xs u (divided_out (drop (i + 1) us) (drop n ts)))
      ∙ ap (behind xs) (sym (step (is_first_of u (drop n ts)) no_))
      ∙ ap (λ zs. behind xs (divided_out zs (drop n ts))) (sym (rest_of us i u low is))
      ∙ h
    where
      step : (b : Bool) → (b ≡ true → ⊥) → cond b (divided_out (drop (i + 1) us) (drop 1 (drop n ts))) (in_front u (divided_out (drop (i + 1) us) (drop n ts))) ≡ in_front u (divided_out (drop (i + 1) us) (drop n ts))
      step true g = absurd (g refl)
      step false g = refl

  -- the first of what is left is none
  pub divided_stays : (xs ys : List Term) (i n m : ℕ) (u : Term) (r : Option (List Term)) → i < length us → u ≡ get_or us i u → is_first_of u (drop n ts) ≡ false → ys ≡ xs ++ u ∷ [] → m ≡ n → behind xs (divided_out (drop i us) (drop n ts)) ≡ r → behind ys (divided_out (drop (i + 1) us) (drop m ts)) ≡ r
  divided_stays xs ys i n m u r low is no_ e f h =
      ap (λ k. behind ys (divided_out (drop (i + 1) us) (drop k ts))) f ∙ divided_kept xs ys i n u r low is (not_both (is_first_of u (drop n ts)) no_) e h
    where
      not_both : (b : Bool) → b ≡ false → b ≡ true → ⊥
      not_both b g k = cc

  -- nothing is left
  pub divided_short : (xs : List Term) (i n : ℕ) (d : Term) (r : Option (List Term)) → length us ≤ i → n < length ts → behind xs (divided_out (drop i us) (drop n ts)) ≡ r → None ≡ r
  divided_short xs i n d r all low h =
      let end : drop i us ≡ [] = drop_of_length-le us all in
      let more : drop n ts ≡ get_or ts n d ∷ drop (suc n) ts = drop-cons ts n d low in
      ap (λ zs. behind xs (divided_out [] zs)) (sym more) ∙ ap (λ zs. behind xs (divided_out zs (drop n ts))) (sym end) ∙ h

  pub divided_all : (xs : List Term) (i n : ℕ) (r : Option (List Term)) → length us ≤ i → length ts ≤ n → behind xs (divided_out (drop i us) (drop n ts)) ≡ r → Some xs ≡ r
  divided_all xs i n r all none h =
      let end : drop i us ≡ [] = drop_of_length-le us all in
      let over : drop n ts ≡ [] = drop_of_length-le ts none in
      ap Some (sym (append-nil xs)) ∙ ap (λ zs. behind xs (divided_out [] zs)) (sym over) ∙ ap (λ zs. behind xs (divided_out zs (drop n ts))) (sym end) ∙ h
