-- Lists that a loop collects are spelled by the tokens that it takes.
use Rattle.std.proofs.Common.{◌≡◌, ℕ, zero, suc, ◌≤◌, max, Bool, List, [], ◌∷◌, ◌++◌, Option, Some, None, refl, sym, ◌∙◌, inl, inr, arith}
use Rattle.vf_lexer.specs.declared.token.Token.{Token}
use Rattle.vf_syntax.specs.Walks.{Walk, goes_on, head_has}
use Rattle.vf_cursor.specs.Parsing.{Parser, ok, many_at, item_step}
use Rattle.vf_cursor.proofs.Facts.{bind_ok, moved, chose}

pub some_same : {A : Type 0} {a b : A} → Some a ≡ Some b → a ≡ b
some_same e = cc

-- a part and what stands behind it were taken one after the other
pub gone : (o : Option (List Token)) (g : Walk) (rest : List Token) → goes_on o g ≡ Some rest → (mid : List Token) × (o ≡ Some mid) × (g mid ≡ Some rest)
gone None g rest e = absurd cc
gone (Some ts) g rest e = (ts, refl, e)

-- how a list is spelled and nests, by its items
pub record Collects {A : Type 0} (w : A → Walk) (n : A → ℕ) (W : List A → Walk) (N : List A → ℕ) : Type 0 where
  pub nothing_walk : (ts : List Token) → W [] ts ≡ Some ts
  pub item_walk : (x : A) (xs : List A) (ts : List Token) → W (x ∷ xs) ts ≡ goes_on (w x ts) (W xs)
  pub nothing_deep : N [] ≡ 0
  pub item_deep : (x : A) (xs : List A) → N (x ∷ xs) ≡ max (n x) (N xs)

pub last_walk : {A : Type 0} {w : A → Walk} {n : A → ℕ} {W : List A → Walk} {N : List A → ℕ} → Collects w n W N → (xs : List A) (x : A) (s ts mid : List Token) → W xs s ≡ Some ts → w x ts ≡ Some mid → W (xs ++ x ∷ []) s ≡ Some mid
last_walk {w = w} {W = W} c [] x s ts mid h k =
    let same : s ≡ ts = some_same (sym (c.nothing_walk s) ∙ h) in
    let there : w x s ≡ Some mid = rw same k in
    rw (c.item_walk x [] s, there, c.nothing_walk mid) refl
last_walk {w = w} {W = W} c (y ∷ ys) x s ts mid h k =
    let g = gone (w y s) (W ys) ts (sym (c.item_walk y ys s) ∙ h) in
    let tail : W (ys ++ x ∷ []) g.0 ≡ Some mid = last_walk c ys x g.0 ts mid g.2 k in
    rw (c.item_walk y (ys ++ x ∷ []) s, g.1, tail) refl

pub last_deep : {A : Type 0} {w : A → Walk} {n : A → ℕ} {W : List A → Walk} {N : List A → ℕ} → Collects w n W N → (d : ℕ) (xs : List A) (x : A) → N xs ≤ d → n x ≤ d → N (xs ++ x ∷ []) ≤ d
last_deep c d [] x h k = rw (c.item_deep x [], c.nothing_deep) (omega (arith, k))
last_deep {N = N} c d (y ∷ ys) x h k =
    let parts = rw (c.item_deep y ys) at h in
    let tail : N (ys ++ x ∷ []) ≤ d = last_deep c d ys x (omega (arith, parts)) k in
    rw (c.item_deep y (ys ++ x ∷ [])) (omega (arith, parts, tail))

-- what a parser of items reads is spelled so, and nests so deep at most
abbrev pub Itemised : {A : Type 0} → (A → Walk) → (A → ℕ) → ℕ → Parser A → Type 0
Itemised {A = A} w n d p = (ts : List Token) (x : A) (rest : List Token) → p ts ≡ ok x rest → (w x ts ≡ Some rest) × (n x ≤ d)

-- the items that a loop collects behind others
pub many_collected : {A : Type 0} {w : A → Walk} {n : A → ℕ} {W : List A → Walk} {N : List A → ℕ} → Collects w n W N → (d : ℕ) (more : Token → Bool) (p : Parser A) → Itemised w n d p
    → (m : ℕ) (s ts : List Token) (xs ys : List A) (rest : List Token) → W xs s ≡ Some ts → N xs ≤ d → many_at m more (item_step p) xs ts ≡ ok ys rest → (W ys s ≡ Some rest) × (N ys ≤ d)
many_collected {A = A} {W = W} {N = N} c d more p hp zero s ts xs ys rest hw hn e = moved (λ (y : List A) r. (W y s ≡ Some r) × (N y ≤ d)) e (hw, hn)
many_collected {A = A} {W = W} {N = N} c d more p hp (suc m) s ts xs ys rest hw hn e =
    elim (chose (head_has more ts) _ _ _ e) [
      | inl h ↦
          let b = bind_ok {r = item_step p xs ts} h.1 in
          let x = bind_ok {r = p ts} b.1 in
          let one = hp ts x.0.0 x.0.1 x.1 in
          let next = moved (λ (y : List A) r. (W y s ≡ Some r) × (N y ≤ d)) x.2 (last_walk c xs x.0.0 s ts x.0.1 hw one.0, last_deep c d xs x.0.0 hn one.1) in
          many_collected c d more p hp m s b.0.1 b.0.0 ys rest next.0 next.1 b.2
      | inr h ↦ moved (λ (y : List A) r. (W y s ≡ Some r) × (N y ≤ d)) h.1 (hw, hn)
    ]

-- the items that a loop collects behind a first one, which is left as it is
pub record Behind {A : Type 0} (W : List A → Walk) (N : List A → ℕ) (d : ℕ) (s : List Token) (a : A) (ys : List A) (rest : List Token) : Type 0 where
  pub others : List A
  pub parts : ys ≡ a ∷ others
  pub walk : W others s ≡ Some rest
  pub deep : N others ≤ d

pub many_behind : {A : Type 0} {w : A → Walk} {n : A → ℕ} {W : List A → Walk} {N : List A → ℕ} → Collects w n W N → (d : ℕ) (more : Token → Bool) (p : Parser A) → Itemised w n d p
    → (m : ℕ) (s ts : List Token) (a : A) (xs ys : List A) (rest : List Token) → W xs s ≡ Some ts → N xs ≤ d → many_at m more (item_step p) (a ∷ xs) ts ≡ ok ys rest → Behind W N d s a ys rest
many_behind {A = A} {W = W} {N = N} c d more p hp zero s ts a xs ys rest hw hn e =
    moved (λ (y : List A) r. Behind W N d s a y r) e (record { others = xs; parts = refl; walk = hw; deep = hn })
many_behind {A = A} {W = W} {N = N} c d more p hp (suc m) s ts a xs ys rest hw hn e =
    elim (chose (head_has more ts) _ _ _ e) [
      | inl h ↦
          let b = bind_ok {r = item_step p (a ∷ xs) ts} h.1 in
          let x = bind_ok {r = p ts} b.1 in
          let one = hp ts x.0.0 x.0.1 x.1 in
          let again = moved (λ (y : List A) r. many_at m more (item_step p) y r ≡ ok ys rest) (sym x.2) b.2 in
          many_behind c d more p hp m s x.0.1 a (xs ++ x.0.0 ∷ []) ys rest (last_walk c xs x.0.0 s ts x.0.1 hw one.0) (last_deep c d xs x.0.0 hn one.1) again
      | inr h ↦ moved (λ (y : List A) r. Behind W N d s a y r) h.1 (record { others = xs; parts = refl; walk = hw; deep = hn })
    ]
