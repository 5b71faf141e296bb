-- Texts cut at a byte, and tests of their bytes.
use Rattle.std.proofs.Common.{◌≡◌, ℕ, zero, suc, ◌+◌, ◌-◌, ◌<◌, ◌≤◌, Bool, true, false, cond, List, [], ◌∷◌, ◌++◌, length, take, drop, Option, Some, None, refl, sym, ap, subst, ◌∙◌, inl, inr, length-append, length-drop, arith}
use Rattle.std.specs.Prelude.{◌==◌, ◌⊎◌, not, ◌&&◌, nat_lt, nat_eq, slice_index}
use Rattle.std.specs.List.{list_all, list_any, position_or_len, position, starts_with, slice_split, onto_first}
use Rattle.std.specs.Str.{bytes_eq}
use Rattle.std.proofs.lemmas.Bool.{ltb-true, ltb-false, both_ways, eqb-true, eq-eqb, ne_eqb, and_parts, and_from, or_cases, not-true, not_from_false}
use Rattle.std.proofs.lemmas.List.{take_all}
use Rattle.std.proofs.lemmas.List.Folds.{list_all-append}
use Rattle.std.proofs.lemmas.Bool.Decides.{Decides-eqb}
use Rattle.std.proofs.lemmas.Slice.Eq.{bytes_eq-Decides, starts_is}
use Rattle.vf_manifest.specs.Cuts.{◌>>=◌, cut}

-- no byte of a text is this one
abbrev pub without : ℕ → List ℕ → Bool
without c xs = list_all (λ b. not (b == c)) xs

pub some_is : {A : Type 0} (x y : A) → ◌≡◌ {A = Option A} (Some x) (Some y) → x ≡ y
some_is x y e = cc

pub none_some : {A : Type 0} (x : A) → ◌≡◌ {A = Option A} None (Some x) → ⊥
none_some x e = absurd cc

-- the value of a step that is there
pub bind_some : {A B : Type 0} (o : Option A) (f : A → Option B) (y : B) → (o >>= f) ≡ Some y → (x : A) × (o ≡ Some x) × (f x ≡ Some y)
bind_some None f y e = absurd (none_some y e)
bind_some (Some x) f y e = (x, refl, e)

-- which way a test went
pub chosen : {A : Type 0} (b : Bool) (x y z : A) → cond b x y ≡ z → ((b ≡ true) × (x ≡ z)) ⊎ ((b ≡ false) × (y ≡ z))
chosen true x y z e = inl (refl, e)
chosen false x y z e = inr (refl, e)

-- a value that passed a test
pub guarded : {A : Type 0} (b : Bool) (x y : A) → cond b (Some x) None ≡ Some y → (b ≡ true) × (x ≡ y)
guarded true x y e = (refl, some_is x y e)
guarded false x y e = absurd (none_some y e)

-- what is cut at a byte is the two parts with that byte between them
pub cut_takes : (c : ℕ) (text : List ℕ) (p : List ℕ × List ℕ) → cut c text ≡ Some p → text ≡ p.0 ++ c ∷ p.1
unfolding cut
cut_takes c [] p e = absurd (none_some p e)
cut_takes c (x ∷ xs) p e =
    elim (chosen (x == c) (Some ([], xs)) (cut c xs >>= λ q. Some (x ∷ q.0, q.1)) (Some p) e) [
      | inl h ↦ subst (λ (q : List ℕ × List ℕ). x ∷ xs ≡ q.0 ++ c ∷ q.1) (some_is ([], xs) p h.1) (ap (λ y. y ∷ xs) (eqb-true x c h.0))
      | inr h ↦
          let q = bind_some (cut c xs) (λ q. Some (x ∷ q.0, q.1)) p h.1 in
          subst (λ (r : List ℕ × List ℕ). x ∷ xs ≡ r.0 ++ c ∷ r.1) (some_is (x ∷ q.0.0, q.0.1) p q.2) (ap (λ ys. x ∷ ys) (cut_takes c xs q.0 q.1))
    ]

-- two parts with a byte between them that the first one does not have are cut there
pub cut_again : (c : ℕ) (a b : List ℕ) → without c a ≡ true → cut c (a ++ c ∷ b) ≡ Some (a, b)
unfolding cut
cut_again c [] b h = ap (λ t. cond t (Some ([], b)) (cut c b >>= λ q. Some (c ∷ q.0, q.1))) (eq-eqb c c refl)
cut_again c (x ∷ xs) b h =
    let parts = and_parts (not (x == c)) (without c xs) h in
    let here : (x == c) ≡ false = not-true (x == c) parts.0 in
    ap (λ t. cond t (Some ([], xs ++ c ∷ b)) (cut c (xs ++ c ∷ b) >>= λ q. Some (x ∷ q.0, q.1))) here
    ∙ ap (λ o. o >>= λ q. Some (x ∷ q.0, q.1)) (cut_again c xs b parts.1)

-- where no byte of a class is this one, a text of that class is without it
pub without_each : (p : ℕ → Bool) (c : ℕ) → p c ≡ false → (xs : List ℕ) → list_all p xs ≡ true → without c xs ≡ true
without_each p c h [] e = refl
without_each p c h (x ∷ xs) e =
    let parts = and_parts (p x) (list_all p xs) e in
    let other : (x == c) ≡ false = ne_eqb x c (λ same. absurd (let r : true ≡ false = sym parts.0 ∙ ap p same ∙ h in cc)) in
    and_from (not (x == c)) (without c xs) (not_from_false (x == c) other) (without_each p c h xs parts.1)

pub without-append : (c : ℕ) (xs ys : List ℕ) → without c xs ≡ true → without c ys ≡ true → without c (xs ++ ys) ≡ true
without-append c xs ys h k = list_all-append (λ b. not (b == c)) xs ys ∙ and_from (without c xs) (without c ys) h k

-- a text that is one of others is without a byte that none of them has
pub without_among : (c : ℕ) (text : List ℕ) (ts : List (List ℕ)) → list_any (λ t. bytes_eq text t) ts ≡ true → list_all (without c) ts ≡ true → without c text ≡ true
without_among c text [] e h = absurd (cc e)
without_among c text (t ∷ ts) e h =
    let parts = and_parts (without c t) (list_all (without c) ts) h in
    elim (or_cases (bytes_eq text t) (list_any (λ s. bytes_eq text s) ts) e) [
      | inl same ↦ ap (without c) ((bytes_eq-Decides text t).0 same) ∙ parts.0
      | inr rest ↦ without_among c text ts rest parts.1
    ]

-- ---- the first byte of a value

first_at : (t : Bool) (c x : ℕ) (xs : List ℕ) (m : ℕ) → (m < length xs → cut c xs ≡ Some (take m xs, drop (m + 1) xs)) → cond (not t) (1 + m) 0 < suc (length xs)
    → cond {A = Option (List ℕ × List ℕ)} t (Some ([], xs)) (cut c xs >>= λ q. Some (x ∷ q.0, q.1)) ≡ Some (take (cond (not t) (1 + m) 0) (x ∷ xs), drop (cond (not t) (1 + m) 0 + 1) (x ∷ xs))
first_at true c x xs m rest h = refl
first_at false c x xs m rest h =
    let more : 1 + m ≡ suc m = omega arith in
    let two_more : 1 + m + 1 ≡ suc (m + 1) = omega arith in
    ap (λ o. o >>= λ q. Some (x ∷ q.0, q.1)) (rest (omega (arith, h)))
    ∙ ap (λ n. Some (take n (x ∷ xs), drop (suc (m + 1)) (x ∷ xs))) (sym more)
    ∙ ap (λ n. Some (take (1 + m) (x ∷ xs), drop n (x ∷ xs))) (sym two_more)

-- a text is cut at the first byte of a value
pub cut_found : (c : ℕ) (text : List ℕ) → position_or_len (λ b. b == c) text < length text → cut c text ≡ Some (take (position_or_len (λ b. b == c) text) text, drop (position_or_len (λ b. b == c) text + 1) text)
unfolding cut
cut_found c [] h = absurd (omega (arith, h))
cut_found c (x ∷ xs) h = first_at (x == c) c x xs (position_or_len (λ b. b == c) xs) (cut_found c xs) h

missing_at : (t : Bool) (c x : ℕ) (xs : List ℕ) (m : ℕ) → (length xs ≤ m → cut c xs ≡ None) → suc (length xs) ≤ cond (not t) (1 + m) 0
    → cond {A = Option (List ℕ × List ℕ)} t (Some ([], xs)) (cut c xs >>= λ q. Some (x ∷ q.0, q.1)) ≡ None
missing_at true c x xs m rest h = absurd (omega (arith, h))
missing_at false c x xs m rest h = ap (λ o. o >>= λ q. Some (x ∷ q.0, q.1)) (rest (omega (arith, h)))

-- a text without that byte is not cut
pub cut_missing : (c : ℕ) (text : List ℕ) → length text ≤ position_or_len (λ b. b == c) text → cut c text ≡ None
unfolding cut
cut_missing c [] h = refl
cut_missing c (x ∷ xs) h = missing_at (x == c) c x xs (position_or_len (λ b. b == c) xs) (cut_missing c xs) h

pub split_some : (c : ℕ) (text : List ℕ) (at : ℕ) → Some at ≡ position (λ b. b == c) text → cut c text ≡ Some (take at text, drop (at + 1) text)
split_some c text at e =
    elim (chosen (nat_lt (position_or_len (λ b. b == c) text) (length text)) (Some (position_or_len (λ b. b == c) text)) None (Some at) (sym e)) [
      | inl h ↦ subst (λ k. cut c text ≡ Some (take k text, drop (k + 1) text)) (some_is (position_or_len (λ b. b == c) text) at h.1) (cut_found c text (ltb-true (position_or_len (λ b. b == c) text) (length text) h.0))
      | inr h ↦ absurd (none_some at h.1)
    ]

pub split_none : (c : ℕ) (text : List ℕ) → None ≡ position (λ b. b == c) text → cut c text ≡ None
split_none c text e =
    elim (chosen (nat_lt (position_or_len (λ b. b == c) text) (length text)) (Some (position_or_len (λ b. b == c) text)) None None (sym e)) [
      | inl h ↦ absurd (none_some (position_or_len (λ b. b == c) text) (sym h.1))
      | inr h ↦ cut_missing c text (ltb-false (position_or_len (λ b. b == c) text) (length text) h.0)
    ]

-- ---- fronts

pub is_front : (text front : List ℕ) → starts_with nat_eq text front ≡ true → text ≡ front ++ drop (length front) text
is_front text front h = (starts_is Decides-eqb text front (starts_with nat_eq text front) refl).0 h

pub no_front : (text front after : List ℕ) → starts_with nat_eq text front ≡ false → text ≡ front ++ after → ⊥
no_front text front after h e = both_ways (starts_with nat_eq text front) h ((starts_is Decides-eqb text front (starts_with nat_eq text front) refl).1 after e)

-- the parts, as slices give them
pub split_parts : (c : ℕ) (text : List ℕ) (at : ℕ) → Some at ≡ position (λ b. b == c) text
    → ◌≡◌ {A = Option (List ℕ × List ℕ)} (Some (take at text, take (length text - (at + 1)) (drop (at + 1) text))) (cut c text)
split_parts c text at e =
    ap (λ r. Some (take at text, r)) (take_all (length text - (at + 1)) (drop (at + 1) text) (omega (arith, length-drop (at + 1) text))) ∙ sym (split_some c text at e)

-- what stands behind a front, as slices give it
pub front_whole : (text front : List ℕ) → starts_with nat_eq text front ≡ true → text ≡ front ++ take (length text - length front) (drop (length front) text)
front_whole text front h =
    is_front text front h
    ∙ ap (λ r. front ++ r) (sym (take_all (length text - length front) (drop (length front) text) (omega (arith, length-drop (length front) text))))

-- ---- the parts between bytes of a value

none_from_bind : {A B : Type 0} (o : Option A) (f : A → B) → ◌≡◌ {A = Option B} (o >>= λ x. Some (f x)) None → o ≡ None
none_from_bind None f e = refl
none_from_bind (Some x) f e = absurd (none_some (f x) (sym e))

-- a text that is not cut is one part
pub parts_whole : (c : ℕ) (text : List ℕ) → cut c text ≡ None → slice_split (λ b. b == c) text ≡ text ∷ []
unfolding cut
parts_whole c [] e = refl
parts_whole c (x ∷ xs) e =
    elim (chosen (x == c) (Some ([], xs)) (cut c xs >>= λ q. Some (x ∷ q.0, q.1)) None e) [
      | inl h ↦ absurd (none_some ([], xs) (sym h.1))
      | inr h ↦
          let none : cut c xs ≡ None = none_from_bind (cut c xs) (λ q. (x ∷ q.0, q.1)) h.1 in
          ap (λ t. cond t ([] ∷ slice_split (λ b. b == c) xs) (onto_first x (slice_split (λ b. b == c) xs))) h.0 ∙ ap (onto_first x) (parts_whole c xs none)
    ]

-- a text that is cut has the front as its first part, and then those of the rest
pub parts_cut : (c : ℕ) (text : List ℕ) (p : List ℕ × List ℕ) → cut c text ≡ Some p → slice_split (λ b. b == c) text ≡ p.0 ∷ slice_split (λ b. b == c) p.1
unfolding cut
parts_cut c [] p e = absurd (none_some p e)
parts_cut c (x ∷ xs) p e =
    elim (chosen (x == c) (Some ([], xs)) (cut c xs >>= λ q. Some (x ∷ q.0, q.1)) (Some p) e) [
      | inl h ↦
          ap (λ t. cond t ([] ∷ slice_split (λ b. b == c) xs) (onto_first x (slice_split (λ b. b == c) xs))) h.0
          ∙ ap (λ (q : List ℕ × List ℕ). q.0 ∷ slice_split (λ b. b == c) q.1) (some_is ([], xs) p h.1)
      | inr h ↦
          let q = bind_some (cut c xs) (λ q. Some (x ∷ q.0, q.1)) p h.1 in
          ap (λ t. cond t ([] ∷ slice_split (λ b. b == c) xs) (onto_first x (slice_split (λ b. b == c) xs))) h.0
          ∙ ap (onto_first x) (parts_cut c xs q.0 q.1)
          ∙ ap (λ (r : List ℕ × List ℕ). r.0 ∷ slice_split (λ b. b == c) r.1) (some_is (x ∷ q.0.0, q.0.1) p q.2)
    ]

-- what stands behind the byte is shorter
pub rest_shorter : (c : ℕ) (text a b : List ℕ) → cut c text ≡ Some (a, b) → length b < length text
rest_shorter c text a b e = omega (arith, ap length (cut_takes c text (a, b) e), length-append a (c ∷ b))

pub each_on : (test : List ℕ → Bool) (c : ℕ) (left a b : List ℕ) (total : Bool) → Some (a, b) ≡ cut c left → test a ≡ true → list_all test (slice_split (λ x. x == c) left) ≡ total → list_all test (slice_split (λ x. x == c) b) ≡ total
each_on test c left a b total e h so_far =
    ap (λ t. t && list_all test (slice_split (λ x. x == c) b)) (sym h) ∙ ap (list_all test) (sym (parts_cut c left (a, b) (sym e))) ∙ so_far

pub each_stop : (test : List ℕ → Bool) (c : ℕ) (left a b : List ℕ) (total : Bool) → Some (a, b) ≡ cut c left → test a ≡ false → list_all test (slice_split (λ x. x == c) left) ≡ total → false ≡ total
each_stop test c left a b total e h so_far =
    ap (λ t. t && list_all test (slice_split (λ x. x == c) b)) (sym h) ∙ ap (list_all test) (sym (parts_cut c left (a, b) (sym e))) ∙ so_far

and_true_right : (b : Bool) → b ≡ (b && true)
and_true_right true = refl
and_true_right false = refl

pub each_end : (test : List ℕ → Bool) (c : ℕ) (left : List ℕ) (total : Bool) → None ≡ cut c left → list_all test (slice_split (λ x. x == c) left) ≡ total → test left ≡ total
each_end test c left total e so_far =
    and_true_right (test left) ∙ ap (list_all test) (sym (parts_whole c left (sym e))) ∙ so_far

-- ---- the first byte of this value, as a search has it

pub next : (n : ℕ) → suc n + 1 ≡ suc (n + 1)
next n = omega arith

false_of : (b : Bool) → (b ≡ true → ⊥) → b ≡ false
false_of true h = absurd (h refl)
false_of false h = refl

pub cut_first : (c : ℕ) (text : List ℕ) (at : ℕ) → at < length text → ((k : ℕ) → k < at → (slice_index text k == c) ≡ true → ⊥) → (slice_index text at == c) ≡ true
    → cut c text ≡ Some (take at text, drop (at + 1) text)
unfolding cut
cut_first c [] at h before e = absurd (omega arith)
cut_first c (x ∷ xs) zero h before e = ap (λ t. cond t (Some ([], xs)) (cut c xs >>= λ q. Some (x ∷ q.0, q.1))) e
cut_first c (x ∷ xs) (suc at) h before e =
    ap (λ t. cond t (Some ([], xs)) (cut c xs >>= λ q. Some (x ∷ q.0, q.1))) (false_of (x == c) (before 0 (omega arith)))
    ∙ ap (λ o. o >>= λ q. Some (x ∷ q.0, q.1)) (cut_first c xs at (omega arith) (λ k l. before (suc k) (omega (arith, l))) e)
    ∙ ap (λ m. Some (x ∷ take at xs, drop m (x ∷ xs))) (sym (next at))

pub cut_nowhere : (c : ℕ) (text : List ℕ) → ((k : ℕ) → k < length text → (slice_index text k == c) ≡ true → ⊥) → cut c text ≡ None
unfolding cut
cut_nowhere c [] no_place = refl
cut_nowhere c (x ∷ xs) no_place =
    ap (λ t. cond t (Some ([], xs)) (cut c xs >>= λ q. Some (x ∷ q.0, q.1))) (false_of (x == c) (no_place 0 (omega arith)))
    ∙ ap (λ o. o >>= λ q. Some (x ∷ q.0, q.1)) (cut_nowhere c xs (λ k l. no_place (suc k) (omega (arith, l))))

-- what stands before a place and behind it, as slices give it
pub parts_at : (c : ℕ) (text : List ℕ) (at : ℕ) → cut c text ≡ Some (take at text, drop (at + 1) text)
    → ◌≡◌ {A = Option (List ℕ × List ℕ)} (Some (take at text, take (length text - (at + 1)) (drop (at + 1) text))) (cut c text)
parts_at c text at e = ap (λ r. Some (take at text, r)) (take_all (length text - (at + 1)) (drop (at + 1) text) (omega (arith, length-drop (at + 1) text))) ∙ sym e
