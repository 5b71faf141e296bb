-- All of a struct: its cells and its block, as they come with an allocation and go with a release.
use Rattle.std.proofs.Common.{◌≡◌, ◌≢◌, ℕ, zero, suc, ◌+◌, ◌<◌, ◌≤◌, true, false, cond, List, [], ◌∷◌, length, slice_get, Option, Some, None, refl, sym, ap, subst, ◌∙◌, ◌⊎◌, inl, inr, arith}
use Rattle.std.proofs.lemmas.Bool.{cases_eq}
use Rattle.std.specs.Cmp.Lexicographic.{bytes_decides}
use Rattle.vf_tree.specs.Core.{Identity}
use Rattle.vf_model.specs.Values.{Value, same_identity}
use Rattle.vf_model.specs.Memory.{Struct}
use Rattle.vf_meaning.specs.Fractions.{whole}
use Rattle.vf_meaning.specs.Parts.{Location, FieldCell, IndexCell, StructBlock, IntBlock, MutexAt, HeldAt, HandleAt, Content, CellOf, Bare, block_of, Part, single, IsSum, HasNone, HasJust}
use Rattle.vf_meaning.specs.Fits.{cell_content, HasThere, FitsAt}
use Rattle.vf_meaning.specs.FitLaws.{IsAllOf}
use Rattle.vf_meaning.proofs.Parts.{singles_have_just_that, sum_at}
use Rattle.vf_meaning.proofs.FitSteps.{identities, own_identity, single_nought, sum_right, sum_left}

-- a part is the whole of n cells of a struct from a field on, what each holds being as P says, and of its block, and nothing else
pub record OwnsStruct (P : Option Value → Type 0) (q : Part) (b : ℕ) (g : Identity) (i n : ℕ) : Type 0 where
  pub cells : (j : ℕ) → i ≤ j → j < i + n → (held : Option Value) × P held × HasJust q (FieldCell b g j) (CellOf held) whole
  pub block : HasJust q (StructBlock b g) Bare whole
  pub elsewhere : (l : Location) → l ≢ StructBlock b g → ((j : ℕ) → i ≤ j → j < i + n → l ≢ FieldCell b g j) → HasNone q l

none_between : {A : Type 0} (i j : ℕ) → i ≤ j → j < i + 0 → A
none_between i j l k = absurd (no i j l k)
  where
    no : (i j : ℕ) → i ≤ j → j < i + 0 → ⊥
    no i j l k = omega (arith, l, k)

pub owns_block : (P : Option Value → Type 0) (q : Part) (b : ℕ) (g : Identity) (i : ℕ) → q ≡ single (StructBlock b g) Bare whole → OwnsStruct P q b g i 0
owns_block P q b g i is = record {
  cells = λ j l k. none_between i j l k;
  block = subst (λ z. HasJust z (StructBlock b g) Bare whole) (sym is) (singles_have_just_that (StructBlock b g) Bare whole).0;
  elsewhere = λ l other apart c. ap (λ z. z l c) is ∙ single_nought (StructBlock b g) l Bare c whole other;
}

field_block : {b c i : ℕ} {g h : Identity} → StructBlock b g ≡ FieldCell c h i → ⊥
field_block e = cc

index_same : {b i j : ℕ} {g : Identity} → FieldCell b g i ≡ FieldCell b g j → i ≡ j
index_same e = cc

-- one cell more in front
pub owns_cell : (P : Option Value → Type 0) (r p q : Part) (b : ℕ) (g : Identity) (i n : ℕ) (held : Option Value) → P held → p ≡ single (FieldCell b g i) (CellOf held) whole → IsSum p q r → OwnsStruct P q b g (suc i) n → OwnsStruct P r b g i (suc n)
owns_cell P r p q b g i n held ph is s h = record {
  cells = λ j l k. elim (cases_eq j i) [
    | inl e ↦ (held, ph, subst (λ z. HasJust r (FieldCell b g z) (CellOf held) whole) (sym e) here)
    | inr other ↦ let c = h.cells j (above i j l other) (below i n j k) in (c.0, c.1, further j other c.0 c.2)
  ];
  block = record {
    here = at (StructBlock b g) Bare field_block ∙ (h.block).here;
    else = λ d other. at (StructBlock b g) d field_block ∙ (h.block).else d other;
  };
  elsewhere = λ l other apart c. at l c (apart i (lowest i) (first i n)) ∙ h.elsewhere l other (λ j a k. apart j (lower i j a) (upper i n j k)) c;
}
  where
    at : (l : Location) (c : Content) → l ≢ FieldCell b g i → r l c ≡ q l c
    at l c other = sum_at p q r s l c ∙ sum_right (p l c) (q l c) (ap (λ z. z l c) is ∙ single_nought (FieldCell b g i) l (CellOf held) c whole other)

    own : HasNone q (FieldCell b g i)
    own = h.elsewhere (FieldCell b g i) (λ e. field_block (sym e)) (λ j a k e. above_self i j a (index_same e))
      where
        above_self : (i j : ℕ) → suc i ≤ j → i ≡ j → ⊥
        above_self i j a e = omega (arith, a, e)

    here : HasJust r (FieldCell b g i) (CellOf held) whole
    here = let one = (singles_have_just_that (FieldCell b g i) (CellOf held) whole).0 in record {
      here = sum_at p q r s (FieldCell b g i) (CellOf held) ∙ sum_left (p (FieldCell b g i) (CellOf held)) (q (FieldCell b g i) (CellOf held)) (own (CellOf held)) ∙ ap (λ z. z (FieldCell b g i) (CellOf held)) is ∙ one.here;
      else = λ d other. sum_at p q r s (FieldCell b g i) d ∙ sum_left (p (FieldCell b g i) d) (q (FieldCell b g i) d) (own d) ∙ ap (λ z. z (FieldCell b g i) d) is ∙ one.else d other;
    }

    further : (j : ℕ) → j ≢ i → (h' : Option Value) → HasJust q (FieldCell b g j) (CellOf h') whole → HasJust r (FieldCell b g j) (CellOf h') whole
    further j other h' k = record {
      here = at (FieldCell b g j) (CellOf h') (λ e. other (index_same e)) ∙ k.here;
      else = λ d o. at (FieldCell b g j) d (λ e. other (index_same e)) ∙ k.else d o;
    }

    above : (i j : ℕ) → i ≤ j → j ≢ i → suc i ≤ j
    above i j l other = grind (arith, l, other)

    below : (i n j : ℕ) → j < i + suc n → j < suc i + n
    below i n j k = omega (arith, k)

    lowest : (i : ℕ) → i ≤ i
    lowest i = omega arith

    first : (i n : ℕ) → i < i + suc n
    first i n = omega arith

    lower : (i j : ℕ) → suc i ≤ j → i ≤ j
    lower i j a = omega (arith, a)

    upper : (i n j : ℕ) → j < suc i + n → j < i + suc n
    upper i n j k = omega (arith, k)

past : {A : Type 0} (xs : List A) (j : ℕ) → length xs ≤ j → slice_get xs j ≡ None
past [] j l = refl
past (x ∷ xs) zero l = absurd (no (length xs) l)
  where
    no : (n : ℕ) → suc n ≤ 0 → ⊥
    no n l = omega arith
past (x ∷ xs) (suc j) l = past xs j (omega (arith, l))

less_or_past : (j n : ℕ) → (j < n) ⊎ (n ≤ j)
less_or_past zero zero = inr (omega arith)
less_or_past zero (suc n) = inl (omega arith)
less_or_past (suc j) zero = inr (omega arith)
less_or_past (suc j) (suc n) = elim (less_or_past j n) [ inl l ↦ inl (omega (arith, l)) | inr l ↦ inr (omega (arith, l)) ]

-- so it is all of a block of that struct with these cells
pub all_of_struct : (P : Option Value → Type 0) (q : Part) (b : ℕ) (g : Identity) (n : ℕ) (cells : List (Option Value)) → OwnsStruct P q b g 0 n → length cells ≡ n
    → ((j : ℕ) (held : Option Value) → j < n → P held → HasJust q (FieldCell b g j) (CellOf held) whole → slice_get cells j ≡ Some held) → IsAllOf b (Struct g cells) q
all_of_struct P q b g n cells h long each = record {
  here = here;
  elsewhere = λ l other. h.elsewhere l (λ e. other (ap block_of e)) (λ j a k e. other (ap block_of e));
}
  where
    in_block : (h' : Identity) (i : ℕ) → HasThere q (FieldCell b h' i) (cond (same_identity g h') (cell_content (slice_get cells i)) None)
    in_block h' i =
        elim (identities g h') [
          | inl t ↦ subst (λ z. HasThere q (FieldCell b z i) (cond (same_identity g z) (cell_content (slice_get cells i)) None)) t.1
              (subst (λ z. HasThere q (FieldCell b g i) (cond z (cell_content (slice_get cells i)) None)) (sym (own_identity g)) (at i))
          | inr t ↦ subst (λ z. HasThere q (FieldCell b h' i) (cond z (cell_content (slice_get cells i)) None)) (sym t)
              (h.elsewhere (FieldCell b h' i) (λ e. field_block (sym e)) (λ j a k e. unlike h' i j t e))
        ]
      where
        unlike : (h' : Identity) (i j : ℕ) → same_identity g h' ≡ false → FieldCell b h' i ≡ FieldCell b g j → ⊥
        unlike h' i j t e = clash (sym ((bytes_decides g h').1 (sym (names e))) ∙ t)
          where
            names : FieldCell b h' i ≡ FieldCell b g j → h' ≡ g
            names e = cc

            clash : true ≡ false → ⊥
            clash e = cc

        at : (i : ℕ) → HasThere q (FieldCell b g i) (cell_content (slice_get cells i))
        at i =
            elim (less_or_past i n) [
              | inl l ↦ let c = h.cells i (omega arith) (omega (arith, l)) in subst (λ z. HasThere q (FieldCell b g i) (cell_content z)) (sym (each i c.0 l c.1 c.2)) c.2
              | inr l ↦ subst (λ z. HasThere q (FieldCell b g i) (cell_content z)) (sym (past cells i (omega (arith, l, long))))
                  (h.elsewhere (FieldCell b g i) (λ e. field_block (sym e)) (λ j a k e. beyond i j k l (index_same e)))
            ]
          where
            beyond : (i j : ℕ) → j < 0 + n → n ≤ i → i ≡ j → ⊥
            beyond i j k l e = omega (arith, k, l, e)

    of_block : (h' : Identity) → HasThere q (StructBlock b h') (cond (same_identity g h') (Some Bare) None)
    of_block h' =
        elim (identities g h') [
          | inl t ↦ subst (λ z. HasThere q (StructBlock b z) (cond (same_identity g z) (Some Bare) None)) t.1
              (subst (λ z. HasThere q (StructBlock b g) (cond z (Some Bare) None)) (sym (own_identity g)) h.block)
          | inr t ↦ subst (λ z. HasThere q (StructBlock b h') (cond z (Some Bare) None)) (sym t)
              (h.elsewhere (StructBlock b h') (λ e. unlike h' t (names e)) (λ j a k e. field_block e))
        ]
      where
        names : {h' : Identity} → StructBlock b h' ≡ StructBlock b g → h' ≡ g
        names e = cc

        unlike : (h' : Identity) → same_identity g h' ≡ false → h' ≡ g → ⊥
        unlike h' t e = clash (sym ((bytes_decides g h').1 (sym e)) ∙ t)
          where
            clash : true ≡ false → ⊥
            clash e = cc

    none_at : (l : Location) → l ≢ StructBlock b g → ((j : ℕ) → l ≢ FieldCell b g j) → HasNone q l
    none_at l other apart = h.elsewhere l other (λ j a k. apart j)

    here : (l : Location) → block_of l ≡ b → FitsAt q (Some (Struct g cells)) l
    here (FieldCell d h' i) e = subst (λ z. FitsAt q (Some (Struct g cells)) (FieldCell z h' i)) (sym e) (in_block h' i)
    here (StructBlock d h') e = subst (λ z. FitsAt q (Some (Struct g cells)) (StructBlock z h')) (sym e) (of_block h')
    here (IndexCell d i) e = none_at (IndexCell d i) (λ z. c1 z) (λ j z. c2 z)
      where
        c1 : {A : Type 0} → IndexCell d i ≡ StructBlock b g → A
        c1 z = cc

        c2 : {A : Type 0} {j : ℕ} → IndexCell d i ≡ FieldCell b g j → A
        c2 z = cc
    here (IntBlock d) e = none_at (IntBlock d) (λ z. c1 z) (λ j z. c2 z)
      where
        c1 : {A : Type 0} → IntBlock d ≡ StructBlock b g → A
        c1 z = cc

        c2 : {A : Type 0} {j : ℕ} → IntBlock d ≡ FieldCell b g j → A
        c2 z = cc
    here (MutexAt d) e = none_at (MutexAt d) (λ z. c1 z) (λ j z. c2 z)
      where
        c1 : {A : Type 0} → MutexAt d ≡ StructBlock b g → A
        c1 z = cc

        c2 : {A : Type 0} {j : ℕ} → MutexAt d ≡ FieldCell b g j → A
        c2 z = cc
    here (HeldAt d) e = none_at (HeldAt d) (λ z. c1 z) (λ j z. c2 z)
      where
        c1 : {A : Type 0} → HeldAt d ≡ StructBlock b g → A
        c1 z = cc

        c2 : {A : Type 0} {j : ℕ} → HeldAt d ≡ FieldCell b g j → A
        c2 z = cc
    here (HandleAt d) e = none_at (HandleAt d) (λ z. c1 z) (λ j z. c2 z)
      where
        c1 : {A : Type 0} → HandleAt d ≡ StructBlock b g → A
        c1 z = cc

        c2 : {A : Type 0} {j : ℕ} → HandleAt d ≡ FieldCell b g j → A
        c2 z = cc
