-- Rows of int cells: one of their cells is there, is written, and all of a row with its block is a block.
use Rattle.std.proofs.Common.{◌≡◌, ◌≢◌, ℕ, zero, suc, ◌<◌, ◌+◌, true, cond, List, [], ◌∷◌, length, slice_get, slice_set, Option, Some, None, refl, sym, ap, ap₂, subst, ◌∙◌, arith}
use Rattle.std.specs.Prelude.{ℤ, pos, negsuc, ◌+ℤ◌, nat_lt}
use Rattle.std.proofs.lemmas.Bool.Decides.{nat_tests}
use Rattle.vf_model.specs.Values.{Dyadic, Value}
use Rattle.vf_model.specs.Values as values
use Rattle.vf_model.specs.Memory.{Memory, Ints, Cell, block_at, element_in, element_cell, cells_at, content}
use Rattle.vf_meaning.specs.Fractions.{whole, nought, IsPositive}
use Rattle.vf_meaning.specs.Parts.{Location, FieldCell, IndexCell, StructBlock, IntBlock, MutexAt, HeldAt, HandleAt, Content, CellOf, LengthOf, block_of, Part, nothing, single, IsSum, HasNone, HasJust}
use Rattle.vf_meaning.specs.Fits.{cell_content, HasThere, FitsAt, Fits}
use Rattle.vf_meaning.specs.FitLaws.{IsAllOf}
use Rattle.vf_meaning.specs.Chunks.{IsRow, IsRowAt}
use Rattle.vf_meaning.proofs.Parts.{sums_turn, sums_regroup, in_left, single_here, singles_have_just_that, sum_at}
use Rattle.vf_meaning.proofs.FitSteps.{indexes_are_there, single_nought, sum_left, sum_right}

some_same : {A : Type 0} {x y : A} → Some x ≡ Some y → x ≡ y
some_same e = cc

none_some : {A B : Type 0} {x : A} → None ≡ Some x → B
none_some e = cc

plus_zero : (k : ℕ) → k ≡ k + 0
plus_zero k = omega arith

plus_suc : (k j : ℕ) → suc k + j ≡ k + suc j
plus_suc k j = omega arith

-- ---- one cell of a row
-- a cell is one part of a row, and with another content there the row has that in its place
pub record OneOf (x : Dyadic) (b k : ℕ) (row : List (Option Value)) (j : ℕ) (held : Option Value) (q : Part) : Type 0 where
  pub rest : Part
  pub sums : IsSum (single (IndexCell b (k + j)) (CellOf held) x) rest q
  pub back : (new : Option Value) (p : Part) → IsSum (single (IndexCell b (k + j)) (CellOf new) x) rest p → IsRow x b k (slice_set row j new) p

pub one_of_row : (x : Dyadic) (b k : ℕ) (row : List (Option Value)) (j : ℕ) (held : Option Value) (q : Part) → IsRow x b k row q → slice_get row j ≡ Some held → OneOf x b k row j held q
one_of_row x b k [] j held q h is = none_some is
one_of_row x b k (c ∷ row) zero held q h is = record {
  rest = h.0;
  sums = subst (λ i. IsSum (single (IndexCell b i) (CellOf held) x) h.0 q) (plus_zero k) (subst (λ z. IsSum (single (IndexCell b k) (CellOf z) x) h.0 q) (some_same is) h.1);
  back = λ new p sums. (h.0, subst (λ i. IsSum (single (IndexCell b i) (CellOf new) x) h.0 p) (sym (plus_zero k)) sums, h.2);
}
one_of_row x b k (c ∷ row) (suc j) held q h is =
    let o = one_of_row x b (suc k) row j held h.0 h.2 is in
    let first = single (IndexCell b k) (CellOf c) x in
    let (rest, inner, outer) = sums_regroup (single (IndexCell b (suc k + j)) (CellOf held) x) o.rest h.0 first q o.sums (sums_turn first h.0 q h.1) in
    record {
      rest = rest;
      sums = subst (λ i. IsSum (single (IndexCell b i) (CellOf held) x) rest q) (plus_suc k j) outer;
      back = λ new p sums.
          let own = single (IndexCell b (suc k + j)) (CellOf new) x in
          let sums1 : IsSum own rest p = subst (λ i. IsSum (single (IndexCell b i) (CellOf new) x) rest p) (sym (plus_suc k j)) sums in
          let (mid, one, two) = sums_regroup first o.rest rest own p (sums_turn o.rest first rest inner) (sums_turn own rest p sums1) in
          (mid, two, o.back new mid (sums_turn o.rest own mid one));
    }

-- a row at a pointer that has a cell is one of a block
pub record RowThere (x : Dyadic) (pointer : Value) (row : List (Option Value)) (q : Part) : Type 0 where
  pub block : ℕ
  pub offset : ℕ
  pub begins : pointer ≡ values.Pointer block (pos offset)
  pub is_row : IsRow x block offset row q

pub row_there : (x : Dyadic) (pointer : Value) (row : List (Option Value)) (q : Part) (j : ℕ) (held : Option Value) → IsRowAt x pointer row q → slice_get row j ≡ Some held → RowThere x pointer row q
row_there x pointer [] q j held h is = none_some is
row_there x (values.Pointer b (pos o)) (c ∷ row) q j held h is = record { block = b; offset = o; begins = refl; is_row = h }
row_there x (values.Pointer b (negsuc o)) (c ∷ row) q j held h is = absurd h
row_there x (values.Number z) (c ∷ row) q j held h is = absurd h
row_there x (values.Truth z) (c ∷ row) q j held h is = absurd h
row_there x values.Null (c ∷ row) q j held h is = absurd h
row_there x (values.Function g) (c ∷ row) q j held h is = absurd h
row_there x (values.Constructed d vs) (c ∷ row) q j held h is = absurd h
row_there x (values.Predicate p vs) (c ∷ row) q j held h is = absurd h
row_there x (values.Fraction d) (c ∷ row) q j held h is = absurd h

-- a row with a cell is a row at its pointer
pub row_at : (x : Dyadic) (b o : ℕ) (row : List (Option Value)) (q : Part) → IsRow x b o row q → IsRowAt x (values.Pointer b (pos o)) row q
row_at x b o [] q h = h
row_at x b o (c ∷ row) q h = h

-- ---- the cells of a row are there
-- a cell of which some is owned is there
pub record ElementThere (m : Memory) (b i : ℕ) (held : Option Value) : Type 0 where
  pub cells : List (Option Value)
  pub block : block_at m b ≡ Some (Ints cells)
  pub cell : slice_get cells i ≡ Some held

pub element_there : (x : Dyadic) (b k : ℕ) (row : List (Option Value)) (j : ℕ) (held : Option Value) (q all : Part) (m : Memory) → IsPositive x → IsRow x b k row q → slice_get row j ≡ Some held → ((l : Location) (c : Content) → IsPositive (q l c) → IsPositive (all l c)) → Fits all m
    → ElementThere m b (k + j) held
element_there x b k row j held q all m positive h is inside fits =
    let o = one_of_row x b k row j held q h is in
    let l = IndexCell b (k + j) in
    let found = indexes_are_there all m b (k + j) held fits (inside l (CellOf held) (in_left (single l (CellOf held) x) o.rest q o.sums l (CellOf held) (subst IsPositive (sym (single_here l (CellOf held) x)) positive))) in
    record { cells = found.0; block = found.1; cell = found.2 }

pub in_list : {A : Type 0} (xs : List A) (i : ℕ) (y : A) → slice_get xs i ≡ Some y → i < length xs
in_list [] i y h = none_some h
in_list (x ∷ xs) zero y h = omega arith
in_list (x ∷ xs) (suc i) y h = let l = in_list xs i y h in omega (arith, l)

pub list_there : {A : Type 0} (xs : List A) (i : ℕ) → i < length xs → (y : A) × (slice_get xs i ≡ Some y)
list_there [] i l = absurd (none i l)
  where
    none : (i : ℕ) → i < 0 → ⊥
    none i l = omega (arith, l)
list_there (x ∷ xs) zero l = (x, refl)
list_there (x ∷ xs) (suc i) l = list_there xs i (omega (arith, l))

less_true : (i n : ℕ) → i < n → nat_lt i n ≡ true
less_true i n l = grind (arith, nat_tests)

abbrev pub element : ℕ → ℕ → Cell
element b i = record { block = b; index = i }

-- the cell that an index names from a pointer on
pub element_found : (m : Memory) (b i : ℕ) (held : Option Value) (z n : ℤ) → ElementThere m b i held → z +ℤ n ≡ pos i → element_cell m (values.Pointer b z) n ≡ Some (element b i)
element_found m b i held z n h at =
    ap₂ (λ y o. element_in b y o) at h.block ∙ ap (λ t. cond t (Some (element b i)) None) (less_true i (length h.cells) (in_list h.cells i held h.cell))

pub element_content : (m : Memory) (b i : ℕ) (held : Option Value) → ElementThere m b i held → content m (element b i) ≡ Some held
element_content m b i held h = ap (λ o. slice_get (cells_at o) i) h.block ∙ h.cell

pub row_from : (x : Dyadic) (b o : ℕ) (row : List (Option Value)) (q : Part) → IsRowAt x (values.Pointer b (pos o)) row q → IsRow x b o row q
row_from x b o [] q h = h
row_from x b o (c ∷ row) q h = h

-- ---- all of a row
-- just the cells of a row are owned, whole
pub record OwnsRow (b k : ℕ) (row : List (Option Value)) (q : Part) : Type 0 where
  pub cells : (j : ℕ) (held : Option Value) → slice_get row j ≡ Some held → HasJust q (IndexCell b (k + j)) (CellOf held) whole
  pub elsewhere : (l : Location) → ((j : ℕ) → j < length row → l ≢ IndexCell b (k + j)) → HasNone q l

index_same : {b i j : ℕ} → IndexCell b i ≡ IndexCell b j → i ≡ j
index_same e = cc

nothing_there : (l : Location) (c : Content) → nothing l c ≡ nought
unfolding nothing
nothing_there l c = refl

first_place : (b k : ℕ) (row : List (Option Value)) (q r : Part) (c : Option Value) → IsSum (single (IndexCell b k) (CellOf c) whole) r q → OwnsRow b (suc k) row r → HasJust q (IndexCell b k) (CellOf c) whole
first_place b k row q r c sums o =
    let one = single (IndexCell b k) (CellOf c) whole in
    let none : HasNone r (IndexCell b k) = o.elsewhere (IndexCell b k) (λ j l same. above k j (index_same same)) in
    let just = (singles_have_just_that (IndexCell b k) (CellOf c) whole).0 in
    record {
      here = sum_at one r q sums (IndexCell b k) (CellOf c) ∙ sum_left (one (IndexCell b k) (CellOf c)) (r (IndexCell b k) (CellOf c)) (none (CellOf c)) ∙ just.here;
      else = λ d other. sum_at one r q sums (IndexCell b k) d ∙ sum_left (one (IndexCell b k) d) (r (IndexCell b k) d) (none d) ∙ just.else d other;
    }
  where
    above : (k j : ℕ) → k ≡ suc k + j → ⊥
    above k j h = omega (arith, h)

other_place : (b k : ℕ) (q r : Part) (c : Option Value) (l : Location) (d : Content) → IsSum (single (IndexCell b k) (CellOf c) whole) r q → l ≢ IndexCell b k → q l d ≡ r l d
other_place b k q r c l d sums other =
    let one = single (IndexCell b k) (CellOf c) whole in
    sum_at one r q sums l d ∙ sum_right (one l d) (r l d) (single_nought (IndexCell b k) l (CellOf c) d whole other)

pub owns_row : (b k : ℕ) (row : List (Option Value)) (q : Part) → IsRow whole b k row q → OwnsRow b k row q
owns_row b k [] q h = record { cells = λ j held is. none_some is; elsewhere = λ l other c. ap (λ z. z l c) h ∙ nothing_there l c }
owns_row b k (c ∷ row) q (r, sums, rest) = owns_first b k c row q r sums (owns_row b (suc k) row r rest)
  where
    owns_first : (b k : ℕ) (c : Option Value) (row : List (Option Value)) (q r : Part) → IsSum (single (IndexCell b k) (CellOf c) whole) r q → OwnsRow b (suc k) row r → OwnsRow b k (c ∷ row) q
    owns_first b k c row q r sums o = record { cells = λ j held is. cell_of j held is; elsewhere = λ l other d. none_of l other d }
      where
        above : (k j : ℕ) → suc k + j ≡ k → ⊥
        above k j h = omega (arith, h)

        more : (j n : ℕ) → j < n → suc j < suc n
        more j n l = omega (arith, l)

        some_first : (n : ℕ) → 0 < suc n
        some_first n = omega arith

        cell_of : (j : ℕ) (held : Option Value) → slice_get (c ∷ row) j ≡ Some held → HasJust q (IndexCell b (k + j)) (CellOf held) whole
        cell_of zero held is = subst (λ i. HasJust q (IndexCell b i) (CellOf held) whole) (plus_zero k) (subst (λ z. HasJust q (IndexCell b k) (CellOf z) whole) (some_same is) (first_place b k row q r c sums o))
        cell_of (suc j) held is =
            let just = o.cells j held is in
            let apart : IndexCell b (suc k + j) ≢ IndexCell b k = λ h. above k j (index_same h) in
            subst (λ i. HasJust q (IndexCell b i) (CellOf held) whole) (plus_suc k j) (record {
              here = other_place b k q r c (IndexCell b (suc k + j)) (CellOf held) sums apart ∙ just.here;
              else = λ d other. other_place b k q r c (IndexCell b (suc k + j)) d sums apart ∙ just.else d other;
            })

        none_of : (l : Location) → ((j : ℕ) → j < length (c ∷ row) → l ≢ IndexCell b (k + j)) → HasNone q l
        none_of l other d =
            other_place b k q r c l d sums (λ h. other 0 (some_first (length row)) (h ∙ ap (IndexCell b) (plus_zero k)))
            ∙ o.elsewhere l (λ j m h. other (suc j) (more j (length row) m) (h ∙ ap (IndexCell b) (plus_suc k j))) d

block_index : {b c i : ℕ} → IntBlock b ≡ IndexCell c i → ⊥
block_index e = cc

index_block : {b c i : ℕ} → IndexCell c i ≡ IntBlock b → ⊥
index_block e = cc

-- a whole row from the beginning of a block on, with the block, is all of the block
pub all_of_ints : (b : ℕ) (row : List (Option Value)) (r q : Part) → IsRow whole b 0 row r → IsSum (single (IntBlock b) (LengthOf (length row)) whole) r q → IsAllOf b (Ints row) q
all_of_ints b row r q is_row sums = record { here = here; elsewhere = λ l other c. at l c (λ h. other (ap block_of h)) ∙ (owns_row b 0 row r is_row).elsewhere l (λ j m h. other (ap block_of h)) c }
  where
    at : (l : Location) (c : Content) → l ≢ IntBlock b → q l c ≡ r l c
    at l c other = sum_at (single (IntBlock b) (LengthOf (length row)) whole) r q sums l c ∙ sum_right (single (IntBlock b) (LengthOf (length row)) whole l c) (r l c) (single_nought (IntBlock b) l (LengthOf (length row)) c whole other)

    none_at : (l : Location) → l ≢ IntBlock b → ((j : ℕ) → j < length row → l ≢ IndexCell b (0 + j)) → HasNone q l
    none_at l other apart c = at l c other ∙ (owns_row b 0 row r is_row).elsewhere l apart c

    no_more : (i : ℕ) → i ≡ 0 + i
    no_more i = omega arith

    by_cell : (i : ℕ) (found : Option (Option Value)) → slice_get row i ≡ found → HasThere q (IndexCell b i) (cell_content found)
    by_cell i None is = none_at (IndexCell b i) (λ h. index_block h) (λ j m h. none_some (sym is ∙ ap (slice_get row) (index_same h ∙ sym (no_more j)) ∙ (list_there row j m).1))
    by_cell i (Some held) is =
        let just = (owns_row b 0 row r is_row).cells i held is in
        let same : IndexCell b (0 + i) ≡ IndexCell b i = ap (IndexCell b) (sym (no_more i)) in
        record { here = at (IndexCell b i) (CellOf held) (λ h. index_block h) ∙ ap (λ z. r z (CellOf held)) (sym same) ∙ just.here; else = λ d other. at (IndexCell b i) d (λ h. index_block h) ∙ ap (λ z. r z d) (sym same) ∙ just.else d other }

    here : (l : Location) → block_of l ≡ b → FitsAt q (Some (Ints row)) l
    here (IndexCell c i) same = subst (λ z. HasThere q (IndexCell z i) (cell_content (slice_get row i))) (sym same) (by_cell i (slice_get row i) refl)
    here (IntBlock c) same = subst (λ z. HasJust q (IntBlock z) (LengthOf (length row)) whole) (sym same) (record {
      here = sum_at (single (IntBlock b) (LengthOf (length row)) whole) r q sums (IntBlock b) (LengthOf (length row)) ∙ sum_left (single (IntBlock b) (LengthOf (length row)) whole (IntBlock b) (LengthOf (length row))) (r (IntBlock b) (LengthOf (length row))) ((owns_row b 0 row r is_row).elsewhere (IntBlock b) (λ j m h. block_index h) (LengthOf (length row)))
          ∙ ((singles_have_just_that (IntBlock b) (LengthOf (length row)) whole).0).here;
      else = λ d other. sum_at (single (IntBlock b) (LengthOf (length row)) whole) r q sums (IntBlock b) d ∙ sum_left (single (IntBlock b) (LengthOf (length row)) whole (IntBlock b) d) (r (IntBlock b) d) ((owns_row b 0 row r is_row).elsewhere (IntBlock b) (λ j m h. block_index h) d)
          ∙ ((singles_have_just_that (IntBlock b) (LengthOf (length row)) whole).0).else d other;
    })
    here (FieldCell c g i) same = none_at (FieldCell c g i) (λ h. cc) (λ j m h. cc)
    here (StructBlock c g) same = none_at (StructBlock c g) (λ h. cc) (λ j m h. cc)
    here (MutexAt c) same = none_at (MutexAt c) (λ h. cc) (λ j m h. cc)
    here (HeldAt c) same = none_at (HeldAt c) (λ h. cc) (λ j m h. cc)
    here (HandleAt c) same = none_at (HandleAt c) (λ h. cc) (λ j m h. cc)
