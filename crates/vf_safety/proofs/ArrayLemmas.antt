-- The lemmas on rows of int cells change nothing.
use Rattle.std.proofs.Common.{◌≡◌, ℕ, ◌≤◌, ◌+◌, pos, true, List, [], ◌++◌, length, map, Option, Some, refl, sym, ap, ap₂, subst, subst₂, ◌∙◌, arith}
use Rattle.std.specs.Prelude.{ℤ, ◌+ℤ◌, ◌-ℤ◌, int_le}
use Rattle.std.proofs.lemmas.Int.{ints}
use Rattle.vf_model.specs.Values.{Dyadic, Value, number_of}
use Rattle.vf_model.specs.Values as values
use Rattle.vf_meaning.specs.Fractions.{whole, product, IsPositive}
use Rattle.vf_meaning.specs.Ghost.{Integers, Numbered}
use Rattle.vf_meaning.specs.Valuations.{Valuation, fraction_in, further}
use Rattle.vf_meaning.specs.GhostValues.{interpreted}
use Rattle.vf_meaning.specs.Assertions.{PatternTree, Is, Names, Wild, Environment}
use Rattle.vf_meaning.specs.Sorts.{HasSort}
use Rattle.vf_meaning.specs.Parts.{Part, nothing}
use Rattle.vf_meaning.specs.Chunks.{product_if, wanted, IsRowAt, RowMeets, list_of}
use Rattle.vf_meaning.specs.Satisfaction.{Satisfies}
use Rattle.vf_meaning.proofs.Fractions.{whole_scales_nothing}
use Rattle.vf_meaning.proofs.Parts.{sums_turn, nothing_is_neutral}
use Rattle.vf_rules.specs.Mutexes.{name}
use Rattle.vf_rules.proofs.Evaluates.{number_sort}
use Rattle.vf_safety.specs.ArrayLaws.{take_name, drop_name, append_name, apply, row_to_split, rows_of_split, rows_to_join, row_of_join, NoCellsAreARow, RowsAreSplit, RawRowsAreSplit, RowsAreJoined, RawRowsAreJoined, RowsHaveLengths, UnchangingLemmasHold}
use Rattle.vf_safety.proofs.Ready.{positive_whole}
use Rattle.vf_safety.proofs.Elements.{count_of, at_most}
use Rattle.vf_safety.proofs.RowParts.{map_append, map_long, both_long, split_list, alone, split_at, join_at}
use Rattle.vf_safety.proofs.ListFixpoints.{at_two, takes, drops, appends}

fraction_known : {x y : Dyadic} {o : Option Dyadic} → o ≡ Some x → product_if (Some whole) o ≡ Some y → y ≡ product whole x
fraction_known {x} {y} {o} is known = some_same (sym known ∙ ap (product_if (Some whole)) is)
  where
    some_same : {a b : Dyadic} → Some a ≡ Some b → a ≡ b
    some_same h = cc

-- the same fraction, by its name
by_name : {x : Dyadic} {o : Option Dyadic} → o ≡ Some x → product_if (Some whole) o ≡ Some x
by_name {x} {o} is = ap (product_if (Some whole)) is ∙ ap Some (whole_scales_nothing x)

-- a number and its cell
abbrev as_cell : ℤ → Option Value
as_cell z = Some (values.Number z)

difference : (i j : ℕ) → pos (i + j) -ℤ pos i ≡ pos j
difference i j = grind (arith, ints)

total : (i j : ℕ) → pos i +ℤ pos j ≡ pos (i + j)
total i j = grind (arith, ints)

-- ---- no cells
pub no_cells_are_a_row : NoCellsAreARow
no_cells_are_a_row e v p sorts (n, (none, truth)) = (0, (whole, record { is = refl; positive = positive_whole }, (v (Numbered 0), [], refl, refl, ([], refl, refl), none)))

-- ---- a row is split
module _ (e : Environment) (v : Valuation) (p : Part) where
  -- what the precondition says of a part
  record ToSplit (content : PatternTree) : Type 0 where
    fraction : Dyadic
    share : fraction_in (v (Numbered 2)) ≡ Some fraction
    positive : IsPositive fraction
    cells : List (Option Value)
    long : v (Numbered 3) ≡ values.Number (pos (length cells))
    meets : RowMeets (wanted (interpreted e.claims e.fixpoints) v content) cells
    is_row : IsRowAt (product whole fraction) (v (Numbered 0)) cells p
    count : ℕ
    counts : v (Numbered 1) ≡ values.Number (pos count)
    most : count ≤ length cells

  to_split : (content : PatternTree) → HasSort e (v (Numbered 1)) Integers → Satisfies e whole (row_to_split content) v p → ToSplit content
  to_split content sort (n, (q, r, sums, (x, share, (pointer, cells, at, many, meets, is_row)), (a, b, inner, (a_none, low), (b_none, high)))) =
      let (z, is) = number_sort e (v (Numbered 1)) sort in
      let (i, z_is) = count_of z (subst (λ w. int_le (pos 0) (number_of w) ≡ true) is low) in
      let counts : v (Numbered 1) ≡ values.Number (pos i) = is ∙ ap values.Number z_is in
      let same : p ≡ q = alone r q p (alone a b r a_none inner ∙ b_none) (sums_turn q r p sums) in
      record {
        fraction = x;
        share = share.is;
        positive = share.positive;
        cells = cells;
        long = sym many;
        meets = meets;
        is_row = subst₂ (λ w u. IsRowAt (product whole x) w cells u) at (sym same) is_row;
        count = i;
        counts = counts;
        most = at_most i (length cells) (subst₂ (λ y w. int_le (number_of y) (number_of w) ≡ true) counts (sym many) high);
      }

  -- what the postcondition says of the same part
  after_split : (content first second : PatternTree) (t : ToSplit content) (front back : List (Option Value)) → t.cells ≡ front ++ back → length front ≡ t.count
      → RowMeets (wanted (interpreted e.claims e.fixpoints) v first) front → RowMeets (wanted (interpreted e.claims e.fixpoints) v second) back → Satisfies e whole (rows_of_split first second) v p
  after_split content first second t front back is long meets_front meets_back =
      let x = t.fraction in
      let s = split_at (product whole x) (v (Numbered 0)) front back p (subst (λ c. IsRowAt (product whole x) (v (Numbered 0)) c p) is t.is_row) in
      let counts : v (Numbered 1) ≡ values.Number (pos (length front)) = t.counts ∙ ap (λ n. values.Number (pos n)) (sym long) in
      let whole_long : v (Numbered 3) ≡ values.Number (pos (length front + length back)) = t.long ∙ ap (λ n. values.Number (pos n)) (ap length is ∙ both_long front back) in
      let rest_long = ap₂ (λ a b. values.Number (number_of a -ℤ number_of b)) whole_long counts ∙ ap values.Number (difference (length front) (length back)) in (
        0,
        (
          s.first,
          s.second,
          s.sums,
          (x, record { is = by_name t.share; positive = t.positive }, (v (Numbered 0), front, refl, sym counts, meets_front, s.is_first)),
          (x, record { is = by_name t.share; positive = t.positive }, (further (v (Numbered 0)) (pos (length front)), back, ap (λ y. further (v (Numbered 0)) (number_of y)) (sym counts), sym rest_long, meets_back, s.is_second)),
        ),
      )

pub rows_are_split : RowsAreSplit
rows_are_split e lists v p sorts required =
    let t = to_split e v p (Names (Numbered 4)) (sorts 1 Integers refl) required in
    let (zs, content_is, cells_are) = t.meets in
    let s = split_list zs t.count (subst (λ n. t.count ≤ n) (ap length cells_are ∙ map_long as_cell zs) t.most) in
    let count_is : v (Numbered 1) ≡ values.Number (pos (length s.first)) = t.counts ∙ ap (λ n. values.Number (pos n)) (sym s.long) in
    let list_is : v (Numbered 4) ≡ list_of (s.first ++ s.second) = content_is ∙ ap list_of s.is in
    after_split e v p (Names (Numbered 4)) (Is (apply take_name (name 4) (name 1))) (Is (apply drop_name (name 4) (name 1))) t (map as_cell s.first) (map as_cell s.second) (cells_are ∙ ap (map as_cell) s.is ∙ map_append as_cell s.first s.second) (map_long as_cell s.first ∙ s.long)
    (s.first, ap₂ (at_two e lists take_name) list_is count_is ∙ takes e lists s.first s.second, refl)
    (s.second, ap₂ (at_two e lists drop_name) list_is count_is ∙ drops e lists s.first s.second, refl)

pub raw_rows_are_split : RawRowsAreSplit
raw_rows_are_split e v p sorts required =
    let t = to_split e v p Wild (sorts 1 Integers refl) required in
    let s = split_list t.cells t.count t.most in
    after_split e v p Wild Wild Wild t s.first s.second s.is s.long tt tt

-- ---- rows are joined
module _ (e : Environment) (v : Valuation) (p : Part) (m : ℕ) where
  -- what the precondition says of a part
  record ToJoin (first second : PatternTree) : Type 0 where
    fraction : Dyadic
    share : fraction_in (v (Numbered 2)) ≡ Some fraction
    positive : IsPositive fraction
    front : List (Option Value)
    back : List (Option Value)
    front_long : v (Numbered 1) ≡ values.Number (pos (length front))
    back_long : v (Numbered m) ≡ values.Number (pos (length back))
    meets_front : RowMeets (wanted (interpreted e.claims e.fixpoints) v first) front
    meets_back : RowMeets (wanted (interpreted e.claims e.fixpoints) v second) back
    is_row : IsRowAt (product whole fraction) (v (Numbered 0)) (front ++ back) p

  to_join : (first second : PatternTree) → Satisfies e whole (rows_to_join m first second) v p → ToJoin first second
  to_join first second (n, (q, r, sums, (x, share, (pointer, front, at, many, meets, is_row)), (y, share2, (pointer2, back, at2, many2, meets2, is_row2)))) =
      let one : y ≡ x = fraction_known share.is share2.is ∙ whole_scales_nothing x in
      let behind : pointer2 ≡ further (v (Numbered 0)) (pos (length front)) = at2 ∙ ap (λ w. further (v (Numbered 0)) (number_of w)) (sym many) in
      record {
        fraction = x;
        share = share.is;
        positive = share.positive;
        front = front;
        back = back;
        front_long = sym many;
        back_long = sym many2;
        meets_front = meets;
        meets_back = meets2;
        is_row = join_at (product whole x) (v (Numbered 0)) front back q r p (subst (λ w. IsRowAt (product whole x) w front q) at is_row) (subst₂ (λ z w. IsRowAt (product whole z) w back r) one behind is_row2) sums;
      }

  -- what the postcondition says of the same part
  after_join : (first second content : PatternTree) (t : ToJoin first second) → RowMeets (wanted (interpreted e.claims e.fixpoints) v content) (t.front ++ t.back) → Satisfies e whole (row_of_join m content) v p
  after_join first second content t meets =
      let long = ap₂ (λ a b. values.Number (number_of a +ℤ number_of b)) t.front_long t.back_long ∙ ap values.Number (total (length t.front) (length t.back)) in (
        0,
        (
          t.fraction,
          record { is = by_name t.share; positive = t.positive },
          (v (Numbered 0), t.front ++ t.back, refl, ap (λ n. values.Number (pos n)) (both_long t.front t.back) ∙ sym long, meets, t.is_row),
        ),
      )

pub rows_are_joined : RowsAreJoined
rows_are_joined e lists v p sorts required =
    let t = to_join e v p 4 (Names (Numbered 3)) (Names (Numbered 5)) required in
    let (xs, first_is, front_is) = t.meets_front in
    let (ys, second_is, back_is) = t.meets_back in
    after_join e v p 4 (Names (Numbered 3)) (Names (Numbered 5)) (Is (apply append_name (name 3) (name 5))) t
    (xs ++ ys, ap₂ (at_two e lists append_name) first_is second_is ∙ appends e lists xs ys, ap₂ (λ r s. r ++ s) front_is back_is ∙ sym (map_append as_cell xs ys))

pub raw_rows_are_joined : RawRowsAreJoined
raw_rows_are_joined e v p sorts required = after_join e v p 3 Wild Wild Wild (to_join e v p 3 Wild Wild required) tt

-- ---- lengths
pub rows_have_lengths : RowsHaveLengths
rows_have_lengths e s share pointer many content v p (n, (x, is_share, (w, cells, at, long, meets, is_row))) = (length cells, sym long)

-- ---- lemmas
pub unchanging_lemmas_hold : UnchangingLemmasHold
unchanging_lemmas_hold e prog lemma unchanged under p (sorts, thread) typed required = record {
  kept = p;
  leaked = nothing;
  sums = sums_turn nothing p p (nothing_is_neutral p);
  ensured = record { later = under; fixed = λ x h. refl; sorts = sorts; satisfies = unchanged under p sorts required };
  unleaked = λ h. refl;
}
