-- What a chunk of a row of int cells says of memory, and where an index is in it.
use Rattle.std.proofs.Common.{◌≡◌, ℕ, zero, suc, ◌<◌, ◌≤◌, ◌+◌, Bool, true, false, List, [], ◌∷◌, length, map, slice_get, slice_set, Option, Some, None, refl, sym, ap, ap₂, subst, subst₂, ◌∙◌, inl, arith}
use Rattle.std.specs.Prelude.{ℤ, pos, negsuc, ◌+ℤ◌, int_le, int_lt}
use Rattle.std.proofs.lemmas.Bool.{false≢true}
use Rattle.std.proofs.lemmas.Int.{ints}
use Rattle.vf_base.specs.declared.place.Place.{Place}
use Rattle.vf_tree.specs.Core.{LessEqual, Less}
use Rattle.vf_model.specs.Values.{Dyadic, Value, number_of}
use Rattle.vf_model.specs.Values as values
use Rattle.vf_model.specs.Memory.{Memory, Ints, Cell, block_at}
use Rattle.vf_model.specs.Accesses.{touch_of}
use Rattle.vf_model.specs.Races.{TouchesCell}
use Rattle.vf_meaning.specs.Fractions.{whole, IsPositive}
use Rattle.vf_meaning.specs.Ghost.{Integers, Number, PointerSum, Compare, Fraction}
use Rattle.vf_meaning.specs.Valuations.{Valuation, further}
use Rattle.vf_meaning.specs.GhostValues.{compared}
use Rattle.vf_meaning.specs.Assertions.{Environment}
use Rattle.vf_meaning.specs.Sorts.{HasSort}
use Rattle.vf_meaning.specs.Parts.{Location, IndexCell, Part}
use Rattle.vf_meaning.specs.ShareOuts.{location_in}
use Rattle.vf_meaning.specs.Chunks.{Just, IsRowAt, RowMeets}
use Rattle.vf_rules.specs.Terms.{Term}
use Rattle.vf_rules.specs.States.{Fact, Holds, SymbolicChunk, value_in, Meets, HeadMeans, ChunkMeans, Entails, wanted_in}
use Rattle.vf_rules.specs.Arrays.{row_head, Finds, finds_from, finds_at, IsInside, IsItem, Becomes, becomes_set, becomes_one, stays_unknown}
use Rattle.vf_rules.specs.Evaluate.{IsNumber}
use Rattle.vf_rules.proofs.Takes.{same_value}
use Rattle.vf_rules.proofs.Evaluates.{number_sort}
use Rattle.vf_safety.proofs.Rows.{ElementThere, element}

some_same : {A : Type 0} {x y : A} → Some x ≡ Some y → x ≡ y
some_same e = cc

none_some : {A B : Type 0} {x : A} → None ≡ Some x → B
none_some e = cc

-- ---- the chunk of a row
-- what the chunk of a row says of a part
pub record RowOwned (e : Environment) (v : Valuation) (u long : Term) (content : Option Term) (x : Dyadic) (q : Part) : Type 0 where
  pub row : List (Option Value)
  pub long_is : value_in e v long ≡ values.Number (pos (length row))
  pub meets : RowMeets (wanted_in e v content) row
  pub is_row : IsRowAt x (value_in e v u) row q
  pub positive : IsPositive x

pub row_owned : (e : Environment) (v : Valuation) (u long : Term) (content : Option Term) (c : SymbolicChunk) (q : Part) → ChunkMeans e v c q → c.head ≡ row_head → c.arguments ≡ Some u ∷ Some long ∷ content ∷ [] → (x : Dyadic) × RowOwned e v u long content x q
row_owned e v u long content c q m head arguments =
    let (n, (pointer, row, at, many, which, is_row)) = subst₂ (λ h ts. HeadMeans e v m.fraction h ts q) head arguments m.head in
    (m.fraction, record { row = row; long_is = sym many; meets = which; is_row = subst (λ z. IsRowAt m.fraction z row q) at is_row; positive = m.positive })

-- what a chunk says of its own share of a row
pub row_owned_of : (e : Environment) (v : Valuation) (u long : Term) (content : Option Term) (c : SymbolicChunk) (q : Part) → (m : ChunkMeans e v c q) → c.head ≡ row_head → c.arguments ≡ Some u ∷ Some long ∷ content ∷ [] → RowOwned e v u long content m.fraction q
unfolding row_owned
row_owned_of e v u long content c q m head arguments = (row_owned e v u long content c q m head arguments).1

fraction_same : {x y : Dyadic} → values.Fraction x ≡ values.Fraction y → x ≡ y
fraction_same h = cc

-- what a chunk says that is all of a row
pub row_owned_whole : (e : Environment) (v : Valuation) (u long : Term) (content : Option Term) (c : SymbolicChunk) (q : Part) → ChunkMeans e v (record c { share = Fraction whole }) q → c.head ≡ row_head → c.arguments ≡ Some u ∷ Some long ∷ content ∷ [] → RowOwned e v u long content whole q
unfolding row_owned
row_owned_whole e v u long content c q m head arguments =
    let full : m.fraction ≡ whole = fraction_same (sym m.share) in
    subst (λ x. RowOwned e v u long content x q) full (row_owned e v u long content (record c { share = Fraction whole }) q m head arguments).1

-- ---- numbers
-- a number that is at least 0 and less than a length is an index
pub index_of : (z : ℤ) (n : ℕ) → int_le (pos 0) z ≡ true → int_lt z (pos n) ≡ true → (i : ℕ) × (z ≡ pos i) × (i < n)
index_of (pos i) n h k = (i, refl, less i n k)
  where
    less : (i n : ℕ) → int_lt (pos i) (pos n) ≡ true → i < n
    less i n k = grind (arith, ints, k)
index_of (negsuc i) n h k = absurd (false≢true (negative i h))
  where
    negative : (i : ℕ) → int_le (pos 0) (negsuc i) ≡ true → false ≡ true
    negative i h = h

-- a length, or a number of cells, that is at least 0
pub count_of : (z : ℤ) → int_le (pos 0) z ≡ true → (i : ℕ) × (z ≡ pos i)
count_of (pos i) h = (i, refl)
count_of (negsuc i) h = absurd (false≢true (negative i h))
  where
    negative : (i : ℕ) → int_le (pos 0) (negsuc i) ≡ true → false ≡ true
    negative i h = h

-- a term that is a number from 0 on has a natural number as value
pub count_in : (e : Environment) (v : Valuation) (path : List Fact) (u : Term) → IsNumber e path u → Entails e path (Holds (Compare LessEqual (Number (pos 0)) u)) → Meets e v path → (i : ℕ) × (value_in e v u ≡ values.Number (pos i))
count_in e v path u number low m =
    let (z, is) = number_sort e (value_in e v u) (number.by v m) in
    let at_least : int_le (pos 0) z ≡ true = subst (λ w. compared LessEqual (values.Number (pos 0)) w ≡ true) is (low.by v m) in
    let (i, z_is) = count_of z at_least in
    (i, is ∙ ap values.Number z_is)

pub at_most : (i n : ℕ) → int_le (pos i) (pos n) ≡ true → i ≤ n
at_most i n h = grind (arith, ints, h)

-- ---- where an index is
pub record Located (e : Environment) (v : Valuation) (t j u index : Term) (n : ℕ) : Type 0 where
  pub place : ℕ
  pub is : value_in e v index ≡ values.Number (pos place)
  pub inside : place < n
  pub reached : (b o : ℕ) → value_in e v u ≡ values.Pointer b (pos o) → (z : ℤ) × (value_in e v t ≡ values.Pointer b z) × (z +ℤ number_of (value_in e v j) ≡ pos (o + place))

index_inside : (e : Environment) (v : Valuation) (path : List Fact) (index long : Term) (n : ℕ) → Meets e v path → HasSort e (value_in e v index) Integers → IsInside e path index long → value_in e v long ≡ values.Number (pos n) → (i : ℕ) × (value_in e v index ≡ values.Number (pos i)) × (i < n)
index_inside e v path index long n m sort inside long_is =
    let (z, is) = number_sort e (value_in e v index) sort in
    let low : int_le (pos 0) z ≡ true = subst (λ w. compared LessEqual (values.Number (pos 0)) w ≡ true) is ((inside.0).by v m) in
    let high : int_lt z (pos n) ≡ true = subst (λ w. compared Less w (values.Number (pos n)) ≡ true) is (subst (λ w. compared Less (value_in e v index) w ≡ true) long_is ((inside.1).by v m)) in
    let (i, z_is, less) = index_of z n low high in
    (i, is ∙ ap values.Number z_is, less)

pointer_same : {b c : ℕ} {y z : ℤ} → values.Pointer b y ≡ values.Pointer c z → (b ≡ c) × (y ≡ z)
pointer_same h = (cc, cc)

no_more : (o : ℕ) → o ≡ o + 0
no_more o = omega arith

-- a sum that points into a block is of a pointer into the block
before_sum : (w : Value) (n : ℤ) (b o : ℕ) → further w n ≡ values.Pointer b (pos o) → (z : ℤ) × (w ≡ values.Pointer b z) × (z +ℤ n ≡ pos o)
before_sum (values.Pointer c z) n b o h = let same = pointer_same h in (z, ap (λ y. values.Pointer y z) same.0, same.1)
before_sum (values.Number z) n b o h = absurd (cc)
before_sum (values.Truth z) n b o h = absurd (cc)
before_sum values.Null n b o h = absurd (cc)
before_sum (values.Function g) n b o h = absurd (cc)
before_sum (values.Constructed c vs) n b o h = absurd (cc)
before_sum (values.Predicate q vs) n b o h = absurd (cc)
before_sum (values.Fraction d) n b o h = absurd (cc)

plus_pos : (o i : ℕ) → pos o +ℤ pos i ≡ pos (o + i)
plus_pos o i = refl

pub located : (e : Environment) (v : Valuation) (path : List Fact) (t j u index long : Term) (n : ℕ) → Finds e path t j u index → Meets e v path → IsNumber e path j → IsInside e path index long → value_in e v long ≡ values.Number (pos n) → Located e v t j u index n
located e v path t j u index long n (finds_from equal) m number inside long_is =
    let (i, is, less) = index_inside e v path j long n m (number.by v m) inside long_is in
    record { place = i; is = is; inside = less; reached = λ b o at. (pos o, sym (same_value e v u t (equal.by v m)) ∙ at, ap (λ w. pos o +ℤ number_of w) is ∙ plus_pos o i) }
located e v path t j u index long n (finds_at equal) m number inside long_is =
    let (i, is, less) = index_inside e v path (Number (pos 0)) long n m (inl refl) inside long_is in
    record {
      place = i;
      is = is;
      inside = less;
      reached = λ b o at.
          let (z, w_is, sum_is) = before_sum (value_in e v t) (number_of (value_in e v j)) b o (sym (same_value e v u (PointerSum t j) (equal.by v m)) ∙ at) in
          (z, w_is, sum_is ∙ ap pos (no_more o ∙ ap (λ y. o + y) (zero_is i is)));
    }
  where
    zero_is : (i : ℕ) → values.Number (pos 0) ≡ values.Number (pos i) → 0 ≡ i
    zero_is i h = cc

-- ---- what a known list says of a cell
map_item : (zs : List ℤ) (k : ℕ) (held : Option Value) → slice_get (map (λ z. Some (values.Number z)) zs) k ≡ Some held → (z : ℤ) × (slice_get zs k ≡ Some z) × (held ≡ Some (values.Number z))
map_item [] k held h = none_some h
map_item (z ∷ zs) zero held h = (z, refl, sym (some_same h))
map_item (z ∷ zs) (suc k) held h = map_item zs k held h

pub item_there : (e : Environment) (v : Valuation) (path : List Fact) (list index item : Term) (row : List (Option Value)) (k : ℕ) (held : Option Value) → IsItem e path list index item → Meets e v path → RowMeets (Just (value_in e v list)) row → value_in e v index ≡ values.Number (pos k)
    → slice_get row k ≡ Some held → held ≡ Some (value_in e v item)
item_there e v path list index item row k held is m (zs, list_is, row_is) index_is there =
    let (z, at, held_is) = map_item zs k held (sym (ap (λ r. slice_get r k) row_is) ∙ there) in
    held_is ∙ ap Some (sym (is.by v m zs k z list_is index_is at))

pub map_set : (zs : List ℤ) (k : ℕ) (z : ℤ) → slice_set (map (λ y. Some (values.Number y)) zs) k (Some (values.Number z)) ≡ map (λ y. Some (values.Number y)) (slice_set zs k z)
map_set [] k z = refl
map_set (y ∷ zs) zero z = refl
map_set (y ∷ zs) (suc k) z = ap (λ r. Some (values.Number y) ∷ r) (map_set zs k z)

set_alone : (row : List (Option Value)) (k : ℕ) (w : Option Value) → length row ≡ 1 → k < length row → slice_set row k w ≡ w ∷ []
set_alone [] k w one l = absurd (zero_one one)
  where
    zero_one : zero ≡ suc zero → ⊥
    zero_one h = cc
set_alone (c ∷ []) zero w one l = refl
set_alone (c ∷ []) (suc k) w one l = absurd (beyond k l)
  where
    beyond : (k : ℕ) → suc k < 1 → ⊥
    beyond k l = omega (arith, l)
set_alone (c ∷ d ∷ row) k w one l = absurd (two_one (length row) one)
  where
    two_one : (n : ℕ) → suc (suc n) ≡ 1 → ⊥
    two_one n h = omega (arith, h)

pub becomes_meets : (e : Environment) (v : Valuation) (path : List Fact) (long index item : Term) (content new : Option Term) (row : List (Option Value)) (k : ℕ) → Becomes e path long index item content new → Meets e v path → RowMeets (wanted_in e v content) row → value_in e v index ≡ values.Number (pos k)
    → value_in e v long ≡ values.Number (pos (length row)) → k < length row → (z : ℤ) → value_in e v item ≡ values.Number z → RowMeets (wanted_in e v new) (slice_set row k (Some (values.Number z)))
becomes_meets e v path long index item _ _ row k (becomes_set set) m (zs, list_is, row_is) index_is long_is less z item_is =
    (slice_set zs k z, set.by v m zs k z list_is index_is item_is, ap (λ r. slice_set r k (Some (values.Number z))) row_is ∙ map_set zs k z)
becomes_meets e v path long index item _ _ row k (becomes_one one list) m meets index_is long_is less z item_is =
    (z ∷ [], list.by v m z item_is, set_alone row k (Some (values.Number z)) (number_one (length row) (sym long_is ∙ same_value e v long (Number (pos 1)) (one.by v m))) less)
  where
    number_one : (n : ℕ) → values.Number (pos n) ≡ values.Number (pos 1) → n ≡ 1
    number_one n h = cc
becomes_meets e v path long index item _ _ row k stays_unknown m meets index_is long_is less z item_is = tt

-- ---- the cell that is touched
index_location : {b i : ℕ} {l : Location} → Some (IndexCell b i) ≡ Some l → IndexCell b i ≡ l
index_location e = cc

pub touched_element : (m : Memory) (b i : ℕ) (held : Option Value) (writes : Bool) (place : Place) (c : Cell) (l : Location) → ElementThere m b i held → TouchesCell m (touch_of (element b i) writes place) c → location_in (block_at m c.block) c ≡ Some l → IndexCell b i ≡ l
touched_element m b i held writes place c l h covers at =
    let same_block : block_at m c.block ≡ Some (Ints h.cells) = ap (block_at m) (sym covers.block) ∙ h.block in
    ap₂ (λ y k. IndexCell y k) covers.block covers.covered ∙ index_location (sym (ap (λ o. location_in o c) same_block) ∙ at)
