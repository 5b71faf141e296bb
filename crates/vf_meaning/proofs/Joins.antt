-- Two shares of one cell, of another location, or of one row of cells are one share of it.
use Rattle.std.proofs.Common.{◌≡◌, ℕ, suc, List, [], ◌∷◌, map, length, Option, Some, pos, refl, sym, ap, ap₂, subst, ◌∙◌, arith}
use Rattle.vf_tree.specs.Core.{Identity, Field}
use Rattle.vf_model.specs.Values.{Dyadic, Value}
use Rattle.vf_model.specs.Values as values
use Rattle.vf_meaning.specs.Fractions.{sum, product, IsPositive}
use Rattle.vf_meaning.specs.Valuations.{Valuation}
use Rattle.vf_meaning.specs.GhostValues.{Interpretation, value_of, interpreted}
use Rattle.vf_meaning.specs.Assertions.{Head, BlockOf, Named, Family, Applied, Environment}
use Rattle.vf_meaning.specs.Parts.{Location, FieldCell, IndexCell, StructBlock, IntBlock, MutexAt, HeldAt, HandleAt, Content, CellOf, Bare, LengthOf, MutexOf, HeldOf, HandleOf, Part, nothing, single, ◌⊕◌, IsSum}
use Rattle.vf_meaning.specs.Chunks.{fraction_of, start_of, Wanted, Just, wanted, AllMeet, Primitive, Mutexes, HeldMutexes, Handles, IntBlocks, IntCells, Others, primitive, IsFieldCell, IsStructBlock, IsIntBlock, IsMutex, IsHeldMutex, IsHandle, IsRow, IsRowAt, IsInts}
use Rattle.vf_meaning.specs.Satisfaction.{SatisfiesPrimitive, SatisfiesHead, MeansAt}
use Rattle.vf_meaning.specs.SatisfactionLaws.{IsOfOneLocation, HeadsOneLocation, CellsJoin, ChunksJoin, RowsJoin}
use Rattle.vf_meaning.proofs.Fractions.{product_distributes, stays_positive}
use Rattle.vf_meaning.proofs.Parts.{parts_add, sums_turn, sums_regroup, single_here, singles_add}

pub same_content : (l : Location) (c d : Content) (x y : Dyadic) (p q r : Part) → p ≡ single l c x → q ≡ single l d y → IsSum p q r → IsPositive x → IsPositive y → c ≡ d
same_content l c d x y p q r e f h a b =
    h.agree l c d (subst IsPositive (sym (ap (λ z. z l c) e ∙ single_here l c x)) a) (subst IsPositive (sym (ap (λ z. z l d) f ∙ single_here l d y)) b)

added : (l : Location) (c : Content) (x y : Dyadic) (p q r : Part) → p ≡ single l c x → q ≡ single l c y → IsSum p q r → r ≡ single l c (sum x y)
added l c x y p q r e f h = h.adds ∙ ap₂ (λ a b. a ⊕ b) e f ∙ sym (singles_add l c x y).adds

same_block : (b c : ℕ) → start_of b ≡ start_of c → c ≡ b
same_block b c e = cc

same_value : (c d : Option Value) → CellOf c ≡ CellOf d → d ≡ c
same_value c d e = cc

same_share : (x y : Dyadic) (o : Option Dyadic) → o ≡ Some x → o ≡ Some y → y ≡ x
same_share x y o e f = cc

joined : (x y : Dyadic) (w : Value) (f : Field) (u : Wanted) (p q r : Part) → IsPositive x → IsPositive y → IsFieldCell x w f u p → IsFieldCell y w f u q → IsSum p q r → IsFieldCell (sum x y) w f u r
joined x y w f u p q r a b h k s =
    let block = same_block h.block k.block (sym h.begins ∙ k.begins) in
    let there = subst (λ z. q ≡ single (FieldCell z f.structure f.index) (CellOf k.holds) y) block k.owns in
    let same = same_content (FieldCell h.block f.structure f.index) (CellOf h.holds) (CellOf k.holds) x y p q r h.owns there s a b in
    record {
      block = h.block;
      begins = h.begins;
      holds = h.holds;
      meets = h.meets;
      owns = added (FieldCell h.block f.structure f.index) (CellOf h.holds) x y p q r h.owns (subst (λ z. q ≡ single (FieldCell h.block f.structure f.index) z y) (sym same) there) s;
    }

pub cells_join : CellsJoin
cells_join e n s t share x f w v p q r a b h k sums =
    let i = interpreted e.claims e.fixpoints in
    let share_is = same_share h.0 k.0 (fraction_of v share) (h.1).is (k.1).is in
    let second = subst (λ z. IsFieldCell (product t z) (value_of i v x) f (wanted i v w) q) share_is k.2 in (
      h.0,
      h.1,
      subst (λ z. IsFieldCell z (value_of i v x) f (wanted i v w) r) (sym (product_distributes s t h.0))
          (joined (product s h.0) (product t h.0) (value_of i v x) f (wanted i v w) p q r (stays_positive.1 s h.0 a (h.1).positive) (stays_positive.1 t h.0 b (h.1).positive) h.2 second sums),
    )

-- ---- one location
pub one_location : (l k : Location) (c d : Content) (x y : Dyadic) (p q r : Part) → l ≡ k → p ≡ single l c x → q ≡ single k d y → IsSum p q r → IsPositive x → IsPositive y → r ≡ single l c (sum x y)
one_location l k c d x y p q r e h i s a b =
    let there = subst (λ z. q ≡ single z d y) (sym e) i in
    let same = same_content l c d x y p q r h there s a b in
    added l c x y p q r h (subst (λ z. q ≡ single l z y) (sym same) there) s

first_met : (w : Value) (ws : List Wanted) (u : Value) (us : List Value) → AllMeet (Just w ∷ ws) (u ∷ us) → u ≡ w
first_met w ws u us h = h.0

pub same_start : (b c : ℕ) (w : Value) → start_of b ≡ w → start_of c ≡ w → b ≡ c
same_start b c w e f = cc

blocks_joined : (x y : Dyadic) (g : Identity) (w : Value) (ws : List Wanted) (p q r : Part) → IsPositive x → IsPositive y → IsStructBlock x g (Just w ∷ ws) p → IsStructBlock y g (Just w ∷ ws) q → IsSum p q r → IsStructBlock (sum x y) g (Just w ∷ ws) r
blocks_joined x y g w ws p q r a b h k s = record {
  block = h.block;
  meet = h.meet;
  owns = one_location (StructBlock h.block g) (StructBlock k.block g) Bare Bare x y p q r (ap (λ z. StructBlock z g) (same_start h.block k.block w (h.meet).0 (k.meet).0)) h.owns k.owns s a b;
}

int_blocks_joined : (x y : Dyadic) (w : Value) (ws : List Wanted) (p q r : Part) → IsPositive x → IsPositive y → IsIntBlock x (Just w ∷ ws) p → IsIntBlock y (Just w ∷ ws) q → IsSum p q r → IsIntBlock (sum x y) (Just w ∷ ws) r
int_blocks_joined x y w ws p q r a b h k s = record {
  block = h.block;
  size = h.size;
  meet = h.meet;
  owns = one_location (IntBlock h.block) (IntBlock k.block) (LengthOf h.size) (LengthOf k.size) x y p q r (ap IntBlock (same_start h.block k.block w (h.meet).0 (k.meet).0)) h.owns k.owns s a b;
}

mutexes_joined : (x y : Dyadic) (w : Value) (ws : List Wanted) (p q r : Part) → IsPositive x → IsPositive y → IsMutex x (Just w ∷ ws) p → IsMutex y (Just w ∷ ws) q → IsSum p q r → IsMutex (sum x y) (Just w ∷ ws) r
mutexes_joined x y w ws p q r a b h k s = record {
  block = h.block;
  invariant = h.invariant;
  meet = h.meet;
  owns = one_location (MutexAt h.block) (MutexAt k.block) (MutexOf h.invariant) (MutexOf k.invariant) x y p q r (ap MutexAt (same_start h.block k.block w (h.meet).0 (k.meet).0)) h.owns k.owns s a b;
}

held_joined : (x y : Dyadic) (w : Value) (ws : List Wanted) (p q r : Part) → IsPositive x → IsPositive y → IsHeldMutex x (Just w ∷ ws) p → IsHeldMutex y (Just w ∷ ws) q → IsSum p q r → IsHeldMutex (sum x y) (Just w ∷ ws) r
held_joined x y w ws p q r a b h k s = record {
  block = h.block;
  invariant = h.invariant;
  holder = h.holder;
  given = h.given;
  meet = h.meet;
  owns = one_location (HeldAt h.block) (HeldAt k.block) (HeldOf h.invariant h.holder h.given) (HeldOf k.invariant k.holder k.given) x y p q r (ap HeldAt (same_start h.block k.block w (h.meet).0 (k.meet).0)) h.owns k.owns s a b;
}

handles_joined : (x y : Dyadic) (w : Value) (ws : List Wanted) (p q r : Part) → IsPositive x → IsPositive y → IsHandle x (Just w ∷ ws) p → IsHandle y (Just w ∷ ws) q → IsSum p q r → IsHandle (sum x y) (Just w ∷ ws) r
handles_joined x y w ws p q r a b h k s = record {
  block = h.block;
  run = h.run;
  argument = h.argument;
  info = h.info;
  meet = h.meet;
  owns = one_location (HandleAt h.block) (HandleAt k.block) (HandleOf h.run h.argument h.info) (HandleOf k.run k.argument k.info) x y p q r (ap HandleAt (same_start h.block k.block w (h.meet).0 (k.meet).0)) h.owns k.owns s a b;
}

module _ (e : Environment) (n : ℕ) where
  primitives_joined : (k : Primitive) (x y : Dyadic) (f : Identity) (w : Value) (ws : List Wanted) (p q r : Part) → IsOfOneLocation k → IsPositive x → IsPositive y
      → SatisfiesPrimitive (MeansAt e n) k x f (Just w ∷ ws) p → SatisfiesPrimitive (MeansAt e n) k y f (Just w ∷ ws) q → IsSum p q r
      → SatisfiesPrimitive (MeansAt e n) k (sum x y) f (Just w ∷ ws) r
  primitives_joined Mutexes x y f w ws p q r o a b h k s = mutexes_joined x y w ws p q r a b h k s
  primitives_joined HeldMutexes x y f w ws p q r o a b h k s = held_joined x y w ws p q r a b h k s
  primitives_joined Handles x y f w ws p q r o a b h k s = handles_joined x y w ws p q r a b h k s
  primitives_joined IntBlocks x y f w ws p q r o a b h k s = int_blocks_joined x y w ws p q r a b h k s
  primitives_joined IntCells x y f w ws p q r o a b h k s = absurd o
  primitives_joined Others x y f w ws p q r o a b h k s = absurd o

  heads_joined : (i : Interpretation) (t x y : Dyadic) (head : Head) (v : Valuation) (w : Value) (ws : List Wanted) (p q r : Part) → HeadsOneLocation head → IsPositive x → IsPositive y
      → SatisfiesHead (MeansAt e n) i t x head v (Just w ∷ ws) p → SatisfiesHead (MeansAt e n) i t y head v (Just w ∷ ws) q → IsSum p q r
      → SatisfiesHead (MeansAt e n) i t (sum x y) head v (Just w ∷ ws) r
  heads_joined i t x y (BlockOf g) v w ws p q r o a b h k s = blocks_joined x y g w ws p q r a b h k s
  heads_joined i t x y (Named f) v w ws p q r o a b h k s = primitives_joined (primitive f) x y f w ws p q r o a b h k s
  heads_joined i t x y (Family f g) v w ws p q r o a b h k s = absurd o
  heads_joined i t x y (Applied g) v w ws p q r o a b h k s = absurd o

pub chunks_join : ChunksJoin
chunks_join e n s t share head x ws v p q r one a b h k sums =
    let i = interpreted e.claims e.fixpoints in
    let share_is = same_share h.0 k.0 (fraction_of v share) (h.1).is (k.1).is in
    let asked = map (wanted i v) ws in
    let second = subst (λ z. SatisfiesHead (MeansAt e n) i t (product t z) head v (Just (value_of i v x) ∷ asked) q) share_is k.2 in (
      h.0,
      h.1,
      subst (λ z. SatisfiesHead (MeansAt e n) i (sum s t) z head v (Just (value_of i v x) ∷ asked) r) (sym (product_distributes s t h.0))
          (heads_joined e n i (sum s t) (product s h.0) (product t h.0) head v (value_of i v x) asked p q r one (stays_positive.1 s h.0 a (h.1).positive) (stays_positive.1 t h.0 b (h.1).positive) h.2 second sums),
    )

-- ---- rows of cells
record Grouped (a p b q r : Part) : Type 0 where
  firsts : Part
  others : Part
  first_sum : IsSum a b firsts
  other_sum : IsSum p q others
  all : IsSum firsts others r

-- the sum of two sums, by their first and by their other summands
grouped : (a p x b q y r : Part) → IsSum a p x → IsSum b q y → IsSum x y r → Grouped a p b q r
grouped a p x b q y r h k s =
    let one = sums_regroup a p x y r h s in
    let two = sums_regroup b q y p one.0 k (sums_turn p y one.0 one.1) in
    let three = sums_regroup two.0 b one.0 a r (sums_turn b two.0 one.0 two.2) (sums_turn a one.0 r one.2) in
    record {
      firsts = three.0;
      others = two.0;
      first_sum = sums_turn b a three.0 three.1;
      other_sum = sums_turn q p two.0 two.1;
      all = sums_turn two.0 three.0 r three.2;
    }

nothing_and_nothing : (p q r : Part) → p ≡ nothing → q ≡ nothing → IsSum p q r → r ≡ nothing
nothing_and_nothing p q r e f s = s.adds ∙ ap₂ (λ a b. a ⊕ b) e f ∙ (parts_add.2) nothing

row_joined : (x y : Dyadic) (b k : ℕ) (row other : List (Option Value)) (p q r : Part) → IsPositive x → IsPositive y → length row ≡ length other
    → IsRow x b k row p → IsRow y b k other q → IsSum p q r → IsRow (sum x y) b k row r
row_joined x y b k [] [] p q r i j l h m s = nothing_and_nothing p q r h m s
row_joined x y b k [] (c ∷ cs) p q r i j l h m s = absurd (unlike (length cs) l)
  where
    unlike : (n : ℕ) → 0 ≡ suc n → ⊥
    unlike n e = omega arith
row_joined x y b k (c ∷ cs) [] p q r i j l h m s = absurd (unlike (length cs) l)
  where
    unlike : (n : ℕ) → suc n ≡ 0 → ⊥
    unlike n e = omega arith
row_joined x y b k (c ∷ cs) (d ∷ ds) p q r i j l h m s =
    let g = grouped (single (IndexCell b k) (CellOf c) x) h.0 p (single (IndexCell b k) (CellOf d) y) m.0 q r h.1 m.1 s in
    let own = one_location (IndexCell b k) (IndexCell b k) (CellOf c) (CellOf d) x y _ _ g.firsts refl refl refl g.first_sum i j in
    (g.others, subst (λ z. IsSum z g.others r) own g.all, row_joined x y b (suc k) cs ds h.0 m.0 g.others i j (omega (arith, l)) h.2 m.2 g.other_sum)

pub row_at_joined : (x y : Dyadic) (w : Value) (row other : List (Option Value)) (p q r : Part) → IsPositive x → IsPositive y → length row ≡ length other
    → IsRowAt x w row p → IsRowAt y w other q → IsSum p q r → IsRowAt (sum x y) w row r
row_at_joined x y w [] [] p q r i j l h m s = nothing_and_nothing p q r h m s
row_at_joined x y w [] (c ∷ cs) p q r i j l h m s = absurd (unlike (length cs) l)
  where
    unlike : (n : ℕ) → 0 ≡ suc n → ⊥
    unlike n e = omega arith
row_at_joined x y w (c ∷ cs) [] p q r i j l h m s = absurd (unlike (length cs) l)
  where
    unlike : (n : ℕ) → suc n ≡ 0 → ⊥
    unlike n e = omega arith
row_at_joined x y (values.Pointer b (pos o)) (c ∷ cs) (d ∷ ds) p q r i j l h m s = row_joined x y b o (c ∷ cs) (d ∷ ds) p q r i j l h m s
row_at_joined x y _ (c ∷ cs) (d ∷ ds) p q r i j l h m s = absurd h

same_length : (a b : ℕ) (w : Value) → values.Number (pos a) ≡ w → values.Number (pos b) ≡ w → a ≡ b
same_length a b w e f = cc

ints_joined : (x y : Dyadic) (at many : Value) (w : Wanted) (p q r : Part) → IsPositive x → IsPositive y
    → IsInts x (Just at ∷ Just many ∷ w ∷ []) p → IsInts y (Just at ∷ Just many ∷ w ∷ []) q → IsSum p q r → IsInts (sum x y) (Just at ∷ Just many ∷ w ∷ []) r
ints_joined x y at many w p q r i j h k s = (
  h.0,
  h.1,
  h.2,
  h.3,
  h.4,
  row_at_joined x y h.0 h.1 k.1 p q r i j (same_length (length h.1) (length k.1) many h.3 k.3) h.5 (subst (λ z. IsRowAt y z k.1 q) (k.2 ∙ sym h.2) k.5) s,
)

pub rows_join : RowsJoin
rows_join e n s t share ints x many w v p q r known a b h k sums =
    let i = interpreted e.claims e.fixpoints in
    let share_is = same_share h.0 k.0 (fraction_of v share) (h.1).is (k.1).is in
    let asked : List Wanted = Just (value_of i v x) ∷ Just (value_of i v many) ∷ wanted i v w ∷ [] in
    let of_kind : (z : Dyadic) (u : Part) → SatisfiesPrimitive (MeansAt e n) (primitive ints) z ints asked u → IsInts z asked u = λ z u m. subst (λ c. SatisfiesPrimitive (MeansAt e n) c z ints asked u) known m in
    let second = subst (λ z. IsInts (product t z) asked q) share_is (of_kind (product t k.0) q k.2) in
    let both = subst (λ z. IsInts z asked r) (sym (product_distributes s t h.0))
    (ints_joined (product s h.0) (product t h.0) (value_of i v x) (value_of i v many) (wanted i v w) p q r (stays_positive.1 s h.0 a (h.1).positive) (stays_positive.1 t h.0 b (h.1).positive) (of_kind (product s h.0) p h.2) second sums) in (
      h.0,
      h.1,
      subst (λ c. SatisfiesPrimitive (MeansAt e n) c (product (sum s t) h.0) ints asked r) (sym known) both,
    )
