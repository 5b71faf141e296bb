-- Taking from a heap, joining and renaming chunks: what a state stands for is parted, and stays.
use Rattle.std.proofs.Common.{◌≡◌, ℕ, zero, suc, length, ap₂, List, [], ◌∷◌, ◌++◌, map, Option, Some, None, pos, refl, sym, ap, subst, subst₂, ◌∙◌}
use Rattle.std.specs.Prelude.{ℤ}
use Rattle.std.proofs.lemmas.List.{map-append}
use Rattle.vf_tree.specs.Core.{Identity, Field}
use Rattle.vf_model.specs.Values.{Dyadic, Value, Values}
use Rattle.vf_model.specs.Values as values
use Rattle.vf_meaning.specs.Fractions.{whole, sum, IsPositive}
use Rattle.vf_meaning.specs.Ghost.{PredicateValue}
use Rattle.vf_meaning.specs.Valuations.{Valuation, listed}
use Rattle.vf_meaning.specs.GhostValues.{values_of}
use Rattle.vf_meaning.specs.Assertions.{Head, BlockOf, Named, Family, Applied, Environment}
use Rattle.vf_meaning.specs.Parts.{Part, Content, single, ◌⊕◌, IsSum}
use Rattle.vf_meaning.specs.Parts as parts
use Rattle.vf_meaning.specs.Chunks.{Wanted, Just, AllMeet, Primitive, Mutexes, HeldMutexes, Handles, IntBlocks, IntCells, Others, primitive, CellMeets, IsRow, IsRowAt, IsInts, RowMeets, list_of, IsFieldCell, IsStructBlock, IsIntBlock, IsMutex, IsHeldMutex, IsHandle}
use Rattle.vf_meaning.specs.Satisfaction.{SatisfiesPrimitive, SatisfiesNamed, SatisfiesValue, SatisfiesHead, MeansAt}
use Rattle.vf_meaning.specs.SatisfactionLaws.{IsOfOneLocation}
use Rattle.vf_meaning.proofs.Values.{tells_values}
use Rattle.vf_meaning.proofs.Fractions.{stays_positive}
use Rattle.vf_meaning.proofs.Parts.{sums_turn, sums_regroup, in_left, single_here}
use Rattle.vf_meaning.proofs.Satisfaction.{Two, two_map, two_single, two_means, two_head}
use Rattle.vf_meaning.proofs.Joins.{same_content, one_location, same_start, row_at_joined}
use Rattle.vf_rules.specs.Terms.{Term, in_row}
use Rattle.vf_rules.specs.States.{Fact, ChunkHead, CellOf, Of, SymbolicChunk, SymbolicState, meaning, value_in, IsMet, Meets, wanted_in, HeadMeans, ChunkMeans, ChunksMean, StandsFor, with_chunks}
use Rattle.vf_rules.specs.Take.{same, with_share, Takes, takes_all, takes_part, takes_later, Removes, removes_here, removes_later, IsPrimitive, joined, equalities, Joins, JoinsRows, Merges, merges_here, merges_rows, merges_later, all_known, Renames, Replaces, replaces_here, replaces_later, Change, learns, merges, names_value, makes_value, Changes, no_change, and_change}
use Rattle.vf_rules.proofs.Stands.{assuming_all_stands}

-- ---- equal terms
pub same_value : (e : Environment) (v : Valuation) (t u : Term) → IsMet e v (same t u) → value_in e v t ≡ value_in e v u
same_value e v t u h = (tells_values (value_in e v t) (value_in e v u)).0 h

pub equal_met : (e : Environment) (v : Valuation) (t u : Term) → value_in e v t ≡ value_in e v u → IsMet e v (same t u)
equal_met e v t u h = (tells_values (value_in e v t) (value_in e v u)).1 h

fraction_same : {x y : Dyadic} → values.Fraction x ≡ values.Fraction y → x ≡ y
fraction_same e = cc

-- ---- a head's share in two
pub rescaled : (e : Environment) (n : ℕ) (s t x : Dyadic) (head : Head) (v : Valuation) (ws : List Wanted) (p : Part) → SatisfiesHead (MeansAt e n) (meaning e) s x head v ws p → SatisfiesHead (MeansAt e n) (meaning e) t x head v ws p
rescaled e n s t x (BlockOf g) v ws p h = h
rescaled e n s t x (Named q) v ws p h = h
rescaled e n s t x (Family q y) v ws p h = h
rescaled e n s t x (Applied y) v ws p h = h

head_splits : (e : Environment) (v : Valuation) (x y : Dyadic) (head : ChunkHead) (ts : List (Option Term)) (p : Part) → HeadMeans e v (sum x y) head ts p → Two (HeadMeans e v x head ts) (HeadMeans e v y head ts) p
head_splits e v x y (CellOf f) (Some pointer ∷ content ∷ []) p h =
    two_map _ _ _ _ p
    (λ q o. record { block = h.block; begins = h.begins; holds = h.holds; meets = h.meets; owns = o })
    (λ q o. record { block = h.block; begins = h.begins; holds = h.holds; meets = h.meets; owns = o })
    (two_single _ _ x y p h.owns)
head_splits e v x y (CellOf f) [] p h = absurd h
head_splits e v x y (CellOf f) (None ∷ ts) p h = absurd h
head_splits e v x y (CellOf f) (Some pointer ∷ []) p h = absurd h
head_splits e v x y (CellOf f) (Some pointer ∷ content ∷ t ∷ ts) p h = absurd h
head_splits e v x y (Of head) ts p (n, h) =
    two_map _ _ _ _ p (λ q o. (n, o)) (λ q o. (n, o))
    (two_head (MeansAt e n) (two_means e n) (meaning e) whole whole x y head v (map (wanted_in e v) ts) p (rescaled e n whole (sum whole whole) (sum x y) head v (map (wanted_in e v) ts) p h))

-- ---- taking
-- what is taken, and what is left
pub record Parted (e : Environment) (v : Valuation) (c : SymbolicChunk) (ds : List SymbolicChunk) (p : Part) : Type 0 where
  pub off : Part
  pub left : Part
  pub sums : IsSum off left p
  pub chunk : ChunkMeans e v c off
  pub chunks_mean : ChunksMean e v ds left

parted_later : (e : Environment) (v : Valuation) (c d : SymbolicChunk) (ds : List SymbolicChunk) (q r p : Part) → IsSum q r p → ChunkMeans e v d q → Parted e v c ds r → Parted e v c (d ∷ ds) p
parted_later e v c d ds q r p s m o =
    let other = sums_regroup o.off o.left r q p o.sums (sums_turn q r p s) in
    record { off = o.off; left = other.0; sums = other.2; chunk = o.chunk; chunks_mean = (q, o.left, sums_turn o.left q other.0 other.1, m, o.chunks_mean) }

pub takes_parted : (e : Environment) (v : Valuation) (path : List Fact) (wanted : Term) (c : SymbolicChunk) {cs ds : List SymbolicChunk} → Takes e path wanted c cs ds → Meets e v path
    → (p : Part) → ChunksMean e v cs p → Parted e v (with_share c wanted) ds p
takes_parted e v path wanted c (takes_all h) m p k =
    record {
      off = k.0;
      left = k.1;
      sums = k.2;
      chunk = record { fraction = (k.3).fraction; share = same_value e v wanted c.share (h.by v m) ∙ (k.3).share; positive = (k.3).positive; head = (k.3).head };
      chunks_mean = k.4;
    }
takes_parted e v path wanted c (takes_part left h) m p k =
    let (x, y, total, own, other, above, positive) = h.by v m in
    let is : (k.3).fraction ≡ sum x y = fraction_same (sym (k.3).share ∙ total) in
    let two = head_splits e v x y c.head c.arguments k.0 (subst (λ z. HeadMeans e v z c.head c.arguments k.0) is (k.3).head) in
    let rest = sums_regroup two.left two.right k.0 k.1 p two.sums k.2 in
    record {
      off = two.left;
      left = rest.0;
      sums = rest.2;
      chunk = record { fraction = x; share = own; positive = above; head = two.first };
      chunks_mean = (two.right, k.1, rest.1, record { fraction = y; share = other; positive = positive; head = two.second }, k.4);
    }
takes_parted e v path wanted c (takes_later t) m p k = parted_later e v (with_share c wanted) _ _ k.0 k.1 p k.2 k.3 (takes_parted e v path wanted c t m k.1 k.4)

pub removes_parted : (e : Environment) (v : Valuation) (c : SymbolicChunk) {cs ds : List SymbolicChunk} → Removes c cs ds → (p : Part) → ChunksMean e v cs p → Parted e v c ds p
removes_parted e v c removes_here p k = record { off = k.0; left = k.1; sums = k.2; chunk = k.3; chunks_mean = k.4 }
removes_parted e v c (removes_later t) p k = parted_later e v c _ _ k.0 k.1 p k.2 k.3 (removes_parted e v c t k.1 k.4)

-- ---- joining
just_same : (a b u : Value) → u ≡ a → u ≡ b → a ≡ b
just_same a b u h k = sym h ∙ k

meets_joined : (e : Environment) (v : Valuation) (ts us : List (Option Term)) (ws : List Value) → AllMeet (map (wanted_in e v) ts) ws → AllMeet (map (wanted_in e v) us) ws
    → AllMeet (map (wanted_in e v) (joined ts us)) ws × Meets e v (equalities ts us)
meets_joined e v [] [] [] h k = (tt, tt)
meets_joined e v [] [] (w ∷ ws) h k = absurd h
meets_joined e v [] (u ∷ us) [] h k = absurd k
meets_joined e v [] (u ∷ us) (w ∷ ws) h k = absurd h
meets_joined e v (t ∷ ts) us [] h k = absurd h
meets_joined e v (None ∷ ts) [] (w ∷ ws) h k = absurd k
meets_joined e v (Some t ∷ ts) [] (w ∷ ws) h k = absurd k
meets_joined e v (None ∷ ts) (u ∷ us) (w ∷ ws) h k = let r = meets_joined e v ts us ws h.1 k.1 in ((k.0, r.0), r.1)
meets_joined e v (Some t ∷ ts) (None ∷ us) (w ∷ ws) h k = let r = meets_joined e v ts us ws h.1 k.1 in ((h.0, r.0), r.1)
meets_joined e v (Some t ∷ ts) (Some u ∷ us) (w ∷ ws) h k =
    let r = meets_joined e v ts us ws h.1 k.1 in ((h.0, r.0), (equal_met e v t u (just_same (value_in e v t) (value_in e v u) w h.0 k.0), r.1))

mutex_same : (a b : Value) → parts.MutexOf a ≡ parts.MutexOf b → b ≡ a
mutex_same a b e = cc

held_same : (a b : Value) (t u : ℕ) (f g : Dyadic) → parts.HeldOf a t f ≡ parts.HeldOf b u g → (b ≡ a) × (u ≡ t) × (g ≡ f)
held_same a b t u f g e = (cc, cc, cc)

handle_same : (a b c d i j : Value) → parts.HandleOf a c i ≡ parts.HandleOf b d j → (b ≡ a) × (d ≡ c) × (j ≡ i)
handle_same a b c d i j e = (cc, cc, cc)

length_same : (a b : ℕ) → parts.LengthOf a ≡ parts.LengthOf b → b ≡ a
length_same a b e = cc

cell_same : (a b : Option Value) → parts.CellOf a ≡ parts.CellOf b → b ≡ a
cell_same a b e = cc

at_one : (l k : parts.Location) (d : Content) (y : Dyadic) (q : Part) → l ≡ k → q ≡ single k d y → q ≡ single l d y
at_one l k d y q h o = subst (λ z. q ≡ single z d y) (sym h) o

module _ (e : Environment) (v : Valuation) (x y : Dyadic) (a b : Value) (ts us : List (Option Term)) (p q r : Part) (above : IsPositive x) (positive : IsPositive y) (one : a ≡ b) (sums : IsSum p q r) where
  abbrev first_asked : List Wanted
  first_asked = Just a ∷ map (wanted_in e v) ts

  abbrev second_asked : List Wanted
  second_asked = Just b ∷ map (wanted_in e v) us

  abbrev both_asked : List Wanted
  both_asked = Just a ∷ map (wanted_in e v) (joined ts us)

  blocks_joined : (g : Identity) → IsStructBlock x g first_asked p → IsStructBlock y g second_asked q → Meets e v (equalities ts us) × IsStructBlock (sum x y) g both_asked r
  blocks_joined g h k =
      let place = same_start h.block k.block a (h.meet).0 ((k.meet).0 ∙ sym one) in
      let m = meets_joined e v ts us [] (h.meet).1 (k.meet).1 in
      (m.1, record { block = h.block; meet = ((h.meet).0, m.0); owns = one_location (parts.StructBlock h.block g) (parts.StructBlock k.block g) parts.Bare parts.Bare x y p q r (ap (λ z. parts.StructBlock z g) place) h.owns k.owns sums above positive })

  int_blocks_joined : IsIntBlock x first_asked p → IsIntBlock y second_asked q → Meets e v (equalities ts us) × IsIntBlock (sum x y) both_asked r
  int_blocks_joined h k =
      let place = same_start h.block k.block a (h.meet).0 ((k.meet).0 ∙ sym one) in
      let own = at_one (parts.IntBlock h.block) (parts.IntBlock k.block) (parts.LengthOf k.size) y q (ap parts.IntBlock place) k.owns in
      let size = length_same h.size k.size (same_content (parts.IntBlock h.block) (parts.LengthOf h.size) (parts.LengthOf k.size) x y p q r h.owns own sums above positive) in
      let m = meets_joined e v ts us (values.Number (pos h.size) ∷ []) (h.meet).1 (subst (λ z. AllMeet (map (wanted_in e v) us) (values.Number (pos z) ∷ [])) size (k.meet).1) in
      (m.1, record { block = h.block; size = h.size; meet = ((h.meet).0, m.0); owns = one_location (parts.IntBlock h.block) (parts.IntBlock k.block) (parts.LengthOf h.size) (parts.LengthOf k.size) x y p q r (ap parts.IntBlock place) h.owns k.owns sums above positive })

  mutexes_joined : IsMutex x first_asked p → IsMutex y second_asked q → Meets e v (equalities ts us) × IsMutex (sum x y) both_asked r
  mutexes_joined h k =
      let place = same_start h.block k.block a (h.meet).0 ((k.meet).0 ∙ sym one) in
      let own = at_one (parts.MutexAt h.block) (parts.MutexAt k.block) (parts.MutexOf k.invariant) y q (ap parts.MutexAt place) k.owns in
      let is = mutex_same h.invariant k.invariant (same_content (parts.MutexAt h.block) (parts.MutexOf h.invariant) (parts.MutexOf k.invariant) x y p q r h.owns own sums above positive) in
      let m = meets_joined e v ts us (h.invariant ∷ []) (h.meet).1 (subst (λ z. AllMeet (map (wanted_in e v) us) (z ∷ [])) is (k.meet).1) in
      (m.1, record { block = h.block; invariant = h.invariant; meet = ((h.meet).0, m.0); owns = one_location (parts.MutexAt h.block) (parts.MutexAt k.block) (parts.MutexOf h.invariant) (parts.MutexOf k.invariant) x y p q r (ap parts.MutexAt place) h.owns k.owns sums above positive })

  held_joined : IsHeldMutex x first_asked p → IsHeldMutex y second_asked q → Meets e v (equalities ts us) × IsHeldMutex (sum x y) both_asked r
  held_joined h k =
      let place = same_start h.block k.block a (h.meet).0 ((k.meet).0 ∙ sym one) in
      let own = at_one (parts.HeldAt h.block) (parts.HeldAt k.block) (parts.HeldOf k.invariant k.holder k.given) y q (ap parts.HeldAt place) k.owns in
      let is = held_same h.invariant k.invariant h.holder k.holder h.given k.given (same_content (parts.HeldAt h.block) (parts.HeldOf h.invariant h.holder h.given) (parts.HeldOf k.invariant k.holder k.given) x y p q r h.owns own sums above positive) in
      let m = meets_joined e v ts us (h.invariant ∷ values.Number (pos h.holder) ∷ values.Fraction h.given ∷ []) (h.meet).1
      (subst (λ z. AllMeet (map (wanted_in e v) us) (z ∷ values.Number (pos h.holder) ∷ values.Fraction h.given ∷ [])) is.0
      (subst₂ (λ z f. AllMeet (map (wanted_in e v) us) (k.invariant ∷ values.Number (pos z) ∷ values.Fraction f ∷ [])) is.1 is.2 (k.meet).1)) in
      (m.1, record { block = h.block; invariant = h.invariant; holder = h.holder; given = h.given; meet = ((h.meet).0, m.0); owns = one_location (parts.HeldAt h.block) (parts.HeldAt k.block) (parts.HeldOf h.invariant h.holder h.given) (parts.HeldOf k.invariant k.holder k.given) x y p q r (ap parts.HeldAt place) h.owns k.owns sums above positive })

  handles_joined : IsHandle x first_asked p → IsHandle y second_asked q → Meets e v (equalities ts us) × IsHandle (sum x y) both_asked r
  handles_joined h k =
      let place = same_start h.block k.block a (h.meet).0 ((k.meet).0 ∙ sym one) in
      let own = at_one (parts.HandleAt h.block) (parts.HandleAt k.block) (parts.HandleOf k.run k.argument k.info) y q (ap parts.HandleAt place) k.owns in
      let is = handle_same h.run k.run h.argument k.argument h.info k.info (same_content (parts.HandleAt h.block) (parts.HandleOf h.run h.argument h.info) (parts.HandleOf k.run k.argument k.info) x y p q r h.owns own sums above positive) in
      let m = meets_joined e v ts us (h.run ∷ h.argument ∷ h.info ∷ []) (h.meet).1
      (subst (λ z. AllMeet (map (wanted_in e v) us) (z ∷ h.argument ∷ h.info ∷ [])) is.0 (subst₂ (λ z f. AllMeet (map (wanted_in e v) us) (k.run ∷ z ∷ f ∷ [])) is.1 is.2 (k.meet).1)) in
      (m.1, record { block = h.block; run = h.run; argument = h.argument; info = h.info; meet = ((h.meet).0, m.0); owns = one_location (parts.HandleAt h.block) (parts.HandleAt k.block) (parts.HandleOf h.run h.argument h.info) (parts.HandleOf k.run k.argument k.info) x y p q r (ap parts.HandleAt place) h.owns k.owns sums above positive })

  primitives_joined : (n : ℕ) (f : Identity) (k : Primitive) → IsOfOneLocation k → SatisfiesPrimitive (MeansAt e n) k x f first_asked p → SatisfiesPrimitive (MeansAt e n) k y f second_asked q
      → Meets e v (equalities ts us) × SatisfiesPrimitive (MeansAt e n) k (sum x y) f both_asked r
  primitives_joined n f Mutexes o h k = mutexes_joined h k
  primitives_joined n f HeldMutexes o h k = held_joined h k
  primitives_joined n f Handles o h k = handles_joined h k
  primitives_joined n f IntBlocks o h k = int_blocks_joined h k
  primitives_joined n f IntCells o h k = absurd o
  primitives_joined n f Others o h k = absurd o

-- the meaning of a primitive predicate is the same at each depth
primitive_depth : (e : Environment) (n m : ℕ) (k : Primitive) (x : Dyadic) (f : Identity) (ws : List Wanted) (p : Part) → IsOfOneLocation k → SatisfiesPrimitive (MeansAt e n) k x f ws p → SatisfiesPrimitive (MeansAt e m) k x f ws p
primitive_depth e n m Mutexes x f ws p o h = h
primitive_depth e n m HeldMutexes x f ws p o h = h
primitive_depth e n m Handles x f ws p o h = h
primitive_depth e n m IntBlocks x f ws p o h = h
primitive_depth e n m IntCells x f ws p o h = absurd o
primitive_depth e n m Others x f ws p o h = absurd o

met_both : (e : Environment) (v : Valuation) (t u : Term) (held : Option Value) → CellMeets (Just (value_in e v t)) held → CellMeets (Just (value_in e v u)) held → value_in e v t ≡ value_in e v u
met_both e v t u held h k = some_same (sym h ∙ k)
  where
    some_same : {a b : Value} → Some a ≡ Some b → a ≡ b
    some_same e = cc

contents_joined : (e : Environment) (v : Valuation) (t u : Option Term) (held : Option Value) → CellMeets (wanted_in e v t) held → CellMeets (wanted_in e v u) held
    → (o : Option Term) × (joined (t ∷ []) (u ∷ []) ≡ o ∷ []) × CellMeets (wanted_in e v o) held × Meets e v (equalities (t ∷ []) (u ∷ []))
contents_joined e v None u held h k = (u, refl, k, tt)
contents_joined e v (Some t) None held h k = (Some t, refl, h, tt)
contents_joined e v (Some t) (Some u) held h k = (Some t, refl, h, (equal_met e v t u (met_both e v t u held h k), tt))

cells_joined : (e : Environment) (v : Valuation) (x y : Dyadic) (f : Field) (a b : Value) (t u : Option Term) (p q r : Part) → IsPositive x → IsPositive y → a ≡ b → IsSum p q r
    → IsFieldCell x a f (wanted_in e v t) p → IsFieldCell y b f (wanted_in e v u) q
    → (o : Option Term) × (joined (t ∷ []) (u ∷ []) ≡ o ∷ []) × IsFieldCell (sum x y) a f (wanted_in e v o) r × Meets e v (equalities (t ∷ []) (u ∷ []))
cells_joined e v x y f a b t u p q r above positive one sums h k =
    let place = same_start h.block k.block a (sym h.begins) (sym k.begins ∙ sym one) in
    let l = parts.FieldCell h.block f.structure f.index in
    let own = at_one l (parts.FieldCell k.block f.structure f.index) (parts.CellOf k.holds) y q (ap (λ z. parts.FieldCell z f.structure f.index) place) k.owns in
    let is = cell_same h.holds k.holds (same_content l (parts.CellOf h.holds) (parts.CellOf k.holds) x y p q r h.owns own sums above positive) in
    let c = contents_joined e v t u h.holds h.meets (subst (λ z. CellMeets (wanted_in e v u) z) is k.meets) in (
      c.0,
      c.1,
      record { block = h.block; begins = h.begins; holds = h.holds; meets = c.2; owns = one_location l (parts.FieldCell k.block f.structure f.index) (parts.CellOf h.holds) (parts.CellOf k.holds) x y p q r (ap (λ z. parts.FieldCell z f.structure f.index) place) h.owns k.owns sums above positive },
      c.3,
    )

heads_joined : (e : Environment) (v : Valuation) (x y : Dyadic) (head : ChunkHead) (s t : Term) (ts us : List (Option Term)) (p q r : Part) → IsPrimitive head → IsPositive x → IsPositive y
    → value_in e v s ≡ value_in e v t → IsSum p q r → HeadMeans e v x head (Some s ∷ ts) p → HeadMeans e v y head (Some t ∷ us) q
    → Meets e v (equalities ts us) × HeadMeans e v (sum x y) head (Some s ∷ joined ts us) r
heads_joined e v x y (CellOf f) s t (c ∷ []) (d ∷ []) p q r o above positive one sums h k =
    let j = cells_joined e v x y f (value_in e v s) (value_in e v t) c d p q r above positive one sums h k in
    (j.3, subst (λ z. HeadMeans e v (sum x y) (CellOf f) (Some s ∷ z) r) (sym j.1) j.2)
heads_joined e v x y (CellOf f) s t [] us p q r o above positive one sums h k = absurd h
heads_joined e v x y (CellOf f) s t (c ∷ d ∷ ts) us p q r o above positive one sums h k = absurd h
heads_joined e v x y (CellOf f) s t (c ∷ []) [] p q r o above positive one sums h k = absurd k
heads_joined e v x y (CellOf f) s t (c ∷ []) (d ∷ u ∷ us) p q r o above positive one sums h k = absurd k
heads_joined e v x y (Of (BlockOf g)) s t ts us p q r o above positive one sums h k =
    let j = blocks_joined e v x y (value_in e v s) (value_in e v t) ts us p q r above positive one sums g h.1 k.1 in (j.0, (h.0, j.1))
heads_joined e v x y (Of (Named f)) s t ts us p q r o above positive one sums h k =
    let j = primitives_joined e v x y (value_in e v s) (value_in e v t) ts us p q r above positive one sums h.0 f (primitive f) o h.1
    (primitive_depth e k.0 h.0 (primitive f) y f _ q o k.1) in (j.0, (h.0, j.1))
heads_joined e v x y (Of (Family f g)) s t ts us p q r o above positive one sums h k = absurd o
heads_joined e v x y (Of (Applied g)) s t ts us p q r o above positive one sums h k = absurd o

pub joins_mean : (e : Environment) (v : Valuation) (path : List Fact) (c d both : SymbolicChunk) (facts : List Fact) → Joins e path c d both facts → Meets e v path
    → (p q r : Part) → ChunkMeans e v c p → ChunkMeans e v d q → IsSum p q r → Meets e v facts × ChunkMeans e v both r
joins_mean e v path c d both facts j m p q r h k s =
    let x = h.fraction in
    let y = k.fraction in
    let first = subst (λ z. HeadMeans e v x c.head z p) j.arguments h.head in
    let second = subst₂ (λ z w. HeadMeans e v y z w q) j.one_head j.further k.head in
    let r2 = heads_joined e v x y c.head j.first j.second j.others j.more p q r j.primitive h.positive k.positive (same_value e v j.first j.second ((j.one_place).by v m)) s first second in
    let chunk : ChunkMeans e v (record { share = j.total; head = c.head; arguments = Some j.first ∷ joined j.others j.more }) r =
    record { fraction = sum x y; share = (j.sums).by v m x y h.share k.share; positive = (stays_positive.0) x y h.positive; head = r2.1 } in
    (subst (λ z. Meets e v z) (sym j.facts_are) r2.0, subst (λ z. ChunkMeans e v z r) (sym j.both_is) chunk)

-- ---- joining rows
unlike : {n : ℕ} {A : Type 0} → zero ≡ suc n → A
unlike h = cc

same_long : {a b : ℕ} → values.Number (pos a) ≡ values.Number (pos b) → a ≡ b
same_long h = cc

shorter : {a b : ℕ} → suc a ≡ suc b → a ≡ b
shorter h = cc

-- two rows at one place of which the sum is a part are the same
rows_agree : (x y : Dyadic) (b k : ℕ) (row other : List (Option Value)) (p q r : Part) → IsPositive x → IsPositive y → length row ≡ length other → IsRow x b k row p → IsRow y b k other q → IsSum p q r → row ≡ other
rows_agree x y b k [] [] p q r i j l h m s = refl
rows_agree x y b k [] (c ∷ cs) p q r i j l h m s = unlike l
rows_agree x y b k (c ∷ cs) [] p q r i j l h m s = unlike (sym l)
rows_agree x y b k (c ∷ cs) (d ∷ ds) p q r i j l h m s =
    let at = parts.IndexCell b k in
    let one = single at (parts.CellOf c) x in
    let two = single at (parts.CellOf d) y in
    let mine = in_left one h.0 p h.1 at (parts.CellOf c) (subst IsPositive (sym (single_here at (parts.CellOf c) x)) i) in
    let yours = in_left two m.0 q m.1 at (parts.CellOf d) (subst IsPositive (sym (single_here at (parts.CellOf d) y)) j) in
    let here : d ≡ c = cell_same c d (s.agree at (parts.CellOf c) (parts.CellOf d) mine yours) in
    let (u, inner, outer) = sums_regroup one h.0 p q r h.1 s in
    let (w, deep, rest) = sums_regroup two m.0 q h.0 u m.1 (sums_turn h.0 q u inner) in
    ap₂ (λ z zs. z ∷ zs) (sym here) (rows_agree x y b (suc k) cs ds h.0 m.0 w i j (shorter l) h.2 m.2 (sums_turn m.0 h.0 w deep))

rows_agree_at : (x y : Dyadic) (pointer : Value) (row other : List (Option Value)) (p q r : Part) → IsPositive x → IsPositive y → length row ≡ length other → IsRowAt x pointer row p → IsRowAt y pointer other q → IsSum p q r → row ≡ other
rows_agree_at x y pointer [] [] p q r i j l h m s = refl
rows_agree_at x y pointer [] (c ∷ cs) p q r i j l h m s = unlike l
rows_agree_at x y pointer (c ∷ cs) [] p q r i j l h m s = unlike (sym l)
rows_agree_at x y (values.Pointer b (pos o)) (c ∷ cs) (d ∷ ds) p q r i j l h m s = rows_agree x y b o (c ∷ cs) (d ∷ ds) p q r i j l h m s
rows_agree_at x y _ (c ∷ cs) (d ∷ ds) p q r i j l h m s = absurd h

number_first : {y z : ℤ} {ys zs : List (Option Value)} → Some (values.Number y) ∷ ys ≡ Some (values.Number z) ∷ zs → y ≡ z
number_first h = cc

number_later : {A : Type 0} {y z : A} {ys zs : List A} → y ∷ ys ≡ z ∷ zs → ys ≡ zs
number_later h = cc

some_none : {A B : Type 0} {z : A} {zs : List A} → [] ≡ z ∷ zs → B
some_none h = cc

numbers_same : (ys zs : List ℤ) → map (λ z. Some (values.Number z)) ys ≡ map (λ z. Some (values.Number z)) zs → ys ≡ zs
numbers_same [] [] h = refl
numbers_same [] (z ∷ zs) h = some_none h
numbers_same (y ∷ ys) [] h = some_none (sym h)
numbers_same (y ∷ ys) (z ∷ zs) h = ap₂ (λ w ws. w ∷ ws) (number_first h) (numbers_same ys zs (number_later h))

lists_joined : (e : Environment) (v : Valuation) (t u : Option Term) (row : List (Option Value)) → RowMeets (wanted_in e v t) row → RowMeets (wanted_in e v u) row
    → (o : Option Term) × (joined (t ∷ []) (u ∷ []) ≡ o ∷ []) × RowMeets (wanted_in e v o) row × Meets e v (equalities (t ∷ []) (u ∷ []))
lists_joined e v None u row h k = (u, refl, k, tt)
lists_joined e v (Some t) None row h k = (Some t, refl, h, tt)
lists_joined e v (Some t) (Some u) row h k = (Some t, refl, h, (equal_met e v t u (h.1 ∙ ap list_of (numbers_same h.0 k.0 (sym h.2 ∙ k.2)) ∙ sym k.1), tt))

rows_mean : (e : Environment) (v : Valuation) (path : List Fact) (c d both : SymbolicChunk) (facts : List Fact) → JoinsRows e path c d both facts → Meets e v path
    → (p q r : Part) → ChunkMeans e v c p → ChunkMeans e v d q → IsSum p q r → Meets e v facts × ChunkMeans e v both r
rows_mean e v path c d both facts j m p q r h k s =
    let x = h.fraction in
    let y = k.fraction in
    let first = subst₂ (λ z w. HeadMeans e v x z w p) j.head j.arguments h.head in
    let second = subst₂ (λ z w. HeadMeans e v y z w q) (j.one_head ∙ j.head) j.further k.head in
    let mine : IsInts x (Just (value_in e v j.first) ∷ Just (value_in e v j.long) ∷ wanted_in e v j.held ∷ []) p =
    subst (λ z. SatisfiesPrimitive (MeansAt e first.0) z x j.ints (Just (value_in e v j.first) ∷ Just (value_in e v j.long) ∷ wanted_in e v j.held ∷ []) p) j.known first.1 in
    let yours : IsInts y (Just (value_in e v j.second) ∷ Just (value_in e v j.also) ∷ wanted_in e v j.other ∷ []) q =
    subst (λ z. SatisfiesPrimitive (MeansAt e second.0) z y j.ints (Just (value_in e v j.second) ∷ Just (value_in e v j.also) ∷ wanted_in e v j.other ∷ []) q) j.known second.1 in
    let place = same_value e v j.first j.second ((j.one_place).by v m) in
    let many = same_value e v j.long j.also ((j.one_length).by v m) in
    let one_long : length mine.1 ≡ length yours.1 = same_long (mine.3 ∙ many ∙ sym yours.3) in
    let at_place : IsRowAt y mine.0 yours.1 q = subst (λ z. IsRowAt y z yours.1 q) (yours.2 ∙ sym place ∙ sym mine.2) yours.5 in
    let agree = rows_agree_at x y mine.0 mine.1 yours.1 p q r h.positive k.positive one_long mine.5 at_place s in
    let o = lists_joined e v j.held j.other mine.1 mine.4 (subst (λ z. RowMeets (wanted_in e v j.other) z) (sym agree) yours.4) in
    let all : IsInts (sum x y) (Just (value_in e v j.first) ∷ Just (value_in e v j.long) ∷ wanted_in e v o.0 ∷ []) r =
    (mine.0, mine.1, mine.2, mine.3, o.2, row_at_joined x y mine.0 mine.1 yours.1 p q r h.positive k.positive one_long mine.5 at_place s) in
    let head : HeadMeans e v (sum x y) (Of (Named j.ints)) (Some j.first ∷ Some j.long ∷ o.0 ∷ []) r =
    (first.0, subst (λ z. SatisfiesPrimitive (MeansAt e first.0) z (sum x y) j.ints (Just (value_in e v j.first) ∷ Just (value_in e v j.long) ∷ wanted_in e v o.0 ∷ []) r) (sym j.known) all) in
    let chunk : ChunkMeans e v (record { share = j.total; head = c.head; arguments = Some j.first ∷ Some j.long ∷ joined (j.held ∷ []) (j.other ∷ []) }) r = record {
      fraction = sum x y;
      share = (j.sums).by v m x y h.share k.share;
      positive = (stays_positive.0) x y h.positive;
      head = subst₂ (λ z w. HeadMeans e v (sum x y) z w r) (sym j.head) (ap (λ z. Some j.first ∷ Some j.long ∷ z) (sym o.1)) head;
    } in
    (subst (λ z. Meets e v z) (sym j.facts_are) o.3, subst (λ z. ChunkMeans e v z r) (sym j.both_is) chunk)

merges_mean : (e : Environment) (v : Valuation) (path facts : List Fact) {cs ds : List SymbolicChunk} → Merges e path facts cs ds → Meets e v path → (p : Part) → ChunksMean e v cs p → Meets e v facts × ChunksMean e v ds p
merges_mean e v path facts (merges_here {c} {d} {both} taken j) m p k =
    let o = removes_parted e v d taken k.1 k.4 in
    let other = sums_regroup o.off o.left k.1 k.0 p o.sums (sums_turn k.0 k.1 p k.2) in
    -- c and d together, and what is left of the others
    let whole_part = sums_regroup o.left o.off k.1 k.0 p (sums_turn o.off o.left k.1 o.sums) (sums_turn k.0 k.1 p k.2) in
    let two = joins_mean e v path c d both facts j m k.0 o.off whole_part.0 k.3 o.chunk (sums_turn o.off k.0 whole_part.0 whole_part.1) in
    (two.0, (whole_part.0, o.left, sums_turn o.left whole_part.0 p whole_part.2, two.1, o.chunks_mean))
merges_mean e v path facts (merges_rows {c} {d} {both} taken j) m p k =
    let o = removes_parted e v d taken k.1 k.4 in
    let whole_part = sums_regroup o.left o.off k.1 k.0 p (sums_turn o.off o.left k.1 o.sums) (sums_turn k.0 k.1 p k.2) in
    let two = rows_mean e v path c d both facts j m k.0 o.off whole_part.0 k.3 o.chunk (sums_turn o.off k.0 whole_part.0 whole_part.1) in
    (two.0, (whole_part.0, o.left, sums_turn o.left whole_part.0 p whole_part.2, two.1, o.chunks_mean))
merges_mean e v path facts (merges_later t) m p k =
    let r = merges_mean e v path facts t m k.1 k.4 in (r.0, (k.0, k.1, k.2, k.3, r.1))

-- ---- renaming
known_asked : (e : Environment) (v : Valuation) (ts : List Term) → map (wanted_in e v) (all_known ts) ≡ map (λ u. Just u) (listed (values_of (meaning e) v (in_row ts)))
known_asked e v [] = refl
known_asked e v (t ∷ ts) = ap (λ r. Just (value_in e v t) ∷ r) (known_asked e v ts)

asked_named : (e : Environment) (v : Valuation) (ts : List Term) (os : List (Option Term)) → map (wanted_in e v) (all_known ts ++ os) ≡ map (λ u. Just u) (listed (values_of (meaning e) v (in_row ts))) ++ map (wanted_in e v) os
asked_named e v ts os = map-append (wanted_in e v) (all_known ts) os ∙ ap (λ z. z ++ map (wanted_in e v) os) (known_asked e v ts)

renamed_there : (e : Environment) (v : Valuation) (path : List Fact) (c d : SymbolicChunk) → Renames e path c d → Meets e v path → (p : Part) → ChunkMeans e v c p → ChunkMeans e v d p
renamed_there e v path c d h m p k =
    let value_is = same_value e v h.value (PredicateValue h.predicate (in_row h.first)) ((h.is).by v m) in
    let applied = subst (λ z. HeadMeans e v k.fraction z c.arguments p) h.applied_head k.head in
    let named = subst (λ z. SatisfiesValue (MeansAt e applied.0) k.fraction z (map (wanted_in e v) c.arguments) p) value_is applied.1 in
    let asked = subst (λ z. SatisfiesNamed (MeansAt e applied.0) k.fraction h.predicate z p) (sym (asked_named e v h.first c.arguments)) named in
    let head : HeadMeans e v k.fraction (Of (Named h.predicate)) (all_known h.first ++ c.arguments) p = (applied.0, asked) in
    record {
      fraction = k.fraction;
      share = ap (value_in e v) h.one_share ∙ k.share;
      positive = k.positive;
      head = subst₂ (λ z w. HeadMeans e v k.fraction z w p) (sym h.named_head) (sym h.arguments) head;
    }

renamed_back : (e : Environment) (v : Valuation) (path : List Fact) (c d : SymbolicChunk) → Renames e path c d → Meets e v path → (p : Part) → ChunkMeans e v d p → ChunkMeans e v c p
renamed_back e v path c d h m p k =
    let value_is = same_value e v h.value (PredicateValue h.predicate (in_row h.first)) ((h.is).by v m) in
    let named = subst₂ (λ z w. HeadMeans e v k.fraction z w p) h.named_head h.arguments k.head in
    let asked = subst (λ z. SatisfiesNamed (MeansAt e named.0) k.fraction h.predicate z p) (asked_named e v h.first c.arguments) named.1 in
    let applied = subst (λ z. SatisfiesValue (MeansAt e named.0) k.fraction z (map (wanted_in e v) c.arguments) p) (sym value_is) asked in
    let head : HeadMeans e v k.fraction (Of (Applied h.value)) c.arguments p = (named.0, applied) in
    record {
      fraction = k.fraction;
      share = ap (value_in e v) (sym h.one_share) ∙ k.share;
      positive = k.positive;
      head = subst (λ z. HeadMeans e v k.fraction z c.arguments p) (sym h.applied_head) head;
    }

replaces_mean : (e : Environment) (v : Valuation) (c d : SymbolicChunk) → ((q : Part) → ChunkMeans e v c q → ChunkMeans e v d q) → {cs ds : List SymbolicChunk} → Replaces c d cs ds → (p : Part) → ChunksMean e v cs p → ChunksMean e v ds p
replaces_mean e v c d f replaces_here p k = (k.0, k.1, k.2, f k.0 k.3, k.4)
replaces_mean e v c d f (replaces_later t) p k = (k.0, k.1, k.2, k.3, replaces_mean e v c d f t k.1 k.4)

-- ---- changes
change_stands : (e : Environment) (v : Valuation) {st new : SymbolicState} → Change e st new → (locals : List (Option Value)) (names : Valuation) (p : Part) → StandsFor e v st locals names p → StandsFor e v new locals names p
change_stands e v (learns {st} f h) locals names p m = assuming_all_stands e v st locals names p (f ∷ []) (h.by v m.path, tt) m
change_stands e v (merges {st} cs facts t) locals names p m =
    let r = merges_mean e v st.path facts t m.path p m.chunks_mean in
    assuming_all_stands e v (with_chunks st cs) locals names p facts r.0 (record { path = m.path; locals_mean = m.locals_mean; names_mean = m.names_mean; chunks_mean = r.1 })
change_stands e v (names_value {st} c d cs h t) locals names p m =
    record { path = m.path; locals_mean = m.locals_mean; names_mean = m.names_mean; chunks_mean = replaces_mean e v c d (λ q k. renamed_there e v st.path c d h m.path q k) t p m.chunks_mean }
change_stands e v (makes_value {st} c d cs h t) locals names p m =
    record { path = m.path; locals_mean = m.locals_mean; names_mean = m.names_mean; chunks_mean = replaces_mean e v c d (λ q k. renamed_back e v st.path d c h m.path q k) t p m.chunks_mean }

pub changes_stand : (e : Environment) (v : Valuation) {st new : SymbolicState} → Changes e st new → (locals : List (Option Value)) (names : Valuation) (p : Part) → StandsFor e v st locals names p → StandsFor e v new locals names p
changes_stand e v no_change locals names p m = m
changes_stand e v (and_change c cs) locals names p m = changes_stand e v cs locals names p (change_stands e v c locals names p m)
