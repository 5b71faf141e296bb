-- Producing an assertion adds to what a state stands for a part that satisfies it.
use Rattle.std.proofs.Common.{◌≡◌, ℕ, ℤ, true, false, cond, not, List, [], ◌∷◌, length, map, Option, Some, None, refl, sym, ap, subst, subst₂, ◌∙◌, inl, inr, arith}
use Rattle.std.specs.Prelude.{IsTrue, ◌≤ℤ◌, int_le}
use Rattle.std.proofs.lemmas.Int.{ints}
use Rattle.std.specs.Bool.{MatchBool}
use Rattle.std.proofs.lemmas.Bool.{cases_Bool}
use Rattle.std.specs.Cmp.Lexicographic.{bytes_decides}
use Rattle.vf_base.specs.declared.int_type.IntType.{IntType}
use Rattle.vf_tree.specs.Core.{Identity, Field, TypeTree, Void, Integer, PointerToVoid, PointerToInt, PointerToStruct, PointerToFunction, ProgramTree, Equal, NotEqual, LessEqual}
use Rattle.vf_model.specs.Integers.{least, greatest, InRange}
use Rattle.vf_model.specs.Values.{Dyadic, Value, Values, same_identity}
use Rattle.vf_model.specs.Values as values
use Rattle.vf_meaning.specs.Fractions.{whole, product, IsPositive}
use Rattle.vf_meaning.specs.Ghost.{Sort, Name, GhostExpression, Null, Not, Compare, Number, Construct, Integers, Pointers, Truths}
use Rattle.vf_meaning.specs.Valuations.{Valuation, is_true, listed, all_bound}
use Rattle.vf_meaning.specs.GhostValues.{compared, value_of, values_of}
use Rattle.vf_meaning.specs.Assertions.{ShareTree, Head, BlockOf, Named, Family, Applied, PatternTree, Names, Assertion, Pure, Empty, Both, Choose, Switch, Cell, Chunk, Branches, no_branches, branch, Environment}
use Rattle.vf_meaning.specs.Sorts.{HasSort, AreOfSorts}
use Rattle.vf_meaning.specs.Parts.{Part, nothing, single, ◌⊕◌, IsSum}
use Rattle.vf_meaning.specs.Parts as parts
use Rattle.vf_meaning.specs.Chunks.{Wanted, Just, wanted, CellMeets, start_of, IsFieldCell}
use Rattle.vf_meaning.specs.Satisfaction.{SatisfiesFamily, SatisfiesValue, SatisfiesHead, SatisfiesBranch, MeansAt, SatisfiesAt}
use Rattle.vf_meaning.proofs.Values.{tells_values}
use Rattle.vf_meaning.proofs.Fractions.{stays_positive}
use Rattle.vf_meaning.proofs.Parts.{sums_turn, sums_regroup, nothing-⊕, in_left, in_right, single_here}
use Rattle.vf_rules.specs.Laws.{Grows}
use Rattle.vf_rules.specs.Terms.{Term, Store, term_of, head_of, IsBound, IsBoundHead}
use Rattle.vf_rules.specs.Terms as terms
use Rattle.vf_rules.specs.States.{Fact, Holds, OfSort, CellOf, Of, SymbolicChunk, SymbolicState, meaning, value_in, IsMet, Meets, wanted_in, ChunkMeans, StoreMeans, StandsFor, assuming, assuming_all, with_chunk}
use Rattle.vf_rules.specs.Types.{IsPointer, is_bool, IsTruth, IsNumberIn, IsOfInteger, IsOfType, facts_of_integer, facts_of_type, type_of_field, IsTypedPart}
use Rattle.vf_rules.specs.Produce.{known, NamesHaveSorts, IsCovered, Given, facts_of_cell, facts_of_chunk, NoArgumentSort, HasArgumentSort, Produce, ProduceBranches, valued_arguments}
use Rattle.vf_rules.proofs.Terms.{bound_value, grown_means}
use Rattle.vf_rules.proofs.Stands.{meets_more, assuming_stands, assuming_all_stands, with_chunk_stands}
use Rattle.vf_rules.proofs.Arguments.{refined_none, head_valued}
use Rattle.vf_rules.proofs.RowLengths.{chunk_met}
use Rattle.vf_rules.proofs.Patterns.{patterns_read, share_read}
use Rattle.vf_rules.proofs.Names.{names_unbound, names_distinct, names_values, names_sorted, names_mean, else_same, asked_of_names, known_values, row_listed}

-- a way on after an assertion, standing for a part
pub record Produced (e : Environment) (K : Store → SymbolicState → Type 0) (v : Valuation) (scale : Term) (s : Store) (locals : List (Option Value)) (names w : Valuation) (r : Part) : Type 0 where
  pub under : Valuation
  pub store : Store
  pub state : SymbolicState
  pub holds : K store state
  pub stands : StandsFor e under state locals names r
  pub means : StoreMeans e under store w
  pub grows : Grows s store
  pub scale_is : value_in e under scale ≡ value_in e v scale

-- ---- parts
nothing_sum : (q p r : Part) → q ≡ nothing → IsSum q p r → r ≡ p
nothing_sum q p r e s = s.adds ∙ ap (λ z. z ⊕ p) e ∙ nothing-⊕ p

stands_at : (e : Environment) (v : Valuation) (st : SymbolicState) (locals : List (Option Value)) (names : Valuation) (p r : Part) → r ≡ p → StandsFor e v st locals names p → StandsFor e v st locals names r
stands_at e v st locals names p r h m = subst (λ z. StandsFor e v st locals names z) (sym h) m

pub typed_left : (e : Environment) (prog : ProgramTree) (p q r : Part) → IsSum p q r → IsTypedPart e prog r → IsTypedPart e prog p
typed_left e prog p q r s h l c x = h l c (in_left p q r s l c x)

pub typed_right : (e : Environment) (prog : ProgramTree) (p q r : Part) → IsSum p q r → IsTypedPart e prog r → IsTypedPart e prog q
typed_right e prog p q r s h l c x = h l c (in_right p q r s l c x)

-- ---- facts
pub true_value : (e : Environment) (v : Valuation) (s : Store) (w : Valuation) (x : _) → IsBound s x → StoreMeans e v s w → IsTrue (is_true (value_of (meaning e) w x)) → IsMet e v (Holds (term_of s x))
true_value e v s w x b m h = subst (λ z. IsTrue (is_true z)) (sym (bound_value e v s w x b m)) h

pub false_value : (e : Environment) (v : Valuation) (s : Store) (w : Valuation) (x : _) → IsBound s x → StoreMeans e v s w → is_true (value_of (meaning e) w x) ≡ false → IsMet e v (Holds (Not (term_of s x)))
false_value e v s w x b m h = subst (λ z. IsTrue (not (is_true z))) (sym (bound_value e v s w x b m)) (ap not h)

module _ (e : Environment) (prog : ProgramTree) (sorts : List Sort) (scale : Term) (locals : List (Option Value)) (names : Valuation) where
  pub given : (st : SymbolicState) (f : Fact) (K : SymbolicState → Type 0) → Given e prog sorts scale st f K → (v : Valuation) (p : Part) → StandsFor e v st locals names p → IsMet e v f → K (assuming st f)
  given st f K k v p m h = elim k [ inl never ↦ absurd (never.by v (meets_more e v st.path (f ∷ []) m.path (h, tt))) | inr go ↦ go ]

-- ---- what is known of a cell
truth_sort : (e : Environment) (w : Value) → IsTruth w → HasSort e w Truths
truth_sort e (values.Truth b) h = inl refl
truth_sort e (values.Number z) h = absurd h
truth_sort e values.Null h = absurd h
truth_sort e (values.Pointer b o) h = absurd h
truth_sort e (values.Function g) h = absurd h
truth_sort e (values.Constructed c vs) h = absurd h
truth_sort e (values.Predicate q vs) h = absurd h
truth_sort e (values.Fraction d) h = absurd h

pointer_sort : (e : Environment) (w : Value) → IsPointer w → HasSort e w Pointers
pointer_sort e values.Null h = inl refl
pointer_sort e (values.Pointer b o) h = inl refl
pointer_sort e (values.Function g) h = inl refl
pointer_sort e (values.Truth b) h = absurd h
pointer_sort e (values.Number z) h = absurd h
pointer_sort e (values.Constructed c vs) h = absurd h
pointer_sort e (values.Predicate q vs) h = absurd h
pointer_sort e (values.Fraction d) h = absurd h

-- the number that a value in range is
number_in : (t : IntType) (w : Value) → IsNumberIn t w → (z : ℤ) × (w ≡ values.Number z) × InRange t z
number_in t (values.Number z) h = (z, refl, h)
number_in t (values.Truth b) h = absurd h
number_in t values.Null h = absurd h
number_in t (values.Pointer b o) h = absurd h
number_in t (values.Function g) h = absurd h
number_in t (values.Constructed c vs) h = absurd h
number_in t (values.Predicate q vs) h = absurd h
number_in t (values.Fraction d) h = absurd h

le_true : (a b : ℤ) → a ≤ℤ b → int_le a b ≡ true
le_true a b l = grind (arith, ints)

range_met : (e : Environment) (v : Valuation) (t : IntType) (x : Term) (w : Value) → value_in e v x ≡ w → IsNumberIn t w
    → Meets e v (OfSort x Integers ∷ Holds (Compare LessEqual (Number (least t)) x) ∷ Holds (Compare LessEqual x (Number (greatest t))) ∷ [])
range_met e v t x w is h =
    let (z, same, range) = number_in t w h in
    let own : value_in e v x ≡ values.Number z = is ∙ same in (
      subst (λ u. HasSort e u Integers) (sym own) (inl refl),
      (
        subst (λ u. IsTrue (compared LessEqual (values.Number (least t)) u)) (sym own) (le_true (least t) z range.0),
        (subst (λ u. IsTrue (compared LessEqual u (values.Number (greatest t)))) (sym own) (le_true z (greatest t) range.1), tt),
      ),
    )

pub integer_met : (e : Environment) (v : Valuation) (t : IntType) (x : Term) (w : Value) → value_in e v x ≡ w → IsOfInteger t w → Meets e v (facts_of_integer t x)
integer_met e v t x w is h =
    elim (cases_Bool (is_bool t)) [
      | inl yes1 ↦ subst (λ b. Meets e v (cond b (OfSort x Truths ∷ []) (OfSort x Integers ∷ Holds (Compare LessEqual (Number (least t)) x) ∷ Holds (Compare LessEqual x (Number (greatest t))) ∷ []))) (sym yes1)
          (subst (λ u. HasSort e u Truths) (sym is) (truth_sort e w (subst (λ b. MatchBool b (IsTruth w) (IsNumberIn t w)) yes1 h)), tt)
      | inr no1 ↦ subst (λ b. Meets e v (cond b (OfSort x Truths ∷ []) (OfSort x Integers ∷ Holds (Compare LessEqual (Number (least t)) x) ∷ Holds (Compare LessEqual x (Number (greatest t))) ∷ []))) (sym no1)
          (range_met e v t x w is (subst (λ b. MatchBool b (IsTruth w) (IsNumberIn t w)) no1 h))
    ]

pub type_met : (e : Environment) (v : Valuation) (t : TypeTree) (x : Term) (w : Value) → value_in e v x ≡ w → IsOfType t w → Meets e v (facts_of_type t x)
type_met e v Void x w is h = tt
type_met e v (Integer t) x w is h = integer_met e v t x w is h
type_met e v PointerToVoid x w is h = (subst (λ u. HasSort e u Pointers) (sym is) (pointer_sort e w h), tt)
type_met e v PointerToInt x w is h = (subst (λ u. HasSort e u Pointers) (sym is) (pointer_sort e w h), tt)
type_met e v (PointerToStruct g) x w is h = (subst (λ u. HasSort e u Pointers) (sym is) (pointer_sort e w h), tt)
type_met e v (PointerToFunction g) x w is h = (subst (λ u. HasSort e u Pointers) (sym is) (pointer_sort e w h), tt)

not_null : (e : Environment) (v : Valuation) (x : Term) (b : ℕ) → value_in e v x ≡ start_of b → IsMet e v (Holds (Compare NotEqual x Null))
not_null e v x b h = subst (λ u. IsTrue (compared NotEqual u values.Null)) (sym h) refl

held_value : (held : Option Value) (u : Value) → CellMeets (Just u) held → held ≡ Some u
held_value held u h = h

-- what is known of a cell is met where its part has its type
cell_met : (e : Environment) (prog : ProgramTree) (v : Valuation) (f : Field) (x : Dyadic) (pointer : Term) (content : Option Term) (q : Part) → IsPositive x
    → IsFieldCell x (value_in e v pointer) f (wanted_in e v content) q → IsTypedPart e prog q
    → Meets e v (facts_of_cell (type_of_field prog f.structure f.index) (Some pointer ∷ content ∷ []))
cell_met e prog v f x pointer content q positive h typed = go (type_of_field prog f.structure f.index) refl content h
  where
    go : (o : Option TypeTree) → type_of_field prog f.structure f.index ≡ o → (content : Option Term) → IsFieldCell x (value_in e v pointer) f (wanted_in e v content) q
        → Meets e v (facts_of_cell o (Some pointer ∷ content ∷ []))
    go None is content h = (not_null e v pointer h.block h.begins, tt)
    go (Some t) is None h = (not_null e v pointer h.block h.begins, tt)
    go (Some t) is (Some c) h =
        let u = value_in e v c in
        let own = subst (λ z. q ≡ single (parts.FieldCell h.block f.structure f.index) (parts.CellOf z) x) h.meets h.owns in
        let there = subst IsPositive (sym (ap (λ z. z (parts.FieldCell h.block f.structure f.index) (parts.CellOf (Some u))) own ∙ single_here (parts.FieldCell h.block f.structure f.index) (parts.CellOf (Some u)) x)) positive in
        (not_null e v pointer h.block h.begins, type_met e v t c u refl (typed (parts.FieldCell h.block f.structure f.index) (parts.CellOf (Some u)) there t is))

-- ---- heads with terms for names
head_at : (e : Environment) (n : ℕ) (c x : Dyadic) (head : Head) (v w : Valuation) (s : Store) (us : List Wanted) (q : Part) → IsBoundHead s head → StoreMeans e v s w
    → SatisfiesHead (MeansAt e n) (meaning e) c x head w us q → SatisfiesHead (MeansAt e n) (meaning e) whole x (head_of s head) v us q
head_at e n c x (BlockOf g) v w s us q b m h = h
head_at e n c x (Named f) v w s us q b m h = h
head_at e n c x (Family f t) v w s us q b m h = subst (λ z. SatisfiesFamily (MeansAt e n) x f z us q) (sym (bound_value e v s w t b m)) h
head_at e n c x (Applied t) v w s us q b m h = subst (λ z. SatisfiesValue (MeansAt e n) x z us q) (sym (bound_value e v s w t b m)) h

-- ---- one argument
nil_one : {a : Wanted} {A : Type 0} → [] ≡ (a ∷ []) → A
nil_one h = cc

two_one : {a b c : Wanted} {ws : List Wanted} {A : Type 0} → (b ∷ c ∷ ws) ≡ (a ∷ []) → A
two_one h = cc

one_same : {a b : Wanted} → (b ∷ []) ≡ (a ∷ []) → b ≡ a
one_same h = cc

pub single_argument : (e : Environment) (v : Valuation) (new : List (Option Term)) (a : Wanted) → map (wanted_in e v) new ≡ (a ∷ []) → (o : Option Term) × (new ≡ o ∷ []) × (wanted_in e v o ≡ a)
single_argument e v [] a h = nil_one h
single_argument e v (o ∷ []) a h = (o, refl, one_same h)
single_argument e v (o ∷ p ∷ ps) a h = two_one h

-- ---- the whole assertion
module _ (e : Environment) (prog : ProgramTree) (sorts : List Sort) (scale : Term) (c : Dyadic) (n : ℕ) (locals : List (Option Value)) (names : Valuation) where
  -- the same way on, for the names that were bound before
  outer : (K : Store → SymbolicState → Type 0) (v : Valuation) (s : Store) (w w' : Valuation) (r : Part) → Produced e (λ s2 st2. K s st2) v scale s locals names w' r
      → StoreMeans e v s w → ((x : Name) (t : Term) → s x ≡ Some t → w' x ≡ w x) → Produced e K v scale s locals names w r
  outer K v s w w' r o m same = record {
    under = o.under;
    store = s;
    state = o.state;
    holds = o.holds;
    stands = o.stands;
    means = λ x t h. o.means x t (o.grows x t h) ∙ same x t h;
    grows = λ x t h. h;
    scale_is = o.scale_is;
  }

  -- a pure part
  pure_produced : (x : GhostExpression) (s : Store) (st : SymbolicState) (K : Store → SymbolicState → Type 0) → Produce e prog sorts scale (Pure x) s st K
      → (v w : Valuation) (q p r : Part) → StandsFor e v st locals names p → StoreMeans e v s w → SatisfiesAt e n c (Pure x) w q → IsSum q p r → Produced e K v scale s locals names w r
  pure_produced x s st K k v w q p r stands means h sums =
      let f = Holds (term_of s x) in
      let met = true_value e v s w x k.0 means h.1 in
      record {
        under = v;
        store = s;
        state = assuming st f;
        holds = given e prog sorts scale locals names st f (K s) k.1 v p stands met;
        stands = stands_at e v (assuming st f) locals names p r (nothing_sum q p r h.0 sums) (assuming_stands e v st locals names p f met stands);
        means = means;
        grows = λ y t g. g;
        scale_is = refl;
      }

  -- a cell
  cell_produced : (share : ShareTree) (pointer : GhostExpression) (f : Field) (x : PatternTree) (s : Store) (st : SymbolicState) (K : Store → SymbolicState → Type 0)
      → Produce e prog sorts scale (Cell share pointer f x) s st K → (v w : Valuation) (q p r : Part) → StandsFor e v st locals names p → StoreMeans e v s w → AreOfSorts e w sorts
      → value_in e v scale ≡ values.Fraction c → IsPositive c → SatisfiesAt e n c (Cell share pointer f x) w q → IsTypedPart e prog q → IsSum q p r → Produced e K v scale s locals names w r
  cell_produced share pointer f x s st K k v w q p r stands means of_sorts scaled above h typed sums =
      let one = share_read e prog sorts scale share s st _ k.1 v locals names w p c h.0 stands means scaled (h.1).is (h.1).positive in
      let fraction = product c h.0 in
      let two = patterns_read e prog sorts scale _ locals names w p of_sorts NoArgumentSort 0 (x ∷ []) one.store one.state (Some one.share ∷ Some (term_of s pointer) ∷ []) one.holds one.under [] (λ j so never. absurd never) one.stands one.means in
      let argument = single_argument e two.under two.new _ (two.new_are ∙ refined_none _ []) in
      let share_is : value_in e two.under one.share ≡ values.Fraction fraction = two.before_are one.share (inl refl) ∙ one.share_is in
      let pointer_is : value_in e two.under (term_of s pointer) ≡ value_of (meaning e) w pointer =
      two.before_are (term_of s pointer) (inr (inl refl)) ∙ bound_value e one.under s w pointer k.0 (grown_means e one.under s one.store w one.grows one.means) in
      let positive = (stays_positive.1) c h.0 above (h.1).positive in
      let owned : IsFieldCell fraction (value_in e two.under (term_of s pointer)) f (wanted_in e two.under argument.0) q =
      subst₂ (λ a b. IsFieldCell fraction a f b q) (sym pointer_is) (sym argument.2) h.2 in
      let chunk : SymbolicChunk = record { share = one.share; head = CellOf f; arguments = Some (term_of s pointer) ∷ argument.0 ∷ [] } in
      let chunk_means : ChunkMeans e two.under chunk q = record { fraction = fraction; share = share_is; positive = positive; head = owned } in
      let facts = facts_of_cell (type_of_field prog f.structure f.index) (Some (term_of s pointer) ∷ argument.0 ∷ []) in
      record {
        under = two.under;
        store = two.store;
        state = assuming_all (with_chunk two.state chunk) facts;
        holds = subst (λ z. K two.store (assuming_all (with_chunk two.state (record { share = one.share; head = CellOf f; arguments = Some (term_of s pointer) ∷ z })) (facts_of_cell (type_of_field prog f.structure f.index) (Some (term_of s pointer) ∷ z)))) argument.1 two.holds;
        stands = assuming_all_stands e two.under (with_chunk two.state chunk) locals names r facts
            (cell_met e prog two.under f fraction (term_of s pointer) argument.0 q positive owned typed)
            (with_chunk_stands e two.under two.state locals names chunk q p r chunk_means sums two.stands);
        means = two.means;
        grows = λ y t g. two.grows y t (one.grows y t g);
        scale_is = two.scale_is ∙ one.scale_is;
      }

  -- a chunk
  chunk_produced : (share : ShareTree) (head : Head) (xs : List PatternTree) (s : Store) (st : SymbolicState) (K : Store → SymbolicState → Type 0)
      → Produce e prog sorts scale (Chunk share head xs) s st K → (v w : Valuation) (q p r : Part) → StandsFor e v st locals names p → StoreMeans e v s w → AreOfSorts e w sorts
      → value_in e v scale ≡ values.Fraction c → IsPositive c → SatisfiesAt e n c (Chunk share head xs) w q → IsTypedPart e prog q → IsSum q p r → Produced e K v scale s locals names w r
  chunk_produced share head xs s st K k v w q p r stands means of_sorts scaled above h typed sums =
      let one = share_read e prog sorts scale share s st _ k.1 v locals names w p c h.0 stands means scaled (h.1).is (h.1).positive in
      let fraction = product c h.0 in
      let valued = head_valued e prog n (meaning e) c (length xs) fraction head w (map (wanted (meaning e) w) xs) q ((stays_positive.1) c h.0 above (h.1).positive) typed h.2 in
      let two = patterns_read e prog sorts scale _ locals names w p of_sorts (HasArgumentSort e head) (valued_arguments head (length xs)) xs one.store one.state (Some one.share ∷ []) one.holds one.under valued.0 valued.2 one.stands one.means in
      let share_is : value_in e two.under one.share ≡ values.Fraction fraction = two.before_are one.share (inl refl) ∙ one.share_is in
      let means_before = grown_means e two.under s two.store w (λ y t g. two.grows y t (one.grows y t g)) two.means in
      let owned = subst (λ us. SatisfiesHead (MeansAt e n) (meaning e) whole fraction (head_of s head) two.under us q) (sym two.new_are)
      (head_at e n c fraction head two.under w s _ q k.0 means_before valued.1) in
      let chunk : SymbolicChunk = record { share = one.share; head = Of (head_of s head); arguments = two.new } in
      record {
        under = two.under;
        store = two.store;
        state = assuming_all (with_chunk two.state chunk) (facts_of_chunk head two.new);
        holds = two.holds;
        stands = assuming_all_stands e two.under (with_chunk two.state chunk) locals names r (facts_of_chunk head two.new)
            (chunk_met e two.under n fraction head s two.new q owned)
            (with_chunk_stands e two.under two.state locals names chunk q p r (record { fraction = fraction; share = share_is; positive = (stays_positive.1) c h.0 above (h.1).positive; head = (n, owned) }) sums two.stands);
        means = two.means;
        grows = λ y t g. two.grows y t (one.grows y t g);
        scale_is = two.scale_is ∙ one.scale_is;
      }

  -- the equation of a branch
  pub constructed_met : (v : Valuation) (t : Term) (f d : Identity) (new : List (Option Term)) (us : Values) → same_identity f d ≡ true → value_in e v t ≡ values.Constructed d us
      → map (wanted_in e v) new ≡ map (λ u. Just u) (listed us) → IsMet e v (Holds (Compare Equal t (Construct f (terms.in_row (known new)))))
  constructed_met v t f d new us same is new_are =
      let arguments : values_of (meaning e) v (terms.in_row (known new)) ≡ us = known_values e v new (listed us) new_are ∙ row_listed us in
      (tells_values (value_in e v t) (values.Constructed f (values_of (meaning e) v (terms.in_row (known new))))).1
      (is ∙ ap (λ z. values.Constructed z us) (sym ((bytes_decides f d).0 same)) ∙ ap (values.Constructed f) (sym arguments))

  mutual
    pub produced : (a : Assertion) (s : Store) (st : SymbolicState) (K : Store → SymbolicState → Type 0) → Produce e prog sorts scale a s st K
        → (v w : Valuation) (q p r : Part) → StandsFor e v st locals names p → StoreMeans e v s w → AreOfSorts e w sorts → value_in e v scale ≡ values.Fraction c → IsPositive c
        → SatisfiesAt e n c a w q → IsTypedPart e prog q → IsSum q p r → Produced e K v scale s locals names w r
    produced (Pure x) s st K k v w q p r stands means of_sorts scaled above h typed sums = pure_produced x s st K k v w q p r stands means h sums
    produced Empty s st K k v w q p r stands means of_sorts scaled above h typed sums =
        record { under = v; store = s; state = st; holds = k; stands = stands_at e v st locals names p r (nothing_sum q p r h sums) stands; means = means; grows = λ y t g. g; scale_is = refl }
    produced (Both a b) s st K k v w q p r stands means of_sorts scaled above h typed sums =
        let middle = sums_regroup h.1 h.0 q p r (sums_turn h.0 h.1 q h.2) sums in
        let one = produced a s st (λ s1 st1. Produce e prog sorts scale b s1 st1 K) k v w h.0 p middle.0 stands means of_sorts scaled above h.3 (typed_left e prog h.0 h.1 q h.2 typed) middle.1 in
        let two = produced b one.store one.state K one.holds one.under w h.1 middle.0 r one.stands one.means of_sorts (one.scale_is ∙ scaled) above h.4 (typed_right e prog h.0 h.1 q h.2 typed) middle.2 in
        record {
          under = two.under;
          store = two.store;
          state = two.state;
          holds = two.holds;
          stands = two.stands;
          means = two.means;
          grows = λ y t g. two.grows y t (one.grows y t g);
          scale_is = two.scale_is ∙ one.scale_is;
        }
    produced (Choose x a b) s st K k v w q p r stands means of_sorts scaled above h typed sums =
        elim (cases_Bool (is_true (value_of (meaning e) w x))) [
          | inl yes1 ↦
              let met = true_value e v s w x k.0 means yes1 in
              outer K v s w w r
              (produced a s (assuming st (Holds (term_of s x))) (λ s2 st2. K s st2) (given e prog sorts scale locals names st (Holds (term_of s x)) (λ st1. Produce e prog sorts scale a s st1 (λ s2 st2. K s st2)) k.1 v p stands met)
              v w q p r (assuming_stands e v st locals names p (Holds (term_of s x)) met stands) means of_sorts scaled above
              (subst (λ t. MatchBool t (SatisfiesAt e n c a w q) (SatisfiesAt e n c b w q)) yes1 h) typed sums)
              means (λ y t g. refl)
          | inr no1 ↦
              let met = false_value e v s w x k.0 means no1 in
              outer K v s w w r
              (produced b s (assuming st (Holds (Not (term_of s x)))) (λ s2 st2. K s st2) (given e prog sorts scale locals names st (Holds (Not (term_of s x))) (λ st1. Produce e prog sorts scale b s st1 (λ s2 st2. K s st2)) k.2 v p stands met)
              v w q p r (assuming_stands e v st locals names p (Holds (Not (term_of s x))) met stands) means of_sorts scaled above
              (subst (λ t. MatchBool t (SatisfiesAt e n c a w q) (SatisfiesAt e n c b w q)) no1 h) typed sums)
              means (λ y t g. refl)
        ]
    produced (Switch x branches) s st K k v w q p r stands means of_sorts scaled above h typed sums =
        branch_produced branches (term_of s x) s st K k.2 v w q p r (value_of (meaning e) w x) (bound_value e v s w x k.0 means) stands means of_sorts scaled above
        (subst (λ z. IsCovered e sorts branches z) (bound_value e v s w x k.0 means) ((k.1).by v stands.path)) h typed sums
    produced (Cell share pointer f x) s st K k v w q p r stands means of_sorts scaled above h typed sums =
        cell_produced share pointer f x s st K k v w q p r stands means of_sorts scaled above h typed sums
    produced (Chunk share head xs) s st K k v w q p r stands means of_sorts scaled above h typed sums =
        chunk_produced share head xs s st K k v w q p r stands means of_sorts scaled above h typed sums

    branch_produced : (bs : Branches) (t : Term) (s : Store) (st : SymbolicState) (K : Store → SymbolicState → Type 0) → ProduceBranches e prog sorts scale bs t s st K
        → (v w : Valuation) (q p r : Part) (u : Value) → value_in e v t ≡ u → StandsFor e v st locals names p → StoreMeans e v s w → AreOfSorts e w sorts → value_in e v scale ≡ values.Fraction c → IsPositive c
        → IsCovered e sorts bs u → SatisfiesBranch (MeansAt e n) (meaning e) c bs u w q → IsTypedPart e prog q → IsSum q p r → Produced e K v scale s locals names w r
    branch_produced no_branches t s st K k v w q p r u is stands means of_sorts scaled above covered h typed sums = absurd h
    branch_produced (branch f xs a rest) t s st K k v w q p r (values.Constructed d us) is stands means of_sorts scaled above covered h typed sums =
        elim (cases_Bool (same_identity f d)) [
          | inl yes1 ↦
              let fitting = subst (λ z. MatchBool z (NamesHaveSorts e sorts xs us) (IsCovered e sorts rest (values.Constructed d us))) yes1 covered in
              let body = subst (λ z. MatchBool z (SatisfiesAt e n c a (all_bound w xs us) q) (SatisfiesBranch (MeansAt e n) (meaning e) c rest (values.Constructed d us) w q)) yes1 h in
              let w' = all_bound w xs us in
              let apart = names_unbound e prog sorts scale _ NoArgumentSort 0 xs s st (Some t ∷ []) k.0 in
              let sorted = names_sorted e sorts w xs us of_sorts fitting in
              let one = patterns_read e prog sorts scale _ locals names w' p sorted NoArgumentSort 0 (map (λ x. Names x) xs) s st (Some t ∷ []) k.0 v [] (λ j so never. absurd never) stands (names_mean e v s w xs us apart means) in
              let new_are = one.new_are ∙ refined_none _ [] ∙ asked_of_names e w' xs ∙ ap (map (λ z. Just z)) (names_values e sorts w xs us (names_distinct e prog sorts scale _ NoArgumentSort 0 xs s st (Some t ∷ []) k.0) fitting) in
              let met = constructed_met one.under t f d one.new us yes1 (one.before_are t (inl refl) ∙ is) new_are in
              let fact = Holds (Compare Equal t (Construct f (terms.in_row (known one.new)))) in
              let two = produced a one.store (assuming one.state fact) (λ s3 st3. K s st3) (given e prog sorts scale locals names one.state fact (λ st2. Produce e prog sorts scale a one.store st2 (λ s3 st3. K s st3)) one.holds one.under p one.stands met)
              one.under w' q p r (assuming_stands e one.under one.state locals names p fact met one.stands) one.means sorted (one.scale_is ∙ scaled) above body typed sums in
              outer K v s w w' r
              (record { under = two.under; store = two.store; state = two.state; holds = two.holds; stands = two.stands; means = two.means; grows = λ y z g. two.grows y z (one.grows y z g); scale_is = two.scale_is ∙ one.scale_is })
              means (λ y z g. else_same w xs us y (apart y z g))
          | inr no1 ↦ branch_produced rest t s st K k.1 v w q p r (values.Constructed d us) is stands means of_sorts scaled above
              (subst (λ z. MatchBool z (NamesHaveSorts e sorts xs us) (IsCovered e sorts rest (values.Constructed d us))) no1 covered)
              (subst (λ z. MatchBool z (SatisfiesAt e n c a (all_bound w xs us) q) (SatisfiesBranch (MeansAt e n) (meaning e) c rest (values.Constructed d us) w q)) no1 h) typed sums
        ]
    branch_produced (branch f xs a rest) t s st K k v w q p r (values.Number z) is stands means of_sorts scaled above covered h typed sums = absurd h
    branch_produced (branch f xs a rest) t s st K k v w q p r (values.Truth z) is stands means of_sorts scaled above covered h typed sums = absurd h
    branch_produced (branch f xs a rest) t s st K k v w q p r values.Null is stands means of_sorts scaled above covered h typed sums = absurd h
    branch_produced (branch f xs a rest) t s st K k v w q p r (values.Pointer b o) is stands means of_sorts scaled above covered h typed sums = absurd h
    branch_produced (branch f xs a rest) t s st K k v w q p r (values.Function g) is stands means of_sorts scaled above covered h typed sums = absurd h
    branch_produced (branch f xs a rest) t s st K k v w q p r (values.Predicate g vs) is stands means of_sorts scaled above covered h typed sums = absurd h
    branch_produced (branch f xs a rest) t s st K k v w q p r (values.Fraction d) is stands means of_sorts scaled above covered h typed sums = absurd h
