-- Coming to a loop's head keeps what a state stands for.
use Rattle.std.proofs.Common.{◌≡◌, ◌≢◌, ℕ, zero, suc, Bool, true, false, cond, List, [], ◌∷◌, length, slice_get, Option, Some, None, refl, sym, ap, subst, subst₂, ◌∙◌, arith}
use Rattle.std.specs.Prelude.{IsTrue}
use Rattle.vf_base.specs.declared.int_type.IntType.{IntType}
use Rattle.vf_tree.specs.Core.{Void, Integer, PointerToVoid, PointerToInt, PointerToStruct, PointerToFunction, LessEqual}
use Rattle.vf_model.specs.Values.{Value}
use Rattle.vf_model.specs.Values as values
use Rattle.vf_model.specs.Integers.{least, greatest}
use Rattle.vf_meaning.specs.Fractions.{whole, IsPositive}
use Rattle.vf_meaning.specs.Ghost.{Sort, Truths, Integers, Pointers, Name, Numbered, Number, Compare, Fraction}
use Rattle.vf_meaning.specs.Valuations.{Valuation, is_true, bound}
use Rattle.vf_meaning.specs.GhostValues.{compared}
use Rattle.vf_meaning.specs.Names.{Uses}
use Rattle.vf_meaning.specs.Assertions.{Environment}
use Rattle.vf_meaning.specs.Sorts.{HasSort}
use Rattle.vf_meaning.specs.Parts.{Part}
use Rattle.vf_meaning.proofs.Values.{agreed}
use Rattle.vf_rules.specs.Terms.{Term, Store}
use Rattle.vf_rules.specs.States.{Fact, Holds, OfSort, meaning, value_in, Meets, ChunksMean, LocalsMean, StoreMeans, StandsFor}
use Rattle.vf_rules.specs.Fresh.{symbol}
use Rattle.vf_rules.specs.Types.{is_bool, facts_of_integer}
use Rattle.vf_rules.specs.Consume.{EntailsAll}
use Rattle.vf_rules.specs.Laws.{IsAmong, StoreSorted}
use Rattle.vf_rules.specs.Loops.{Known, OfLocal, OfGhost, facts_of_known, Changing, facts_of_changing, Loop, before_invariant, IsFreeOf, Comes, LocalsCome, Arrives, AreNamesSorted}
use Rattle.vf_rules.specs.LoopLaws.{EnteringKeeps}
use Rattle.vf_rules.proofs.Terms.{fresh_store, other_symbol, own_symbol}
use Rattle.vf_rules.proofs.Stands.{meets_fresh, chunks_fresh, meets_more}
use Rattle.vf_rules.proofs.Produces.{produced, typed_left}
use Rattle.vf_rules.proofs.Consumes.{consumed}
use Rattle.vf_rules.proofs.Opening.{completed, completed_means, completed_sorted}

some_same : {A : Type 0} {x y : A} → Some x ≡ Some y → x ≡ y
some_same e = cc

none_some : {A B : Type 0} {x : A} → None ≡ Some x → B
none_some e = cc

-- ---- facts of a term hang on its value alone
integer_moved : (e : Environment) (u v : Valuation) (type : IntType) (a b : Term) → value_in e u a ≡ value_in e v b → (o : Bool) → is_bool type ≡ o → Meets e u (facts_of_integer type a) → Meets e v (facts_of_integer type b)
integer_moved e u v type a b same true is m =
    let h = subst (λ z. Meets e u (cond z (OfSort a Truths ∷ []) (OfSort a Integers ∷ Holds (Compare LessEqual (Number (least type)) a) ∷ Holds (Compare LessEqual a (Number (greatest type))) ∷ []))) is m in
    subst (λ z. Meets e v (cond z (OfSort b Truths ∷ []) (OfSort b Integers ∷ Holds (Compare LessEqual (Number (least type)) b) ∷ Holds (Compare LessEqual b (Number (greatest type))) ∷ []))) (sym is)
    (subst (λ w. HasSort e w Truths) same h.0, tt)
integer_moved e u v type a b same false is m =
    let h = subst (λ z. Meets e u (cond z (OfSort a Truths ∷ []) (OfSort a Integers ∷ Holds (Compare LessEqual (Number (least type)) a) ∷ Holds (Compare LessEqual a (Number (greatest type))) ∷ []))) is m in
    subst (λ z. Meets e v (cond z (OfSort b Truths ∷ []) (OfSort b Integers ∷ Holds (Compare LessEqual (Number (least type)) b) ∷ Holds (Compare LessEqual b (Number (greatest type))) ∷ []))) (sym is) (
      subst (λ w. HasSort e w Integers) same h.0,
      (
        subst (λ w. IsTrue (is_true (values.Truth (compared LessEqual (values.Number (least type)) w)))) same (h.1).0,
        (subst (λ w. IsTrue (is_true (values.Truth (compared LessEqual w (values.Number (greatest type)))))) same ((h.1).1).0, tt),
      ),
    )

known_moved : (e : Environment) (u v : Valuation) (known : Known) (a b : Term) → value_in e u a ≡ value_in e v b → Meets e u (facts_of_known known a) → Meets e v (facts_of_known known b)
known_moved e u v (OfLocal Void) a b same m = tt
known_moved e u v (OfLocal (Integer type)) a b same m = integer_moved e u v type a b same (is_bool type) refl m
known_moved e u v (OfLocal PointerToVoid) a b same m = (subst (λ w. HasSort e w Pointers) same m.0, tt)
known_moved e u v (OfLocal PointerToInt) a b same m = (subst (λ w. HasSort e w Pointers) same m.0, tt)
known_moved e u v (OfLocal (PointerToStruct g)) a b same m = (subst (λ w. HasSort e w Pointers) same m.0, tt)
known_moved e u v (OfLocal (PointerToFunction g)) a b same m = (subst (λ w. HasSort e w Pointers) same m.0, tt)
known_moved e u v (OfGhost sort) a b same m = (subst (λ w. HasSort e w sort) same m.0, tt)

entailed : (e : Environment) (v : Valuation) (path fs : List Fact) → EntailsAll e path fs → Meets e v path → Meets e v fs
entailed e v path [] h m = tt
entailed e v path (f ∷ fs) h m = ((h.0).by v m, entailed e v path fs h.1 m)

-- ---- the symbols of what a loop changes get the values that now stand for them
rebound : (e : Environment) → Valuation → List Changing → List Term → Valuation
rebound e v [] ts = v
rebound e v (c ∷ cs) [] = v
rebound e v (c ∷ cs) (t ∷ ts) = bound (rebound e v cs ts) (Numbered c.number) (value_in e v t)

-- a name is none of these symbols
abbrev IsOther : List Changing → Name → Type 0
IsOther cs x = (j : ℕ) (c : Changing) → slice_get cs j ≡ Some c → x ≢ Numbered c.number

other_later : (c : Changing) (cs : List Changing) (x : Name) → IsOther (c ∷ cs) x → IsOther cs x
other_later c cs x h j d is = h (suc j) d is

rebound_other : (e : Environment) (v : Valuation) (cs : List Changing) (ts : List Term) (x : Name) → IsOther cs x → rebound e v cs ts x ≡ v x
unfolding rebound
rebound_other e v [] ts x h = refl
rebound_other e v (c ∷ cs) [] x h = refl
rebound_other e v (c ∷ cs) (t ∷ ts) x h = other_symbol (rebound e v cs ts) c.number (value_in e v t) x (h 0 c refl) ∙ rebound_other e v cs ts x (other_later c cs x h)

-- no two of them are one symbol
abbrev AreDistinct : List Changing → Type 0
AreDistinct cs = (i j : ℕ) (c d : Changing) → slice_get cs i ≡ Some c → slice_get cs j ≡ Some d → c.number ≡ d.number → i ≡ j

distinct_later : (c : Changing) (cs : List Changing) → AreDistinct (c ∷ cs) → AreDistinct cs
distinct_later c cs h i j a b is_a is_b same = less (h (suc i) (suc j) a b is_a is_b same)
  where
    less : {i j : ℕ} → suc i ≡ suc j → i ≡ j
    less k = omega (arith, k)

same_number : (i j : ℕ) → Numbered i ≡ Numbered j → i ≡ j
same_number i j h = cc

rebound_own : (e : Environment) (v : Valuation) (cs : List Changing) (ts : List Term) → AreDistinct cs → (j : ℕ) (c : Changing) (t : Term) → slice_get cs j ≡ Some c → slice_get ts j ≡ Some t → rebound e v cs ts (Numbered c.number) ≡ value_in e v t
unfolding rebound
rebound_own e v [] ts d j c t is now = none_some is
rebound_own e v (b ∷ cs) [] d j c t is now = none_some now
rebound_own e v (b ∷ cs) (s ∷ ts) d zero c t is now =
    subst₂ (λ (k : Changing) (z : Term). bound (rebound e v cs ts) (Numbered b.number) (value_in e v s) (Numbered k.number) ≡ value_in e v z) (some_same is) (some_same now) (own_symbol (rebound e v cs ts) b.number (value_in e v s))
rebound_own e v (b ∷ cs) (s ∷ ts) d (suc j) c t is now =
    other_symbol (rebound e v cs ts) b.number (value_in e v s) (Numbered c.number) (λ h. zero_suc (d 0 (suc j) b c refl is (sym (same_number c.number b.number h))))
    ∙ rebound_own e v cs ts (distinct_later b cs d) j c t is now
  where
    zero_suc : {j : ℕ} → zero ≡ suc j → ⊥
    zero_suc h = cc

-- ---- what holds under the new values
module _ (e : Environment) (v : Valuation) (cs : List Changing) (ts : List Term) where
  free_value : (t : Term) → ((j : ℕ) (c : Changing) → slice_get cs j ≡ Some c → Uses t (Numbered c.number) → ⊥) → value_in e (rebound e v cs ts) t ≡ value_in e v t
  free_value t h = agreed (meaning e) (rebound e v cs ts) v t (λ x used. rebound_other e v cs ts x (λ j c is same. h j c is (subst (λ z. Uses t z) same used)))

  comes_value : AreDistinct cs → (t u : Term) → Comes cs ts t u → value_in e (rebound e v cs ts) t ≡ value_in e v u
  comes_value d t u (Comes.kept_term w free) = free_value w free
  comes_value d t u (Comes.changed_term j c w is now) = rebound_own e v cs ts d j c w is now

  locals_come : AreDistinct cs → (head now : List (Option Term)) (locals : List (Option Value)) → LocalsCome cs ts head now → LocalsMean e v now locals → LocalsMean e (rebound e v cs ts) head locals
  locals_come d [] [] [] h m = tt
  locals_come d [] [] (x ∷ xs) h m = m
  locals_come d [] (u ∷ us) locals h m = absurd h
  locals_come d (None ∷ hs) [] locals h m = absurd h
  locals_come d (None ∷ hs) (None ∷ us) [] h m = m
  locals_come d (None ∷ hs) (None ∷ us) (x ∷ xs) h m = locals_come d hs us xs h m
  locals_come d (None ∷ hs) (Some u ∷ us) [] h m = m
  locals_come d (None ∷ hs) (Some u ∷ us) (x ∷ xs) h m = locals_come d hs us xs h m.1
  locals_come d (Some t ∷ hs) [] locals h m = absurd h
  locals_come d (Some t ∷ hs) (None ∷ us) locals h m = absurd h
  locals_come d (Some t ∷ hs) (Some u ∷ us) [] h m = m
  locals_come d (Some t ∷ hs) (Some u ∷ us) (x ∷ xs) h m = (m.0 ∙ ap Some (sym (comes_value d t u h.0)), locals_come d hs us xs h.1 m.1)

  facts_come : AreDistinct cs → (path : List Fact) → ((j : ℕ) (c : Changing) (t : Term) → slice_get cs j ≡ Some c → slice_get ts j ≡ Some t → EntailsAll e path (facts_of_known c.known t)) → Meets e v path → length ts ≡ length cs
      → (ds : List Changing) (us : List Term) → length us ≡ length ds → ((j : ℕ) (c : Changing) → slice_get ds j ≡ Some c → (i : ℕ) × (slice_get cs i ≡ Some c) × (slice_get us j ≡ slice_get ts i)) → Meets e (rebound e v cs ts) (facts_of_changing ds)
  facts_come d path known m long [] us l at = tt
  facts_come d path known m long (c ∷ ds) [] l at = absurd (none_there l)
    where
      none_there : {n : ℕ} → zero ≡ suc n → ⊥
      none_there h = cc
  facts_come d path known m long (c ∷ ds) (u ∷ us) l at =
      let (i, is, same) = at 0 c refl in
      let own = rebound_own e v cs ts d i c u is (sym same) in
      meets_more e (rebound e v cs ts) (facts_of_known c.known (symbol c.number)) (facts_of_changing ds)
      (known_moved e v (rebound e v cs ts) c.known u (symbol c.number) (sym own) (entailed e v path (facts_of_known c.known u) (known i c u is (sym same)) m))
      (facts_come d path known m long ds us (one_less l) (λ j b there. at (suc j) b there))
    where
      one_less : {a b : ℕ} → suc a ≡ suc b → a ≡ b
      one_less h = omega (arith, h)

-- what is kept is free of the symbols, one after the other
kept_stands : (e : Environment) (v : Valuation) (loop : Loop) (names : Valuation) (p : Part) (cs : List Changing) (ts : List Term) → ((j : ℕ) (c : Changing) → slice_get cs j ≡ Some c → IsFreeOf c.number loop)
    → Meets e v loop.path → StoreMeans e v loop.names names → ChunksMean e v loop.kept p → Meets e (rebound e v cs ts) loop.path × StoreMeans e (rebound e v cs ts) loop.names names × ChunksMean e (rebound e v cs ts) loop.kept p
unfolding rebound
kept_stands e v loop names p [] ts free m n k = (m, n, k)
kept_stands e v loop names p (c ∷ cs) [] free m n k = (m, n, k)
kept_stands e v loop names p (c ∷ cs) (t ∷ ts) free m n k =
    let (m1, n1, k1) = kept_stands e v loop names p cs ts (λ j d is. free (suc j) d is) m n k in
    let f = free 0 c refl in
    let u = rebound e v cs ts in
    let w = value_in e v t in
    (meets_fresh e u c.number w loop.path f.path m1, fresh_store e u c.number w loop.names names f.names n1, chunks_fresh e u c.number w loop.kept p f.kept k1)

pub store_sorted : (e : Environment) (v : Valuation) (path : List Fact) (sorts : List Sort) (s : Store) → AreNamesSorted e path sorts s → Meets e v path → StoreSorted e v sorts s
store_sorted e v path sorts s h m k so t is known = (h k so t known is).by v m

positive_whole : IsPositive whole
positive_whole = omega arith

pub entering_keeps : EnteringKeeps
entering_keeps e prog loop st made enters locals names v p stands typed =
    let c = consumed e prog loop.sorts (Fraction whole) whole locals names loop.invariant enters.store st (λ s1 st1. Arrives e loop enters.store st1) enters.consumed v p stands
    (store_sorted e v st.path loop.sorts enters.store enters.of_sorts stands.path) refl in
    let a = c.holds in
    let cs = loop.changing in
    let ts = a.now in
    let u = rebound e c.under cs ts in
    let d = made.distinct in
    let k = kept_stands e c.under loop names c.left cs ts made.fresh (entailed e c.under (c.state).path loop.path a.path (c.stands).path) (λ x t is. (c.stands).names_mean x t (a.names x t is))
    (subst (λ z. ChunksMean e c.under z c.left) a.kept (c.stands).chunks_mean) in
    let facts = facts_come e c.under cs ts d (c.state).path a.known (c.stands).path a.number cs ts a.number (λ j b is. (j, is, refl)) in
    let before : StandsFor e u (before_invariant loop) locals names c.left = record {
      path = meets_more e u loop.path (facts_of_changing cs) k.0 facts;
      locals_mean = locals_come e c.under cs ts d loop.locals (c.state).locals locals a.locals (c.stands).locals_mean;
      names_mean = k.1;
      chunks_mean = k.2;
    } in
    let w = completed e c.under loop.sorts made.inhabited c.store in
    let means = completed_means e c.under loop.sorts made.inhabited c.store in
    let head_means : StoreMeans e u loop.store w = λ x t is.
    let there = a.store_comes x t is in
    comes_value e c.under cs ts d t there.0 there.2 ∙ means x there.0 (c.grows x there.0 there.1) in
    let r = produced e prog loop.sorts (Fraction whole) whole c.depth locals names loop.invariant loop.store (before_invariant loop) (IsAmong loop.outs) made.produced u w c.off c.left p before head_means
    (completed_sorted e c.under loop.sorts made.inhabited c.store c.sorted) refl positive_whole (c.satisfies w means) (typed_left e prog c.off c.left p c.sums typed) c.sums in
    record { under = r.under; store = r.store; state = r.state; among = r.holds; stands = r.stands }
