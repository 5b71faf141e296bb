-- A chunk that fits what is wanted satisfies it.
use Rattle.std.proofs.Common.{◌≡◌, ℕ, ◌+◌, ◌*◌, ◌<◌, List, [], ◌∷◌, ◌++◌, map, slice_get, Option, Some, None, refl, sym, ap, ap₂, subst, ◌∙◌, inl, inr, ⊎_elim, arith}
use Rattle.std.proofs.lemmas.Bool.{cases_eq}
use Rattle.vf_tree.specs.Core.{Identity, ProgramTree}
use Rattle.vf_model.specs.Values.{Dyadic, Value, Values}
use Rattle.vf_model.specs.Values as values
use Rattle.vf_meaning.specs.Fractions.{nought, product, units, exponent, IsPositive}
use Rattle.vf_meaning.specs.Ghost.{Sort, Name, Numbered, Result, This, CurrentThread, Fraction}
use Rattle.vf_meaning.specs.Valuations.{Valuation, listed, fraction_in}
use Rattle.vf_meaning.specs.GhostValues.{shared, value_of}
use Rattle.vf_meaning.specs.Assertions.{PatternTree, Is, Names, Wild, Head, BlockOf, Named, Family, Applied, BodyName, Environment}
use Rattle.vf_meaning.specs.Sorts.{HasSort}
use Rattle.vf_meaning.specs.Parts.{Part}
use Rattle.vf_meaning.specs.Chunks.{product_if, times_names, fraction_of, Wanted, Just, wanted, Meets, AllMeet, CellMeets, RowMeets, Primitive, Mutexes, HeldMutexes, Handles, IntBlocks, IntCells, Others, primitive}
use Rattle.vf_meaning.specs.Chunks as chunks
use Rattle.vf_meaning.specs.Satisfaction.{SatisfiesBody, SatisfiesPrimitive, SatisfiesFamily, SatisfiesValue, SatisfiesHead}
use Rattle.vf_meaning.proofs.Fractions.{counts_in_units, units_positive}
use Rattle.vf_meaning.proofs.Parts.{nought_or_positive}
use Rattle.vf_rules.specs.Terms.{Term, Store, term_named, term_of, stored, times_terms, AreBound}
use Rattle.vf_rules.specs.States.{Fact, OfSort, SymbolicChunk, SymbolicState, meaning, value_in, IsMet, wanted_in, StoreMeans, Entails}
use Rattle.vf_rules.specs.States as states
use Rattle.vf_rules.specs.Produce.{facts_of_sort, facts_of_name}
use Rattle.vf_rules.specs.Consume.{EntailsAll, ConsumePatterns}
use Rattle.vf_rules.proofs.Terms.{bound_value, bound_named, stored_own, stored_other, stored_grows, grown_means}
use Rattle.vf_rules.specs.Laws.{Grows, StoreSorted}
use Rattle.vf_rules.proofs.Takes.{same_value}

-- ---- what is asked may be less than what is known
abbrev pub Weaker : Wanted → Wanted → Type 0
Weaker w (Just b) = w ≡ Just b
Weaker w chunks.Anything = Unit {0}

abbrev pub AllWeaker : List Wanted → List Wanted → Type 0
AllWeaker [] [] = Unit {0}
AllWeaker (w ∷ ws) (u ∷ us) = Weaker w u × AllWeaker ws us
AllWeaker _ _ = ⊥

meets_less : (w u : Wanted) (x : Value) → Weaker w u → Meets w x → Meets u x
meets_less w (Just b) x h m = subst (λ z. Meets z x) h m
meets_less w chunks.Anything x h m = tt

pub cell_less : (w u : Wanted) (held : Option Value) → Weaker w u → CellMeets w held → CellMeets u held
cell_less w (Just b) held h m = subst (λ z. CellMeets z held) h m
cell_less w chunks.Anything held h m = tt

row_less : (w u : Wanted) (row : List (Option Value)) → Weaker w u → RowMeets w row → RowMeets u row
row_less w (Just b) row h m = subst (λ z. RowMeets z row) h m
row_less w chunks.Anything row h m = tt

all_less : (ws us : List Wanted) (xs : List Value) → AllWeaker ws us → AllMeet ws xs → AllMeet us xs
all_less [] [] xs h m = m
all_less [] (u ∷ us) xs h m = absurd h
all_less (w ∷ ws) [] xs h m = absurd h
all_less (w ∷ ws) (u ∷ us) [] h m = absurd m
all_less (w ∷ ws) (u ∷ us) (x ∷ xs) h m = (meets_less w u x h.0 m.0, all_less ws us xs h.1 m.1)

weaker_own : (w : Wanted) → Weaker w w
weaker_own (Just b) = refl
weaker_own chunks.Anything = tt

weaker_behind : (front ws us : List Wanted) → AllWeaker ws us → AllWeaker (front ++ ws) (front ++ us)
weaker_behind [] ws us h = h
weaker_behind (f ∷ front) ws us h = (weaker_own f, weaker_behind front ws us h)

module _ (M : Dyadic → BodyName → Values → Part → Type 0) where
  body_less : (x : Dyadic) (b : BodyName) (ws us : List Wanted) (p : Part) → AllWeaker ws us → SatisfiesBody M x b ws p → SatisfiesBody M x b us p
  body_less x b ws us p h m = (m.0, all_less ws us (listed m.0) h m.1, m.2)

  ints_less : (x : Dyadic) (ws us : List Wanted) (p : Part) → AllWeaker ws us → chunks.IsInts x ws p → chunks.IsInts x us p
  ints_less x (a ∷ b ∷ c ∷ []) (a' ∷ b' ∷ c' ∷ []) p h m = (m.0, m.1, meets_less a a' m.0 h.0 m.2, meets_less b b' _ (h.1).0 m.3, row_less c c' m.1 ((h.1).1).0 m.4, m.5)
  ints_less x [] us p h m = absurd m
  ints_less x (a ∷ []) us p h m = absurd m
  ints_less x (a ∷ b ∷ []) us p h m = absurd m
  ints_less x (a ∷ b ∷ c ∷ d ∷ ws) us p h m = absurd m
  ints_less x (a ∷ b ∷ c ∷ []) [] p h m = absurd h
  ints_less x (a ∷ b ∷ c ∷ []) (a' ∷ []) p h m = absurd h.1
  ints_less x (a ∷ b ∷ c ∷ []) (a' ∷ b' ∷ []) p h m = absurd (h.1).1
  ints_less x (a ∷ b ∷ c ∷ []) (a' ∷ b' ∷ c' ∷ d' ∷ us) p h m = absurd ((h.1).1).1

  primitive_less : (k : Primitive) (x : Dyadic) (q : Identity) (ws us : List Wanted) (p : Part) → AllWeaker ws us → SatisfiesPrimitive M k x q ws p → SatisfiesPrimitive M k x q us p
  primitive_less Mutexes x q ws us p h m = record { block = m.block; invariant = m.invariant; meet = all_less ws us _ h m.meet; owns = m.owns }
  primitive_less HeldMutexes x q ws us p h m = record { block = m.block; invariant = m.invariant; holder = m.holder; given = m.given; meet = all_less ws us _ h m.meet; owns = m.owns }
  primitive_less Handles x q ws us p h m = record { block = m.block; run = m.run; argument = m.argument; info = m.info; meet = all_less ws us _ h m.meet; owns = m.owns }
  primitive_less IntBlocks x q ws us p h m = record { block = m.block; size = m.size; meet = all_less ws us _ h m.meet; owns = m.owns }
  primitive_less IntCells x q ws us p h m = ints_less x ws us p h m
  primitive_less Others x q ws us p h m = body_less x _ ws us p h m

  family_less : (x : Dyadic) (q : Identity) (w : Value) (ws us : List Wanted) (p : Part) → AllWeaker ws us → SatisfiesFamily M x q w ws p → SatisfiesFamily M x q w us p
  family_less x q (values.Function g) ws us p h m = body_less x _ ws us p h m
  family_less x q _ ws us p h m = absurd m

  value_less : (x : Dyadic) (w : Value) (ws us : List Wanted) (p : Part) → AllWeaker ws us → SatisfiesValue M x w ws p → SatisfiesValue M x w us p
  value_less x (values.Predicate q first) ws us p h m = primitive_less (primitive q) x q _ _ p (weaker_behind (map (λ u. Just u) (listed first)) ws us h) m
  value_less x _ ws us p h m = absurd m

  pub head_less : (i : _) (s x : Dyadic) (head : Head) (v : Valuation) (ws us : List Wanted) (p : Part) → AllWeaker ws us → SatisfiesHead M i s x head v ws p → SatisfiesHead M i s x head v us p
  head_less i s x (BlockOf g) v ws us p h m = record { block = m.block; meet = all_less ws us _ h m.meet; owns = m.owns }
  head_less i s x (Named q) v ws us p h m = primitive_less (primitive q) x q ws us p h m
  head_less i s x (Family q t) v ws us p h m = family_less x q (value_of i v t) ws us p h m
  head_less i s x (Applied t) v ws us p h m = value_less x (value_of i v t) ws us p h m

-- ---- stores whose terms have the sorts of the names
pub entailed : (e : Environment) (path : List Fact) (fs : List Fact) → EntailsAll e path fs → (v : Valuation) → states.Meets e v path → states.Meets e v fs
entailed e path [] h v m = tt
entailed e path (f ∷ fs) h v m = ((h.0).by v m, entailed e path fs h.1 v m)

some_same : {A : Type 0} {x y : A} → Some x ≡ Some y → x ≡ y
some_same e = cc

none_some : {A B : Type 0} {x : A} → None ≡ Some x → B
none_some e = cc

sort_is : (e : Environment) (v : Valuation) (o : Option Sort) (t : Term) (so : Sort) → states.Meets e v (facts_of_sort o t) → o ≡ Some so → HasSort e (value_in e v t) so
sort_is e v None t so h is = none_some is
sort_is e v (Some s) t so h is = subst (λ z. HasSort e (value_in e v t) z) (some_same is) h.0

pub stored_sorted : (e : Environment) (v : Valuation) (sorts : List Sort) (s : Store) (x : Name) (t : Term) → StoreSorted e v sorts s → states.Meets e v (facts_of_name sorts x t) → s x ≡ None → StoreSorted e v sorts (stored s x t)
stored_sorted e v sorts s (Numbered j) t h m unbound k so u is known =
    ⊎_elim
    (λ same. let e1 = subst (λ z. stored s (Numbered j) t (Numbered z) ≡ Some u) same is in
    let own : t ≡ u = some_same (sym (stored_own s (Numbered j) t) ∙ e1) in
    subst (λ z. HasSort e (value_in e v z) so) own (sort_is e v (slice_get sorts j) t so m (subst (λ z. slice_get sorts z ≡ Some so) same known)))
    (λ other. h k so u (sym (stored_other s (Numbered j) (Numbered k) t (λ same. other (number_same same))) ∙ is) known)
    (cases_eq k j)
  where
    number_same : {a b : ℕ} → Numbered a ≡ Numbered b → a ≡ b
    number_same e = cc
stored_sorted e v sorts s Result t h m unbound k so u is known = h k so u (sym (stored_other s Result (Numbered k) t (λ same. clash same)) ∙ is) known
  where
    clash : Numbered k ≡ Result → ⊥
    clash e = cc
stored_sorted e v sorts s This t h m unbound k so u is known = h k so u (sym (stored_other s This (Numbered k) t (λ same. clash same)) ∙ is) known
  where
    clash : Numbered k ≡ This → ⊥
    clash e = cc
stored_sorted e v sorts s CurrentThread t h m unbound k so u is known = h k so u (sym (stored_other s CurrentThread (Numbered k) t (λ same. clash same)) ∙ is) known
  where
    clash : Numbered k ≡ CurrentThread → ⊥
    clash e = cc

-- ---- patterns
pub record PatternsFit (e : Environment) (sorts : List Sort) (K : Store → Type 0) (v : Valuation) (s : Store) (ps : List PatternTree) (ts : List (Option Term)) : Type 0 where
  pub store : Store
  pub holds : K store
  pub grows : Grows s store
  pub sorted : StoreSorted e v sorts store
  pub asked : (w : Valuation) → StoreMeans e v store w → AllWeaker (map (wanted_in e v) ts) (map (wanted (meaning e) w) ps)

pub patterns_fit : (e : Environment) (prog : ProgramTree) (sorts : List Sort) (scale : Term) (path : List Fact) (ps : List PatternTree) (ts : List (Option Term)) (s : Store) (K : Store → Type 0)
    → ConsumePatterns e prog sorts scale path ps ts s K → (v : Valuation) → states.Meets e v path → StoreSorted e v sorts s → PatternsFit e sorts K v s ps ts
patterns_fit e prog sorts scale path [] [] s K k v m so = record { store = s; holds = k; grows = λ x t h. h; sorted = so; asked = λ w means. tt }
patterns_fit e prog sorts scale path [] (t ∷ ts) s K k v m so = absurd k
patterns_fit e prog sorts scale path (Is x ∷ ps) [] s K k v m so = absurd k
patterns_fit e prog sorts scale path (Is x ∷ ps) (None ∷ ts) s K k v m so = absurd k
patterns_fit e prog sorts scale path (Is x ∷ ps) (Some t ∷ ts) s K k v m so =
    let r = patterns_fit e prog sorts scale path ps ts s K k.2 v m so in
    record {
      store = r.store;
      holds = r.holds;
      grows = r.grows;
      sorted = r.sorted;
      asked = λ w means. (ap Just (sym (same_value e v (term_of s x) t ((k.1).by v m)) ∙ bound_value e v s w x k.0 (grown_means e v s r.store w r.grows means)), r.asked w means);
    }
patterns_fit e prog sorts scale path (Names x ∷ ps) [] s K k v m so = absurd k
patterns_fit e prog sorts scale path (Names x ∷ ps) (None ∷ ts) s K k v m so = absurd k
patterns_fit e prog sorts scale path (Names x ∷ ps) (Some t ∷ ts) s K k v m so =
    let r = patterns_fit e prog sorts scale path ps ts (stored s x t) K k.2 v m (stored_sorted e v sorts s x t so (entailed e path _ k.1 v m) k.0) in
    record {
      store = r.store;
      holds = r.holds;
      grows = λ y u h. r.grows y u (stored_grows s x t k.0 y u h);
      sorted = r.sorted;
      asked = λ w means. (ap Just (means x t (r.grows x t (stored_own s x t))), r.asked w means);
    }
patterns_fit e prog sorts scale path (Wild ∷ ps) [] s K k v m so = absurd k
patterns_fit e prog sorts scale path (Wild ∷ ps) (t ∷ ts) s K k v m so =
    let r = patterns_fit e prog sorts scale path ps ts s K k v m so in
    record { store = r.store; holds = r.holds; grows = r.grows; sorted = r.sorted; asked = λ w means. (tt, r.asked w means) }

-- ---- shares
fraction_same : {x y : Dyadic} → values.Fraction x ≡ values.Fraction y → x ≡ y
fraction_same e = cc

number_fraction : {z : _} {x : Dyadic} {A : Type 0} → values.Number z ≡ values.Fraction x → A
number_fraction e = cc

-- both factors of a product that is a fraction are fractions
pub both_fractions : (a b : Value) (x : Dyadic) → shared a b ≡ values.Fraction x → (c : Dyadic) × (d : Dyadic) × (a ≡ values.Fraction c) × (b ≡ values.Fraction d) × (product c d ≡ x)
both_fractions (values.Fraction c) (values.Fraction d) x h = (c, d, refl, refl, fraction_same h)
both_fractions (values.Fraction c) (values.Number z) x h = number_fraction h
both_fractions (values.Fraction c) (values.Truth b) x h = number_fraction h
both_fractions (values.Fraction c) values.Null x h = number_fraction h
both_fractions (values.Fraction c) (values.Pointer b o) x h = number_fraction h
both_fractions (values.Fraction c) (values.Function g) x h = number_fraction h
both_fractions (values.Fraction c) (values.Constructed g vs) x h = number_fraction h
both_fractions (values.Fraction c) (values.Predicate g vs) x h = number_fraction h
both_fractions (values.Number z) b x h = number_fraction h
both_fractions (values.Truth z) b x h = number_fraction h
both_fractions values.Null b x h = number_fraction h
both_fractions (values.Pointer z o) b x h = number_fraction h
both_fractions (values.Function g) b x h = number_fraction h
both_fractions (values.Constructed g vs) b x h = number_fraction h
both_fractions (values.Predicate g vs) b x h = number_fraction h

of_fraction : (w : Value) (x : Dyadic) → w ≡ values.Fraction x → fraction_in w ≡ Some x
of_fraction w x h = ap fraction_in h

pub times_back : (e : Environment) (v : Valuation) (s : Store) (w : Valuation) (d : Dyadic) (ys : List Name) (x : Dyadic) → AreBound s ys → StoreMeans e v s w
    → value_in e v (times_terms s (Fraction d) ys) ≡ values.Fraction x → times_names w d ys ≡ Some x
times_back e v s w d [] x b means h = ap Some (fraction_same h)
times_back e v s w d (y ∷ ys) x b means h =
    let parts = both_fractions (value_in e v (times_terms s (Fraction d) ys)) (value_in e v (term_named s y)) x h in
    ap₂ product_if (times_back e v s w d ys parts.0 b.1 means parts.2) (of_fraction (w y) parts.1 (sym (bound_named e v s w y means b.0) ∙ parts.3)) ∙ ap Some parts.4

-- a factor of a positive product is positive
units_none : (s : ℕ) → units nought s ≡ 0
unfolding units
units_none s = omega arith

times_none : (a b : ℕ) → b ≡ 0 → a * b ≡ 0
times_none a b h = rw h (omega arith)

not_below : (a : ℕ) → a ≡ 0 → 0 < a → ⊥
not_below a h l = omega (arith, h, l)

regroup : (a b d : ℕ) → a + b + d ≡ a + (b + d)
regroup a b d = omega arith

vanishes : (c x : Dyadic) → x ≡ nought → units (product c x) (exponent c + exponent x + exponent (product c x)) ≡ 0
vanishes c x none =
    ap (λ n. units (product c x) n) (regroup (exponent c) (exponent x) (exponent (product c x)))
    ∙ (counts_in_units.1) c x (exponent c) (exponent x + exponent (product c x)) (omega arith) (omega arith)
    ∙ times_none (units c (exponent c)) (units x (exponent x + exponent (product c x))) (ap (λ z. units z (exponent x + exponent (product c x))) none ∙ units_none (exponent x + exponent (product c x)))

pub positive_factor : (c x : Dyadic) → IsPositive (product c x) → IsPositive x
positive_factor c x h =
    elim (nought_or_positive x) [
      | inl none ↦ absurd (not_below (units (product c x) (exponent c + exponent x + exponent (product c x))) (vanishes c x none) (units_positive (product c x) _ h))
      | inr yes1 ↦ yes1
    ]
