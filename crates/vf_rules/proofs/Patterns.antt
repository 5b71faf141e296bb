-- Reading the patterns and the share of a chunk adds new symbols, which have the values that the names stand for.
use Rattle.std.proofs.Common.{◌≡◌, ℕ, zero, suc, ◌-◌, List, [], ◌∷◌, ◌++◌, map, slice_get, Option, Some, None, refl, sym, ap, ap₂, subst, ◌∙◌, inl, arith}
use Rattle.std.proofs.lemmas.List.{append_assoc, append-nil}
use Rattle.vf_tree.specs.Core.{ProgramTree}
use Rattle.vf_model.specs.Values.{Dyadic, Value}
use Rattle.vf_model.specs.Values as values
use Rattle.vf_meaning.specs.Fractions.{product}
use Rattle.vf_meaning.specs.Ghost.{Sort, Fractions, Name, Numbered, Result, This, CurrentThread, Fraction, Share}
use Rattle.vf_meaning.specs.Valuations.{Valuation, fraction_in, bound}
use Rattle.vf_meaning.specs.GhostValues.{shared, value_of}
use Rattle.vf_meaning.specs.Assertions.{ShareTree, Times, Taken, PatternTree, Is, Names, Wild, Environment}
use Rattle.vf_meaning.specs.Sorts.{HasSort, AreOfSorts}
use Rattle.vf_meaning.specs.Parts.{Part}
use Rattle.vf_meaning.specs.Chunks.{product_if, times_names, fraction_of, Wanted, Just, wanted}
use Rattle.vf_meaning.specs.Chunks as chunks
use Rattle.vf_meaning.specs.Fractions.{IsPositive}
use Rattle.vf_rules.specs.Laws.{Grows}
use Rattle.vf_rules.specs.Terms.{Term, Store, term_of, stored, times_terms, AreBound}
use Rattle.vf_rules.specs.States.{OfSort, SymbolicState, meaning, value_in, Meets, wanted_in, StoreMeans, StandsFor, assuming_all}
use Rattle.vf_rules.specs.Fresh.{symbol}
use Rattle.vf_rules.specs.Produce.{facts_of_sort, facts_of_name, IsKnownSort, ProducePatterns, ProduceShare}
use Rattle.vf_rules.proofs.Terms.{bound_value, bound_named, own_symbol, fresh_value, fresh_store, stored_means, stored_grows, fraction_is}
use Rattle.vf_rules.proofs.Stands.{stands_fresh, assuming_all_stands}
use Rattle.vf_rules.proofs.Arguments.{first, rest, refined, AreOfArguments, Among, among_more, among_last, among_uses}

-- ---- what is known of a name's term
sort_met : (e : Environment) (v : Valuation) (o : Option Sort) (t : Term) → ((s : Sort) → o ≡ Some s → HasSort e (value_in e v t) s) → Meets e v (facts_of_sort o t)
sort_met e v None t h = tt
sort_met e v (Some s) t h = (h s refl, tt)

name_met : (e : Environment) (v : Valuation) (sorts : List Sort) (w : Valuation) (x : Name) (t : Term) → AreOfSorts e w sorts → value_in e v t ≡ w x → Meets e v (facts_of_name sorts x t)
name_met e v sorts w (Numbered k) t h same = sort_met e v (slice_get sorts k) t (λ s is. subst (λ z. HasSort e z s) (sym same) (h k s is))
name_met e v sorts w Result t h same = tt
name_met e v sorts w This t h same = tt
name_met e v sorts w CurrentThread t h same = tt

-- ---- patterns
-- a way on after the patterns, with the values that they stand for
pub record Read (e : Environment) (K : List (Option Term) → Store → SymbolicState → Type 0) (v : Valuation) (scale : Term) (s : Store) (before : List (Option Term)) (ws : List Wanted)
    (locals : List (Option Value)) (names w : Valuation) (p : Part) : Type 0 where
  pub under : Valuation
  pub new : List (Option Term)
  pub store : Store
  pub state : SymbolicState
  pub holds : K (before ++ new) store state
  pub stands : StandsFor e under state locals names p
  pub means : StoreMeans e under store w
  pub grows : Grows s store
  pub scale_is : value_in e under scale ≡ value_in e v scale
  pub before_are : (t : Term) → Among before t → value_in e under t ≡ value_in e v t
  pub new_are : map (wanted_in e under) new ≡ ws

module _ (e : Environment) (prog : ProgramTree) (sorts : List Sort) (scale : Term) (K : List (Option Term) → Store → SymbolicState → Type 0) (locals : List (Option Value)) (names w : Valuation) (p : Part) (of_sorts : AreOfSorts e w sorts) where
  -- one more argument in front of what was read
  one_more : (v v' : Valuation) (s s' : Store) (before : List (Option Term)) (t : Term) (u : Value) (ws : List Wanted)
      → Read e K v' scale s' (before ++ Some t ∷ []) ws locals names w p → Grows s s' → value_in e v' scale ≡ value_in e v scale
      → ((z : Term) → Among before z → value_in e v' z ≡ value_in e v z) → value_in e v' t ≡ u
      → Read e K v scale s before (Just u ∷ ws) locals names w p
  one_more v v' s s' before t u ws r g same kept is = record {
    under = r.under;
    new = Some t ∷ r.new;
    store = r.store;
    state = r.state;
    holds = subst (λ z. K z r.store r.state) (append_assoc before (Some t ∷ []) r.new) r.holds;
    stands = r.stands;
    means = r.means;
    grows = λ x z h. r.grows x z (g x z h);
    scale_is = r.scale_is ∙ same;
    before_are = λ z among. r.before_are z (among_more before (Some t ∷ []) z among) ∙ kept z among;
    new_are = ap₂ (λ a b. Just a ∷ b) (r.before_are t (among_last before t) ∙ is) r.new_are;
  }

  -- an unknown argument in front of what was read
  one_unknown : (v : Valuation) (s : Store) (before : List (Option Term)) (ws : List Wanted)
      → Read e K v scale s (before ++ None ∷ []) ws locals names w p → Read e K v scale s before (chunks.Anything ∷ ws) locals names w p
  one_unknown v s before ws r = record {
    under = r.under;
    new = None ∷ r.new;
    store = r.store;
    state = r.state;
    holds = subst (λ z. K z r.store r.state) (append_assoc before (None ∷ []) r.new) r.holds;
    stands = r.stands;
    means = r.means;
    grows = r.grows;
    scale_is = r.scale_is;
    before_are = λ z among. r.before_are z (among_more before (None ∷ []) z among);
    new_are = ap (λ b. chunks.Anything ∷ b) r.new_are;
  }

  -- the sort that is taken for an argument's is met
  taken_met : (v : Valuation) (Has : Sort → Type 0) (o : Option Sort) (t : Term) → IsKnownSort Has o → ((s : Sort) → Has s → HasSort e (value_in e v t) s) → Meets e v (facts_of_sort o t)
  taken_met v Has None t known h = tt
  taken_met v Has (Some s) t known h = (h s known, tt)

  pub patterns_read : (Has : ℕ → Sort → Type 0) (n : ℕ) (ps : List PatternTree) (s : Store) (st : SymbolicState) (before : List (Option Term)) → ProducePatterns e prog sorts scale Has n ps s st before K
      → (v : Valuation) (us : List Value) → AreOfArguments e Has us → StandsFor e v st locals names p → StoreMeans e v s w
      → Read e K v scale s before (refined n (map (wanted (meaning e) w) ps) us) locals names w p
  patterns_read Has n [] s st before k v us has stands means = record {
    under = v;
    new = [];
    store = s;
    state = st;
    holds = subst (λ z. K z s st) (sym (append-nil before)) k;
    stands = stands;
    means = means;
    grows = λ x t h. h;
    scale_is = refl;
    before_are = λ t among. refl;
    new_are = refl;
  }
  patterns_read Has n (Is x ∷ ps) s st before k v us has stands means =
      one_more v v s s before (term_of s x) (value_of (meaning e) w x) _
      (patterns_read (λ j. Has (suc j)) (n - 1) ps s st (before ++ Some (term_of s x) ∷ []) k.1 v (rest us) (λ j so h. has (suc j) so h) stands means)
      (λ y t h. h) refl (λ z among. refl) (bound_value e v s w x k.0 means)
  patterns_read Has n (Names x ∷ ps) s st before k v us has stands means =
      let y = k.0 in
      let v1 = bound v (Numbered y) (w x) in
      let own : value_in e v1 (symbol y) ≡ w x = own_symbol v y (w x) in
      one_more v v1 s (stored s x (symbol y)) before (symbol y) (w x) _
      (patterns_read (λ j. Has (suc j)) (n - 1) ps (stored s x (symbol y)) (assuming_all st (facts_of_name sorts x (symbol y))) (before ++ Some (symbol y) ∷ []) k.3 v1 (rest us) (λ j so h. has (suc j) so h)
      (assuming_all_stands e v1 st locals names p _ (name_met e v1 sorts w x (symbol y) of_sorts own) (stands_fresh e v y (w x) st locals names p (k.1).state stands))
      (stored_means e v1 s w x (symbol y) (fresh_store e v y (w x) s w (k.1).store means) own))
      (stored_grows s x (symbol y) k.2)
      (fresh_value e v y (w x) scale (k.1).scale_free)
      (λ z among. fresh_value e v y (w x) z (λ used. (k.1).arguments_free (among_uses before z (Numbered y) among used)))
      own
  patterns_read Has zero (Wild ∷ ps) s st before k v us has stands means =
      one_unknown v s before _ (patterns_read (λ j. Has (suc j)) zero ps s st (before ++ None ∷ []) k v (rest us) (λ j so h. has (suc j) so h) stands means)
  patterns_read Has (suc n) (Wild ∷ ps) s st before k v us has stands means =
      let y = k.0 in
      let u = first us in
      let v1 = bound v (Numbered y) u in
      let own : value_in e v1 (symbol y) ≡ u = own_symbol v y u in
      subst (λ m. Read e K v scale s before (Just u ∷ refined m (map (wanted (meaning e) w) ps) (rest us)) locals names w p) (less n)
      (one_more v v1 s s before (symbol y) u _
      (patterns_read (λ j. Has (suc j)) n ps s (assuming_all st (facts_of_sort k.2 (symbol y))) (before ++ Some (symbol y) ∷ []) k.4 v1 (rest us) (λ j so h. has (suc j) so h)
      (assuming_all_stands e v1 st locals names p _ (taken_met v1 (Has 0) k.2 (symbol y) k.3 (λ so h. subst (λ z. HasSort e z so) (sym own) (has 0 so h))) (stands_fresh e v y u st locals names p (k.1).state stands))
      (fresh_store e v y u s w (k.1).store means))
      (λ x t h. h)
      (fresh_value e v y u scale (k.1).scale_free)
      (λ z among. fresh_value e v y u z (λ used. (k.1).arguments_free (among_uses before z (Numbered y) among used)))
      own)
    where
      less : (n : ℕ) → n ≡ suc n - 1
      less n = omega arith

-- ---- shares
some_same : {A : Type 0} {x y : A} → Some x ≡ Some y → x ≡ y
some_same e = cc

none_some : {A B : Type 0} {x : A} → None ≡ Some x → B
none_some e = cc

-- both factors of a product that is there
both_there : (a b : Option Dyadic) (x : Dyadic) → product_if a b ≡ Some x → (c : Dyadic) × (d : Dyadic) × (a ≡ Some c) × (b ≡ Some d) × (product c d ≡ x)
both_there None b x h = none_some h
both_there (Some c) None x h = none_some h
both_there (Some c) (Some d) x h = (c, d, refl, refl, some_same h)

pub times_value : (e : Environment) (v : Valuation) (s : Store) (w : Valuation) (d : Dyadic) (ys : List Name) (x : Dyadic) → AreBound s ys → StoreMeans e v s w → times_names w d ys ≡ Some x
    → value_in e v (times_terms s (Fraction d) ys) ≡ values.Fraction x
times_value e v s w d [] x b means h = ap values.Fraction (some_same h)
times_value e v s w d (y ∷ ys) x b means h =
    let parts = both_there (times_names w d ys) (fraction_in (w y)) x h in
    ap₂ shared (times_value e v s w d ys parts.0 b.1 means parts.2) (bound_named e v s w y means b.0 ∙ fraction_is (w y) parts.1 parts.3) ∙ ap values.Fraction parts.4

-- a way on after the share, with its fraction
pub record ShareRead (e : Environment) (K : Term → Store → SymbolicState → Type 0) (v : Valuation) (scale : Term) (s : Store) (x : Dyadic)
    (locals : List (Option Value)) (names w : Valuation) (p : Part) : Type 0 where
  pub under : Valuation
  pub share : Term
  pub store : Store
  pub state : SymbolicState
  pub holds : K share store state
  pub stands : StandsFor e under state locals names p
  pub means : StoreMeans e under store w
  pub grows : Grows s store
  pub scale_is : value_in e under scale ≡ value_in e v scale
  pub share_is : value_in e under share ≡ values.Fraction x

positive_fraction : (e : Environment) (w : Value) (d : Dyadic) → w ≡ values.Fraction d → IsPositive d → HasSort e w Fractions
positive_fraction e w d h k = subst (λ z. HasSort e z Fractions) (sym h) (inl refl, k)

pub share_read : (e : Environment) (prog : ProgramTree) (sorts : List Sort) (scale : Term) (share : ShareTree) (s : Store) (st : SymbolicState) (K : Term → Store → SymbolicState → Type 0)
    → ProduceShare e prog sorts scale share s st K → (v : Valuation) (locals : List (Option Value)) (names w : Valuation) (p : Part) (c x : Dyadic)
    → StandsFor e v st locals names p → StoreMeans e v s w → value_in e v scale ≡ values.Fraction c → fraction_of w share ≡ Some x → IsPositive x
    → ShareRead e K v scale s (product c x) locals names w p
share_read e prog sorts scale (Times d ys) s st K k v locals names w p c x stands means scaled is positive = record {
  under = v;
  share = Share scale (times_terms s (Fraction d) ys);
  store = s;
  state = st;
  holds = k.1;
  stands = stands;
  means = means;
  grows = λ y t h. h;
  scale_is = refl;
  share_is = ap₂ shared scaled (times_value e v s w d ys x k.0 means is);
}
share_read e prog sorts scale (Taken f) s st K k v locals names w p c x stands means scaled is positive =
    let y = k.0 in
    let v1 = bound v (Numbered y) (w f) in
    let own : value_in e v1 (symbol y) ≡ w f = own_symbol v y (w f) in
    let fraction : value_in e v1 (symbol y) ≡ values.Fraction x = own ∙ fraction_is (w f) x is in
    let same = fresh_value e v y (w f) scale (k.1).scale_free in
    record {
      under = v1;
      share = Share scale (symbol y);
      store = stored s f (symbol y);
      state = assuming_all st (OfSort (symbol y) Fractions ∷ []);
      holds = k.3;
      stands = assuming_all_stands e v1 st locals names p _ (positive_fraction e (value_in e v1 (symbol y)) x fraction positive, tt) (stands_fresh e v y (w f) st locals names p (k.1).state stands);
      means = stored_means e v1 s w f (symbol y) (fresh_store e v y (w f) s w (k.1).store means) own;
      grows = stored_grows s f (symbol y) k.2;
      scale_is = same;
      share_is = ap₂ shared (same ∙ scaled) fraction;
    }
