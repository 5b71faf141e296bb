-- The names of a case get new symbols, which have the values of the constructor's arguments.
use Rattle.std.proofs.Common.{◌≡◌, ℕ, suc, ◌-◌, cond, List, [], ◌∷◌, ◌++◌, map, slice_get, Option, Some, None, refl, sym, ap, ap₂, subst, ◌∙◌, inl, inr}
use Rattle.std.proofs.lemmas.List.{append_assoc, append-nil}
use Rattle.std.proofs.lemmas.Bool.{cases_Bool}
use Rattle.vf_tree.specs.Core.{ProgramTree}
use Rattle.vf_model.specs.Values.{Value, Values}
use Rattle.vf_model.specs.Values as values
use Rattle.vf_meaning.specs.Ghost.{Sort, Name, Numbered, Result, This, CurrentThread, same_name}
use Rattle.vf_meaning.specs.Valuations.{Valuation, listed, bound, all_bound}
use Rattle.vf_meaning.specs.Assertions.{Names, Environment}
use Rattle.vf_meaning.specs.Sorts.{HasSort}
use Rattle.vf_meaning.specs.Parts.{Part}
use Rattle.vf_meaning.specs.Chunks.{Just}
use Rattle.vf_meaning.proofs.Values.{tells_names}
use Rattle.vf_rules.specs.Laws.{Grows, StoreSorted}
use Rattle.vf_rules.specs.Terms.{Term, Store, stored}
use Rattle.vf_rules.specs.States.{SymbolicState, value_in, Meets, wanted_in, StoreMeans, StandsFor, assuming_all}
use Rattle.vf_rules.specs.Fresh.{symbol}
use Rattle.vf_rules.specs.Produce.{facts_of_sort, facts_of_name, NamesHaveSorts, ProducePatterns}
use Rattle.vf_rules.proofs.Terms.{own_symbol, fresh_value, stored_own, stored_grows}
use Rattle.vf_rules.proofs.Stands.{stands_fresh, assuming_all_stands}
use Rattle.vf_rules.proofs.Arguments.{Among, among_more, among_last, among_uses}
use Rattle.vf_rules.proofs.Fits.{stored_sorted}

-- a way on after the names, with the values that they stand for
pub record NamesRead (e : Environment) (sorts : List Sort) (K : List (Option Term) → Store → SymbolicState → Type 0) (v : Valuation) (scale : Term) (s : Store) (before : List (Option Term)) (xs : List Name) (us : Values)
    (locals : List (Option Value)) (names : Valuation) (p : Part) : Type 0 where
  pub under : Valuation
  pub new : List (Option Term)
  pub store : Store
  pub state : SymbolicState
  pub holds : K (before ++ new) store state
  pub stands : StandsFor e under state locals names p
  pub grows : Grows s store
  pub sorted : StoreSorted e under sorts store
  pub stays : (x : Name) (t : Term) → s x ≡ Some t → value_in e under t ≡ value_in e v t
  pub scale_is : value_in e under scale ≡ value_in e v scale
  pub kept : (t : Term) → Among before t → value_in e under t ≡ value_in e v t
  pub new_are : map (wanted_in e under) new ≡ map (λ u. Just u) (listed us)
  pub rebound : (later : Store) (after : Valuation) (w : Valuation) → Grows store later → ((x : Name) (t : Term) → store x ≡ Some t → value_in e after t ≡ value_in e under t)
      → StoreMeans e after later w → StoreMeans e after later (all_bound w xs us)

sort_met : (e : Environment) (v : Valuation) (o : Option Sort) (t : Term) → ((s : Sort) → o ≡ Some s → HasSort e (value_in e v t) s) → Meets e v (facts_of_sort o t)
sort_met e v None t h = tt
sort_met e v (Some s) t h = (h s refl, tt)

name_met : (e : Environment) (v : Valuation) (sorts : List Sort) (x : Name) (t : Term) (u : Value) → value_in e v t ≡ u → ((k : ℕ) (s : Sort) → x ≡ Numbered k → slice_get sorts k ≡ Some s → HasSort e u s) → Meets e v (facts_of_name sorts x t)
name_met e v sorts (Numbered k) t u is h = sort_met e v (slice_get sorts k) t (λ s known. subst (λ z. HasSort e z s) (sym is) (h k s refl known))
name_met e v sorts Result t u is h = tt
name_met e v sorts This t u is h = tt
name_met e v sorts CurrentThread t u is h = tt

some_same : {A : Type 0} {x y : A} → Some x ≡ Some y → x ≡ y
some_same e = cc

-- a name that is bound to the term of a value may be given that value
bound_means : (e : Environment) (v : Valuation) (s : Store) (w : Valuation) (x : Name) (t : Term) (u : Value) → s x ≡ Some t → value_in e v t ≡ u → StoreMeans e v s w → StoreMeans e v s (bound w x u)
bound_means e v s w x t u is value m y z h =
    elim (cases_Bool (same_name y x)) [
      | inl same ↦
          let one : t ≡ z = some_same (sym is ∙ ap s (sym ((tells_names y x).0 same)) ∙ h) in
          sym (ap (value_in e v) one) ∙ value ∙ ap (λ b. cond b u (w y)) (sym same)
      | inr other ↦ m y z h ∙ ap (λ b. cond b u (w y)) (sym other)
    ]

module _ (e : Environment) (prog : ProgramTree) (sorts : List Sort) (scale : Term) (K : List (Option Term) → Store → SymbolicState → Type 0) (locals : List (Option Value)) (names : Valuation) (p : Part) where
  pub names_read : (Has : ℕ → Sort → Type 0) (n : ℕ) (xs : List Name) (us : Values) (s : Store) (st : SymbolicState) (before : List (Option Term)) → ProducePatterns e prog sorts scale Has n (map (λ x. Names x) xs) s st before K
      → (v : Valuation) → StandsFor e v st locals names p → StoreSorted e v sorts s → NamesHaveSorts e sorts xs us → NamesRead e sorts K v scale s before xs us locals names p
  names_read Has n [] values.none s st before k v stands so h = record {
    under = v;
    new = [];
    store = s;
    state = st;
    holds = subst (λ z. K z s st) (sym (append-nil before)) k;
    stands = stands;
    grows = λ x t g. g;
    sorted = so;
    stays = λ x t g. refl;
    scale_is = refl;
    kept = λ t a. refl;
    new_are = refl;
    rebound = λ later after w g same m. m;
  }
  names_read Has n [] (values.more u us) s st before k v stands so h = absurd h
  names_read Has n (x ∷ xs) values.none s st before k v stands so h = absurd h
  names_read Has n (x ∷ xs) (values.more u us) s st before k v stands so h =
      let y = k.0 in
      let v1 = bound v (Numbered y) u in
      let own : value_in e v1 (symbol y) ≡ u = own_symbol v y u in
      let met = name_met e v1 sorts x (symbol y) u own h.0 in
      let so1 : StoreSorted e v1 sorts s = λ j b t is known. subst (λ z. HasSort e z b) (sym (fresh_value e v y u t ((k.1).store (Numbered j) t is))) (so j b t is known) in
      let r = names_read (λ j. Has (suc j)) (n - 1) xs us (stored s x (symbol y)) (assuming_all st (facts_of_name sorts x (symbol y))) (before ++ Some (symbol y) ∷ []) k.3 v1
      (assuming_all_stands e v1 st locals names p _ met (stands_fresh e v y u st locals names p (k.1).state stands))
      (stored_sorted e v1 sorts s x (symbol y) so1 met k.2) h.1 in
      let symbol_is : value_in e r.under (symbol y) ≡ u = r.kept (symbol y) (among_last before (symbol y)) ∙ own in
      record {
        under = r.under;
        new = Some (symbol y) ∷ r.new;
        store = r.store;
        state = r.state;
        holds = subst (λ z. K z r.store r.state) (append_assoc before (Some (symbol y) ∷ []) r.new) r.holds;
        stands = r.stands;
        grows = λ z t g. r.grows z t (stored_grows s x (symbol y) k.2 z t g);
        sorted = r.sorted;
        stays = λ z t g. r.stays z t (stored_grows s x (symbol y) k.2 z t g) ∙ fresh_value e v y u t ((k.1).store z t g);
        scale_is = r.scale_is ∙ fresh_value e v y u scale (k.1).scale_free;
        kept = λ t a. r.kept t (among_more before (Some (symbol y) ∷ []) t a) ∙ fresh_value e v y u t (λ used. (k.1).arguments_free (among_uses before t (Numbered y) a used));
        new_are = ap₂ (λ a b. Just a ∷ b) symbol_is r.new_are;
        rebound = λ later after w g same m.
            let there = r.grows x (symbol y) (stored_own s x (symbol y)) in
            r.rebound later after (bound w x u) g same (bound_means e after later w x (symbol y) u (g x (symbol y) there) (same x (symbol y) there ∙ symbol_is) m);
      }
