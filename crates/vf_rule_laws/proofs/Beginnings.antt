-- Bodies and checks of claims begin in typed states, and the states at the heads of loops are typed.
use Rattle.std.proofs.Common.{◌≡◌, ℕ, zero, suc, ◌+◌, ◌-◌, List, [], ◌∷◌, ◌++◌, length, map, replicate, take, slice_get, Option, Some, None, refl, sym, subst, ◌∙◌, arith}
use Rattle.vf_tree.specs.Core.{TypeTree, FunctionTree, ProgramTree}
use Rattle.vf_meaning.specs.Ghost.{Sort}
use Rattle.vf_meaning.specs.Assertions.{ContractTree, Environment}
use Rattle.vf_rules.specs.Terms.{Term}
use Rattle.vf_rules.specs.States.{Fact, OfSort, SymbolicChunk, SymbolicState, Entails, facts_of_thread, KnowsThread}
use Rattle.vf_rules.specs.Fresh.{symbol}
use Rattle.vf_rules.specs.Types.{facts_of_type}
use Rattle.vf_rules.specs.Produce.{Produce}
use Rattle.vf_rules.specs.Consume.{EntailsAll}
use Rattle.vf_rules.specs.Laws.{IsAmong}
use Rattle.vf_rules.specs.Loops.{OfLocal, facts_of_known, Changing, facts_of_changing, Loop, Comes, kept_term, changed_term, LocalsCome}
use Rattle.vf_rules.specs.Accept.{all_of_it, call_store, facts_of_types, facts_of_sorts, symbols_from, parameter_symbols, beginning}
use Rattle.vf_rules.specs.Ranges.{LocalsTyped, ContentsTyped, SymbolsSorted, IsTypedState}
use Rattle.vf_rule_laws.specs.Typing.{IsTypedFunction}
use Rattle.vf_rule_laws.specs.TypedLaws.{kinds_of, BodiesBeginTyped, PreconditionsAreTyped, ChangesFit, LoopHeadsAreTyped}
use Rattle.vf_rule_laws.proofs.Paths.{meets_front, meets_back, all_by, all_met, all_longer, added_entailed, entailed_from, all_from}
use Rattle.vf_rule_laws.proofs.Outcomes.{some_typed, produced_typed}

some_same : {A : Type 0} {x y : A} → Some x ≡ Some y → x ≡ y
some_same e = cc

none_some : {A B : Type 0} {x : A} → None ≡ Some x → B
none_some e = cc

plus_zero : (i : ℕ) → i + 0 ≡ i
plus_zero i = omega arith

plus_suc : (i j : ℕ) → i + suc j ≡ suc i + j
plus_suc i j = omega arith

zero_plus : (j : ℕ) → 0 + j ≡ j
zero_plus j = omega arith

no_others : (n : ℕ) → n - n ≡ 0
no_others n = omega arith

one_fewer : (n m : ℕ) → suc n - suc m ≡ n - m
one_fewer n m = omega arith

-- ---- the symbols of parameters
module _ (e : Environment) where
  none_typed : (path : List Fact) (types : List TypeTree) → LocalsTyped e path types (replicate (length types) None)
  none_typed path [] = tt
  none_typed path (k ∷ types) = none_typed path types

  -- the parameters have their types, and the other locals no terms
  parameters_typed : (path : List Fact) (i : ℕ) (types others : List TypeTree) → EntailsAll e path (facts_of_types types (symbols_from i (length types)))
      → LocalsTyped e path (types ++ others) (map (λ t. Some t) (symbols_from i (length types)) ++ replicate (length (types ++ others) - length types) None)
  parameters_typed path i [] others h = subst (λ n. LocalsTyped e path others (replicate n None)) (sym (less (length others))) (none_typed path others)
    where
      less : (n : ℕ) → n - 0 ≡ n
      less n = omega arith
  parameters_typed path i (k ∷ types) others h = (
    all_by e path (facts_of_type k (symbol i)) (λ v m. meets_front e v (facts_of_type k (symbol i)) _ (all_met e path _ h v m)),
    subst (λ n. LocalsTyped e path (types ++ others) (map (λ t. Some t) (symbols_from (suc i) (length types)) ++ replicate n None)) (sym (one_fewer (length (types ++ others)) (length types)))
        (parameters_typed path (suc i) types others (all_by e path (facts_of_types types (symbols_from (suc i) (length types))) (λ v m. meets_back e v (facts_of_type k (symbol i)) _ (all_met e path _ h v m)))),
  )

  -- the symbols of parameters have their sorts
  symbols_sorted : (i n : ℕ) (sorts : List Sort) (j : ℕ) (s : Sort) → slice_get (take n sorts) j ≡ Some s → Entails e (facts_of_sorts sorts (symbols_from i n)) (OfSort (symbol (i + j)) s)
  symbols_sorted i zero sorts j s is = none_some (sym (none_at sorts j) ∙ is)
    where
      none_at : (sorts : List Sort) (j : ℕ) → slice_get (take zero sorts) j ≡ None
      none_at [] j = refl
      none_at (r ∷ rs) j = refl
  symbols_sorted i (suc n) [] j s is = none_some is
  symbols_sorted i (suc n) (r ∷ sorts) zero s is =
      subst (λ z. Entails e (OfSort (symbol i) r ∷ facts_of_sorts sorts (symbols_from (suc i) n)) (OfSort (symbol z) s)) (sym (plus_zero i))
      (subst (λ z. Entails e (OfSort (symbol i) r ∷ facts_of_sorts sorts (symbols_from (suc i) n)) (OfSort (symbol i) z)) (some_same is) (record { by = λ v m. m.0 }))
  symbols_sorted i (suc n) (r ∷ sorts) (suc j) s is =
      let rest = symbols_sorted (suc i) n sorts j s is in
      subst (λ z. Entails e (OfSort (symbol i) r ∷ facts_of_sorts sorts (symbols_from (suc i) n)) (OfSort (symbol z) s)) (sym (plus_suc i j)) (record { by = λ v m. rest.by v m.1 })

  -- what is known at a beginning: types, sorts and the thread
  module _ (of_types of_sorts : List Fact) where
    abbrev known : List Fact
    known = of_types ++ of_sorts ++ facts_of_thread

    known_types : EntailsAll e known of_types
    known_types = all_by e known of_types (λ v m. meets_front e v of_types of_sorts (meets_front e v (of_types ++ of_sorts) facts_of_thread m))

    known_sorts : EntailsAll e known of_sorts
    known_sorts = all_by e known of_sorts (λ v m. meets_back e v of_types of_sorts (meets_front e v (of_types ++ of_sorts) facts_of_thread m))

    known_thread : KnowsThread e known
    known_thread = record { by = λ v m. (meets_back e v (of_types ++ of_sorts) facts_of_thread m).0 }

  kinds_known : (n : ℕ) (sorts : List Sort) (of_types : List Fact) → SymbolsSorted e (known of_types (facts_of_sorts sorts (parameter_symbols n))) (kinds_of sorts n)
  kinds_known n sorts of_types y s is =
      let of_sorts = facts_of_sorts sorts (parameter_symbols n) in
      subst (λ z. Entails e (known of_types of_sorts) (OfSort (symbol z) s)) (zero_plus y)
      (entailed_from e (known of_types of_sorts) of_sorts (OfSort (symbol (0 + y)) s) (known_sorts of_types of_sorts) (symbols_sorted 0 n sorts y s is))

body_typed : (e : Environment) (p : ProgramTree) (f : FunctionTree) (k : ContractTree) → IsTypedFunction p f → IsTypedState e p f.locals (kinds_of k.sorts (length f.signature.parameters)) (beginning f k)
body_typed e p f k typed =
    let n = length f.signature.parameters in
    let of_types = facts_of_types f.signature.parameters (parameter_symbols n) in
    let of_sorts = facts_of_sorts k.sorts (parameter_symbols n) in
    record {
      locals =
          subst (λ z. LocalsTyped e (known e of_types of_sorts) z (map (λ t. Some t) (parameter_symbols n) ++ replicate (length z - n) None)) (sym typed.parameters)
          (parameters_typed e (known e of_types of_sorts) 0 f.signature.parameters typed.others (known_types e of_types of_sorts));
      contents = tt;
      symbols = kinds_known e n k.sorts of_types;
    }

pub bodies_begin_typed : BodiesBeginTyped
bodies_begin_typed = record {
  body = λ e p f k typed. (body_typed e p f k typed, known_thread e (facts_of_types f.signature.parameters (parameter_symbols (length f.signature.parameters))) (facts_of_sorts k.sorts (parameter_symbols (length f.signature.parameters))));
  claim = λ e p f k.
      let n = length f.signature.parameters in
      let of_types = facts_of_types f.signature.parameters (parameter_symbols n) in
      (record { locals = tt; contents = tt; symbols = kinds_known e n k.sorts of_types }, known_thread e of_types (facts_of_sorts k.sorts (parameter_symbols n)));
}

pub preconditions_are_typed : PreconditionsAreTyped
preconditions_are_typed e p f k outs typed h =
    let n = length f.signature.parameters in
    some_typed e p f.locals (kinds_of k.sorts n) outs (λ enough. Produce e p k.sorts all_of_it k.requires_this (call_store (parameter_symbols n)) (beginning f k) (IsAmong enough))
    (Produce e p k.sorts all_of_it k.requires_this (call_store (parameter_symbols n)) (beginning f k)) (λ xs d. d)
    (produced_typed e p f.locals (kinds_of k.sorts n) k.sorts all_of_it k.requires_this (call_store (parameter_symbols n)) (beginning f k) (IsAmong outs) (body_typed e p f k typed) h)

-- ---- heads of loops
module _ (e : Environment) (p : ProgramTree) (st : SymbolicState) (loop : Loop) (knows : EntailsAll e loop.path st.path) where
  abbrev at_head : List Fact
  at_head = loop.path ++ facts_of_changing loop.changing

  -- the head knows what the state knows
  kept_known : (fs : List Fact) → EntailsAll e st.path fs → EntailsAll e at_head fs
  kept_known fs h = all_longer e loop.path (facts_of_changing loop.changing) fs (all_from e loop.path st.path fs knows h)

  -- it knows the symbols of what the loop changes
  changing_known : (cs : List Changing) (j : ℕ) (c : Changing) → slice_get cs j ≡ Some c → EntailsAll e (facts_of_changing cs) (facts_of_known c.known (symbol c.number))
  changing_known [] j c is = none_some is
  changing_known (d ∷ cs) zero c is =
      subst (λ z. EntailsAll e (facts_of_changing (d ∷ cs)) (facts_of_known z.known (symbol z.number))) (some_same is)
      (all_by e (facts_of_changing (d ∷ cs)) (facts_of_known d.known (symbol d.number)) (λ v m. meets_front e v (facts_of_known d.known (symbol d.number)) (facts_of_changing cs) m))
  changing_known (d ∷ cs) (suc j) c is =
      all_by e (facts_of_changing (d ∷ cs)) (facts_of_known c.known (symbol c.number))
      (λ v m. all_met e (facts_of_changing cs) (facts_of_known c.known (symbol c.number)) (changing_known cs j c is) v (meets_back e v (facts_of_known d.known (symbol d.number)) (facts_of_changing cs) m))

  term_typed : (now : List Term) (type : TypeTree) (t u : Term) → ((j : ℕ) (c : Changing) → slice_get loop.changing j ≡ Some c → t ≡ symbol c.number → c.known ≡ OfLocal type) → Comes loop.changing now t u
      → EntailsAll e st.path (facts_of_type type u) → EntailsAll e at_head (facts_of_type type t)
  term_typed now type t u fits (kept_term t1 free) h = kept_known (facts_of_type type t) h
  term_typed now type t u fits (changed_term j c u1 is there) h =
      let facts = facts_of_type type (symbol c.number) in
      all_from e at_head (facts_of_changing loop.changing) facts (added_entailed e loop.path (facts_of_changing loop.changing))
      (subst (λ z. EntailsAll e (facts_of_changing loop.changing) (facts_of_known z (symbol c.number))) (fits j c is refl) (changing_known loop.changing j c is))

  locals_come : (now : List Term) (types : List TypeTree) (ts us : List (Option Term)) → ChangesFit loop.changing types ts → LocalsCome loop.changing now ts us → LocalsTyped e st.path types us → LocalsTyped e at_head types ts
  locals_come now [] [] us fit come h = tt
  locals_come now [] (t ∷ ts) us fit come h = absurd fit
  locals_come now (k ∷ types) [] us fit come h = absurd fit
  locals_come now (k ∷ types) (None ∷ ts) [] fit come h = absurd come
  locals_come now (k ∷ types) (None ∷ ts) (None ∷ us) fit come h = locals_come now types ts us fit come h
  locals_come now (k ∷ types) (None ∷ ts) (Some u ∷ us) fit come h = locals_come now types ts us fit come h.1
  locals_come now (k ∷ types) (Some t ∷ ts) [] fit come h = absurd come
  locals_come now (k ∷ types) (Some t ∷ ts) (None ∷ us) fit come h = absurd come
  locals_come now (k ∷ types) (Some t ∷ ts) (Some u ∷ us) fit come h = (term_typed now k t u fit.0 come.0 h.0, locals_come now types ts us fit.1 come.1 h.1)

  contents_known : (cs : List SymbolicChunk) → ContentsTyped e p st.path cs → ContentsTyped e p at_head cs
  contents_known [] h = tt
  contents_known (c ∷ cs) h = (λ f u w us type head arguments at. kept_known (facts_of_type type w) (h.0 f u w us type head arguments at), contents_known cs h.1)

  symbols_known : (kinds : ℕ → Option Sort) → SymbolsSorted e st.path kinds → SymbolsSorted e at_head kinds
  symbols_known kinds h y s is = (kept_known (OfSort (symbol y) s ∷ []) (h y s is, tt)).0

pub loop_heads_are_typed : LoopHeadsAreTyped
loop_heads_are_typed e p types kinds loop names st typed arrives knows fit = record {
  locals = locals_come e p st loop knows arrives.now types loop.locals st.locals fit arrives.locals typed.locals;
  contents = contents_known e p st loop knows loop.kept (subst (ContentsTyped e p st.path) arrives.kept typed.contents);
  symbols = symbols_known e p st loop knows kinds typed.symbols;
}
