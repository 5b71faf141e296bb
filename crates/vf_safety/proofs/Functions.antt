-- Accepted functions are safe: their beginnings stand for the part that satisfies the precondition, and their bodies are safe from there.
use Rattle.std.proofs.Common.{◌≡◌, ℕ, zero, suc, ◌<◌, ◌+◌, ◌-◌, List, [], ◌∷◌, ◌++◌, length, map, replicate, slice_get, Some, None, refl, sym, ap, subst, ◌∙◌, inl, pos, arith}
use Rattle.vf_tree.specs.Core.{TypeTree, Void, Integer, PointerToVoid, PointerToInt, PointerToStruct, PointerToFunction, FunctionTree, ProgramTree}
use Rattle.vf_model.specs.Values.{Value}
use Rattle.vf_model.specs.Values as values
use Rattle.vf_model.specs.State.{entered, locals_of}
use Rattle.vf_meaning.specs.Fractions.{whole}
use Rattle.vf_meaning.specs.Ghost.{Sort, Integers, Numbered, Result, This, CurrentThread, Variable}
use Rattle.vf_meaning.specs.Valuations.{Valuation}
use Rattle.vf_meaning.specs.Assertions.{ContractTree, Environment}
use Rattle.vf_meaning.specs.Sorts.{HasSort, AreOfSorts}
use Rattle.vf_meaning.specs.Parts.{Part, nothing, IsSum}
use Rattle.vf_meaning.proofs.Parts.{sums_turn, nothing_is_neutral}
use Rattle.vf_rules.specs.Terms.{Term}
use Rattle.vf_rules.specs.States.{value_in, Meets, facts_of_thread, LocalsMean, StoreMeans, StandsFor}
use Rattle.vf_rules.specs.Fresh.{symbol}
use Rattle.vf_rules.specs.Types.{facts_of_type}
use Rattle.vf_rules.specs.Laws.{IsAmong}
use Rattle.vf_rules.specs.Predicates.{store_of}
use Rattle.vf_rules.specs.Accept.{all_of_it, facts_of_types, facts_of_sorts, call_store, symbols_from, parameter_symbols, beginning, IsAcceptedFunction}
use Rattle.vf_rules.proofs.Terms.{stored_means}
use Rattle.vf_rules.proofs.Stands.{meets_more}
use Rattle.vf_rules.proofs.Produces.{produced, type_met}
use Rattle.vf_safety.proofs.Steps.{typed_of_left}
use Rattle.vf_safety.proofs.Typing.{MayBe, AllMayBe}
use Rattle.vf_safety.proofs.Ready.{FunctionSafe, AllSafe, positive_whole}
use Rattle.vf_safety.proofs.Bodies.{body_safe}

some_same : {A : Type 0} {x y : A} → Some x ≡ Some y → x ≡ y
some_same e = cc

none_some : {A B : Type 0} {x : A} → None ≡ Some x → B
none_some e = cc

-- a valuation gives the names from a number on these values
abbrev pub Row : Valuation → ℕ → List Value → Type 0
Row w i [] = Unit {0}
Row w i (a ∷ ws) = (w (Numbered i) ≡ a) × Row w (suc i) ws

plus_zero : (i : ℕ) → i ≡ i + 0
plus_zero i = omega arith

plus_suc : (i j : ℕ) → suc i + j ≡ i + suc j
plus_suc i j = omega arith

pub row_of : (w : Valuation) (i : ℕ) (ws : List Value) → ((j : ℕ) (a : Value) → slice_get ws j ≡ Some a → w (Numbered (i + j)) ≡ a) → Row w i ws
row_of w i [] h = tt
row_of w i (a ∷ ws) h = (ap (λ z. w (Numbered z)) (plus_zero i) ∙ h 0 a refl, row_of w (suc i) ws (λ j b is. ap (λ z. w (Numbered z)) (plus_suc i j) ∙ h (suc j) b is))

zero_suc : (n : ℕ) → 0 ≡ suc n → ⊥
zero_suc n h = cc

pub zero_plus : (i : ℕ) → 0 + i ≡ i
zero_plus i = omega arith

module _ (e : Environment) (w : Valuation) where
  type_may : (type : TypeTree) (x : Term) (a : Value) → value_in e w x ≡ a → MayBe type a → Meets e w (facts_of_type type x)
  type_may Void x a is m = tt
  type_may (Integer t) x a is m = type_met e w (Integer t) x a is m
  type_may PointerToVoid x a is m = type_met e w PointerToVoid x a is m
  type_may PointerToInt x a is m = type_met e w PointerToInt x a is m
  type_may (PointerToStruct g) x a is m = type_met e w (PointerToStruct g) x a is m
  type_may (PointerToFunction g) x a is m = type_met e w (PointerToFunction g) x a is m

  pub types_met : (i n : ℕ) (types : List TypeTree) (ws : List Value) → length ws ≡ n → Row w i ws → AllMayBe types ws → Meets e w (facts_of_types types (symbols_from i n))
  types_met i n [] ws long row may = tt
  types_met i zero (t ∷ types) ws long row may = tt
  types_met i (suc n) (t ∷ types) [] long row may = absurd (zero_suc n long)
  types_met i (suc n) (t ∷ types) (a ∷ ws) long row may =
      meets_more e w (facts_of_type t (symbol i)) (facts_of_types types (symbols_from (suc i) n)) (type_may t (symbol i) a row.0 may.0) (types_met (suc i) n types ws (omega (arith, long)) row.1 may.1)

  pub sorts_met : (i n : ℕ) (sorts : List Sort) → ((j : ℕ) (s : Sort) → slice_get sorts j ≡ Some s → HasSort e (w (Numbered (i + j))) s) → Meets e w (facts_of_sorts sorts (symbols_from i n))
  sorts_met i n [] h = tt
  sorts_met i zero (s ∷ sorts) h = tt
  sorts_met i (suc n) (s ∷ sorts) h =
      (subst (λ z. HasSort e (w (Numbered z)) s) (sym (plus_zero i)) (h 0 s refl), sorts_met (suc i) n sorts (λ j r is. subst (λ z. HasSort e (w (Numbered z)) r) (sym (plus_suc i j)) (h (suc j) r is)))

  unset_mean : (n : ℕ) → LocalsMean e w (replicate n None) (replicate n None)
  unset_mean zero = tt
  unset_mean (suc n) = unset_mean n

  locals_mean : (i n r : ℕ) (ws : List Value) → length ws ≡ n → Row w i ws → LocalsMean e w (map (λ t. Some t) (symbols_from i n) ++ replicate r None) (map (λ a. Some a) ws ++ replicate r None)
  locals_mean i zero r [] long row = unset_mean r
  locals_mean i zero r (a ∷ ws) long row = absurd (zero_suc (length ws) (sym long))
  locals_mean i (suc n) r [] long row = absurd (zero_suc n long)
  locals_mean i (suc n) r (a ∷ ws) long row = (ap Some (sym row.0), locals_mean (suc i) n r ws (omega (arith, long)) row.1)

  pub symbol_at : (i n j : ℕ) (t : Term) → slice_get (symbols_from i n) j ≡ Some t → t ≡ symbol (i + j)
  symbol_at i zero j t h = none_some h
  symbol_at i (suc n) zero t h = sym (some_same h) ∙ ap symbol (plus_zero i)
  symbol_at i (suc n) (suc j) t h = symbol_at (suc i) n j t h ∙ ap symbol (plus_suc i j)

  pub symbols_mean : (n : ℕ) → StoreMeans e w (store_of (parameter_symbols n)) w
  symbols_mean n (Numbered j) t h = ap (value_in e w) (symbol_at 0 n j t h) ∙ ap (λ z. w (Numbered z)) (zero_plus j)
  symbols_mean n Result t h = none_some h
  symbols_mean n This t h = none_some h
  symbols_mean n CurrentThread t h = none_some h

  pub begins_mean : (n : ℕ) → StoreMeans e w (call_store (parameter_symbols n)) w
  begins_mean n = stored_means e w (store_of (parameter_symbols n)) w CurrentThread (Variable CurrentThread) (symbols_mean n) refl

pub neutral : (q : Part) → IsSum q nothing q
neutral q = sums_turn nothing q q (nothing_is_neutral q)

-- what is known at the beginning is met
pub path_met : (e : Environment) (w : Valuation) (n : ℕ) (types : List TypeTree) (sorts : List Sort) → Meets e w (facts_of_types types (parameter_symbols n)) → Meets e w (facts_of_sorts sorts (parameter_symbols n)) → HasSort e (w CurrentThread) Integers
    → Meets e w (facts_of_types types (parameter_symbols n) ++ facts_of_sorts sorts (parameter_symbols n) ++ facts_of_thread)
path_met e w n types sorts of_types of_sorts thread =
    meets_more e w (facts_of_types types (parameter_symbols n) ++ facts_of_sorts sorts (parameter_symbols n)) facts_of_thread (meets_more e w (facts_of_types types (parameter_symbols n)) (facts_of_sorts sorts (parameter_symbols n)) of_types of_sorts) (thread, tt)

-- a thread is named by a number
pub numbered_thread : (e : Environment) (w : Valuation) (t : ℕ) → w CurrentThread ≡ values.Number (pos t) → HasSort e (w CurrentThread) Integers
numbered_thread e w t is = subst (λ z. HasSort e z Integers) (sym is) (inl refl)

-- the beginning of a body stands for nothing
begins_stand : (e : Environment) (f : FunctionTree) (k : ContractTree) (arguments : List Value) (w : Valuation) → length arguments ≡ length f.signature.parameters → AllMayBe f.signature.parameters arguments
    → ((j : ℕ) (a : Value) → slice_get arguments j ≡ Some a → w (Numbered j) ≡ a) → AreOfSorts e w k.sorts → HasSort e (w CurrentThread) Integers → StandsFor e w (beginning f k) (locals_of f arguments) w nothing
begins_stand e f k arguments w long may begins of_sorts thread =
    let n = length f.signature.parameters in
    let row = row_of w 0 arguments (λ j a is. ap (λ z. w (Numbered z)) (zero_plus j) ∙ begins j a is) in
    record {
      path = path_met e w n f.signature.parameters k.sorts (types_met e w 0 n f.signature.parameters arguments long row may) (sorts_met e w 0 n k.sorts (λ j r is. subst (λ z. HasSort e (w (Numbered z)) r) (sym (zero_plus j)) (of_sorts j r is))) thread;
      locals_mean = subst (λ z. LocalsMean e w (map (λ t. Some t) (parameter_symbols n) ++ replicate (length f.locals - n) None) (map (λ a. Some a) arguments ++ replicate (length f.locals - z) None)) (sym long) (locals_mean e w 0 n (length f.locals - n) arguments long row);
      names_mean = begins_mean e w n;
      chunks_mean = refl;
    }

module _ (e : Environment) (p : ProgramTree) (t : ℕ) where
  pub function_safe : (number : ℕ) (f : FunctionTree) (k : ContractTree) → slice_get p.functions number ≡ Some f → IsAcceptedFunction e p f k → (n : ℕ) → ((u : ℕ) → AllSafe e p u n) → FunctionSafe e p t n number f k
  function_safe number f k is accepted n fewer duty arguments w callers target q r own long may begins thread of_sorts required typed sums continues =
      let parameters = (accepted.contract).parameters in
      let count : length arguments ≡ length f.signature.parameters = long ∙ parameters in
      let o = produced e p k.sorts all_of_it whole required.0 (locals_of f arguments) w k.requires_this (call_store (parameter_symbols (length f.signature.parameters))) (beginning f k) (IsAmong accepted.outs) accepted.produced
      w w q nothing q (begins_stand e f k arguments w count may begins of_sorts (numbered_thread e w t thread)) (begins_mean e w (length f.signature.parameters)) of_sorts refl positive_whole required.1 (typed_of_left e p q r own sums typed) (neutral q) in
      let stands = o.stands in
      body_safe e p t duty f k (accepted.body o.store o.state o.holds) n (λ loop one. absurd one) (λ loop one. absurd one) (entered number f arguments target) callers own
      (record {
        symbols = o.under;
        names = w;
        part = q;
        kept = r;
        function = is;
        step = refl;
        stands = record { path = stands.path; locals_mean = stands.locals_mean; names_mean = o.means; chunks_mean = stands.chunks_mean };
        of_sorts = of_sorts;
        thread = thread;
        typed = typed;
        sums = sums;
        continues = continues;
        others = fewer;
      })

plus_one : (i j : ℕ) → suc i + j ≡ i + suc j
plus_one i j = omega arith

-- the symbols of parameters in order
symbols_at : (i n j : ℕ) → j < n → slice_get (symbols_from i n) j ≡ Some (symbol (i + j))
symbols_at i zero j l = absurd (none_below j l)
  where
    none_below : (j : ℕ) → j < 0 → ⊥
    none_below j l = omega (arith, l)
symbols_at i (suc n) zero l = ap (λ z. Some (symbol z)) (plus_zero i)
symbols_at i (suc n) (suc j) l = symbols_at (suc i) n j (omega (arith, l)) ∙ ap (λ z. Some (symbol z)) (plus_one i j)

pub symbol_is : (n j : ℕ) → j < n → slice_get (parameter_symbols n) j ≡ Some (symbol j)
symbol_is n j l = symbols_at 0 n j l ∙ ap (λ z. Some (symbol z)) (zero_plus j)
