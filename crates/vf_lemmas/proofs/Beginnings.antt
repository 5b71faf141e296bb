-- The beginning of a lemma's body stands for nothing.
use Rattle.std.proofs.Common.{◌≡◌, ℕ, zero, suc, ◌+◌, List, [], ◌∷◌, slice_get, Some, None, sym, ap, subst, ◌∙◌, refl, arith}
use Rattle.vf_meaning.specs.Ghost.{Sort, Numbered, Result, This, CurrentThread, Variable}
use Rattle.vf_meaning.specs.Valuations.{Valuation}
use Rattle.vf_meaning.specs.Assertions.{ContractTree, Environment}
use Rattle.vf_meaning.specs.Sorts.{HasSort}
use Rattle.vf_meaning.specs.Parts.{nothing}
use Rattle.vf_rules.specs.Terms.{Term}
use Rattle.vf_rules.specs.States.{value_in, Meets, facts_of_thread, StoreMeans, StandsFor}
use Rattle.vf_rules.specs.Fresh.{symbol}
use Rattle.vf_rules.specs.Predicates.{store_of}
use Rattle.vf_rules.specs.Lemmas.{AreGhostValues}
use Rattle.vf_rules.proofs.Stands.{meets_more}
use Rattle.vf_rules.specs.Accept.{facts_of_sorts, call_store, symbols_from, parameter_symbols}
use Rattle.vf_rules.proofs.Terms.{stored_means}
use Rattle.vf_lemmas.specs.Proves.{lemma_beginning}

some_same : {A : Type 0} {x y : A} → Some x ≡ Some y → x ≡ y
some_same e = cc

none_some : {A B : Type 0} {x : A} → None ≡ Some x → B
none_some e = cc

plus_zero : (i : ℕ) → i ≡ i + 0
plus_zero i = omega arith

plus_suc : (i j : ℕ) → suc i + j ≡ i + suc j
plus_suc i j = omega arith

zero_plus : (i : ℕ) → 0 + i ≡ i
zero_plus i = omega arith

module _ (e : Environment) (w : Valuation) where
  sorts_met : (i n : ℕ) (sorts : List Sort) → ((j : ℕ) (s : Sort) → slice_get sorts j ≡ Some s → HasSort e (w (Numbered (i + j))) s) → Meets e w (facts_of_sorts sorts (symbols_from i n))
  sorts_met i n [] h = tt
  sorts_met i zero (s ∷ sorts) h = tt
  sorts_met i (suc n) (s ∷ sorts) h =
      (subst (λ z. HasSort e (w (Numbered z)) s) (sym (plus_zero i)) (h 0 s refl), sorts_met (suc i) n sorts (λ j r is. subst (λ z. HasSort e (w (Numbered z)) r) (sym (plus_suc i j)) (h (suc j) r is)))

  symbol_at : (i n j : ℕ) (t : Term) → slice_get (symbols_from i n) j ≡ Some t → t ≡ symbol (i + j)
  symbol_at i zero j t h = none_some h
  symbol_at i (suc n) zero t h = sym (some_same h) ∙ ap symbol (plus_zero i)
  symbol_at i (suc n) (suc j) t h = symbol_at (suc i) n j t h ∙ ap symbol (plus_suc i j)

  symbols_mean : (n : ℕ) → StoreMeans e w (store_of (parameter_symbols n)) w
  symbols_mean n (Numbered j) t h = ap (value_in e w) (symbol_at 0 n j t h) ∙ ap (λ z. w (Numbered z)) (zero_plus j)
  symbols_mean n Result t h = none_some h
  symbols_mean n This t h = none_some h
  symbols_mean n CurrentThread t h = none_some h

  pub begins_mean : (n : ℕ) → StoreMeans e w (call_store (parameter_symbols n)) w
  begins_mean n = stored_means e w (store_of (parameter_symbols n)) w CurrentThread (Variable CurrentThread) (symbols_mean n) refl

  pub beginning_stands : (k : ContractTree) → AreGhostValues e w k.sorts → StandsFor e w (lemma_beginning k) [] w nothing
  beginning_stands k of_sorts = record {
    path = meets_more e w (facts_of_sorts k.sorts (parameter_symbols k.parameters)) facts_of_thread
        (sorts_met 0 k.parameters k.sorts (λ j r is. subst (λ z. HasSort e (w (Numbered z)) r) (sym (zero_plus j)) (of_sorts.0 j r is))) (of_sorts.1, tt);
    locals_mean = tt;
    names_mean = begins_mean k.parameters;
    chunks_mean = refl;
  }
