-- A function is safe under each contract that its own one refines: that of its prototype, and that of a type that it claims.
use Rattle.std.proofs.Common.{◌≡◌, ℕ, zero, suc, ◌<◌, pos, cond, List, [], ◌∷◌, length, slice_get, Option, Some, None, refl, sym, ap, subst, ◌∙◌, arith}
use Rattle.vf_tree.specs.Core.{Identity, FunctionTree, ProgramTree}
use Rattle.vf_model.specs.Values.{Value}
use Rattle.vf_model.specs.Values as values
use Rattle.vf_model.specs.State.{Thread, entered}
use Rattle.vf_meaning.specs.Fractions.{whole}
use Rattle.vf_meaning.specs.Ghost.{Integers, Name, Numbered, Result, This, CurrentThread, Variable, Function}
use Rattle.vf_meaning.specs.Valuations.{Valuation, bound}
use Rattle.vf_meaning.specs.Assertions.{ContractTree, Environment}
use Rattle.vf_meaning.specs.Sorts.{AreOfSorts, HasSort}
use Rattle.vf_meaning.specs.Parts.{Part, nothing, IsSum}
use Rattle.vf_meaning.specs.Satisfaction.{Satisfies}
use Rattle.vf_meaning.specs.Kept.{IsFixed, Ensures, with_result}
use Rattle.vf_meaning.proofs.Values.{tells_names}
use Rattle.vf_rules.specs.Terms.{Term, stored}
use Rattle.vf_rules.specs.Terms as terms
use Rattle.vf_rules.specs.States.{SymbolicState, value_in, ChunksMean, StoreMeans, StandsFor, assuming_all}
use Rattle.vf_rules.specs.Fresh.{symbol, IsNew}
use Rattle.vf_rules.specs.Types.{IsTypedPart}
use Rattle.vf_rules.specs.Produce.{Produce}
use Rattle.vf_rules.specs.Laws.{IsAmong}
use Rattle.vf_rules.specs.Predicates.{store_of}
use Rattle.vf_rules.specs.Accept.{all_of_it, call_store, pointer_store, parameter_symbols, facts_of_result, HasContract, AreFixed}
use Rattle.vf_rules.specs.Claims.{before_claim, Ends, StandsIn, Refines, RefinesType, RefinesPrototype, AreClaimsKept}
use Rattle.vf_rules.specs.Claims as claims
use Rattle.vf_rules.specs.GhostSteps.{AfterGhostSteps}
use Rattle.vf_rules.proofs.Terms.{fresh_store, own_symbol, stored_own, stored_other, stored_means}
use Rattle.vf_rules.proofs.Stands.{stands_fresh, assuming_all_stands}
use Rattle.vf_rules.proofs.Produces.{produced}
use Rattle.vf_rules.proofs.Consumes.{consumed}
use Rattle.vf_rules.proofs.Opening.{completed, completed_means, completed_sorted}
use Rattle.vf_safety.specs.Safe.{Duties, DoneAt, Safe, left_after, returned, IsResult, Continues}
use Rattle.vf_safety.proofs.Steps.{apart, together, typed_of_left}
use Rattle.vf_safety.proofs.Typing.{AllMayBe, bound_stored, result_sorted}
use Rattle.vf_safety.proofs.GhostSteps.{reached}
use Rattle.vf_safety.proofs.Ready.{FunctionSafe, TypeSafe, FunctionsSafe, TypesSafe, positive_whole, nothing_left, names_sorted}
use Rattle.vf_safety.proofs.CallSteps.{result_or, with_result_means, with_result_sorted, result_value, result_facts, result_bound, sorted_arguments}
use Rattle.vf_safety.proofs.Returns.{consumed_ensures, result_means, override, override_means}
use Rattle.vf_safety.proofs.Functions.{row_of, zero_plus, types_met, sorts_met, path_met, numbered_thread, begins_mean, neutral, symbol_is}

module _ (e : Environment) (p : ProgramTree) (t : ℕ) where
  -- before a claim's precondition nothing is there
  before_stands : (f : FunctionTree) (contract : ContractTree) (arguments : List Value) (w : Valuation) → length arguments ≡ length f.signature.parameters → AllMayBe f.signature.parameters arguments
      → ((j : ℕ) (a : Value) → slice_get arguments j ≡ Some a → w (Numbered j) ≡ a) → AreOfSorts e w contract.sorts → HasSort e (w CurrentThread) Integers → StandsFor e w (before_claim f contract) [] w nothing
  before_stands f contract arguments w long may begins of_sorts thread =
      let n = length f.signature.parameters in
      let row = row_of w 0 arguments (λ j a is. ap (λ z. w (Numbered z)) (zero_plus j) ∙ begins j a is) in
      record {
        path = path_met e w n f.signature.parameters contract.sorts (types_met e w 0 n f.signature.parameters arguments long row may) (sorts_met e w 0 n contract.sorts (λ j r is. subst (λ z. HasSort e (w (Numbered z)) r) (sym (zero_plus j)) (of_sorts j r is))) thread;
        locals_mean = tt;
        names_mean = begins_mean e w n;
        chunks_mean = refl;
      }

  -- after the own contract's return the type's is ended, and what comes after is safe
  after_own : (f : FunctionTree) (own contract : ContractTree) (duty : Duties) (callers : Thread) (target : Option ℕ) (w : Valuation) (q r : Part) (u : Valuation) (left : Part) (s1 : terms.Store) (st1 : SymbolicState) (y : ℕ) (names : Valuation) → IsNew y all_of_it s1 [] st1 → AreFixed own s1 → StoreMeans e u s1 names
      → Produce e p own.sorts all_of_it own.ensures_this (stored s1 Result (symbol y)) (assuming_all st1 (facts_of_result f.signature.result (symbol y))) (λ s2 st2.
      AfterGhostSteps e p (Ends e p contract) (claims.with_result st2 (symbol y)))
      → StandsFor e u st1 [] w left → AreOfSorts e w contract.sorts → (beside0 : Part) → IsSum left r beside0
      → (n j : ℕ) → j < n → Continues e p t duty n callers target f.signature.result contract w r → (result : Option Value) (q2 own2 : Part) → IsResult e p t f.signature.result result → Ensures e own names result q2 → IsTypedPart e p own2 → IsSum q2 beside0 own2
      → DoneAt e (length callers) duty result own2 × Safe e p t (left_after (length callers) duty) j (returned e p t callers target result) own2
  after_own f own contract duty callers target w q r u left s1 st1 y names fresh fixed means produce stands of_sorts beside0 inner n j l continues result q2 own2 typed_result ensured typed2 sums2 =
      let w2 = ensured.later in
      let later_means : StoreMeans e u s1 w2 = λ x z h. means x z h ∙ sym (ensured.fixed x (fixed x z h)) in
      let yv = result_or e p t duty f own result (w2 Result) in
      let v2 = bound u (Numbered y) yv in
      let own_symbol_is : value_in e v2 (symbol y) ≡ yv = own_symbol u y yv in
      let value_is : (x : Value) → result ≡ Some x → value_in e v2 (symbol y) ≡ x = λ x h. own_symbol_is ∙ result_value e p t duty f own result (w2 Result) x h in
      let means2 = with_result_means e p t duty f own v2 s1 w2 (symbol y) result (fresh_store e u y yv s1 w2 fresh.store later_means) own_symbol_is in
      let stands2 = assuming_all_stands e v2 st1 [] w left _ (result_facts e p t duty f own v2 f.signature.result (symbol y) result typed_result value_is) (stands_fresh e u y yv st1 [] w left fresh.state stands) in
      let inside = together q2 left r beside0 own2 inner sums2 in
      let o = produced e p own.sorts all_of_it whole (ensured.satisfies).0 [] w own.ensures_this (stored s1 Result (symbol y)) (assuming_all st1 (facts_of_result f.signature.result (symbol y))) _ produce v2 (with_result w2 result) q2 left inside.0 stands2 means2
      (with_result_sorted e p t duty f own w2 own.sorts result ensured.sorts) refl positive_whole (ensured.satisfies).1 (typed_of_left e p q2 beside0 own2 sums2 typed2) inside.1 in
      let rv = with_result w2 result Result in
      let named = bound w Result rv in
      let stands3 : StandsFor e o.under (claims.with_result o.state (symbol y)) [] named inside.0 = record {
        path = (o.stands).path;
        locals_mean = (o.stands).locals_mean;
        names_mean = bound_stored e o.under (o.state).names w Result (symbol y) rv (o.stands).names_mean (o.means Result (symbol y) (o.grows Result (symbol y) (stored_own s1 Result (symbol y))));
        chunks_mean = (o.stands).chunks_mean;
      } in
      let g = reached e p (Ends e p contract) [] named inside.0 (typed_of_left e p inside.0 r own2 inside.2 typed2) o.holds o.under stands3 in
      let (z, result_named, consume) = g.holds in
      let c = consumed e p contract.sorts all_of_it whole [] named contract.ensures_this (g.state).names g.state _ consume g.under inside.0 g.stands
      (names_sorted e g.under contract.sorts (g.state).names named (g.stands).names_mean (result_sorted e w rv contract.sorts of_sorts)) refl in
      let left_none : c.left ≡ nothing = subst (λ cs. ChunksMean e c.under cs c.left) (c.holds).0 (c.stands).chunks_mean in
      let off_is : c.off ≡ inside.0 = nothing_left c.off c.left inside.0 left_none c.sums in
      let result_is : c.store Result ≡ Some z = c.grows Result z result_named in
      let result_value_is : (x : Value) → result ≡ Some x → value_in e c.under z ≡ x = λ x h. c.stays Result z result_named ∙ (g.stands).names_mean Result z result_named ∙ bound_own w rv ∙ result_bound e p t duty f own w2 result x h in
      let type_ensured = consumed_ensures e p t duty f contract g.under c.under named g.state (g.state).names c.store result c.depth c.off (g.stands).names_mean (result_sorted e w rv contract.sorts of_sorts) c.sorted (c.holds).1
      (λ x fix. refl) c.stays (after_means c.under c.store named result z result_is result_value_is) c.satisfies in
      continues j l result c.off own2 typed_result (without_result w rv result c.off type_ensured) typed2 (subst (λ z. IsSum z r own2) (sym off_is) inside.2)
    where
      after_means : (u : Valuation) (after : terms.Store) (names : Valuation) (result : Option Value) (z : Term) → after Result ≡ Some z → ((x : Value) → result ≡ Some x → value_in e u z ≡ x)
          → StoreMeans e u after (with_result (override e p t duty f contract u after names) result)
      after_means u after names (Some x) z is value = result_means e p t duty f contract u after names z x is (value x refl)
      after_means u after names None z is value = override_means e p t duty f contract u after names

      bound_own : (w : Valuation) (x : Value) → bound w Result x Result ≡ x
      bound_own w x = ap (λ b. cond b x (w Result)) ((tells_names Result Result).1 refl)

      -- what the result was named by does not matter, since it is none of the names that a call begins with
      fixed_same : (w : Valuation) (x : Value) (n : Name) → IsFixed contract n → bound w Result x n ≡ w n
      fixed_same w x (Numbered k) fix = refl
      fixed_same w x Result fix = absurd fix
      fixed_same w x This fix = refl
      fixed_same w x CurrentThread fix = refl

      without_result : (w : Valuation) (x : Value) (result : Option Value) (off : Part) → Ensures e contract (bound w Result x) result off → Ensures e contract w result off
      without_result w x result off h = record { later = h.later; fixed = λ n fix. h.fixed n fix ∙ fixed_same w x n fix; sorts = h.sorts; satisfies = h.satisfies }

  -- a function is safe for as many steps under a contract that its own one refines, where the terms that the refinement begins with have the values of the contract's names
  refine_safe : (n number : ℕ) (f : FunctionTree) (own contract : ContractTree) (store : terms.Store) → HasContract e f own → Refines e p f own contract store → FunctionSafe e p t n number f own
      → (duty : Duties) (arguments : List Value) (w : Valuation) (callers : Thread) (target : Option ℕ) (q r owned : Part) → length arguments ≡ contract.parameters → AllMayBe f.signature.parameters arguments
      → ((j : ℕ) (a : Value) → slice_get arguments j ≡ Some a → w (Numbered j) ≡ a) → w CurrentThread ≡ values.Number (pos t) → (StoreMeans e w (call_store (parameter_symbols (length f.signature.parameters))) w → StoreMeans e w store w) → AreOfSorts e w contract.sorts → Satisfies e whole contract.requires_this w q → IsTypedPart e p owned
      → IsSum q r owned → Continues e p t duty n callers target f.signature.result contract w r → Safe e p t duty n (entered number f arguments target ∷ callers) owned
  refine_safe n number f own contract store has refines safe duty arguments w callers target q r owned long may begins thread means_names of_sorts required typed sums continues =
      let np = length f.signature.parameters in
      let symbols = parameter_symbols np in
      let count : length arguments ≡ np = long ∙ refines.parameters in
      let before = before_stands f contract arguments w count may begins of_sorts (numbered_thread e w t thread) in
      let o = produced e p contract.sorts all_of_it whole required.0 [] w contract.requires_this store (before_claim f contract) (IsAmong refines.outs) refines.required
      w w q nothing q before (means_names (begins_mean e w np)) of_sorts refl positive_whole required.1 (typed_of_left e p q r owned sums typed) (neutral q) in
      let st : SymbolicState = record o.state { names = o.store } in
      let stands : StandsFor e o.under st [] w q = record { path = (o.stands).path; locals_mean = (o.stands).locals_mean; names_mean = o.means; chunks_mean = (o.stands).chunks_mean } in
      let g = reached e p (StandsIn e p f own contract) [] w q (typed_of_left e p q r owned sums typed) (refines.kept o.store o.state o.holds) o.under stands in
      let (have, of_own_sorts, consume) = g.holds in
      let sorted = sorted_arguments e p t duty f own g.under (g.state).path own.sorts symbols of_own_sorts (g.stands).path in
      let c = consumed e p own.sorts all_of_it whole [] w own.requires_this (call_store symbols) g.state _ consume g.under q g.stands sorted refl in
      let (y, fresh, fixed, produce) = c.holds in
      let names = completed e c.under own.sorts has.inhabited c.store in
      let means = completed_means e c.under own.sorts has.inhabited c.store in
      let inner = apart c.off c.left q r owned c.sums sums in
      let same_name : (x : Name) (z : Term) → call_store symbols x ≡ Some z → names x ≡ w x = λ x z is. sym (means x z (c.grows x z is)) ∙ c.stays x z is ∙ (g.stands).names_mean x z (have x z is) in
      let number_is : (j : ℕ) (a : Value) → slice_get arguments j ≡ Some a → names (Numbered j) ≡ a = λ j a is. let z = symbol_there np j (shorter arguments j a np count is) in same_name (Numbered j) (symbol j) z ∙ begins j a is in
      safe duty arguments names callers target c.off inner.0 owned (count ∙ sym has.parameters) may number_is
      (same_name CurrentThread (Variable CurrentThread) (stored_own (store_of symbols) CurrentThread (Variable CurrentThread)) ∙ thread)
      (completed_sorted e c.under own.sorts has.inhabited c.store c.sorted) (c.depth, c.satisfies names means) typed inner.2
      (λ j l result q2 own2 typed_result ensured typed2 sums2. after_own f own contract duty callers target w q r c.under c.left c.store c.state y names fresh fixed means produce c.stands of_sorts inner.0 inner.1 n j l continues result q2 own2 typed_result ensured typed2 sums2)
    where
      shorter : (ws : List Value) (j : ℕ) (a : Value) (np : ℕ) → length ws ≡ np → slice_get ws j ≡ Some a → j < np
      shorter [] j a np long is = none_some is
        where
          none_some : {A B : Type 0} {x : A} → None ≡ Some x → B
          none_some e = cc
      shorter (x ∷ ws) zero a np long is = omega (arith, long)
      shorter (x ∷ ws) (suc j) a zero long is = absurd (no long)
        where
          no : {n : ℕ} → suc n ≡ 0 → ⊥
          no h = cc
      shorter (x ∷ ws) (suc j) a (suc np) long is = let l = shorter ws j a np (omega (arith, long)) is in omega (arith, l)

      symbol_there : (np j : ℕ) → j < np → call_store (parameter_symbols np) (Numbered j) ≡ Some (symbol j)
      symbol_there np j l = stored_other (store_of (parameter_symbols np)) CurrentThread (Numbered j) (Variable CurrentThread) (λ h. clash h) ∙ symbol_is np j l
        where
          clash : Numbered j ≡ CurrentThread → ⊥
          clash h = cc

  -- under the contract of its prototype
  pub prototype_safe : (n number : ℕ) (f : FunctionTree) (own contract : ContractTree) → HasContract e f own → RefinesPrototype e p f own contract → FunctionSafe e p t n number f own → FunctionSafe e p t n number f contract
  prototype_safe n number f own contract has refines safe duty arguments w callers target q r owned long may begins thread of_sorts required typed sums continues =
      refine_safe n number f own contract (call_store (parameter_symbols (length f.signature.parameters))) has refines safe duty arguments w callers target q r owned long may begins thread (λ h. h) of_sorts required typed sums continues

  -- under the contract of a type
  type_safe : (n number : ℕ) (f : FunctionTree) (own contract : ContractTree) (g : Identity) → HasContract e f own → RefinesType e p f own contract g → FunctionSafe e p t n number f own → TypeSafe e p t n number f contract g
  type_safe n number f own contract g has refines safe duty arguments w callers target q r owned long may begins thread this_is of_sorts required typed sums continues =
      let symbols = parameter_symbols (length f.signature.parameters) in
      refine_safe n number f own contract (pointer_store symbols (Function g)) has refines safe duty arguments w callers target q r owned long may begins thread (λ h. stored_means e w (call_store symbols) w This (Function g) h (sym this_is)) of_sorts required typed sums continues

  pub types_safe : AreClaimsKept e p → (n : ℕ) → FunctionsSafe e p t n → TypesSafe e p t n
  types_safe claims n functions j l g type k claimed of_type number f named is =
      let c = claims g type k claimed of_type in
      let number_is : c.number ≡ number = some_same (sym c.named ∙ named) in
      let function_is : c.function ≡ f = some_same (sym c.is ∙ ap (slice_get p.functions) number_is ∙ is) in
      let has = subst (λ z. HasContract e z c.own) function_is c.has in
      type_safe j number f c.own k g has (subst (λ z. RefinesType e p z c.own k g) function_is c.refines) (functions j l number f c.own is has)
    where
      some_same : {A : Type 0} {x y : A} → Some x ≡ Some y → x ≡ y
      some_same e = cc
