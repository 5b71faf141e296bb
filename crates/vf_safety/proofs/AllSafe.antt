-- Each function of an accepted program is safe for every number of steps.
use Rattle.std.proofs.Common.{◌≡◌, ℕ, zero, suc, ◌<◌, List, [], ◌∷◌, length, Option, Some, None, refl, sym, ap, subst, ◌∙◌, inl, inr, arith}
use Rattle.vf_tree.specs.Core.{TypeTree, FunctionTree, ProgramTree}
use Rattle.vf_model.specs.Values.{Value}
use Rattle.vf_meaning.specs.Assertions.{ContractTree, Environment}
use Rattle.vf_meaning.specs.Environments.{option_or, IsContractOf}
use Rattle.vf_meaning.specs.Parts.{Part, nothing, IsSum}
use Rattle.vf_rules.specs.Accept.{HasContract}
use Rattle.vf_rules.specs.Claims.{RefinesPrototype, AreClaimsKept}
use Rattle.vf_safety.specs.Safe.{Duty, Duties, Safe, left_after}
use Rattle.vf_safety.specs.Laws.{AreOfTypes, KeepsContracts, AreAccepted, AcceptedCallsAreSafe, AcceptedThreadsAreSafe}
use Rattle.vf_safety.proofs.Duties.{first_done}
use Rattle.vf_safety.proofs.Typing.{AllMayBe, is_may}
use Rattle.vf_safety.proofs.Ready.{FunctionSafe, FunctionsSafe, AllSafe}
use Rattle.vf_safety.proofs.Functions.{function_safe}
use Rattle.vf_safety.proofs.Claims.{prototype_safe, types_safe}

some_same : {A : Type 0} {x y : A} → Some x ≡ Some y → x ≡ y
some_same e = cc

module _ (e : Environment) (p : ProgramTree) where
  -- a contract of a function is its own or refined by it, so that the function is safe under it
  contract_safe : (t n number : ℕ) (f : FunctionTree) (k : ContractTree) → (keeps : KeepsContracts e p f) → HasContract e f k → FunctionSafe e p t n number f keeps.own → FunctionSafe e p t n number f k
  contract_safe t n number f k keeps has safe = by_table has.known
    where
      same : keeps.own ≡ k → FunctionSafe e p t n number f k
      same is = subst (λ z. FunctionSafe e p t n number f z) is safe

      by_definition : (o : Option ContractTree) → e.functions f.identity ≡ o → e.prototypes f.identity ≡ Some k → FunctionSafe e p t n number f k
      by_definition None none known = same (some_same (sym keeps.is_own ∙ ap (λ z. option_or z (e.prototypes f.identity)) none ∙ known))
      by_definition (Some defined) is known =
          let own_is : defined ≡ keeps.own = some_same (sym (ap (λ z. option_or z (e.prototypes f.identity)) is) ∙ keeps.is_own) in
          prototype_safe e p t n number f keeps.own k (keeps.accepted).contract (subst (λ z. RefinesPrototype e p f z k) own_is (keeps.refines defined k is known)) safe

      by_table : IsContractOf e f.identity k → FunctionSafe e p t n number f k
      by_table (inl known) = same (some_same (sym keeps.is_own ∙ ap (λ z. option_or z (e.prototypes f.identity)) known))
      by_table (inr known) = by_definition (e.functions f.identity) refl known

  all_safe : AreAccepted e p → AreClaimsKept e p → (n t : ℕ) → AllSafe e p t n
  all_safe accepted claims n t = record { functions = functions n t; types = types_safe e p t claims n (functions n t) }
    where
      functions : (n t : ℕ) → FunctionsSafe e p t n
      functions zero t j l number f k is has = absurd (no_less j l)
        where
          no_less : (j : ℕ) → j < 0 → ⊥
          no_less j l = omega (arith, l)
      functions (suc n) t j l number f k is has =
          let keeps = accepted number f is in
          contract_safe t j number f k keeps has
          (function_safe e p t number f keeps.own is keeps.accepted j
          (λ u. record { functions = λ i li. functions n u i (less i j n li l); types = λ i li. types_safe e p u claims n (functions n u) i (less i j n li l) }))
        where
          less : (i j n : ℕ) → i < j → j < suc n → i < n
          less i j n a b = omega (arith, a, b)

all_may : (types : List TypeTree) (ws : List Value) → AreOfTypes types ws → (length ws ≡ length types) × AllMayBe types ws
all_may [] [] h = (refl, tt)
all_may [] (w ∷ ws) h = absurd h
all_may (t ∷ types) [] h = absurd h
all_may (t ∷ types) (w ∷ ws) h = let (long, rest) = all_may types ws h.1 in (ap suc long, (is_may t w h.0, rest))

pub accepted_calls_are_safe : AcceptedCallsAreSafe
accepted_calls_are_safe e p accepted claims t duties number f k arguments names rest own call callers target n continues =
    let (long, may) = all_may f.signature.parameters arguments call.types in
    (all_safe e p accepted claims (suc n) t).functions n (omega arith) number f k call.function call.contract duties arguments names callers target call.passed rest own (long ∙ sym (call.contract).parameters) may call.begins call.thread call.of_sorts call.required call.typed call.sums continues

pub accepted_threads_are_safe : AcceptedThreadsAreSafe
accepted_threads_are_safe e p accepted claims t number f k arguments names own rest none call n =
    let first : Duty = record { contract = k; names = names; rest = nothing; below = 0 } in
    accepted_calls_are_safe e p accepted claims t (first ∷ []) number f k arguments names rest own call [] None n
    (λ j l result q own2 of_type ensured typed sums. (first_done e 0 first [] result own2 (q, ensured, subst (λ z. IsSum q z own2) none sums), ended (left_after 0 (first ∷ [])) j own2))
  where
    ended : (ds : Duties) (j : ℕ) (own2 : Part) → Safe e p t ds j [] own2
    ended ds zero own2 = tt
    ended ds (suc j) own2 = tt
