-- Calls, and rules of annotations that lead to several states, come to typed ones.
use Rattle.std.proofs.Common.{ℕ, List, [], ◌∷◌, ◌++◌, Option, refl}
use Rattle.vf_tree.specs.Core.{TypeTree, ProgramTree}
use Rattle.vf_meaning.specs.Ghost.{Sort, Result}
use Rattle.vf_meaning.specs.Assertions.{Assertion, ContractTree, Environment}
use Rattle.vf_rules.specs.Terms.{Term, stored}
use Rattle.vf_rules.specs.Terms as terms
use Rattle.vf_rules.specs.States.{Fact, SymbolicChunk, SymbolicState, assuming_all, with_chunk, with_chunks}
use Rattle.vf_rules.specs.Fresh.{symbol, IsNew}
use Rattle.vf_rules.specs.Produce.{Produce}
use Rattle.vf_rules.specs.Consume.{EntailsAll, Consume}
use Rattle.vf_rules.specs.Laws.{Outcome, IsAmong}
use Rattle.vf_rules.specs.Predicates.{store_of, closed, head_named, Opens, Closes}
use Rattle.vf_rules.specs.Accept.{all_of_it, receiving, facts_of_result, call_store, AreFixed}
use Rattle.vf_rules.specs.Ranges.{IsTypedState}
use Rattle.vf_rules.proofs.Ranges.{facts_keep_types, produce_kept, consume_kept}
use Rattle.vf_rule_laws.specs.Typing.{TakesResult}
use Rattle.vf_rule_laws.specs.Leading.{CallComes, GhostComes, opens, closes, leaks, knows, calls_lemma}
use Rattle.vf_rule_laws.specs.TypedLaws.{SomeAreTyped, CallsKeepTypes, GhostOutcomesAreTyped}
use Rattle.vf_rule_laws.proofs.Paths.{all_longer, added_entailed}
use Rattle.vf_rule_laws.proofs.Comes.{outcome, Comes, comes_changed, comes_then, produce_comes, consume_comes}
use Rattle.vf_rule_laws.proofs.Steps.{no_cell, contents_added, chunk_taken, other_chunks, result_received}

-- nothing is asked of paths
abbrev pub Any : List Fact → Type 0
Any path = Unit {0}

pub any_longer : (path gs : List Fact) → Any path → Any (path ++ gs)
any_longer path gs h = tt

module _ (e : Environment) (p : ProgramTree) (typed : List TypeTree) (kinds : ℕ → Option Sort) where
  abbrev Typed : SymbolicState → Type 0
  Typed st = IsTypedState e p typed kinds st

  -- outcomes that a rule has, each of them typed
  abbrev pub Outcomes : ((terms.Store → SymbolicState → Type 0) → Type 0) → (terms.Store → SymbolicState → Type 0) → Type 1
  Outcomes D K = Comes Any any_longer D (λ s su. K s su × Typed su)

  pub some_typed : (outs : List Outcome) (Leads : List Outcome → Type 0) (D : (terms.Store → SymbolicState → Type 0) → Type 0) → ((xs : List Outcome) → D (IsAmong xs) → Leads xs) → Outcomes D (IsAmong outs) → SomeAreTyped e p typed kinds outs Leads
  some_typed outs Leads D leads (enough, each, again) =
      record { enough = enough; among = λ s su h. ((each s su h).0).0; typed = λ s su h. ((each s su h).0).1; leads = leads enough (again (IsAmong enough) (λ s su h. h)) }

  pub produced_typed : (sorts : List Sort) (scale : Term) (a : Assertion) (s : terms.Store) (st : SymbolicState) (K : terms.Store → SymbolicState → Type 0) → Typed st → Produce e p sorts scale a s st K → Outcomes (Produce e p sorts scale a s st) K
  produced_typed sorts scale a s st K t h =
      produce_comes Any any_longer e p sorts scale a s st (λ s1 st1. K s1 st1 × Typed st1) (produce_kept e p typed kinds sorts scale a s st K (λ s1 st1. K s1 st1 × Typed st1) (λ s1 st1 t1 k. (k, t1)) h t) tt

  pub consumed_typed : (sorts : List Sort) (scale : Term) (a : Assertion) (s : terms.Store) (st : SymbolicState) (K : terms.Store → SymbolicState → Type 0) → Typed st → Consume e p sorts scale a s st K → Outcomes (Consume e p sorts scale a s st) K
  consumed_typed sorts scale a s st K t h =
      consume_comes Any any_longer e p sorts scale a s st (λ s1 st1. K s1 st1 × Typed st1) (consume_kept e p typed kinds sorts scale a s st K (λ s1 st1. K s1 st1 × Typed st1) (λ s1 st1 t1 k. (k, t1)) h t) tt

  -- ---- calls
  module _ (contract : ContractTree) (result : TypeTree) (target : Option ℕ) (local : TakesResult typed target result) (outs : List Outcome) where
    -- an outcome with the result in the local that wants it
    abbrev returned : ℕ → Outcome → Outcome
    returned y o = outcome o.store (receiving target (symbol y) o.state)

    -- what comes behind the precondition of a call
    abbrev Returns : terms.Store → SymbolicState → (terms.Store → SymbolicState → Type 0) → Type 0
    Returns s1 st1 Q =
        (y : ℕ) × IsNew y all_of_it s1 [] st1 × AreFixed contract s1
        × Produce e p contract.sorts all_of_it contract.ensures_this (stored s1 Result (symbol y)) (assuming_all st1 (facts_of_result result (symbol y))) (λ s2 st2. Q s2 (receiving target (symbol y) st2))

    -- the result's facts stay on the path
    abbrev Known : ℕ → List Fact → Type 0
    Known y path = EntailsAll e path (facts_of_result result (symbol y))

    known_longer : (y : ℕ) (path gs : List Fact) → Known y path → Known y (path ++ gs)
    known_longer y path gs h = all_longer e path gs (facts_of_result result (symbol y)) h

    returns_typed : (s1 : terms.Store) (st1 : SymbolicState) → Typed st1 → Returns s1 st1 (IsAmong outs) → Outcomes (Returns s1 st1) (IsAmong outs)
    returns_typed s1 st1 t (y, new, fixed, produce) =
        let facts = facts_of_result result (symbol y) in
        let st2 = assuming_all st1 facts in
        let s2 = stored s1 Result (symbol y) in
        let kept = produce_kept e p typed kinds contract.sorts all_of_it contract.ensures_this s2 st2 (λ s3 st3. IsAmong outs s3 (receiving target (symbol y) st3)) (λ s3 st3. IsAmong outs s3 (receiving target (symbol y) st3) × Typed st3) (λ s3 st3 t3 k. (k, t3)) produce (facts_keep_types e p typed kinds st1 facts t) in
        let (xs, each, again) = produce_comes (Known y) (known_longer y) e p contract.sorts all_of_it contract.ensures_this s2 st2 (λ s3 st3. IsAmong outs s3 (receiving target (symbol y) st3) × Typed st3) kept (added_entailed e st1.path facts) in
        let r = comes_changed Any any_longer (Produce e p contract.sorts all_of_it contract.ensures_this s2 st2) (returned y) (λ s su. IsAmong outs s su × Typed su) (λ o z. tt)
        (xs, (λ s3 st3 h. let k = each s3 st3 h in (((k.0).0, result_received e p typed kinds st3 target result (symbol y) local k.1 (k.0).1), tt)), again) in
        (r.0, r.1, (λ Q q. (y, new, fixed, r.2 Q q)))

    pub call_typed : (names : terms.Store) (st : SymbolicState) → Typed st → CallComes e p contract names result target st outs → SomeAreTyped e p typed kinds outs (CallComes e p contract names result target st)
    call_typed names st t h =
        some_typed outs (CallComes e p contract names result target st) (λ Q. Consume e p contract.sorts all_of_it contract.requires_this names st (λ s1 st1. Returns s1 st1 Q)) (λ xs d. d)
        (comes_then Any any_longer (Consume e p contract.sorts all_of_it contract.requires_this names st) Returns (λ s su. IsAmong outs s su × Typed su) (entered (consumed_typed contract.sorts all_of_it contract.requires_this names st (λ s1 st1. Returns s1 st1 (IsAmong outs)) t h)) (λ s1 st1 k i. again s1 st1 k))
      where
        entered : Outcomes (Consume e p contract.sorts all_of_it contract.requires_this names st) (λ s1 st1. Returns s1 st1 (IsAmong outs)) → Comes Any any_longer (Consume e p contract.sorts all_of_it contract.requires_this names st) (λ s1 st1. Returns s1 st1 (λ s su. IsAmong outs s su × Typed su))
        entered (xs, each, anew) = (xs, (λ s1 st1 h1. let k = (each s1 st1 h1).0 in let r = returns_typed s1 st1 k.1 k.0 in (r.2 (λ s su. IsAmong outs s su × Typed su) (λ s su m. (r.1 s su m).0), tt)), anew)

        again : (s1 : terms.Store) (st1 : SymbolicState) → Returns s1 st1 (λ s su. IsAmong outs s su × Typed su) → Comes Any any_longer (Returns s1 st1) (λ s su. IsAmong outs s su × Typed su)
        again s1 st1 (y, new, fixed, produce) =
            let r = comes_changed Any any_longer (Produce e p contract.sorts all_of_it contract.ensures_this (stored s1 Result (symbol y)) (assuming_all st1 (facts_of_result result (symbol y)))) (returned y) (λ s su. IsAmong outs s su × Typed su) (λ o z. tt)
            (produce_comes Any any_longer e p contract.sorts all_of_it contract.ensures_this (stored s1 Result (symbol y)) (assuming_all st1 (facts_of_result result (symbol y))) (λ s2 st2. IsAmong outs s2 (receiving target (symbol y) st2) × Typed (receiving target (symbol y) st2)) produce tt) in
            (r.0, r.1, (λ Q q. (y, new, fixed, r.2 Q q)))

  -- ---- annotations
  pub produced_some : (sorts : List Sort) (a : Assertion) (names : terms.Store) (st : SymbolicState) (outs : List Outcome) → Typed st → Produce e p sorts all_of_it a names st (IsAmong outs)
      → SomeAreTyped e p typed kinds outs (λ xs. Produce e p sorts all_of_it a names st (IsAmong xs))
  produced_some sorts a names st outs t h = some_typed outs (λ xs. Produce e p sorts all_of_it a names st (IsAmong xs)) (Produce e p sorts all_of_it a names st) (λ xs d. d) (produced_typed sorts all_of_it a names st (IsAmong outs) t h)

  pub consumed_some : (sorts : List Sort) (a : Assertion) (names : terms.Store) (st : SymbolicState) (outs : List Outcome) → Typed st → Consume e p sorts all_of_it a names st (IsAmong outs)
      → SomeAreTyped e p typed kinds outs (λ xs. Consume e p sorts all_of_it a names st (IsAmong xs))
  consumed_some sorts a names st outs t h = some_typed outs (λ xs. Consume e p sorts all_of_it a names st (IsAmong xs)) (Consume e p sorts all_of_it a names st) (λ xs d. d) (consumed_typed sorts all_of_it a names st (IsAmong outs) t h)

  pub opened_some : (st : SymbolicState) (outs : List Outcome) → Typed st → Opens e p st outs → SomeAreTyped e p typed kinds outs (Opens e p st)
  opened_some st outs t o =
      let left = other_chunks e p typed kinds st o.others t (chunk_taken e p st.path o.share o.chunk o.taken t.contents) in
      some_typed outs (Opens e p st) (Produce e p o.body.sorts o.share o.body.assertion (store_of o.arguments) (with_chunks st o.others)) (λ xs d. opened xs d)
      (produced_typed o.body.sorts o.share o.body.assertion (store_of o.arguments) (with_chunks st o.others) (IsAmong outs) left o.produced)
    where
      opened : (xs : List Outcome) → Produce e p o.body.sorts o.share o.body.assertion (store_of o.arguments) (with_chunks st o.others) (IsAmong xs) → Opens e p st xs
      opened xs d = record {
        chunk = o.chunk;
        others = o.others;
        share = o.share;
        taken = o.taken;
        head = o.head;
        head_is = o.head_is;
        name = o.name;
        of_head = o.of_head;
        body = o.body;
        there = o.there;
        arguments = o.arguments;
        arguments_are = o.arguments_are;
        number = o.number;
        produced = d;
      }

  -- an outcome with the chunk of a closed predicate
  abbrev with_closed : SymbolicChunk → Outcome → Outcome
  with_closed c z = outcome z.store (with_chunk z.state c)

  pub closed_some : (st : SymbolicState) (outs : List Outcome) → Typed st → Closes e p st outs → SomeAreTyped e p typed kinds outs (Closes e p st)
  closed_some st outs t o =
      let chunk = closed (head_named o.name) o.share o.arguments in
      let (xs, each, again) = consumed_typed o.body.sorts o.share o.body.assertion (store_of o.arguments) st (λ s st1. IsAmong outs s (with_chunk st1 chunk)) t o.consumed in
      some_typed outs (Closes e p st) (λ Q. Consume e p o.body.sorts o.share o.body.assertion (store_of o.arguments) st (λ s st1. Q s (with_chunk st1 chunk))) (λ ys d. shut ys d)
      (comes_changed Any any_longer (Consume e p o.body.sorts o.share o.body.assertion (store_of o.arguments) st) (with_closed chunk) (λ s su. IsAmong outs s su × Typed su) (λ z i. tt)
      (xs, (λ s st1 h. let k = (each s st1 h).0 in ((k.0, closed_typed st1 k.1), tt)), again))
    where
      closed_typed : (st1 : SymbolicState) → Typed st1 → Typed (with_chunk st1 (closed (head_named o.name) o.share o.arguments))
      closed_typed st1 k =
          let chunk = closed (head_named o.name) o.share o.arguments in
          other_chunks e p typed kinds st1 (st1.chunks ++ chunk ∷ []) k (contents_added e p st1.path st1.chunks (chunk ∷ []) k.contents (no_cell e p st1.path chunk (head_named o.name) refl, tt))

      shut : (ys : List Outcome) → Consume e p o.body.sorts o.share o.body.assertion (store_of o.arguments) st (λ s st1. IsAmong ys s (with_chunk st1 (closed (head_named o.name) o.share o.arguments))) → Closes e p st ys
      shut ys d = record {
        share = o.share;
        fraction = o.fraction;
        name = o.name;
        openable = o.openable;
        body = o.body;
        there = o.there;
        arguments = o.arguments;
        number = o.number;
        of_sorts = o.of_sorts;
        inhabited = o.inhabited;
        consumed = d;
      }

  -- what comes behind the precondition of a lemma's call
  abbrev Ends : ContractTree → terms.Store → SymbolicState → (terms.Store → SymbolicState → Type 0) → Type 0
  Ends contract s1 st1 Q = AreFixed contract s1 × Produce e p contract.sorts all_of_it contract.ensures_this s1 st1 Q

  -- a call of a lemma
  abbrev LemmaComes : ContractTree → List Term → SymbolicState → List Outcome → Type 0
  LemmaComes contract ts st xs = Consume e p contract.sorts all_of_it contract.requires_this (call_store ts) st (λ s1 st1. Ends contract s1 st1 (IsAmong xs))

  pub lemma_some : (contract : ContractTree) (ts : List Term) (st : SymbolicState) (outs : List Outcome) → Typed st → LemmaComes contract ts st outs → SomeAreTyped e p typed kinds outs (LemmaComes contract ts st)
  lemma_some contract ts st outs t h =
      let (xs, each, anew) = consumed_typed contract.sorts all_of_it contract.requires_this (call_store ts) st (λ s1 st1. Ends contract s1 st1 (IsAmong outs)) t h in
      some_typed outs (LemmaComes contract ts st) (λ Q. Consume e p contract.sorts all_of_it contract.requires_this (call_store ts) st (λ s1 st1. Ends contract s1 st1 Q)) (λ ys d. d)
      (comes_then Any any_longer (Consume e p contract.sorts all_of_it contract.requires_this (call_store ts) st) (Ends contract) (λ s su. IsAmong outs s su × Typed su) (xs, (λ s1 st1 m. let k = (each s1 st1 m).0 in (ended s1 st1 k.1 k.0, tt)), anew)
      (λ s1 st1 k i. again s1 st1 k))
    where
      ended : (s1 : terms.Store) (st1 : SymbolicState) → Typed st1 → Ends contract s1 st1 (IsAmong outs) → Ends contract s1 st1 (λ s su. IsAmong outs s su × Typed su)
      ended s1 st1 t1 (fixed, produce) =
          let r = produced_typed contract.sorts all_of_it contract.ensures_this s1 st1 (IsAmong outs) t1 produce in (fixed, r.2 (λ s su. IsAmong outs s su × Typed su) (λ s su m. (r.1 s su m).0))

      again : (s1 : terms.Store) (st1 : SymbolicState) → Ends contract s1 st1 (λ s su. IsAmong outs s su × Typed su) → Comes Any any_longer (Ends contract s1 st1) (λ s su. IsAmong outs s su × Typed su)
      again s1 st1 (fixed, produce) =
          let r = produce_comes Any any_longer e p contract.sorts all_of_it contract.ensures_this s1 st1 (λ s su. IsAmong outs s su × Typed su) produce tt in (r.0, r.1, (λ Q q. (fixed, r.2 Q q)))

  -- where outcomes are enough for one thing they are so for what it gives
  leading : (outs : List Outcome) (A B : List Outcome → Type 0) → ((xs : List Outcome) → A xs → B xs) → SomeAreTyped e p typed kinds outs A → SomeAreTyped e p typed kinds outs B
  leading outs A B give o = record { enough = o.enough; among = o.among; typed = o.typed; leads = give o.enough o.leads }

  pub ghost_typed : (st : SymbolicState) (outs : List Outcome) → GhostComes e p st outs → Typed st → SomeAreTyped e p typed kinds outs (GhostComes e p st)
  ghost_typed st outs (opens o) t = leading outs (Opens e p st) (GhostComes e p st) (λ xs d. opens d) (opened_some st outs t o)
  ghost_typed st outs (closes o) t = leading outs (Closes e p st) (GhostComes e p st) (λ xs d. closes d) (closed_some st outs t o)
  ghost_typed st outs (leaks a sorts names h) t = leading outs (λ xs. Consume e p sorts all_of_it a names st (IsAmong xs)) (GhostComes e p st) (λ xs d. leaks a sorts names d) (consumed_some sorts a names st outs t h)
  ghost_typed st outs (knows a sorts names h) t = leading outs (λ xs. Produce e p sorts all_of_it a names st (IsAmong xs)) (GhostComes e p st) (λ xs d. knows a sorts names d) (produced_some sorts a names st outs t h)
  ghost_typed st outs (calls_lemma contract ts h) t = leading outs (LemmaComes contract ts st) (GhostComes e p st) (λ xs d. calls_lemma contract ts d) (lemma_some contract ts st outs t h)

pub calls_keep_types : CallsKeepTypes
calls_keep_types e p typed kinds contract names result target st outs local h t = call_typed e p typed kinds contract result target local outs names st t h

pub ghost_outcomes_are_typed : GhostOutcomesAreTyped
ghost_outcomes_are_typed e p typed kinds st outs h t = ghost_typed e p typed kinds st outs h t
