-- An accepted body has a derivation whose every state is typed.
use Rattle.std.proofs.Common.{ℕ, List, Option}
use Rattle.vf_tree.specs.Core.{FunctionTree, ProgramTree, Call, CallPointer}
use Rattle.vf_model.specs.PreludeFunctions.{signature_of}
use Rattle.vf_meaning.specs.Ghost.{Sort}
use Rattle.vf_meaning.specs.Assertions.{ContractTree, Environment}
use Rattle.vf_rules.specs.Terms as terms
use Rattle.vf_rules.specs.States.{SymbolicState}
use Rattle.vf_rules.specs.Laws.{IsAmong}
use Rattle.vf_rules.specs.Loops.{Loop}
use Rattle.vf_rules.specs.Accept.{call_store, pointer_store, Accepts, do_set, do_if, do_load, do_store, do_allocate, do_free_null, do_free, do_call, do_return, do_leave, do_call_pointer, do_abort, do_put_char, do_print_int, do_prelude, do_allocate_ints, do_free_ints_null, do_free_ints, do_offset_zero, do_offset, do_load_at, do_store_at, may_drop, may_change, may_arrange, may_open, may_close, may_see, may_split, may_leak, may_know, may_call_lemma, may_enter, may_repeat}
use Rattle.vf_rules.specs.Ranges.{IsTypedState}
use Rattle.vf_rule_laws.specs.Typing.{IsTypedFunction, of_program, of_prelude}
use Rattle.vf_rule_laws.specs.Leading.{StepLeads, sets, compares_true, compares_false, loads, stores, gets_nothing, gets_memory, frees_nothing, frees, puts_char, prints_int, gets_no_ints, gets_ints, frees_no_ints, frees_ints, stays_there, goes_on, loads_at, stores_at, changes, arranges, sees, splits_true, splits_false}
use Rattle.vf_rule_laws.specs.Derivations.{Each, HasTypedOutcomes, IsState, AcceptedBodiesAreTyped}
use Rattle.vf_rule_laws.proofs.Steps.{step_keeps}
use Rattle.vf_rule_laws.proofs.Ghost.{led}
use Rattle.vf_rule_laws.proofs.Outcomes.{call_typed, consumed_some, produced_some, opened_some, closed_some, lemma_some}

module _ (e : Environment) (p : ProgramTree) (f : FunctionTree) (k : ContractTree) (kinds : ℕ → Option Sort) (keeps : IsTypedFunction p f) where
  abbrev Typed : SymbolicState → Type 0
  Typed st = IsTypedState e p f.locals kinds st

  abbrev Asked : {now soon : List Loop} {n : ℕ} {st : SymbolicState} → Accepts e p f k now soon n st → Type 0
  Asked d = Each e p f k IsState (HasTypedOutcomes e p f kinds) d

  -- a derivation whose every state is typed
  abbrev IsTyped : List Loop → List Loop → ℕ → SymbolicState → Type 0
  IsTyped now soon n st = (c : Accepts e p f k now soon n st) × Each e p f k (IsTypedState e p f.locals kinds) (HasTypedOutcomes e p f kinds) c

  -- to where the rule of a step leads
  step : {n m : ℕ} {st su : SymbolicState} → Typed st → StepLeads e p f n st m su → Typed su
  step {n} {m} {st} own leads = step_keeps e p f kinds n st keeps own leads

  body_typed : {now soon : List Loop} {n : ℕ} {st : SymbolicState} (d : Accepts e p f k now soon n st) → Asked d → Typed st → IsTyped now soon n st
  body_typed (do_set {st = st} x a next t is ev go) h own =
      let r = body_typed go h.1 (step own (sets x a next t is ev)) in (do_set x a next t is ev r.0, (own, r.1))
  body_typed (do_if {st = st} c a b yes_step no_step t u is ev_a ev_b of_a of_b go other) h own =
      let r = body_typed go h.1 (step own (compares_true c a b yes_step no_step t u is)) in
      let q = body_typed other h.2 (step own (compares_false c a b yes_step no_step t u is)) in (do_if c a b yes_step no_step t u is ev_a ev_b of_a of_b r.0 q.0, (own, r.1, q.1))
  body_typed (do_load {st = st} x a field place next t u content c others is ev removes head arguments equal go) h own =
      let r = body_typed go h.1 (step own (loads x a field place next u content c others is removes head arguments)) in (do_load x a field place next t u content c others is ev removes head arguments equal r.0, (own, r.1))
  body_typed (do_store {st = st} a b field place next t u w old c others is ev_a ev_b takes head arguments equal facts go) h own =
      let r = body_typed go h.1 (step own (stores a b field place next t w c others is ev_b takes)) in (do_store a b field place next t u w old c others is ev_a ev_b takes head arguments equal facts r.0, (own, r.1))
  body_typed (do_allocate {st = st} x g next y is fresh go other) h own =
      let r = body_typed go h.1 (step own (gets_nothing x g next is)) in
      let q = body_typed other h.2 (step own (gets_memory x g next y is)) in (do_allocate x g next y is fresh r.0 q.0, (own, r.1, q.1))
  body_typed (do_free_null {st = st} a g place next t is ev equal go) h own =
      let r = body_typed go h.1 (step own (frees_nothing a g place next is)) in (do_free_null a g place next t is ev equal r.0, (own, r.1))
  body_typed (do_free {st = st} a g place next t left is ev takes go) h own =
      let r = body_typed go h.1 (step own (frees a g place next t left is takes)) in (do_free a g place next t left is ev takes r.0, (own, r.1))
  body_typed (do_call {n = n} {st = st} target g operands place next number callee contract ts outs is outside thread named there has returns evs long facts sorted consume go) h own =
      let o = call_typed e p f.locals kinds contract callee.signature.result target (keeps.steps n (Call target g operands place next) is callee.signature (of_program number callee named there)).0 outs (call_store ts) st own consume in
      let each = λ (s : terms.Store) (su : SymbolicState) (among : IsAmong o.enough s su). body_typed (go s su (o.among s su among)) (h.1 s su (o.among s su among)) (o.typed s su among) in
      (do_call target g operands place next number callee contract ts o.enough is outside thread named there has returns evs long facts sorted o.leads (λ s su among. (each s su among).0), (own, (λ s su among. (each s su among).1)))
  body_typed (do_return {st = st} a t is ev facts valued consume) h own = (do_return a t is ev facts valued consume, own)
  body_typed (do_leave {st = st} is returns consume) h own = (do_leave is returns consume, own)
  body_typed (do_call_pointer {n = n} {st = st} target a signature operands place next type contract t ts outs is called types thread claims inhabited ev claim returns evs long facts sorted consume go) h own =
      let o = call_typed e p f.locals kinds contract signature.result target (keeps.steps n (CallPointer target a signature operands place next) is).0 outs (pointer_store ts t) st own consume in
      let each = λ (s : terms.Store) (su : SymbolicState) (among : IsAmong o.enough s su). body_typed (go s su (o.among s su among)) (h.1 s su (o.among s su among)) (o.typed s su among) in
      (do_call_pointer target a signature operands place next type contract t ts o.enough is called types thread claims inhabited ev claim returns evs long facts sorted o.leads (λ s su among. (each s su among).0), (own, (λ s su among. (each s su among).1)))
  body_typed (do_abort {st = st} target g place next is which) h own = (do_abort target g place next is which, own)
  body_typed (do_put_char {st = st} target g a place next y t is which ev byte fresh go) h own =
      let r = body_typed go h.1 (step own (puts_char target g a place next y is which)) in (do_put_char target g a place next y t is which ev byte fresh r.0, (own, r.1))
  body_typed (do_print_int {st = st} target g a place next t is which ev go) h own =
      let r = body_typed go h.1 (step own (prints_int target g a place next is which)) in (do_print_int target g a place next t is which ev r.0, (own, r.1))
  body_typed (do_prelude {n = n} {st = st} target g operands place next function contract ts outs is which has thread inhabited returns evs long sorted consume go) h own =
      let o = call_typed e p f.locals kinds contract (signature_of function).result target (keeps.steps n (Call target g operands place next) is (signature_of function) (of_prelude function which)).0 outs (call_store ts) st own consume in
      let each = λ (s : terms.Store) (su : SymbolicState) (among : IsAmong o.enough s su). body_typed (go s su (o.among s su among)) (h.1 s su (o.among s su among)) (o.typed s su among) in
      (do_prelude target g operands place next function contract ts o.enough is which has thread inhabited returns evs long sorted o.leads (λ s su among. (each s su among).0), (own, (λ s su among. (each s su among).1)))
  body_typed (do_allocate_ints {st = st} x a place next y t is ev number low fresh go other) h own =
      let r = body_typed go h.1 (step own (gets_no_ints x a place next is)) in
      let q = body_typed other h.2 (step own (gets_ints x a place next y t is)) in (do_allocate_ints x a place next y t is ev number low fresh r.0 q.0, (own, r.1, q.1))
  body_typed (do_free_ints_null {st = st} a place next t is ev equal go) h own =
      let r = body_typed go h.1 (step own (frees_no_ints a place next is)) in (do_free_ints_null a place next t is ev equal r.0, (own, r.1))
  body_typed (do_free_ints {st = st} a place next t u w long also content c d mid left is ev first head arguments equal second block others there same go) h own =
      let r = body_typed go h.1 (step own (frees_ints a place next c d mid left is first second)) in (do_free_ints a place next t u w long also content c d mid left is ev first head arguments equal second block others there same r.0, (own, r.1))
  body_typed (do_offset_zero {st = st} x a i place next t j is ev_a ev_i equal go) h own =
      let r = body_typed go h.1 (step own (stays_there x a i place next t is ev_a)) in (do_offset_zero x a i place next t j is ev_a ev_i equal r.0, (own, r.1))
  body_typed (do_offset {st = st} x a i place next t j u long content c others is ev_a ev_i number removes head arguments equal low high go) h own =
      let r = body_typed go h.1 (step own (goes_on x a i place next t j is ev_a)) in (do_offset x a i place next t j u long content c others is ev_a ev_i number removes head arguments equal low high r.0, (own, r.1))
  body_typed (do_load_at {st = st} x a i place next t j u long list index item c others is ev_a ev_i number removes head arguments finds inside is_item go) h own =
      let r = body_typed go h.1 (step own (loads_at x a i place next item is)) in (do_load_at x a i place next t j u long list index item c others is ev_a ev_i number removes head arguments finds inside is_item r.0, (own, r.1))
  body_typed (do_store_at {st = st} a i b place next t j w u long index content new c others is ev_a ev_i ev_b number facts takes head arguments finds inside becomes go) h own =
      let r = body_typed go h.1 (step own (stores_at a i b place next u long new c others is takes)) in (do_store_at a i b place next t j w u long index content new c others is ev_a ev_i ev_b number facts takes head arguments finds inside becomes r.0, (own, r.1))
  body_typed (may_drop {st = st} never) h own = (may_drop never, own)
  body_typed (may_change {st = st} changed go) h own =
      let r = body_typed go h.1 (led e p f.locals kinds (changes changed) own) in (may_change changed r.0, (own, r.1))
  body_typed (may_arrange {st = st} arranged go) h own =
      let r = body_typed go h.1 (led e p f.locals kinds (arranges arranged) own) in (may_arrange arranged r.0, (own, r.1))
  body_typed (may_open {st = st} outs opened go) h own =
      let o = opened_some e p f.locals kinds st outs own opened in
      let each = λ (s : terms.Store) (su : SymbolicState) (among : IsAmong o.enough s su). body_typed (go s su (o.among s su among)) (h.1 s su (o.among s su among)) (o.typed s su among) in
      (may_open o.enough o.leads (λ s su among. (each s su among).0), (own, (λ s su among. (each s su among).1)))
  body_typed (may_close {st = st} outs closed go) h own =
      let o = closed_some e p f.locals kinds st outs own closed in
      let each = λ (s : terms.Store) (su : SymbolicState) (among : IsAmong o.enough s su). body_typed (go s su (o.among s su among)) (h.1 s su (o.among s su among)) (o.typed s su among) in
      (may_close o.enough o.leads (λ s su among. (each s su among).0), (own, (λ s su among. (each s su among).1)))
  body_typed (may_see {st = st} fact shown go) h own =
      let r = body_typed go h.1 (led e p f.locals kinds (sees fact shown) own) in (may_see fact shown r.0, (own, r.1))
  body_typed (may_split {st = st} t go other) h own =
      let r = body_typed go h.1 (led e p f.locals kinds (splits_true t) own) in
      let q = body_typed other h.2 (led e p f.locals kinds (splits_false t) own) in (may_split t r.0 q.0, (own, r.1, q.1))
  body_typed (may_leak {st = st} a sorts store outs may sorted consume go) h own =
      let o = consumed_some e p f.locals kinds sorts a store st outs own consume in
      let each = λ (s : terms.Store) (su : SymbolicState) (among : IsAmong o.enough s su). body_typed (go s su (o.among s su among)) (h.1 s su (o.among s su among)) (o.typed s su among) in
      (may_leak a sorts store o.enough may sorted o.leads (λ s su among. (each s su among).0), (own, (λ s su among. (each s su among).1)))
  body_typed (may_know {st = st} a sorts store outs of_nothing produce go) h own =
      let o = produced_some e p f.locals kinds sorts a store st outs own produce in
      let each = λ (s : terms.Store) (su : SymbolicState) (among : IsAmong o.enough s su). body_typed (go s su (o.among s su among)) (h.1 s su (o.among s su among)) (o.typed s su among) in
      (may_know a sorts store o.enough of_nothing o.leads (λ s su among. (each s su among).0), (own, (λ s su among. (each s su among).1)))
  body_typed (may_call_lemma {st = st} lemma ts outs holds leak inhabited long sorted thread consume go) h own =
      let o = lemma_some e p f.locals kinds lemma.contract ts st outs own consume in
      let each = λ (s : terms.Store) (su : SymbolicState) (among : IsAmong o.enough s su). body_typed (go s su (o.among s su among)) (h.1 s su (o.among s su among)) (o.typed s su among) in
      (may_call_lemma lemma ts o.enough holds leak inhabited long sorted thread o.leads (λ s su among. (each s su among).0), (own, (λ s su among. (each s su among).1)))
  body_typed (may_enter {st = st} loop at is_loop enters go) h own =
      let each = λ (s : terms.Store) (su : SymbolicState) (among : IsAmong loop.outs s su). body_typed (go s su among) (h.2 s su among) (h.1 s su among) in
      (may_enter loop at is_loop enters (λ s su among. (each s su among).0), (own, h.1, (λ s su among. (each s su among).1)))
  body_typed (may_repeat {st = st} loop one_of at enters) h own = (may_repeat loop one_of at enters, own)

pub accepted_bodies_are_typed : AcceptedBodiesAreTyped
accepted_bodies_are_typed e p f k kinds now soon n st d keeps asked own = body_typed e p f k kinds keeps d asked own
