-- The states of a derivation by which a body is accepted.
use Rattle.std.specs.Prelude.{ℕ, List, Option}
use Rattle.vf_tree.specs.Core.{FunctionTree, ProgramTree}
use Rattle.vf_meaning.specs.Ghost.{Sort}
use Rattle.vf_meaning.specs.Assertions.{ContractTree, Environment}
use Rattle.vf_rules.specs.Terms as terms
use Rattle.vf_rules.specs.States.{SymbolicState}
use Rattle.vf_rules.specs.Laws.{IsAmong}
use Rattle.vf_rules.specs.Loops.{Loop}
use Rattle.vf_rules.specs.Accept.{Accepts, do_set, do_if, do_load, do_store, do_allocate, do_free_null, do_free, do_call, do_return, do_leave, do_call_pointer, do_abort, do_put_char, do_print_int, do_prelude, do_allocate_ints, do_free_ints_null, do_free_ints, do_offset_zero, do_offset, do_load_at, do_store_at, may_drop, may_change, may_arrange, may_open, may_close, may_see, may_split, may_leak, may_know, may_call_lemma, may_enter, may_repeat}
use Rattle.vf_rules.specs.Ranges.{IsTypedState}
use Rattle.vf_rule_laws.specs.Typing.{IsTypedFunction}

-- each state of a derivation has a property P, and each loop that is entered in it another one, L
module _ (e : Environment) (p : ProgramTree) (f : FunctionTree) (k : ContractTree) (P : SymbolicState → Type 0) (L : Loop → Type 0) where
  abbrev pub Each : {now soon : List Loop} {n : ℕ} {st : SymbolicState} → Accepts e p f k now soon n st → Type 0
  Each (do_set {st = st} x a next t is ev go) = P st × Each go
  Each (do_if {st = st} c a b yes_step no_step t u is ev_a ev_b of_a of_b go other) = P st × Each go × Each other
  Each (do_load {st = st} x a field place next t u content c others is ev removes head arguments equal go) = P st × Each go
  Each (do_store {st = st} a b field place next t u w old c others is ev_a ev_b takes head arguments equal facts go) = P st × Each go
  Each (do_allocate {st = st} x g next y is fresh go other) = P st × Each go × Each other
  Each (do_free_null {st = st} a g place next t is ev equal go) = P st × Each go
  Each (do_free {st = st} a g place next t left is ev takes go) = P st × Each go
  Each (do_call {st = st} target g operands place next number callee contract ts outs is outside thread named there has returns evs long facts sorted consume go) = P st × ((s : terms.Store) (su : SymbolicState) (among : IsAmong outs s su) → Each (go s su among))
  Each (do_return {st = st} a t is ev facts valued consume) = P st
  Each (do_leave {st = st} is returns consume) = P st
  Each (do_call_pointer {st = st} target a signature operands place next type contract t ts outs is called types thread claims inhabited ev claim returns evs long facts sorted consume go) = P st × ((s : terms.Store) (su : SymbolicState) (among : IsAmong outs s su) → Each (go s su among))
  Each (do_abort {st = st} target g place next is which) = P st
  Each (do_put_char {st = st} target g a place next y t is which ev byte fresh go) = P st × Each go
  Each (do_print_int {st = st} target g a place next t is which ev go) = P st × Each go
  Each (do_prelude {st = st} target g operands place next function contract ts outs is which has thread inhabited returns evs long sorted consume go) = P st × ((s : terms.Store) (su : SymbolicState) (among : IsAmong outs s su) → Each (go s su among))
  Each (do_allocate_ints {st = st} x a place next y t is ev number low fresh go other) = P st × Each go × Each other
  Each (do_free_ints_null {st = st} a place next t is ev equal go) = P st × Each go
  Each (do_free_ints {st = st} a place next t u w long also content c d mid left is ev first head arguments equal second block others there same go) = P st × Each go
  Each (do_offset_zero {st = st} x a i place next t j is ev_a ev_i equal go) = P st × Each go
  Each (do_offset {st = st} x a i place next t j u long content c others is ev_a ev_i number removes head arguments equal low high go) = P st × Each go
  Each (do_load_at {st = st} x a i place next t j u long list index item c others is ev_a ev_i number removes head arguments finds inside is_item go) = P st × Each go
  Each (do_store_at {st = st} a i b place next t j w u long index content new c others is ev_a ev_i ev_b number facts takes head arguments finds inside becomes go) = P st × Each go
  Each (may_drop {st = st} never) = P st
  Each (may_change {st = st} changed go) = P st × Each go
  Each (may_arrange {st = st} arranged go) = P st × Each go
  Each (may_open {st = st} outs opened go) = P st × ((s : terms.Store) (su : SymbolicState) (among : IsAmong outs s su) → Each (go s su among))
  Each (may_close {st = st} outs closed go) = P st × ((s : terms.Store) (su : SymbolicState) (among : IsAmong outs s su) → Each (go s su among))
  Each (may_see {st = st} fact shown go) = P st × Each go
  Each (may_split {st = st} t go other) = P st × Each go × Each other
  Each (may_leak {st = st} a sorts store outs may sorted consume go) = P st × ((s : terms.Store) (su : SymbolicState) (among : IsAmong outs s su) → Each (go s su among))
  Each (may_know {st = st} a sorts store outs of_nothing produce go) = P st × ((s : terms.Store) (su : SymbolicState) (among : IsAmong outs s su) → Each (go s su among))
  Each (may_call_lemma {st = st} lemma ts outs holds leak inhabited long sorted thread consume go) = P st × ((s : terms.Store) (su : SymbolicState) (among : IsAmong outs s su) → Each (go s su among))
  Each (may_enter {st = st} loop at is_loop enters go) = P st × L loop × ((s : terms.Store) (su : SymbolicState) (among : IsAmong loop.outs s su) → Each (go s su among))
  Each (may_repeat {st = st} loop one_of at enters) = P st

-- each outcome at a loop's head is typed
abbrev pub HasTypedOutcomes : Environment → ProgramTree → FunctionTree → (ℕ → Option Sort) → Loop → Type 0
HasTypedOutcomes e p f kinds loop = (s : terms.Store) (su : SymbolicState) → IsAmong loop.outs s su → IsTypedState e p f.locals kinds su

-- nothing is asked of a state
abbrev pub IsState : SymbolicState → Type 0
IsState st = Unit {0}

-- a body that is accepted from a typed state on, where the function keeps to types and each loop that is entered has typed outcomes, is accepted by a derivation whose every state is typed
abbrev pub AcceptedBodiesAreTyped : Type 0
AcceptedBodiesAreTyped =
    (e : Environment) (p : ProgramTree) (f : FunctionTree) (k : ContractTree) (kinds : ℕ → Option Sort) (now soon : List Loop) (n : ℕ) (st : SymbolicState) (d : Accepts e p f k now soon n st) → IsTypedFunction p f
    → Each e p f k IsState (HasTypedOutcomes e p f kinds) d → IsTypedState e p f.locals kinds st → (c : Accepts e p f k now soon n st) × Each e p f k (IsTypedState e p f.locals kinds) (HasTypedOutcomes e p f kinds) c
