-- Loops: an invariant at a loop's head, what the loop changes, and how a state comes to the head.
use Rattle.std.specs.Prelude.{◌≡◌, ℕ, List, [], ◌∷◌, ◌++◌, length, slice_get, Option, Some, None}
use Rattle.vf_tree.specs.Core.{TypeTree, ProgramTree}
use Rattle.vf_meaning.specs.Fractions.{whole}
use Rattle.vf_meaning.specs.Ghost.{Sort, Name, Numbered, Fraction}
use Rattle.vf_meaning.specs.Names.{Uses}
use Rattle.vf_meaning.specs.Assertions.{Assertion, Environment}
use Rattle.vf_rules.specs.Terms.{Term, Store}
use Rattle.vf_rules.specs.States.{Fact, OfSort, SymbolicChunk, SymbolicState, Entails}
use Rattle.vf_rules.specs.Fresh.{symbol, IsFreshIn, UsesChunks, UsesFacts}
use Rattle.vf_rules.specs.Types.{facts_of_type}
use Rattle.vf_rules.specs.Produce.{Produce}
use Rattle.vf_rules.specs.Consume.{EntailsAll, Consume}
use Rattle.vf_rules.specs.Predicates.{AreInhabited}
use Rattle.vf_rules.specs.Laws.{Outcome, IsAmong}

-- what is known of a value that a loop changes: the type of its local, or the sort of its ghost name
pub data Known : Type 0 where
  OfLocal : TypeTree → Known
  OfGhost : Sort → Known

-- the same as facts of a term
abbrev pub facts_of_known : Known → Term → List Fact
facts_of_known (OfLocal type) t = facts_of_type type t
facts_of_known (OfGhost sort) t = OfSort t sort ∷ []

-- something that a loop changes: the number of the symbol that stands for its value at the head, and what is known of that
pub record Changing : Type 0 where
  pub number : ℕ
  pub known : Known

-- what is known of the symbols of all that a loop changes
abbrev pub facts_of_changing : List Changing → List Fact
facts_of_changing [] = []
facts_of_changing (c ∷ cs) = facts_of_known c.known (symbol c.number) ++ facts_of_changing cs

-- A loop: the step of its head; its invariant with the sorts of its names; what the loop changes; and of the head the terms of the locals and of the names, the chunks that the invariant does not have, which are kept, what is known there besides, and the outcomes of producing the invariant
pub record Loop : Type 0 where
  pub node : ℕ
  pub invariant : Assertion
  pub sorts : List Sort
  pub changing : List Changing
  pub locals : List (Option Term)
  pub names : Store
  pub store : Store
  pub kept : List SymbolicChunk
  pub path : List Fact
  pub outs : List Outcome

-- the state at a loop's head before its invariant is produced
abbrev pub before_invariant : Loop → SymbolicState
before_invariant loop = record { locals = loop.locals; names = loop.names; chunks = loop.kept; path = loop.path ++ facts_of_changing loop.changing }

-- the symbol of something that a loop changes stands in nothing that the loop keeps
pub record IsFreeOf (y : ℕ) (loop : Loop) : Type 0 where
  pub names : IsFreshIn y loop.names
  pub kept : UsesChunks loop.kept (Numbered y) → ⊥
  pub path : UsesFacts loop.path (Numbered y) → ⊥

-- a loop is well made: the symbols of what it changes are new and differ, its names can have values, and its invariant is produced at the head
pub record IsLoop (e : Environment) (p : ProgramTree) (loop : Loop) : Type 0 where
  pub fresh : (j : ℕ) (c : Changing) → slice_get loop.changing j ≡ Some c → IsFreeOf c.number loop
  pub distinct : (i j : ℕ) (c d : Changing) → slice_get loop.changing i ≡ Some c → slice_get loop.changing j ≡ Some d → c.number ≡ d.number → i ≡ j
  pub inhabited : AreInhabited e loop.sorts
  pub produced : Produce e p loop.sorts (Fraction whole) loop.invariant loop.store (before_invariant loop) (IsAmong loop.outs)

-- a term of the head, for the one that stands there in a state which comes to it: a symbol of what the loop changes, or the same term, in which no such symbol stands
pub data Comes (changing : List Changing) (now : List Term) : Term → Term → Type 0 where
  kept_term : (t : Term) → ((j : ℕ) (c : Changing) → slice_get changing j ≡ Some c → Uses t (Numbered c.number) → ⊥) → Comes changing now t t
  changed_term : (j : ℕ) (c : Changing) (t : Term) → slice_get changing j ≡ Some c → slice_get now j ≡ Some t → Comes changing now (symbol c.number) t

-- the same of locals, one by one; one that is unset at the head may hold anything
abbrev pub LocalsCome : List Changing → List Term → List (Option Term) → List (Option Term) → Type 0
LocalsCome changing now [] [] = Unit {0}
LocalsCome changing now (None ∷ ts) (u ∷ us) = LocalsCome changing now ts us
LocalsCome changing now (Some t ∷ ts) (Some u ∷ us) = Comes changing now t u × LocalsCome changing now ts us
LocalsCome changing now _ _ = ⊥

-- A state, from which the invariant has been consumed under a store, comes to a loop's head: now stand these terms for what the loop changes, all else is as at the head, and nothing is left but the kept chunks
pub record Arrives (e : Environment) (loop : Loop) (store : Store) (st : SymbolicState) : Type 0 where
  pub now : List Term
  pub number : length now ≡ length loop.changing
  pub known : (j : ℕ) (c : Changing) (t : Term) → slice_get loop.changing j ≡ Some c → slice_get now j ≡ Some t → EntailsAll e st.path (facts_of_known c.known t)
  pub locals : LocalsCome loop.changing now loop.locals st.locals
  pub names : (x : Name) (t : Term) → loop.names x ≡ Some t → st.names x ≡ Some t
  pub store_comes : (x : Name) (t : Term) → loop.store x ≡ Some t → (u : Term) × (store x ≡ Some u) × Comes loop.changing now t u
  pub kept : st.chunks ≡ loop.kept
  pub path : EntailsAll e st.path loop.path

-- on a path the numbered names of a store have their sorts
abbrev pub AreNamesSorted : Environment → List Fact → List Sort → Store → Type 0
AreNamesSorted e path sorts store = (k : ℕ) (s : Sort) (t : Term) → slice_get sorts k ≡ Some s → store (Numbered k) ≡ Some t → Entails e path (OfSort t s)

-- a state comes to a loop's head, at the beginning or once more: its invariant is consumed, under a store in which the numbered names have their sorts
pub record Enters (e : Environment) (p : ProgramTree) (loop : Loop) (st : SymbolicState) : Type 0 where
  pub store : Store
  pub of_sorts : AreNamesSorted e st.path loop.sorts store
  pub consumed : Consume e p loop.sorts (Fraction whole) loop.invariant store st (λ s1 st1. Arrives e loop store st1)
