-- Opening and closing predicates: a chunk for its body, and a body for its chunk.
use Rattle.std.specs.Prelude.{◌≡◌, ℕ, List, length, slice_get, Some, None}
use Rattle.vf_tree.specs.Core.{Identity, ProgramTree}
use Rattle.vf_model.specs.Values.{Dyadic, Value}
use Rattle.vf_model.specs.Values as values
use Rattle.vf_meaning.specs.Fractions.{IsPositive}
use Rattle.vf_meaning.specs.Ghost.{Sort, Numbered, Function}
use Rattle.vf_meaning.specs.Valuations.{Valuation}
use Rattle.vf_meaning.specs.Assertions.{Head, Named, Family, BodyName, Plain, Instance, BodyTree, Environment}
use Rattle.vf_meaning.specs.Sorts.{HasSort}
use Rattle.vf_meaning.specs.Chunks.{primitive, Others}
use Rattle.vf_rules.specs.Terms.{Term, Store}
use Rattle.vf_rules.specs.States.{Fact, OfSort, Of, SymbolicChunk, SymbolicState, value_in, Meets, Entails, with_chunk, with_chunks}
use Rattle.vf_rules.specs.Produce.{Produce}
use Rattle.vf_rules.specs.Take.{same, Takes, all_known}
use Rattle.vf_rules.specs.Consume.{Consume}
use Rattle.vf_rules.specs.Laws.{Outcome, IsAmong}

-- a store in which the first names are the parameters and have these terms
abbrev pub store_of : List Term → Store
store_of ts (Numbered k) = slice_get ts k
store_of ts _ = None

-- on a path the body of that name is the one of a head: a predicate that is not the prelude's, or a family at a function
pub data HasBody (e : Environment) (path : List Fact) : Head → BodyName → Type 0 where
  plain : (q : Identity) → primitive q ≡ Others → HasBody e path (Named q) (Plain q)
  instance : (q : Identity) (t : Term) (g : Identity) → Entails e path (same t (Function g)) → HasBody e path (Family q t) (Instance q g)

-- opening: a share of a chunk is taken, and its body is produced at that scale
pub record Opens (e : Environment) (prog : ProgramTree) (st : SymbolicState) (outs : List Outcome) : Type 0 where
  pub chunk : SymbolicChunk
  pub others : List SymbolicChunk
  pub share : Term
  pub taken : Takes e st.path share chunk st.chunks others
  pub head : Head
  pub head_is : chunk.head ≡ Of head
  pub name : BodyName
  pub of_head : HasBody e st.path head name
  pub body : BodyTree
  pub there : e.bodies name ≡ Some body
  pub arguments : List Term
  pub arguments_are : chunk.arguments ≡ all_known arguments
  pub number : length arguments ≡ body.parameters
  pub produced : Produce e prog body.sorts share body.assertion (store_of arguments) (with_chunks st others) (IsAmong outs)

-- each sort has a value
abbrev pub AreInhabited : Environment → List Sort → Type 0
AreInhabited e sorts = (k : ℕ) (s : Sort) → slice_get sorts k ≡ Some s → (w : Value) × HasSort e w s

-- on a path each of the terms has the sort of its place
abbrev pub AreSorted : Environment → List Fact → List Sort → List Term → Type 0
AreSorted e path sorts ts = (k : ℕ) (s : Sort) (t : Term) → slice_get sorts k ≡ Some s → slice_get ts k ≡ Some t → Entails e path (OfSort t s)

-- on a path a term is a positive fraction
pub record IsFraction (e : Environment) (path : List Fact) (t : Term) : Type 0 where
  pub by : (v : Valuation) → Meets e v path → (x : Dyadic) × (value_in e v t ≡ values.Fraction x) × IsPositive x

-- the chunk that a closed body is
abbrev pub closed : Head → Term → List Term → SymbolicChunk
closed head share arguments = record { share = share; head = Of head; arguments = all_known arguments }

-- the head of a body's chunks: the predicate, or the family at the function's name
abbrev pub head_named : BodyName → Head
head_named (Plain q) = Named q
head_named (Instance q g) = Family q (Function g)

-- a body is not that of a predicate of the prelude that has none
abbrev pub IsOpenable : BodyName → Type 0
IsOpenable (Plain q) = primitive q ≡ Others
IsOpenable (Instance q g) = Unit {0}

-- closing: a body is consumed at a share, and its chunk is added; among the outcomes is each state so got
pub record Closes (e : Environment) (prog : ProgramTree) (st : SymbolicState) (outs : List Outcome) : Type 0 where
  pub share : Term
  pub fraction : IsFraction e st.path share
  pub name : BodyName
  pub openable : IsOpenable name
  pub body : BodyTree
  pub there : e.bodies name ≡ Some body
  pub arguments : List Term
  pub number : length arguments ≡ body.parameters
  pub of_sorts : AreSorted e st.path body.sorts arguments
  pub inhabited : AreInhabited e body.sorts
  pub consumed : Consume e prog body.sorts share body.assertion (store_of arguments) st (λ s st1. IsAmong outs s (with_chunk st1 (closed (head_named name) share arguments)))
