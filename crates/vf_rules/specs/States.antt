-- Symbolic states: locals as terms, chunks with a share, a head and arguments, and facts; and what they stand for.
use Rattle.std.specs.Prelude.{◌≡◌, ℕ, IsTrue, List, [], ◌∷◌, ◌++◌, map, Option, Some, None}
use Rattle.vf_tree.specs.Core.{Field}
use Rattle.vf_model.specs.Values.{Dyadic, Value}
use Rattle.vf_model.specs.Values as values
use Rattle.vf_meaning.specs.Fractions.{whole, IsPositive}
use Rattle.vf_meaning.specs.Ghost.{Name, CurrentThread, Sort, Integers, Variable}
use Rattle.vf_meaning.specs.Valuations.{Valuation, is_true}
use Rattle.vf_meaning.specs.GhostValues.{Interpretation, value_of, interpreted}
use Rattle.vf_meaning.specs.Assertions.{Head, Environment}
use Rattle.vf_meaning.specs.Sorts.{HasSort}
use Rattle.vf_meaning.specs.Parts.{Part, nothing, IsSum}
use Rattle.vf_meaning.specs.Chunks.{Wanted, Just, IsFieldCell}
use Rattle.vf_meaning.specs.Chunks as chunks
use Rattle.vf_meaning.specs.Satisfaction.{SatisfiesHead, MeansAt}
use Rattle.vf_rules.specs.Terms.{Term, Store}

-- what is known on a path: a term is true, or has a value of a sort
pub data Fact : Type 0 where
  Holds : Term → Fact
  OfSort : Term → Sort → Fact

-- what a chunk is of: a field's cell, or what an assertion's chunk is of
pub data ChunkHead : Type 0 where
  CellOf : Field → ChunkHead
  Of : Head → ChunkHead

-- A chunk: the fraction that is owned, what it is of, and its arguments, of which one that is None is unknown. A cell has its pointer and its content
pub record SymbolicChunk : Type 0 where
  pub share : Term
  pub head : ChunkHead
  pub arguments : List (Option Term)

-- A state of symbolic execution: the terms of the locals (None where a local may be unset), those of the ghost names, the chunks, oldest first, and what is known
pub record SymbolicState : Type 0 where
  pub locals : List (Option Term)
  pub names : Store
  pub chunks : List SymbolicChunk
  pub path : List Fact

-- what the declarations of an environment give to terms
abbrev pub meaning : Environment → Interpretation
meaning e = interpreted e.claims e.fixpoints

-- the value of a term under a valuation of the symbols
abbrev pub value_in : Environment → Valuation → Term → Value
value_in e v t = value_of (meaning e) v t

-- a fact is met by a valuation
abbrev pub IsMet : Environment → Valuation → Fact → Type 0
IsMet e v (Holds t) = IsTrue (is_true (value_in e v t))
IsMet e v (OfSort t s) = HasSort e (value_in e v t) s

-- all facts of a path are met
abbrev pub Meets : Environment → Valuation → List Fact → Type 0
Meets e v [] = Unit {0}
Meets e v (f ∷ fs) = IsMet e v f × Meets e v fs

-- a known argument is that value, and an unknown one is any
abbrev pub wanted_in : Environment → Valuation → Option Term → Wanted
wanted_in e v (Some t) = Just (value_in e v t)
wanted_in e v None = chunks.Anything

-- a fraction of what a head is of, at arguments
abbrev pub HeadMeans : Environment → Valuation → Dyadic → ChunkHead → List (Option Term) → Part → Type 0
HeadMeans e v x (CellOf f) (Some pointer ∷ content ∷ []) p = IsFieldCell x (value_in e v pointer) f (wanted_in e v content) p
HeadMeans e v x (CellOf f) _ p = ⊥
HeadMeans e v x (Of head) arguments p = (n : ℕ) × SatisfiesHead (MeansAt e n) (meaning e) whole x head v (map (wanted_in e v) arguments) p

-- a part that a chunk stands for: that positive fraction of what it is of
pub record ChunkMeans (e : Environment) (v : Valuation) (c : SymbolicChunk) (p : Part) : Type 0 where
  pub fraction : Dyadic
  pub share : value_in e v c.share ≡ values.Fraction fraction
  pub positive : IsPositive fraction
  pub head : HeadMeans e v fraction c.head c.arguments p

-- a part that is the sum of what several chunks stand for
abbrev pub ChunksMean : Environment → Valuation → List SymbolicChunk → Part → Type 0
ChunksMean e v [] p = p ≡ nothing
ChunksMean e v (c ∷ cs) p = (q : Part) × (r : Part) × IsSum q r p × ChunkMeans e v c q × ChunksMean e v cs r

-- locals that terms stand for, one by one; where there is no term any content is stood for
abbrev pub LocalsMean : Environment → Valuation → List (Option Term) → List (Option Value) → Type 0
LocalsMean e v [] [] = Unit {0}
LocalsMean e v (None ∷ ts) (held ∷ locals) = LocalsMean e v ts locals
LocalsMean e v (Some t ∷ ts) (held ∷ locals) = (held ≡ Some (value_in e v t)) × LocalsMean e v ts locals
LocalsMean e v _ _ = ⊥

-- the names that a store binds have their terms' values: under a valuation v of the symbols, w is a valuation of the names
abbrev pub StoreMeans : Environment → Valuation → Store → Valuation → Type 0
StoreMeans e v s w = (x : Name) (t : Term) → s x ≡ Some t → value_in e v t ≡ w x

-- A state stands for locals, ghost names and a part under a valuation of the symbols: the facts are met, the locals and the names have their terms' values, and the part is the sum of what the chunks stand for
pub record StandsFor (e : Environment) (v : Valuation) (st : SymbolicState) (locals : List (Option Value)) (names : Valuation) (p : Part) : Type 0 where
  pub path : Meets e v st.path
  pub locals_mean : LocalsMean e v st.locals locals
  pub names_mean : StoreMeans e v st.names names
  pub chunks_mean : ChunksMean e v st.chunks p

-- every valuation that meets the facts meets the goal, which is what a right answer says
pub record Entails (e : Environment) (path : List Fact) (goal : Fact) : Type 0 where
  pub by : (v : Valuation) → Meets e v path → IsMet e v goal

-- what is known of the running thread: it is named by a number
abbrev pub facts_of_thread : List Fact
facts_of_thread = OfSort (Variable CurrentThread) Integers ∷ []

-- on a path the running thread is known to be named by a number
abbrev pub KnowsThread : Environment → List Fact → Type 0
KnowsThread e path = Entails e path (OfSort (Variable CurrentThread) Integers)

-- a state shows a fact: wherever the state stands for something, its chunks too, the fact is met
pub record Shows (e : Environment) (st : SymbolicState) (f : Fact) : Type 0 where
  pub by : (v : Valuation) (locals : List (Option Value)) (names : Valuation) (p : Part) → StandsFor e v st locals names p → IsMet e v f

-- no valuation meets the facts
pub record Infeasible (e : Environment) (path : List Fact) : Type 0 where
  pub by : (v : Valuation) → Meets e v path → ⊥

-- the state with one more fact
abbrev pub assuming : SymbolicState → Fact → SymbolicState
assuming st f = record st { path = st.path ++ f ∷ [] }

-- the state with one more chunk, as the newest
abbrev pub with_chunk : SymbolicState → SymbolicChunk → SymbolicState
with_chunk st c = record st { chunks = st.chunks ++ c ∷ [] }

-- the state with other chunks
abbrev pub with_chunks : SymbolicState → List SymbolicChunk → SymbolicState
with_chunks st cs = record st { chunks = cs }

-- the state with several more facts
abbrev pub assuming_all : SymbolicState → List Fact → SymbolicState
assuming_all st fs = record st { path = st.path ++ fs }
