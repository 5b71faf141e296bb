-- Symbols that are new to a state, and so may stand for any value.
use Rattle.std.specs.Prelude.{◌≡◌, ℕ, List, [], ◌∷◌, Option, Some, None, ◌⊎◌}
use Rattle.vf_meaning.specs.Ghost.{Name, Numbered, Variable}
use Rattle.vf_meaning.specs.Names.{Uses, UsesHead}
use Rattle.vf_rules.specs.Terms.{Term, Store}
use Rattle.vf_rules.specs.States.{Fact, Holds, OfSort, ChunkHead, CellOf, Of, SymbolicChunk, SymbolicState}

-- the symbol of a number, as a term
abbrev pub symbol : ℕ → Term
symbol y = Variable (Numbered y)

-- a symbol stands in a fact
abbrev pub UsesFact : Fact → Name → Type 0
UsesFact (Holds t) x = Uses t x
UsesFact (OfSort t s) x = Uses t x

-- a symbol stands in a chunk's head
abbrev pub UsesChunkHead : ChunkHead → Name → Type 0
UsesChunkHead (CellOf f) x = ⊥
UsesChunkHead (Of head) x = UsesHead head x

-- a symbol stands in one of several arguments that are known
abbrev pub UsesArguments : List (Option Term) → Name → Type 0
UsesArguments [] x = ⊥
UsesArguments (None ∷ ts) x = UsesArguments ts x
UsesArguments (Some t ∷ ts) x = Uses t x ⊎ UsesArguments ts x

-- a symbol stands in the share, the head or an argument of a chunk
abbrev pub UsesChunk : SymbolicChunk → Name → Type 0
UsesChunk c x = Uses c.share x ⊎ (UsesChunkHead c.head x ⊎ UsesArguments c.arguments x)

-- a symbol stands in one of several chunks
abbrev pub UsesChunks : List SymbolicChunk → Name → Type 0
UsesChunks [] x = ⊥
UsesChunks (c ∷ cs) x = UsesChunk c x ⊎ UsesChunks cs x

-- a symbol stands in one of several facts
abbrev pub UsesFacts : List Fact → Name → Type 0
UsesFacts [] x = ⊥
UsesFacts (f ∷ fs) x = UsesFact f x ⊎ UsesFacts fs x

-- a symbol that stands in no term of a store
abbrev pub IsFreshIn : ℕ → Store → Type 0
IsFreshIn y s = (x : Name) (t : Term) → s x ≡ Some t → Uses t (Numbered y) → ⊥

-- a symbol that stands nowhere in a state
pub record IsFresh (y : ℕ) (st : SymbolicState) : Type 0 where
  pub locals : UsesArguments st.locals (Numbered y) → ⊥
  pub names : IsFreshIn y st.names
  pub chunks : UsesChunks st.chunks (Numbered y) → ⊥
  pub path : UsesFacts st.path (Numbered y) → ⊥

-- a symbol that is new where an assertion is read: it stands nowhere in the state, in no term of the store, not in the scale and in none of the arguments read so far
pub record IsNew (y : ℕ) (scale : Term) (s : Store) (arguments : List (Option Term)) (st : SymbolicState) : Type 0 where
  pub state : IsFresh y st
  pub store : IsFreshIn y s
  pub scale_free : Uses scale (Numbered y) → ⊥
  pub arguments_free : UsesArguments arguments (Numbered y) → ⊥
