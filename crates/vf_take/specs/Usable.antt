-- Which chunks and patterns can be asked about: those whose terms can be compared.
use Rattle.std.specs.Prelude.{ℕ, List, [], ◌∷◌, Option, Some, None, slice_get}
use Rattle.vf_closure.specs.Terms.{Term}
use Rattle.vf_equality.specs.Equality.{CanBeCompared, AllCanBeCompared}
use Rattle.vf_chunk.specs.declared.chunk.Argument.{Argument}
use Rattle.vf_chunk.specs.declared.chunk.Argument.TheVariants.{Known, Unknown}
use Rattle.vf_chunk.specs.declared.chunk.Chunk.{Chunk}
use Rattle.vf_take.specs.declared.wanted.Pattern.{Pattern}
use Rattle.vf_take.specs.declared.wanted.Pattern.TheVariants as patterns
use Rattle.vf_take.specs.declared.wanted.Taken.{Taken}
use Rattle.vf_take.specs.declared.wanted.Wanted.{Wanted}

-- an argument that is known can be compared
abbrev pub ArgumentCanBeCompared : Argument → Type 0
ArgumentCanBeCompared (Known t) = CanBeCompared t
ArgumentCanBeCompared Unknown = Unit {0}

-- each argument that is known can be compared
abbrev pub ArgumentsCanBeCompared : List Argument → Type 0
ArgumentsCanBeCompared [] = Unit {0}
ArgumentsCanBeCompared (a ∷ xs) = ArgumentCanBeCompared a × ArgumentsCanBeCompared xs

-- the head terms and the known arguments of a chunk can be compared
pub record ChunkCanBeCompared (c : Chunk) : Type 0 where
  pub terms : AllCanBeCompared c.head.terms
  pub arguments : ArgumentsCanBeCompared c.arguments

-- all chunks of a heap can be compared
abbrev pub HeapCanBeCompared : List Chunk → Type 0
HeapCanBeCompared [] = Unit {0}
HeapCanBeCompared (c ∷ cs) = ChunkCanBeCompared c × HeapCanBeCompared cs

-- what is taken, and what is left, can be compared
pub record TakenCanBeCompared (t : Taken) : Type 0 where
  pub chunk : ChunkCanBeCompared t.chunk
  pub heap : HeapCanBeCompared t.heap

-- the term of a pattern, if it has one, can be compared
abbrev pub PatternCanBeCompared : Pattern → Type 0
PatternCanBeCompared (patterns.Is t) = CanBeCompared t
PatternCanBeCompared p = Unit {0}

-- each pattern can be compared
abbrev pub PatternsCanBeCompared : List Pattern → Type 0
PatternsCanBeCompared [] = Unit {0}
PatternsCanBeCompared (p ∷ ps) = PatternCanBeCompared p × PatternsCanBeCompared ps

-- the head terms and the patterns of what is wanted can be compared
pub record WantedCanBeCompared (w : Wanted) : Type 0 where
  pub terms : AllCanBeCompared w.head.terms
  pub patterns : PatternsCanBeCompared w.patterns

-- the term of an argument that is there and known
abbrev pub known_of : Option Argument → Option Term
known_of (Some (Known t)) = Some t
known_of a = None

-- the term of the argument at a place, counted from 0, if it is there and known
abbrev pub known_at : List Argument → ℕ → Option Term
known_at xs i = known_of (slice_get xs i)
