-- Chunks, as data, and what splitting and merging makes of them.
use Rattle.std.specs.Prelude.{List, [], ◌∷◌, drop}
use Rattle.vf_model.specs.Values.{Dyadic}
use Rattle.vf_meaning.specs.Fractions.{sum}
use Rattle.vf_fractions.specs.Arithmetic.{difference}
use Rattle.vf_chunk.specs.declared.share.Share.{Share}
use Rattle.vf_chunk.specs.declared.chunk.Argument.{Argument}
use Rattle.vf_chunk.specs.declared.chunk.Argument.TheVariants.{Known, Unknown}
use Rattle.vf_chunk.specs.declared.chunk.Origin.TheVariants.{Other}
use Rattle.vf_chunk.specs.declared.chunk.Chunk.{Chunk}
use Rattle.vf_chunk.specs.Shares.{with_coefficient}

-- a chunk with another share; it keeps its origin
abbrev pub with_share : Chunk → Share → Chunk
with_share c s = record c { share = s }

-- the part of a chunk with a fraction of its share
abbrev pub part_of : Chunk → Dyadic → Chunk
part_of c x = with_share c (with_coefficient c.share x)

-- what is left of a chunk when a fraction is taken of its share
abbrev pub rest_of : Chunk → Dyadic → Chunk
rest_of c x = with_share c (with_coefficient c.share (difference c.share.coefficient x))

-- an argument of two merged chunks: unknown content yields to known
abbrev pub merged_argument : Argument → Argument → Argument
merged_argument (Known t) a = Known t
merged_argument Unknown a = a

-- an argument merged with the first of others, if there is one
abbrev pub merged_first : Argument → List Argument → Argument
merged_first x [] = x
merged_first x (y ∷ ys) = merged_argument x y

-- the arguments of two merged chunks
abbrev pub merged_arguments : List Argument → List Argument → List Argument
merged_arguments [] ys = []
merged_arguments (x ∷ xs) ys = merged_first x ys ∷ merged_arguments xs (drop 1 ys)

-- two chunks merged: the older one with the sum of both fractions, and what either knows; its origin is no longer that of one of them
abbrev pub merged : Chunk → Chunk → Chunk
merged c d = record { head = c.head; share = with_coefficient c.share (sum c.share.coefficient d.share.coefficient); arguments = merged_arguments c.arguments d.arguments; origin = Other }
