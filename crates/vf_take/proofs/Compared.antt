-- Merged chunks can be compared.
use Rattle.std.proofs.Common.{◌≡◌, subst, Result, Ok, Err, Bool, true, false, cond, List, [], ◌∷◌, drop}
use Rattle.vf_base.specs.declared.place.Place.{Place}
use Rattle.vf_base.specs.declared.rule.Rule.TheVariants as rules
use Rattle.vf_base.specs.declared.refusal.Refusal.{Refusal}
use Rattle.vf_meaning.specs.Fractions.{sum}
use Rattle.vf_fractions.specs.Kept.{has_form}
use Rattle.vf_asking.specs.Course.{refusal}
use Rattle.vf_chunk.specs.declared.chunk.Argument.{Argument}
use Rattle.vf_chunk.specs.declared.chunk.Argument.TheVariants.{Known, Unknown}
use Rattle.vf_chunk.specs.declared.chunk.Chunk.{Chunk}
use Rattle.vf_chunk.specs.Chunks.{merged_argument, merged_first, merged_arguments, merged}
use Rattle.vf_take.specs.Usable.{ArgumentCanBeCompared, ArgumentsCanBeCompared, ChunkCanBeCompared}
use Rattle.vf_take.specs.Merges.{merged_by}

argument_merged : (x y : Argument) → ArgumentCanBeCompared x → ArgumentCanBeCompared y → ArgumentCanBeCompared (merged_argument x y)
argument_merged (Known t) y p q = p
argument_merged Unknown y p q = q

first_merged : (x : Argument) (ys : List Argument) → ArgumentCanBeCompared x → ArgumentsCanBeCompared ys → ArgumentCanBeCompared (merged_first x ys)
first_merged x [] p q = p
first_merged x (y ∷ ys) p q = argument_merged x y p q.0

without_first : (ys : List Argument) → ArgumentsCanBeCompared ys → ArgumentsCanBeCompared (drop 1 ys)
without_first [] q = tt
without_first (y ∷ ys) q = q.1

arguments_merged : (xs ys : List Argument) → ArgumentsCanBeCompared xs → ArgumentsCanBeCompared ys → ArgumentsCanBeCompared (merged_arguments xs ys)
arguments_merged [] ys p q = tt
arguments_merged (x ∷ xs) ys p q = (first_merged x ys p.0 q, arguments_merged xs (drop 1 ys) p.1 (without_first ys q))

chunk_merged : (c d : Chunk) → ChunkCanBeCompared c → ChunkCanBeCompared d → ChunkCanBeCompared (merged c d)
chunk_merged c d p q = record { terms = p.terms; arguments = arguments_merged c.arguments d.arguments p.arguments q.arguments }

-- two chunks merged, where a form is there
abbrev by_form : Place → Chunk → Chunk → Bool → Result Chunk Refusal
by_form statement c d b = cond b (Ok (merged c d)) (Err (refusal rules.Fraction statement))

-- what two chunks are merged to
pub merged_compared : (statement : Place) (c d m : Chunk) → merged_by statement c d ≡ Ok m → ChunkCanBeCompared c → ChunkCanBeCompared d → ChunkCanBeCompared m
merged_compared statement c d m e p q = by (has_form (sum c.share.coefficient d.share.coefficient)) e
  where
    by : (b : Bool) → by_form statement c d b ≡ Ok m → ChunkCanBeCompared m
    by true e = let is : merged c d ≡ m = cc in subst ChunkCanBeCompared is (chunk_merged c d p q)
    by false e = cc
