-- Taking a share of a chunk out of a heap.
use Rattle.std.specs.Prelude.{ℕ, ◌+◌, cond, List, [], ◌∷◌, Option, Some, None, Result, Ok, Err, slice_set, remove}
use Rattle.vf_base.specs.declared.place.Place.{Place}
use Rattle.vf_base.specs.declared.rule.Rule.TheVariants as rules
use Rattle.vf_base.specs.declared.refusal.Refusal.{Refusal}
use Rattle.vf_closure.specs.Literals.{Literal}
use Rattle.vf_fractions.specs.Kept.{has_form}
use Rattle.vf_fractions.specs.Arithmetic.{difference}
use Rattle.vf_asking.specs.Course.{Course, done, try, refusal}
use Rattle.vf_chunk.specs.declared.chunk.Chunk.{Chunk}
use Rattle.vf_chunk.specs.Heads.{is_one_name}
use Rattle.vf_chunk.specs.Chunks.{part_of, rest_of}
use Rattle.vf_take.specs.declared.wanted.Places.{Places}
use Rattle.vf_take.specs.declared.wanted.Wanted.{Wanted}
use Rattle.vf_take.specs.declared.wanted.Portion.{Portion}
use Rattle.vf_take.specs.declared.wanted.Portion.TheVariants.{Whole, Part}
use Rattle.vf_take.specs.declared.wanted.Found.{Found}
use Rattle.vf_take.specs.declared.wanted.Taken.{Taken}
use Rattle.vf_take.specs.Fits.{tries}

-- what follows where a chunk was tried
abbrev pub or_later : ℕ → Course (Result (Option Found) Refusal) → Option Portion → Course (Result (Option Found) Refusal)
or_later at later None = later
or_later at later (Some p) = done (Ok (Some (record { at = at; portion = p })))

-- the oldest chunk of the wanted head that fits, with its place in the heap, counted on from a number
unfoldable pub finds : Places → List Literal → Wanted → List Chunk → ℕ → Course (Result (Option Found) Refusal)
finds places path w [] at = done (Ok None)
finds places path w (c ∷ cs) at =
    cond (is_one_name c.head.name w.head.name)
    (try (tries places path w c) (or_later at (finds places path w cs (at + 1))))
    (finds places path w cs (at + 1))

-- a part is taken of a chunk: what is left stays in its place; a fraction without form is refused (rule 44)
abbrev pub parted : Place → List Chunk → ℕ → Portion → Chunk → Result Taken Refusal
parted statement cs at (Whole bound) c = Ok (record { chunk = c; bound = bound; heap = remove cs at })
parted statement cs at (Part x) c = cond (has_form (difference c.share.coefficient x)) (Ok (record { chunk = part_of c x; bound = None; heap = slice_set cs at (rest_of c x) })) (Err (refusal rules.Fraction statement))

-- the same of the chunk at a place
abbrev pub taken_at : Places → List Chunk → ℕ → Portion → Option Chunk → Result Taken Refusal
taken_at places cs at p (Some c) = parted places.statement cs at p c
taken_at places cs at p None = Err (refusal rules.NoChunk places.part)

-- what is taken, and the facts that are known then
abbrev pub beside : List Literal → Result Taken Refusal → Result (Taken × List Literal) Refusal
beside path (Ok t) = Ok (t, path)
beside path (Err e) = Err e
