-- What can be compared stays so.
use Rattle.std.proofs.Common.{◌≡◌, ℕ, zero, suc, ◌<◌, length, get_or, refl, sym, ap, subst, List, [], ◌∷◌, ◌++◌, take, drop, Result, Ok, Err, Bool, true, false, cond}
use Rattle.std.specs.Prelude.{Option, Some, None, slice_get, slice_set}
use Rattle.std.specs.List.{remove}
use Rattle.std.proofs.lemmas.Option.{slice_get_read}
use Rattle.vf_base.specs.declared.rule.Rule.TheVariants as rules
use Rattle.vf_base.specs.declared.refusal.Refusal.{Refusal}
use Rattle.vf_model.specs.Values.{Dyadic}
use Rattle.vf_fractions.specs.Kept.{has_form}
use Rattle.vf_fractions.specs.Arithmetic.{difference}
use Rattle.vf_asking.specs.Course.{refusal}
use Rattle.vf_chunk.specs.declared.chunk.Chunk.{Chunk}
use Rattle.vf_chunk.specs.Chunks.{part_of, rest_of}
use Rattle.vf_take.specs.declared.wanted.Places.{Places}
use Rattle.vf_take.specs.declared.wanted.Portion.{Portion}
use Rattle.vf_take.specs.declared.wanted.Portion.TheVariants.{Whole, Part}
use Rattle.vf_take.specs.declared.wanted.Taken.{Taken}
use Rattle.vf_take.specs.Usable.{ChunkCanBeCompared, HeapCanBeCompared, TakenCanBeCompared}
use Rattle.vf_take.specs.Takes.{parted, taken_at}

heap_taken : (cs : List Chunk) (i : ℕ) → HeapCanBeCompared cs → HeapCanBeCompared (take i cs)
heap_taken cs zero h = none cs
  where
    none : (cs : List Chunk) → HeapCanBeCompared (take 0 cs)
    none [] = tt
    none (c ∷ cs) = tt
heap_taken [] (suc i) h = tt
heap_taken (c ∷ cs) (suc i) h = (h.0, heap_taken cs i h.1)

heap_dropped : (cs : List Chunk) (i : ℕ) → HeapCanBeCompared cs → HeapCanBeCompared (drop i cs)
heap_dropped cs zero h = all cs h
  where
    all : (cs : List Chunk) → HeapCanBeCompared cs → HeapCanBeCompared (drop 0 cs)
    all [] h = tt
    all (c ∷ cs) h = h
heap_dropped [] (suc i) h = tt
heap_dropped (c ∷ cs) (suc i) h = heap_dropped cs i h.1

pub heap_joined : (cs ds : List Chunk) → HeapCanBeCompared cs → HeapCanBeCompared ds → HeapCanBeCompared (cs ++ ds)
heap_joined [] ds h k = k
heap_joined (c ∷ cs) ds h k = (h.0, heap_joined cs ds h.1 k)

heap_removed : (cs : List Chunk) (i : ℕ) → HeapCanBeCompared cs → HeapCanBeCompared (remove cs i)
heap_removed cs i h = heap_joined (take i cs) (drop (suc i) cs) (heap_taken cs i h) (heap_dropped cs (suc i) h)

heap_set : (cs : List Chunk) (i : ℕ) (c : Chunk) → HeapCanBeCompared cs → ChunkCanBeCompared c → HeapCanBeCompared (slice_set cs i c)
heap_set [] i c h k = tt
heap_set (d ∷ ds) zero c h k = (k, h.1)
heap_set (d ∷ ds) (suc i) c h k = (h.0, heap_set ds i c h.1 k)

chunk_at : (cs : List Chunk) (i : ℕ) (c : Chunk) → slice_get cs i ≡ Some c → HeapCanBeCompared cs → ChunkCanBeCompared c
chunk_at [] i c e h = cc
chunk_at (d ∷ ds) zero c e h = let is : d ≡ c = cc in subst ChunkCanBeCompared is h.0
chunk_at (d ∷ ds) (suc i) c e h = chunk_at ds i c e h.1

-- a part that is taken, where a form is there
abbrev by_form : Places → List Chunk → ℕ → Dyadic → Chunk → Bool → Result Taken Refusal
by_form places cs i x c b = cond b (Ok (record { chunk = part_of c x; bound = None; heap = slice_set cs i (rest_of c x) })) (Err (refusal rules.Fraction places.statement))

parted_kept : (places : Places) (cs : List Chunk) (i : ℕ) (p : Portion) (c : Chunk) (t : Taken) → ChunkCanBeCompared c → HeapCanBeCompared cs → parted places.statement cs i p c ≡ Ok t → TakenCanBeCompared t
parted_kept places cs i (Whole bound) c t h k e =
    let is : record { chunk = c; bound = bound; heap = remove cs i } ≡ t = cc in
    subst TakenCanBeCompared is (record { chunk = h; heap = heap_removed cs i k })
parted_kept places cs i (Part x) c t h k e = by (has_form (difference c.share.coefficient x)) e
  where
    by : (b : Bool) → by_form places cs i x c b ≡ Ok t → TakenCanBeCompared t
    by true e =
        let is : record { chunk = part_of c x; bound = None; heap = slice_set cs i (rest_of c x) } ≡ t = cc in
        subst TakenCanBeCompared is (record { chunk = record { terms = h.terms; arguments = h.arguments }; heap = heap_set cs i (rest_of c x) k (record { terms = h.terms; arguments = h.arguments }) })
    by false e = cc

-- what is taken can be compared
pub taken_kept : (places : Places) (cs : List Chunk) (i : ℕ) (p : Portion) (t : Taken) → HeapCanBeCompared cs → taken_at places cs i p (slice_get cs i) ≡ Ok t → TakenCanBeCompared t
taken_kept places cs i p t h e = by (slice_get cs i) refl e
  where
    by : (o : Option Chunk) → slice_get cs i ≡ o → taken_at places cs i p o ≡ Ok t → TakenCanBeCompared t
    by (Some c) f e = parted_kept places cs i p c t (chunk_at cs i c f h) h e
    by None f e = cc

-- a part that is taken, and what is left, can be compared
pub part_kept : (cs ds es : List Chunk) (at : ℕ) (x : Dyadic) (c d r : Chunk) → at < length cs → ds ≡ cs → c ≡ get_or ds at c → ◌≡◌ {A = Chunk × Chunk} (d, r) (part_of c x, rest_of c x) → es ≡ slice_set cs at r → HeapCanBeCompared cs → TakenCanBeCompared (record { chunk = d; bound = None; heap = es })
part_kept cs ds es at x c d r low same is parts set h =
    let here = chunk_at cs at c (slice_get_read cs (length cs) at c refl low (subst (λ (xs : List Chunk). c ≡ get_or xs at c) same is)) h in
    let left = subst ChunkCanBeCompared (sym (ap (λ (p : Chunk × Chunk). p.1) parts)) (record { terms = here.terms; arguments = here.arguments }) in
    record {
      chunk = subst ChunkCanBeCompared (sym (ap (λ (p : Chunk × Chunk). p.0) parts)) (record { terms = here.terms; arguments = here.arguments });
      heap = subst HeapCanBeCompared (sym set) (heap_set cs at r h left);
    }
