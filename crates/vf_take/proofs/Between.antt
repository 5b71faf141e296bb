-- A chunk between older and younger ones.
use Rattle.std.proofs.Common.{◌≡◌, ℕ, ◌<◌, List, [], ◌∷◌, ◌++◌, length, sym, ap, subst, ◌∙◌, append_assoc, length-append, Result, arith}
use Rattle.std.specs.Prelude.{slice_get}
use Rattle.vf_base.specs.declared.refusal.RuleFault.{RuleFault}
use Rattle.vf_chunk.specs.declared.chunk.Chunk.{Chunk}
use Rattle.vf_take.specs.declared.wanted.Places.{Places}
use Rattle.vf_take.specs.declared.wanted.Portion.{Portion}
use Rattle.vf_take.specs.declared.wanted.Taken.{Taken}
use Rattle.vf_take.specs.Results.{Gives}
use Rattle.vf_take.specs.Usable.{ChunkCanBeCompared, HeapCanBeCompared}
use Rattle.vf_take.specs.Takes.{taken_at}
use Rattle.vf_take.proofs.Kept.{heap_joined}

module _ (before stay heap : List Chunk) (c : Chunk) where
  pub between_is : (older : List Chunk) → older ≡ before ++ c ∷ [] → heap ≡ older ++ stay → heap ≡ before ++ c ∷ stay
  between_is older e f = f ∙ ap (λ (xs : List Chunk). xs ++ stay) e ∙ append_assoc before (c ∷ []) stay

  pub between_compared : heap ≡ before ++ c ∷ stay → HeapCanBeCompared before → ChunkCanBeCompared c → HeapCanBeCompared stay → HeapCanBeCompared heap
  between_compared e p q r = subst HeapCanBeCompared (sym e) (heap_joined before (c ∷ stay) p (q, r))

  pub between_within : (n : ℕ) → heap ≡ before ++ c ∷ stay → n ≡ length before → n < length heap
  between_within n e is = omega (arith, ap length e, length-append before (c ∷ stay), is)

  pub between_gives : (places : Places) (n : ℕ) (p : Portion) (r : Result Taken RuleFault) → heap ≡ before ++ c ∷ stay → n ≡ length before → Gives (taken_at places heap n p (slice_get heap n)) (λ t. t) r → Gives (taken_at places (before ++ c ∷ stay) (length before) p (slice_get (before ++ c ∷ stay) (length before))) (λ t. t) r
  between_gives places n p r e is g =
      subst (λ (xs : List Chunk). Gives (taken_at places xs (length before) p (slice_get xs (length before))) (λ t. t) r) e
      (subst (λ (k : ℕ). Gives (taken_at places heap k p (slice_get heap k)) (λ t. t) r) is g)
