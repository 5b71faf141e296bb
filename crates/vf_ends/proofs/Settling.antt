-- Runs that are done.
use Rattle.std.proofs.Common.{◌≡◌, ℕ, ℤ, ◌+◌, ◌<◌, ◌≤◌, Bool, true, false, List, length, map, Option, Some, slice_get, sym, ap, subst, ◌∙◌, ⊎_elim, arith}
use Rattle.std.specs.Prelude.{IsTrue, ◌↔◌}
use Rattle.std.proofs.lemmas.Bool.{cases_lt, false≢true}
use Rattle.std.proofs.lemmas.List.{length-map}
use Rattle.vf_tree.specs.Core.{Identity}
use Rattle.vf_model.specs.State as model
use Rattle.vf_model.specs.Calls.{has_ended}
use Rattle.vf_engine.specs.States.{thread_of, end_of, state_of}
use Rattle.vf_engine.specs.declared.state.End.TheVariants as ends
use Rattle.vf_engine.specs.declared.state.Thread.{Thread}
use Rattle.vf_engine.specs.declared.state.Running.{Running}
use Rattle.vf_ends.specs.Settled.{OthersEnded, IsSettled}

-- the threads from 1 to before one have ended
abbrev pub EndedBelow : List model.Thread → ℕ → Type 0
EndedBelow threads k = (t : ℕ) → 1 ≤ t → t < k → has_ended (slice_get threads t) ≡ true

-- one more has
pub ended_more : (threads : List model.Thread) (k : ℕ) → EndedBelow threads k → has_ended (slice_get threads k) ≡ true → EndedBelow threads (k + 1)
ended_more threads k below here = λ t low high.
    ⊎_elim
    (λ less. below t low less)
    (λ more. let same : t ≡ k = omega (arith, more, high) in ap (λ x. has_ended (slice_get threads x)) same ∙ here)
    (cases_lt t k)

-- one has not
pub one_goes_on : (threads : List model.Thread) (k : ℕ) → 1 ≤ k → k < length threads → false ≡ has_ended (slice_get threads k) → OthersEnded threads → IsTrue false
one_goes_on threads k low high here all = here ∙ all k low high

-- the run is settled where main has returned and the others have ended
pub settled_told : (names : List Identity) (r : Running) (z : ℤ) (ts : List Thread) (b : Bool) → r.end ≡ Some (ends.Returned z) → ts ≡ r.threads.items
    → (IsTrue b ↔ OthersEnded (map (thread_of names) ts)) → (IsTrue b → IsSettled (state_of names r)) × (IsSettled (state_of names r) → IsTrue b)
settled_told names r z ts b is same told = (
  λ yes. record { returned = (z, ap end_of is); ended = subst (λ xs. OthersEnded (map (thread_of names) xs)) same (told.0 yes) },
  λ s. told.1 (subst (λ xs. OthersEnded (map (thread_of names) xs)) (sym same) s.ended),
)
