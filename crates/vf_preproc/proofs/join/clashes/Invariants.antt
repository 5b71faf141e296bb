-- None of the macros so far would clash.
use Rattle.std.proofs.Common.{◌≡◌, ◌≤◌, ◌<◌, ℕ, List, false, Some, slice_get}
use Rattle.vf_preproc.specs.Scopes.{header_of}
use Rattle.vf_preproc.specs.Joins.{is_foreign}
use Rattle.vf_preproc.proofs.join.clashes.Given as goal

abbrev pub invariant-loop-at : goal.invariant-loop-at
invariant-loop-at l = (k : ℕ) (name : List ℕ) → l.known ≤ k → k < l.at → slice_get l.macros.names k ≡ Some name → is_foreign l.names (header_of l.header) name ≡ false
