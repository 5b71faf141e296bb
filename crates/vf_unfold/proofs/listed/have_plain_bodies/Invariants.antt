use Rattle.std.proofs.Common.{ℕ, ◌<◌, slice_index_or}
use Rattle.vf_closure.specs.Terms.{Term}
use Rattle.vf_question.specs.Plain.{IsPlain}
use Rattle.vf_unfold.proofs.listed.have_plain_bodies.Given as goal

abbrev pub invariant-loop-row : goal.invariant-loop-row
invariant-loop-row l = (k : ℕ) (d : Term × Term) → k < l.row-index → IsPlain (slice_index_or l.rows k d).1
