use Rattle.std.proofs.Common.{◌≡◌, drop}
use Rattle.vf_lemma_items.specs.Kept.{first_renamed}
use Rattle.vf_lemma_items.proofs.kept.first_renamed.Given as goal

-- the parameters that are left come to the same as all of them
abbrev pub invariant-loop-at : goal.invariant-loop-at
invariant-loop-at l = first_renamed (drop l.at l.fn.names) (drop l.at l.fn.parameters) ≡ first_renamed l.fn.names l.fn.parameters
