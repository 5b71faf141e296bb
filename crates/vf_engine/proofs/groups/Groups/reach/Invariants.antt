use Rattle.std.proofs.Common.{◌≡◌, ℕ, slice_index_or}
use Rattle.vf_engine.proofs.groups.Groups.reach.Given as goal

-- each group has the count that it had
abbrev pub invariant-loop : goal.invariant-loop
invariant-loop l = (group : ℕ) → slice_index_or l.self.counts.items group 0 ≡ slice_index_or l.fn.self.counts.items group 0
