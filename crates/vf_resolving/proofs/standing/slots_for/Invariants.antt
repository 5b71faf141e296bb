use Rattle.std.proofs.Common.{◌≡◌, ◌+◌, ◌++◌, drop}
use Rattle.vf_resolving.specs.Standings.{around_of, slots_for}
use Rattle.vf_resolving.proofs.standing.slots_for.Given as goal

-- the slots that were made, with those that are left, are all
abbrev pub invariant-loop-at : goal.invariant-loop-at
invariant-loop-at l = l.all ++ slots_for (around_of l.around) (l.first + l.at) (drop l.at l.sorts) ≡ slots_for (around_of l.around) l.first l.sorts
