use Rattle.std.proofs.Common.{◌≡◌, drop}
use Rattle.vf_resolving.specs.Standings.{around_of, standing_of, with_sorts}
use Rattle.vf_resolving.proofs.standing.put_sorts.Given as goal

-- what the sorts that are left come to is what all come to
abbrev pub invariant-loop-at : goal.invariant-loop-at
invariant-loop-at l = with_sorts (around_of l.around) (drop l.at l.sorts) (standing_of l.standing) ≡ with_sorts (around_of l.around) l.sorts (standing_of l.fn.standing)
