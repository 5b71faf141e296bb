use Rattle.std.proofs.Common.{◌≡◌, [], map, take, get_or}
use Rattle.std.specs.Prelude.{◌==◌, filter, slice_index}
use Rattle.vf_link.proofs.call_order.in_order.Given as goal

abbrev pub invariant-loop-at : goal.invariant-loop-at
invariant-loop-at l = l.ordered ≡ map (λ u. get_or l.texts u []) (filter (λ u. slice_index l.firsts u == u) (take l.at-index l.order))
