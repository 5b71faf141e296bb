use Rattle.std.proofs.Common.{◌≡◌, Some, slice_get, sym}
use Rattle.vf_resolving.specs.Standings.{around_of, standing_of}
use Rattle.vf_resolving.proofs.Lists.{more_names}
use Rattle.vf_resolving.proofs.standing.put_sorts.Goals as goal

pub loop-at-preserved : goal.loop-at-preserved
loop-at-preserved c =
    let there : slice_get c.args.sorts.now c.loop-at.at ≡ Some c.in-Some.sort.now = sym c.in-Some.ensures in
    more_names (around_of c.args.around.now) (standing_of c.loop-at.standing) (standing_of c.put_name.new.standing) c.args.sorts.now c.loop-at.at c.in-Some.sort.now c.in_ok-sort.sort _ there c.in_ok-sort.ensures c.in_ok-put_name.ensures c.loop-at.invariant
