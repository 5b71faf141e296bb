use Rattle.vf_resolving.specs.Standings.{around_of}
use Rattle.vf_resolved_contracts.proofs.Steps.{begun}
use Rattle.vf_resolved_contracts.proofs.starts.starting.Goals as goal

pub returns : goal.returns
returns c = begun (around_of c.args.around.now) c.args.scope c.in_ok-sorts.ensures c.new.ensures.items c.new-2.ensures c.in_ok-put_sorts.ensures
