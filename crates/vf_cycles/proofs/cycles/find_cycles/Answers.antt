use Rattle.vf_cycles.proofs.Components.{is_order}
use Rattle.vf_cycles.proofs.cycles.find_cycles.Goals as goal

pub returns-clause-order : goal.returns-clause-order
returns-clause-order c = λ none. is_order c.args.count c.args.sources.now c.args.targets.now c.in_ok-order.order.items c.requires c.in_ok-order.ensures none
