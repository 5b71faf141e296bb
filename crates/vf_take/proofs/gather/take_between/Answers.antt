-- The chunk stands behind the older ones.
use Rattle.vf_take.proofs.Between.{between_is, between_compared, between_within, between_gives}
use Rattle.vf_take.proofs.gather.take_between.Goals as goal

pub take_portion-requires-clause-within : goal.take_portion-requires-clause-within
take_portion-requires-clause-within c =
    let e = between_is c.args.before c.args.gathered.stay c.in_ok-heap.heap c.args.gathered.chunk c.put.new.self c.in_ok-put.ensures.pushed c.in_ok-heap.ensures in
    between_within c.args.before c.args.gathered.stay c.in_ok-heap.heap c.args.gathered.chunk c.count-at.result e c.count-at.ensures

pub take_portion-requires-clause-compared : goal.take_portion-requires-clause-compared
take_portion-requires-clause-compared c =
    let e = between_is c.args.before c.args.gathered.stay c.in_ok-heap.heap c.args.gathered.chunk c.put.new.self c.in_ok-put.ensures.pushed c.in_ok-heap.ensures in
    between_compared c.args.before c.args.gathered.stay c.in_ok-heap.heap c.args.gathered.chunk e c.requires.older c.requires.chunk c.requires.younger

pub returns-clause-gives : goal.returns-clause-gives
returns-clause-gives c =
    let e = between_is c.args.before c.args.gathered.stay c.in_ok-heap.heap c.args.gathered.chunk c.put.new.self c.in_ok-put.ensures.pushed c.in_ok-heap.ensures in
    between_gives c.args.before c.args.gathered.stay c.in_ok-heap.heap c.args.gathered.chunk c.args.places c.count-at.result c.args.portion c.take_portion.result e c.count-at.ensures c.take_portion.ensures.gives
