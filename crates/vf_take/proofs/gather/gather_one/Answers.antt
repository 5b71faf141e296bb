-- The chunks that stay can be compared.
use Rattle.vf_take.proofs.Merging.{heap_put}
use Rattle.vf_take.proofs.gather.gather_one.Goals as goal

pub returns-in_ok-put-clause-left : goal.returns-in_ok-put-clause-left
returns-in_ok-put-clause-left g c = heap_put c.args.gathered.stay c.put.new.self c.args.next c.in_ok-put.ensures.pushed c.requires.stay c.requires.younger
