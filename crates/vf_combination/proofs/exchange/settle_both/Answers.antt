use Rattle.std.proofs.Common.{refl}
use Rattle.vf_combination.proofs.exchange.settle_both.Goals as goal

pub returns-then-are_apart-clause-quiet : goal.returns-then-are_apart-clause-quiet
returns-then-are_apart-clause-quiet c = λ fine u w. c.if-are_apart.ensures refl c.args.clashed.now
