use Rattle.vf_take.proofs.Known.{known_compared}
use Rattle.vf_take.proofs.fits.known_at.Goals as goal

pub returns-in-Known-clause-compared : goal.returns-in-Known-clause-compared
returns-in-Known-clause-compared c = known_compared c.args.arguments.now c.args.index c.index-arguments-index.result c.if-index-arguments.false c.index-arguments-index.is c.in-Known.term c.in-Known.is c.requires
