use Rattle.std.proofs.Common.{sym}
use Rattle.vf_names.proofs.Numbering.{number_put}
use Rattle.vf_names.proofs.names.Names.put.Goals as goal

pub returns-in-None-clause-number : goal.returns-in-None-clause-number
returns-in-None-clause-number c = number_put c.put_new.result c.args.self.now c.put_new.new.self c.args.name.now (sym c.in-None.ensures.number) c.put_new.ensures.number c.put_new.ensures.put
