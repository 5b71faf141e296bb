use Rattle.std.proofs.Common.{Some, None}
use Rattle.vf_flow.proofs.Tables.{read_or}
use Rattle.vf_flow.proofs.reach.number_or.Goals as goal

pub returns-in-Some : goal.returns-in-Some
returns-in-Some c = read_or c.args.list.now c.args.at c.args.other (Some c.in-Some.number.now) c.in-Some.ensures

pub returns-in-None : goal.returns-in-None
returns-in-None c = read_or c.args.list.now c.args.at c.args.other None c.in-None.ensures
