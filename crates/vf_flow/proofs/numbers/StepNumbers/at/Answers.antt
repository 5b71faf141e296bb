use Rattle.std.proofs.Common.{Some, None}
use Rattle.vf_flow.proofs.Tables.{read_or}
use Rattle.vf_flow.proofs.numbers.StepNumbers.at.Goals as goal

pub returns-in-Some : goal.returns-in-Some
returns-in-Some c = read_or c.args.self.now.numbers c.args.node c.args.self.now.end (Some c.in-Some.number.now) c.in-Some.ensures

pub returns-in-None : goal.returns-in-None
returns-in-None c = read_or c.args.self.now.numbers c.args.node c.args.self.now.end None c.in-None.ensures
