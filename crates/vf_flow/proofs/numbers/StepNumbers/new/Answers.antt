use Rattle.vf_flow.proofs.Tables.{lists_all}
use Rattle.vf_flow.proofs.numbers.StepNumbers.new.Goals as goal

pub returns : goal.returns
returns c = λ f so past i. lists_all f c.args.numbers c.args.end so past i
