use Rattle.vf_bodies.specs.Standing.{standing_of}
use Rattle.vf_local_numbers.proofs.Taking.{condition_took}
use Rattle.vf_local_numbers.proofs.statement.count_condition.Goals as goal

pub returns : goal.returns
returns c = condition_took c.args.place c.args.test.now (standing_of c.args.counting.now.around) _ c.args.counting.now.draft c.tested.new.draft _ c.args.counting.now.declared c.setting_at.ensures c.in_ok-tested.ensures
