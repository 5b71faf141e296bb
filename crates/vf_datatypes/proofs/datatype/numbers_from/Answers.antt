use Rattle.std.proofs.Common.{rules, ◌<◌, length}
use Rattle.vf_datatypes.proofs.Bases.{numbers_more}
use Rattle.vf_datatypes.proofs.datatype.numbers_from.Goals as goal

pub loop-at-preserved : goal.loop-at-preserved
loop-at-preserved c =
    let inside : c.loop-at.at < length c.args.scope.now.ghosts = search rules in
    numbers_more c.args.scope.now.ghosts c.loop-at.at c.loop-at.numbers c.push.new.self _ inside c.in_ok-push.ensures.pushed c.loop-at.invariant
