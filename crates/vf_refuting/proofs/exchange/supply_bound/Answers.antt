use Rattle.std.proofs.Common.{arith}
use Rattle.std.specs.Prelude.{pos}
use Rattle.std.proofs.lemmas.Int.{ints}
use Rattle.vf_log.proofs.Continued.{added_has, added_continues}
use Rattle.vf_refuting.proofs.Deriving.{integer_later, level_by}
use Rattle.vf_refuting.proofs.Running.{logged, goes_more, run_integer}
use Rattle.vf_refuting.proofs.exchange.supply_bound.Goals as goal

pub level_above-requires : goal.level_above-requires
level_above-requires c =
    let t = c.requires.task in
    let i = integer_later c.args.x c.in_ok-equal.ensures.goes.log (run_integer c.args.run.now c.args.x c.requires.run t.0) in
    let j = integer_later c.args.y c.in_ok-equal.ensures.goes.log (run_integer c.args.run.now c.args.y c.requires.run t.1) in
    let v = level_by c.derive_equal.new.run.log.nodes c.derive_equal.new.run.log.known c.in_ok-equal.equal c.args.x c.args.y c.in_ok-equal.ensures.derived i j in
    record { level = (c.args.x, c.args.y, pos 0, v, record { low = omega (arith, ints); high = omega (arith, ints) }) }

pub add-requires-clause-run : goal.add-requires-clause-run
add-requires-clause-run c =
    let t = c.requires.task in
    let i = integer_later c.args.x c.in_ok-equal.ensures.goes.log (run_integer c.args.run.now c.args.x c.requires.run t.0) in
    let j = integer_later c.args.y c.in_ok-equal.ensures.goes.log (run_integer c.args.run.now c.args.y c.requires.run t.1) in
    let v = level_by c.derive_equal.new.run.log.nodes c.derive_equal.new.run.log.known c.in_ok-equal.equal c.args.x c.args.y c.in_ok-equal.ensures.derived i j in
    let a = c.in_ok-reason.ensures.added c.args.x c.args.y (pos 0) v in
    (logged c.derive_equal.new.run c.level_above.new.self c.in_ok-equal.ensures.goes.is (added_continues a)).is

pub add-requires-clause-reason : goal.add-requires-clause-reason
add-requires-clause-reason c =
    let t = c.requires.task in
    let i = integer_later c.args.x c.in_ok-equal.ensures.goes.log (run_integer c.args.run.now c.args.x c.requires.run t.0) in
    let j = integer_later c.args.y c.in_ok-equal.ensures.goes.log (run_integer c.args.run.now c.args.y c.requires.run t.1) in
    let v = level_by c.derive_equal.new.run.log.nodes c.derive_equal.new.run.log.known c.in_ok-equal.equal c.args.x c.args.y c.in_ok-equal.ensures.derived i j in
    let a = c.in_ok-reason.ensures.added c.args.x c.args.y (pos 0) v in
    added_has a

pub returns-clause-goes : goal.returns-clause-goes
returns-clause-goes c =
    let t = c.requires.task in
    let i = integer_later c.args.x c.in_ok-equal.ensures.goes.log (run_integer c.args.run.now c.args.x c.requires.run t.0) in
    let j = integer_later c.args.y c.in_ok-equal.ensures.goes.log (run_integer c.args.run.now c.args.y c.requires.run t.1) in
    let v = level_by c.derive_equal.new.run.log.nodes c.derive_equal.new.run.log.known c.in_ok-equal.equal c.args.x c.args.y c.in_ok-equal.ensures.derived i j in
    let a = c.in_ok-reason.ensures.added c.args.x c.args.y (pos 0) v in
    goes_more (goes_more c.in_ok-equal.ensures.goes (logged c.derive_equal.new.run c.level_above.new.self c.in_ok-equal.ensures.goes.is (added_continues a))) c.in_ok-add.ensures.goes
