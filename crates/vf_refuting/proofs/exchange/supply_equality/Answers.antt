use Rattle.std.specs.Prelude.{pos}
use Rattle.vf_log.proofs.Continued.{added_has, added_continues, continued_more}
use Rattle.vf_refuting.proofs.Deriving.{integer_later, squeezed_by}
use Rattle.vf_refuting.proofs.Running.{logged, goes_more, run_integer}
use Rattle.vf_refuting.proofs.exchange.supply_equality.Goals as goal

pub derive_both-requires-clause-left_integer : goal.derive_both-requires-clause-left_integer
derive_both-requires-clause-left_integer c =
    run_integer c.args.run.now c.args.x c.requires.run c.requires.task.0

pub derive_both-requires-clause-right_integer : goal.derive_both-requires-clause-right_integer
derive_both-requires-clause-right_integer c =
    run_integer c.args.run.now c.args.y c.requires.run c.requires.task.1

pub squeezed-requires : goal.squeezed-requires
squeezed-requires c =
    let t = c.requires.task in
    let i = integer_later c.args.x c.in_ok-both.ensures.continued (run_integer c.args.run.now c.args.x c.requires.run t.0) in
    let j = integer_later c.args.y c.in_ok-both.ensures.continued (run_integer c.args.run.now c.args.y c.requires.run t.1) in
    let v = squeezed_by (c.in_ok-both.ensures.derived (pos 0) t.2 t.3) i j in
    record { bounds = (c.args.x, c.args.y, v) }

pub merge-requires-clause-run : goal.merge-requires-clause-run
merge-requires-clause-run c =
    let t = c.requires.task in
    let i = integer_later c.args.x c.in_ok-both.ensures.continued (run_integer c.args.run.now c.args.x c.requires.run t.0) in
    let j = integer_later c.args.y c.in_ok-both.ensures.continued (run_integer c.args.run.now c.args.y c.requires.run t.1) in
    let v = squeezed_by (c.in_ok-both.ensures.derived (pos 0) t.2 t.3) i j in
    let a = c.in_ok-reason.ensures.added c.args.x c.args.y v in
    (logged c.args.run.now c.squeezed.new.self c.requires.run (continued_more c.in_ok-both.ensures.continued (added_continues a))).is

pub merge-requires-clause-reason : goal.merge-requires-clause-reason
merge-requires-clause-reason c =
    let t = c.requires.task in
    let i = integer_later c.args.x c.in_ok-both.ensures.continued (run_integer c.args.run.now c.args.x c.requires.run t.0) in
    let j = integer_later c.args.y c.in_ok-both.ensures.continued (run_integer c.args.run.now c.args.y c.requires.run t.1) in
    let v = squeezed_by (c.in_ok-both.ensures.derived (pos 0) t.2 t.3) i j in
    let a = c.in_ok-reason.ensures.added c.args.x c.args.y v in
    added_has a

pub returns-clause-goes : goal.returns-clause-goes
returns-clause-goes c =
    let t = c.requires.task in
    let i = integer_later c.args.x c.in_ok-both.ensures.continued (run_integer c.args.run.now c.args.x c.requires.run t.0) in
    let j = integer_later c.args.y c.in_ok-both.ensures.continued (run_integer c.args.run.now c.args.y c.requires.run t.1) in
    let v = squeezed_by (c.in_ok-both.ensures.derived (pos 0) t.2 t.3) i j in
    let a = c.in_ok-reason.ensures.added c.args.x c.args.y v in
    goes_more (logged c.args.run.now c.squeezed.new.self c.requires.run (continued_more c.in_ok-both.ensures.continued (added_continues a))) c.in_ok-merge.ensures.goes
