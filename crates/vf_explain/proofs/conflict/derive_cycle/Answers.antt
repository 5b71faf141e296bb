use Rattle.std.proofs.Common.{arith}
use Rattle.std.specs.Prelude.{◌+ℤ◌}
use Rattle.std.proofs.lemmas.Int.{ints}
use Rattle.vf_explain.proofs.Reaching.{least_one}
use Rattle.vf_explain.proofs.conflict.derive_cycle.Goals as goal

pub go_over-requires-clause-path : goal.go_over-requires-clause-path
go_over-requires-clause-path c = (c.requires.closes.back, c.requires.closes.least)

pub returns-clause-below : goal.returns-clause-below
returns-clause-below c =
    let b = c.in_ok-step.ensures.derived in
    let e = least_one b.least c.requires.closes.least in
    let under = c.requires.closes.below in
    record { point = c.args.edge.from; total = c.args.edge.most +ℤ b.rest; derived = b.derived; below = omega (arith, ints, e, under) }
