use Rattle.std.proofs.Common.{arith}
use Rattle.vf_congruence.specs.Congruence.{WereMerged}
use Rattle.vf_congruence.proofs.Meeting.{settled_has}
use Rattle.vf_congruence.proofs.explaining.join_until.Goals as goal

pub join_next-requires-clause-terms : goal.join_next-requires-clause-terms
join_next-requires-clause-terms c = λ x y w. let t = c.requires.terms x y w in let e = c.loop-labels.invariant.long in (omega arith, omega arith)

pub unreachable-requires : goal.unreachable-requires
unreachable-requires c =
    let k = c.in_ok-join_next.ensures.closed c.if-not-branch.true in
    c.loop-labels-test.true (settled_has c.args.nodes.now c.loop-labels.labels (WereMerged c.args.merged.now) (let e = c.loop-labels.invariant.long in omega arith) k.settled k.joined c.requires.equal)
