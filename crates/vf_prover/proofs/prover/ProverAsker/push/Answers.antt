use Rattle.std.proofs.Common.{length, ap, arith}
use Rattle.vf_prover.proofs.Staying.{right_before, right_pushed}
use Rattle.vf_prover.proofs.Stepping.{standing_before, standing_pushed}
use Rattle.vf_prover.proofs.Handing.{handed_before, handed_pushed}
use Rattle.vf_prover.proofs.prover.ProverAsker.push.Goals as goal

pub invariant_of-self : goal.invariant_of-self
invariant_of-self c =
    let i = c.self.inside in
    let v = c.self.invariant in
    let b = c.in_err-node.ensures.unchanged in
    let r = right_before i.origin i.journal c.push.new.self b (v.0, v.1) in
    (r.0, r.1, standing_before i.journal.units c.push.new.self.units i.journal.trail.facts c.push.new.self.trail.facts i.paths.items i.nodes.items b.units b.facts v.2, omega (arith, ap length b.entries, v.3), handed_before i.journal c.push.new.self i.handed i.last b v.4)

pub invariant_of-self-2 : goal.invariant_of-self-2
invariant_of-self-2 c =
    let i = c.self.inside in
    let v = c.self.invariant in
    let p = c.in_ok-node.ensures.pushed in
    let r = right_pushed i.origin c.args.at c.args.fact.now i.journal c.push.new.self p (v.0, v.1) in
    (r.0, r.1, standing_pushed i.journal.units c.push.new.self.units i.journal.trail.facts c.push.new.self.trail.facts _ i.paths.items i.nodes.items p.units p.facts v.2, omega (arith, ap length p.entries, v.3), handed_pushed c.args.at c.args.fact.now i.journal c.push.new.self i.handed i.last p v.4)
