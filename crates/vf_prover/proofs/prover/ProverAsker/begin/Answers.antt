use Rattle.std.proofs.Common.{rules, length, ap, arith}
use Rattle.vf_prover.proofs.Staying.{right_before, right_begun}
use Rattle.vf_prover.proofs.Stepping.{standing_before}
use Rattle.vf_prover.proofs.Handing.{handed_before, handed_begun}
use Rattle.vf_prover.proofs.prover.ProverAsker.begin.Goals as goal

pub invariant_of-self : goal.invariant_of-self
invariant_of-self c =
    let i = c.self.inside in
    let v = c.self.invariant in
    let b = c.in_err-begin.ensures.unchanged in
    let r = right_before i.origin i.journal c.begin.new.self b (v.0, v.1) in
    (r.0, r.1, standing_before i.journal.units c.begin.new.self.units i.journal.trail.facts c.begin.new.self.trail.facts i.paths.items i.nodes.items b.units b.facts v.2, omega (arith, ap length b.entries, v.3), handed_before i.journal c.begin.new.self i.handed i.last b v.4)

pub invariant_of-self-2 : goal.invariant_of-self-2
invariant_of-self-2 c =
    let i = c.self.inside in
    let v = c.self.invariant in
    let b = c.in_ok-begin.ensures.begun in
    let r = right_begun i.origin c.args.defs.now i.journal c.begin.new.self b (v.0, v.1) in
    (r.0, r.1, search rules, omega (arith, ap length b.entries, v.3), handed_begun c.args.defs.now i.journal c.begin.new.self i.handed i.last b v.4)
