use Rattle.std.proofs.Common.{List, sym, subst, arith}
use Rattle.vf_unfolding.specs.Walked.{Walked}
use Rattle.vf_prover.specs.Along.{IsStanding}
use Rattle.vf_prover.proofs.Staying.{right_none}
use Rattle.vf_prover.proofs.Handing.{handed_none}
use Rattle.vf_prover.proofs.prover.Prover.new.Goals as goal

pub invariant_of-result : goal.invariant_of-result
invariant_of-result c =
    let r = right_none c.len-origin.result c.args.journal c.len-origin.ensures in
    (r.0, r.1, subst (λ (ps : List Walked). IsStanding c.args.journal.units c.args.journal.trail.facts ps c.new-nodes.result.items) (sym c.new-paths.ensures.items) c.new-nodes.ensures.items, omega (arith, c.len-origin.ensures), handed_none c.args.journal c.len-origin.result c.len-origin.ensures)
