use Rattle.std.proofs.Common.{◌≡◌, reverse, sym, subst, arith}
use Rattle.vf_prover.specs.Along.{LeadTo}
use Rattle.vf_prover.proofs.Stepping.{line_leads}
use Rattle.vf_prover.proofs.line.line_to.Goals as goal

pub returns : goal.returns
returns c =
    let root : c.climb.node.number ≡ 0 = omega (arith, c.climb-test.false) in
    subst (λ ns. LeadTo c.args.trail.now.facts ns c.args.at.number) (sym c.reverse.ensures.items) (line_leads c.args.trail.now.facts (reverse c.climb.line.items) c.climb.node.number c.args.at.number root c.climb.invariant.0)
