use Rattle.std.proofs.Common.{Option, length, sym, subst, ◌∙◌, ap, arith}
use Rattle.vf_recheck.specs.declared.steps.Refutation.{Refutation}
use Rattle.vf_asking.specs.Journal.{seen}
use Rattle.vf_prover.specs.Explained.{IsHandedOver}
use Rattle.vf_prover.specs.Held.{Held}
use Rattle.vf_prover.proofs.Handing.{handed_none, many_seen}
use Rattle.vf_prover.proofs.prover.ProverExplain.last.Goals as goal

pub invariant_of-self : goal.invariant_of-self
invariant_of-self c =
    let i = c.self.inside in
    let v = c.self.invariant in
    (v.0, v.1, v.2, omega (arith, c.len-self-inside.ensures), subst (λ (o : Option Refutation). IsHandedOver (seen i.journal).entries c.len-self-inside.result o) (sym c.take.ensures.after) (handed_none i.journal c.len-self-inside.result c.len-self-inside.ensures))

pub returns-clause-handed : goal.returns-clause-handed
returns-clause-handed c = c.len-self-inside.ensures ∙ sym (many_seen c.self.inside.journal) ∙ ap (λ (h : Held). length (seen h.journal).entries) c.self.view_is
