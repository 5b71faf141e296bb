use Rattle.std.proofs.Common.{◌↔◌, sym, subst}
use Rattle.std.specs.Prelude.{IsTrue}
use Rattle.vf_recheck.specs.declared.steps.Step.{Step}
use Rattle.vf_recheck.specs.Refutations.{Ends}
use Rattle.vf_recheck.proofs.Turns.{end_told}
use Rattle.vf_recheck.proofs.checking.is_end.Goals as goal

pub returns-in-Plain : goal.returns-in-Plain
returns-in-Plain c =
    let e = end_told c.args.facts.now c.args.nodes.now c.args.terms.now c.args.known.now c.in-Plain.step c.requires.tabled in
    subst (λ (s : Step). IsTrue c.ends.result ↔ Ends c.args.facts.now c.args.terms.now c.args.known.now s) (sym c.in-Plain.is) (λ t. e.0 (c.ends.ensures.0 t), λ k. c.ends.ensures.1 (e.1 k))
