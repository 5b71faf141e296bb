use Rattle.std.proofs.Common.{List, refl, sym, subst}
use Rattle.vf_table.specs.declared.node.Node.{Node}
use Rattle.vf_refute.specs.Refutations.{Derives, IsAnswer}
use Rattle.vf_recheck.specs.declared.steps.Step.{Step}
use Rattle.vf_recheck.specs.Refutations.{GoesOn, IsTold}
use Rattle.vf_recheck.proofs.Turns.{plain_told}
use Rattle.vf_recheck.proofs.checking.go_on.Goals as goal

pub returns-in-Plain-clause-told : goal.returns-in-Plain-clause-told
returns-in-Plain-clause-told g c =
    let u = g.U.Unfolder.unfoldings c.args.unfolder.now in
    let nodes = c.args.nodes.now.items in
    let ts = c.args.terms.now.items in
    let facts = c.args.facts.now in
    let known = c.args.known.now in
    let o = c.derive.result in
    let a = subst (λ (ns : List Node). IsAnswer (Derives ns facts known c.in-Plain.step) o) c.deref.ensures.value c.derive.ensures in
    subst (λ (s : Step). IsTold (GoesOn u facts ts known s) ts o) (sym c.in-Plain.is) (plain_told u facts nodes ts ts known c.in-Plain.step o c.requires.table.tabled refl a)
