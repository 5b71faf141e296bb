use Rattle.std.proofs.Common.{List, subst}
use Rattle.vf_table.specs.declared.node.Node.{Node}
use Rattle.vf_log.specs.Copies.{HaveSameTerms}
use Rattle.vf_question.specs.declared.question.Question.{Question}
use Rattle.vf_question.proofs.Bounded.{small, fine}
use Rattle.vf_question.proofs.Plainness.{bounded}
use Rattle.vf_reasons.proofs.Asking.{copies_are, told}
use Rattle.vf_reasons.proofs.questions.long_refutation.Goals as goal

pub refutation-requires-clause-parts : goal.refutation-requires-clause-parts
refutation-requires-clause-parts c =
    let q = copies_are c.requires.0 c.args.basis.now.nodes.items c.args.basis.now.terms.items c.args.facts.now (record { nodes = c.in_ok-nodes.nodes; facts = c.in_ok-copies.copies }) c.requires.1
    (subst (λ (ns : List Node). HaveSameTerms ns c.in_ok-nodes.nodes.items) c.deref.ensures.value c.in_ok-nodes.ensures) c.in_ok-copies.ensures in
    q.reading.parts

pub refutation-requires-clause-small : goal.refutation-requires-clause-small
refutation-requires-clause-small c =
    let p : Question = record { nodes = c.in_ok-nodes.nodes; facts = c.in_ok-copies.copies } in
    let q = copies_are c.requires.0 c.args.basis.now.nodes.items c.args.basis.now.terms.items c.args.facts.now p c.requires.1
    (subst (λ (ns : List Node). HaveSameTerms ns c.in_ok-nodes.nodes.items) c.deref.ensures.value c.in_ok-nodes.ensures) c.in_ok-copies.ensures in
    small c.requires.0 p q (bounded c.requires.0 c.requires.1.plain)

pub refutation-requires-clause-fine : goal.refutation-requires-clause-fine
refutation-requires-clause-fine c =
    let p : Question = record { nodes = c.in_ok-nodes.nodes; facts = c.in_ok-copies.copies } in
    let q = copies_are c.requires.0 c.args.basis.now.nodes.items c.args.basis.now.terms.items c.args.facts.now p c.requires.1
    (subst (λ (ns : List Node). HaveSameTerms ns c.in_ok-nodes.nodes.items) c.deref.ensures.value c.in_ok-nodes.ensures) c.in_ok-copies.ensures in
    fine c.requires.0 p q (bounded c.requires.0 c.requires.1.plain)

pub returns : goal.returns
returns c =
    let same = subst (λ (ns : List Node). HaveSameTerms ns c.in_ok-nodes.nodes.items) c.deref.ensures.value c.in_ok-nodes.ensures in
    told (λ v. v.items) c.args.basis.now c.args.facts.now (record { nodes = c.in_ok-nodes.nodes; facts = c.in_ok-copies.copies }) c.in_ok-steps.steps c.closures_agree.ensures same c.in_ok-copies.ensures c.in_ok-steps.ensures
