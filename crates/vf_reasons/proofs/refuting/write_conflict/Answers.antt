use Rattle.std.proofs.Common.{◌≡◌, ◌++◌, [], List, sym, ◌∙◌, subst, append-nil}
use Rattle.vf_refute.specs.declared.steps.Fact.{Fact}
use Rattle.vf_refute.specs.Refutations.{IsConflict}
use Rattle.vf_recheck.specs.Refutations.{facts_over}
use Rattle.vf_reasons.specs.Drafts.{with_equations, IsOver}
use Rattle.vf_reasons.proofs.Asking.{no_denial, basis_over, conflict_in}
use Rattle.vf_reasons.proofs.refuting.write_conflict.Goals as goal

pub unreachable-requires : goal.unreachable-requires
unreachable-requires c =
    let r = c.requires.conflict in
    let b = c.args.basis.now in
    let none = rw c.in-None.is at c.in_ok-steps.ensures in
    none (with_equations r.0 r.1) (subst (λ (fs : List Fact). IsOver (with_equations r.0 r.1) b.nodes.items b.terms.items fs) (sym c.deref.ensures.value) (basis_over r.0 r.1 b r.2)) (conflict_in r.0 r.1 b r.2 r.3)

pub returns : goal.returns
returns c = λ u ls made d.
    let b = c.args.basis.now in
    let e : c.deref-in-Some.result.now ≡ b.facts.items ++ [] = c.deref-in-Some.ensures.value ∙ sym (append-nil b.facts.items) in
    let f = c.in_ok-last-in-Some.ensures.drafts u ls made [] d no_denial e in
    (f.0, subst (λ (fs : List Fact). IsConflict b.nodes.items fs c.follow.new.draft.known.items c.in_ok-last-in-Some.last) (append-nil (facts_over ls)) f.1)
