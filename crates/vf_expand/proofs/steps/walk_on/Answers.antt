use Rattle.std.proofs.Common.{Ok, sym, subst, ◌∙◌}
use Rattle.std.proofs.lemmas.Result.{err_from_is_err_and}
use Rattle.vf_expand.specs.Steps.{Faults, NextGives, FewNext}
use Rattle.vf_expand.specs.Walks.{walk_text}
use Rattle.vf_expand.specs.Remembered.{NextRemembers}
use Rattle.vf_expand.proofs.Learning.{reads_then, tells_before}
use Rattle.vf_expand.proofs.steps.walk_on.Goals as goal

pub returns-in_err-next-clause-exact : goal.returns-in_err-next-clause-exact
returns-in_err-next-clause-exact g c = λ library tells.
    let before = c.steps.invariant.exact library (tells_before library c.steps.snapshot c.go_on.new.snapshot c.go_on.ensures.reads.grows tells) in
    let p = err_from_is_err_and c.from_residual.result c.from_residual.ensures.1 in
    rw (p.1, p.2) (subst (Faults c.in_err-next.field-0.0) (sym before) (c.in_err-next.ensures.exact library tells))

pub returns-in_err-next-clause-reads : goal.returns-in_err-next-clause-reads
returns-in_err-next-clause-reads g c = reads_then _ _ _ c.steps.invariant.reads c.go_on.ensures.reads

pub returns-in-Ends-clause-exact : goal.returns-in-Ends-clause-exact
returns-in-Ends-clause-exact g c = λ library tells.
    let before = c.steps.invariant.exact library (tells_before library c.steps.snapshot c.go_on.new.snapshot c.go_on.ensures.reads.grows tells) in
    let ended = subst (λ n. NextGives (walk_text library c.steps.state) library (Ok n)) c.in-Ends.is (c.in_ok-next.ensures.exact library tells) in
    record { before = ended.before; header = ended.header; gives = before ∙ ended.gives; complete = ended.complete }

pub returns-in-Ends-clause-reads : goal.returns-in-Ends-clause-reads
returns-in-Ends-clause-reads g c = reads_then _ _ _ c.steps.invariant.reads c.go_on.ensures.reads

pub steps-preserved : goal.steps-preserved
steps-preserved g c = record {
  exact = λ library tells.
      let before = c.steps.invariant.exact library (tells_before library c.steps.snapshot c.go_on.new.snapshot c.go_on.ensures.reads.grows tells) in
      before ∙ subst (λ n. NextGives (walk_text library c.steps.state) library (Ok n)) c.in-Goes.is (c.in_ok-next.ensures.exact library tells);
  remembers = subst NextRemembers c.in-Goes.is c.in_ok-next.ensures.remembers;
  few = subst FewNext c.in-Goes.is c.in_ok-next.ensures.few;
  reads = reads_then _ _ _ c.steps.invariant.reads c.go_on.ensures.reads;
}
