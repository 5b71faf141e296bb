use Rattle.std.proofs.Common.{Err, sym, ap, subst, ◌∙◌}
use Rattle.vf_preproc.specs.UnitText.{loaded}
use Rattle.vf_expand.specs.Steps.{Faults}
use Rattle.vf_expand.proofs.Loading.{read_included, fault_included, read_fault_included, there_included, fault_in}
use Rattle.vf_expand.proofs.sources.load_header.Goals as goal

pub returns-in-Ok-clause-exact : goal.returns-in-Ok-clause-exact
returns-in-Ok-clause-exact g c = λ library tells. read_included c.args.hash (library c.args.path.now) c.in-Ok.file (c.in-Ok.ensures.exact library tells)

pub returns-in-Err-clause-exact : goal.returns-in-Err-clause-exact
returns-in-Err-clause-exact g c = λ library tells.
    subst (λ e. Faults e (loaded c.args.hash (library c.args.path.now))) (sym c.fault_at.ensures) (fault_included c.args.hash (library c.args.path.now) c.in-Err.fault (c.in-Err.ensures.exact library tells))

pub returns-in-Err-clause-read_fault : goal.returns-in-Err-clause-read_fault
returns-in-Err-clause-read_fault g c = λ is. c.in-Err.ensures.read_fault (ap Err (read_fault_included c.args.hash c.in-Err.fault (sym c.fault_at.ensures ∙ ap fault_in is)))

pub returns-in-Err-clause-there : goal.returns-in-Err-clause-there
returns-in-Err-clause-there g c = λ is. there_included c.args.hash c.in-Err.fault (sym c.fault_at.ensures ∙ ap fault_in is)
