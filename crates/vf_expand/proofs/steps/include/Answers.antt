use Rattle.std.proofs.Common.{◌≤◌, length, arith, sym, subst}
use Rattle.vf_preproc.specs.Units.{unit_of}
use Rattle.vf_expand.specs.Steps.{Faults, walk_include_text}
use Rattle.vf_expand.specs.Walks.{going_of, pauses_of}
use Rattle.vf_expand.proofs.Walking.{pauses_size, deep_faults, own_read_of, own_there_of}
use Rattle.vf_expand.proofs.steps.include.Goals as goal

pub returns-then-len-ge-MOST_DEPTH-clause-exact : goal.returns-then-len-ge-MOST_DEPTH-clause-exact
returns-then-len-ge-MOST_DEPTH-clause-exact g c = λ library tells.
    let size = pauses_size c.args.walk.stack.items in
    let deep : 32 ≤ length (pauses_of c.args.walk.stack.items) = omega arith in
    subst (λ e. Faults e (walk_include_text library c.args.include c.args.walk)) (sym c.refusal.ensures) (deep_faults library (pauses_of c.args.walk.stack.items) c.args.include (going_of c.args.walk.current) (unit_of c.args.walk.unit) deep)

pub returns-in-Some-clause-exact : goal.returns-in-Some-clause-exact
returns-in-Some-clause-exact g c = λ library tells. c.include_old.ensures.exact library

pub returns-in-Some-clause-read_fault : goal.returns-in-Some-clause-read_fault
returns-in-Some-clause-read_fault g c = λ is. absurd (own_read_of c.include_old.result c.include_old.ensures.own is)

pub returns-in-Some-clause-there : goal.returns-in-Some-clause-there
returns-in-Some-clause-there g c = λ is. own_there_of c.include_old.result c.include_old.ensures.own is
