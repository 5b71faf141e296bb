use Rattle.std.proofs.Common.{Ok, subst}
use Rattle.vf_preproc.specs.LineSteps.{file_of, line_included, StepGives}
use Rattle.vf_preproc.specs.Scopes.{scope_of}
use Rattle.vf_preproc.specs.UnitText.{line}
use Rattle.vf_preproc.specs.Units.{unit_of}
use Rattle.vf_expand.proofs.Remembering.{line_keeps, same_keeps}
use Rattle.vf_expand.proofs.frames.follow_first.Goals as goal

pub returns-in-Done-clause-keeps : goal.returns-in-Done-clause-keeps
returns-in-Done-clause-keeps c =
    let done = subst (λ s. StepGives
    (λ include. line include (file_of c.args.file) c.args.tokens.now (unit_of c.args.unit.now) (scope_of c.args.scope.now))
    (λ ghost include. line_included include (file_of c.args.file) c.args.tokens.now ghost (unit_of c.args.unit.now) (scope_of c.args.scope.now))
    (unit_of c.follow_line.new.unit) (scope_of c.args.scope.now) (scope_of c.follow_line.new.scope) (Ok s)) c.in-Done.is c.in_ok-follow_line.ensures.exact in
    line_keeps (file_of c.args.file) c.args.tokens.now (unit_of c.args.unit.now) (unit_of c.follow_line.new.unit) (scope_of c.args.scope.now) (scope_of c.follow_line.new.scope) done

pub returns-in_ok-include-in-Include-clause-keeps : goal.returns-in_ok-include-in-Include-clause-keeps
returns-in_ok-include-in-Include-clause-keeps c =
    let done = subst (λ s. StepGives
    (λ include. line include (file_of c.args.file) c.args.tokens.now (unit_of c.args.unit.now) (scope_of c.args.scope.now))
    (λ ghost include. line_included include (file_of c.args.file) c.args.tokens.now ghost (unit_of c.args.unit.now) (scope_of c.args.scope.now))
    (unit_of c.follow_line.new.unit) (scope_of c.args.scope.now) (scope_of c.follow_line.new.scope) (Ok s)) c.in-Include.is c.in_ok-follow_line.ensures.exact in
    same_keeps (unit_of c.args.unit.now) (unit_of c.follow_line.new.unit) (scope_of c.args.scope.now) (scope_of c.follow_line.new.scope) c.follow_line.new.unit.tokens c.in_ok-follow_line.ensures.rest done.0
