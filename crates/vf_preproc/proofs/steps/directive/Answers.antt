use Rattle.std.proofs.Common.{rules, ◌≡◌, ◌&&◌, not, true, false, sym, ◌∙◌, refl}
use Rattle.vf_preproc.specs.Targets.{is_ghost_path}
use Rattle.vf_preproc.specs.Directives.{is_taken, word_of}
use Rattle.vf_preproc.specs.UnitText.{annotated, directed, passed}
use Rattle.vf_preproc.specs.LineSteps.{file_of}
use Rattle.vf_preproc.specs.Scopes.{scope_of}
use Rattle.vf_preproc.proofs.Grouping.{StepGives-same}
use Rattle.vf_preproc.proofs.steps.directive.Goals as goal

pub returns-then-taken : goal.returns-then-taken
returns-then-taken c = λ unit.
    let inside : (c.args.hash.now.is_ghost && not (is_ghost_path (file_of c.args.file).path)) ≡ true = sym c.is_annotation-inside.ensures ∙ c.if-inside.true in
    let taken : is_taken (scope_of c.args.scope.now).groups ≡ true = search rules in
    StepGives-same (λ include. annotated include (file_of c.args.file) c.args.hash.now c.args.words.now unit (scope_of c.args.scope.now) (word_of c.args.words.now)) _ _ unit _ _ c.annotated.result
    (λ include. rw (inside, taken) refl) (c.annotated.ensures (file_of c.args.file) unit (scope_of c.args.scope.now))

pub returns-then-taken-2 : goal.returns-then-taken-2
returns-then-taken-2 c = λ unit.
    let inside : (c.args.hash.now.is_ghost && not (is_ghost_path (file_of c.args.file).path)) ≡ false = sym c.is_annotation-inside.ensures ∙ c.if-inside.false in
    let taken : is_taken (scope_of c.args.scope.now).groups ≡ true = search rules in
    StepGives-same (λ include. directed include (file_of c.args.file) c.args.hash.now c.args.words.now unit (scope_of c.args.scope.now) (word_of c.args.words.now)) _ _ unit _ _ c.directed.result
    (λ include. rw (inside, taken) refl) (c.directed.ensures unit)

pub returns-else-taken-2 : goal.returns-else-taken-2
returns-else-taken-2 c = λ unit.
    let inside : (c.args.hash.now.is_ghost && not (is_ghost_path (file_of c.args.file).path)) ≡ false = sym c.is_annotation-inside.ensures ∙ c.if-inside.false in
    let taken : is_taken (scope_of c.args.scope.now).groups ≡ false = search rules in
    StepGives-same (λ include. passed (file_of c.args.file) c.args.hash.now c.args.words.now unit (scope_of c.args.scope.now) (word_of c.args.words.now)) _ _ unit _ _ c.passed.result
    (λ include. rw (inside, taken) refl) (c.passed.ensures unit)
