use Rattle.std.proofs.Common.{rules, ◌≡◌, ◌∷◌, ◌-◌, true, List, length, take, drop, sym, subst, refl, arith}
use Rattle.vf_lexer.specs.declared.token.Token.{Token}
use Rattle.vf_preproc.specs.Directives.{is_hash}
use Rattle.vf_preproc.specs.UnitText.{directive, line}
use Rattle.vf_preproc.specs.LineSteps.{file_of, line_included, StepGives}
use Rattle.vf_preproc.specs.Scopes.{scope_of}
use Rattle.vf_preproc.specs.Units.{unit_of}
use Rattle.vf_preproc.proofs.Grouping.{StepGives-same, first_and_rest}
use Rattle.vf_preproc.proofs.steps.follow_line.Goals as goal

pub returns-then-is_hash-clause-exact : goal.returns-then-is_hash-clause-exact
returns-then-is_hash-clause-exact c =
    let rest : List Token = take (length c.args.tokens.now - 1) (drop 1 c.args.tokens.now) in
    let split : c.args.tokens.now ≡ c.first-item.result ∷ rest = first_and_rest c.args.tokens.now c.first-item.result (omega arith) c.first-item.is in
    let hash : is_hash c.first-item.result ≡ true = search rules in
    subst (λ ts. StepGives (λ include. line include (file_of c.args.file) ts (unit_of c.args.unit.now) (scope_of c.args.scope.now)) (λ ghost include. line_included include (file_of c.args.file) ts ghost (unit_of c.args.unit.now) (scope_of c.args.scope.now)) (unit_of c.args.unit.now) (scope_of c.args.scope.now) (scope_of c.directive.new.scope) c.directive.result) (sym split)
    (StepGives-same (λ include. directive include (file_of c.args.file) c.first-item.result rest (unit_of c.args.unit.now) (scope_of c.args.scope.now)) _ _ (unit_of c.args.unit.now) _ _ c.directive.result (λ include. rw hash refl) (c.directive.ensures (unit_of c.args.unit.now)))
