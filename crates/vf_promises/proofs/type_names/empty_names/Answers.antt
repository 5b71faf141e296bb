use Rattle.std.proofs.Common.{List, ℕ, ◌++◌, ◌∷◌, [], ap, ◌∙◌}
use Rattle.vf_promises.proofs.Numbered.{empty_more}
use Rattle.vf_promises.proofs.type_names.empty_names.Goals as goal

pub loop-number-preserved : goal.loop-number-preserved
loop-number-preserved c = c.in_ok-push.ensures.pushed ∙ ap (λ (x : List ℕ). c.loop-number.names ++ x ∷ []) c.new.ensures ∙ empty_more c.args.scope.now c.loop-number.names c.loop-number._number c.loop-number.invariant
