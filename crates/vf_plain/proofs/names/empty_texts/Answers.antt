use Rattle.std.proofs.Common.{List, ℕ, ◌++◌, ◌∷◌, [], ap, ◌∙◌}
use Rattle.vf_plain.proofs.Numbers.{empty_more}
use Rattle.vf_plain.proofs.names.empty_texts.Goals as goal

pub loop-number-preserved : goal.loop-number-preserved
loop-number-preserved c = c.in_ok-push.ensures.pushed ∙ ap (λ (x : List ℕ). c.loop-number.texts ++ x ∷ []) c.new.ensures ∙ empty_more c.loop-number.texts c.loop-number._number c.loop-number.invariant
