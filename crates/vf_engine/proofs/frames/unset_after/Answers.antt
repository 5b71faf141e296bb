use Rattle.std.proofs.Common.{◌++◌, [], ◌∷◌, None, ap, ◌∙◌, append_assoc, replicate}
use Rattle.vf_engine.proofs.Arguments.{replicate_more}
use Rattle.vf_engine.proofs.frames.unset_after.Goals as goal

pub loop-i-preserved : goal.loop-i-preserved
loop-i-preserved c =
    c.in_ok-push.ensures.items ∙ ap (λ xs. xs ++ None ∷ []) c.loop-i.invariant
    ∙ append_assoc c.args.values.items (replicate c.loop-i._i None) (None ∷ [])
    ∙ ap (λ xs. c.args.values.items ++ xs) (replicate_more c.loop-i._i None)
