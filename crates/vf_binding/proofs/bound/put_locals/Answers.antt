use Rattle.std.proofs.Common.{[], ◌∷◌, ◌++◌, sym, ap, ◌∙◌}
use Rattle.vf_binding.specs.Bound.{bound_local}
use Rattle.vf_binding.proofs.Lists.{put_more}
use Rattle.vf_binding.proofs.bound.put_locals.Goals as goal

pub loop-at-preserved : goal.loop-at-preserved
loop-at-preserved c = put_more bound_local c.args.locals.now c.loop-at.locals c.push.new.self c.args.sorts.now c.loop-at.at _ (sym c.in-Some.ensures) c.loop-at.invariant (c.in_ok-push.ensures ∙ ap (λ t. c.loop-at.locals ++ bound_local t ∷ []) c.in_ok-sort.ensures)
