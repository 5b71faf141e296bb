use Rattle.std.proofs.Common.{◌<◌, length, arith}
use Rattle.std.proofs.lemmas.Grind.{common_steps}
use Rattle.vf_formula.proofs.Merging.{merged_end}
use Rattle.vf_formula.proofs.linear.together.Goals.{then-loop-at-test+else-at-right, else-loop-at-test}
use Rattle.vf_formula.proofs.linear.together.Goals as goal

pub returns : goal.returns
returns c =
    let k : c.loop-at.at.left < length c.args.left.now → c.loop-at.at.right < length c.args.right.now → ⊥ =
    λ a b. elim c.loop-at-test.branch as (λ _. ⊥) [ then-loop-at-test+else-at-right w ↦ omega arith | else-loop-at-test w ↦ omega arith ]
    in
    let e = merged_end c.loop-at.at.left c.loop-at.at.right c.args.left.now c.args.right.now c.requires.left_atoms k in
    grind (arith, common_steps, e)
