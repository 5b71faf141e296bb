use Rattle.std.proofs.Common.{sym, ◌∙◌, ap, ◌∷◌, [], ◌++◌, arith}
use Rattle.vf_closure.specs.Terms.{Term}
use Rattle.vf_chunk.proofs.Dividing.{divided_next, next_low, divided_stays}
use Rattle.vf_chunk.proofs.share.divided_out.Goals.{then-is_first_of, else-is_first_of+in_ok-copy+in_ok-push}
use Rattle.vf_chunk.proofs.share.divided_out.Goals as goal

pub loop-factor-preserved : goal.loop-factor-preserved
loop-factor-preserved c =
    elim c.if-is_first_of.branch [
      | then-is_first_of w ↦ record {
        within = next_low c.args.factors.now c.args.divisors.now _ _ c.factor-item.result (sym c.is_first_of.ensures ∙ w.if-is_first_of.true) w.next-is;
        left = divided_next c.args.factors.now c.args.divisors.now _ _ _ _ _ c.factor-item.result _ c.loop-factor-test.true c.factor-item.is (sym c.is_first_of.ensures ∙ w.if-is_first_of.true) w.left-is w.next-is c.loop-factor.invariant.left;
      }
      | else-is_first_of+in_ok-copy+in_ok-push w ↦ record {
        within = let low = c.loop-factor.invariant.within in let same = w.next-is in omega (arith, low, same);
        left = divided_stays c.args.factors.now c.args.divisors.now c.loop-factor.left _ _ _ _ c.factor-item.result _ c.loop-factor-test.true c.factor-item.is (sym c.is_first_of.ensures ∙ w.if-is_first_of.false) (w.left-is ∙ w.in_ok-push.ensures.pushed ∙ ap (λ (v : Term). c.loop-factor.left ++ v ∷ []) w.in_ok-copy.ensures) w.next-is c.loop-factor.invariant.left;
      }
    ]
