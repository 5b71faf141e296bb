use Rattle.std.proofs.Common.{◌≡◌, sym, ◌∙◌, arith, below_more, true, false}
use Rattle.vf_ground.specs.Held.{Agree}
use Rattle.vf_refuting.proofs.Running.{goes_more}
use Rattle.vf_refuting.proofs.Passes.{weight_most, weight_same, fine_same, agree_same}
use Rattle.vf_refuting.proofs.exchange.exchange_beside.Goals as goal
use Rattle.vf_refuting.proofs.exchange.exchange_beside.Goals.{then-branch+else-conflict, else-branch}

pub returns-then-conflict-clause-goes : goal.returns-then-conflict-clause-goes
returns-then-conflict-clause-goes c = goes_more c.loop-y.invariant.goes c.in_ok-exchange_at.ensures.goes

pub loop-y-preserved : goal.loop-y-preserved
loop-y-preserved c = elim c.if-branch.branch [
  | then-branch+else-conflict w ↦ record {
    fine = λ h. let e : false ≡ true = w.if-conflict.ensures.1 h in cc;
    goes = goes_more c.loop-y.invariant.goes c.in_ok-exchange_at.ensures.goes;
    agree = λ f. absurd (let e : true ≡ false = sym w.given-is ∙ f in cc);
    same = λ f. absurd (let e : true ≡ false = sym w.given-is ∙ f in cc);
    falls = λ t. let l = weight_most c.loop-y.given c.loop-y.run c.args.run.now c.loop-y.invariant.same c.loop-y.invariant.falls in
        let k = c.in_ok-exchange_at.ensures.falls w.if-branch.true (λ h. let e : false ≡ true = w.if-conflict.ensures.1 h in cc) in omega arith;
  }
  | else-branch w ↦ (let s = c.in_ok-exchange_at.ensures.same w.if-branch.false in record {
    fine = fine_same c.exchange_at.new.run c.loop-y.run s c.loop-y.invariant.fine;
    goes = goes_more c.loop-y.invariant.goes c.in_ok-exchange_at.ensures.goes;
    agree = λ f. below_more (λ k. Agree c.args.run.now.classes.nodes c.args.run.now.classes.merged c.args.run.now.bounds.edges c.args.x k) c.loop-y.y (c.loop-y.invariant.agree (sym w.given-is ∙ f))
        (agree_same c.loop-y.run c.args.run.now c.args.x c.loop-y.y (c.loop-y.invariant.same (sym w.given-is ∙ f)) (c.in_ok-exchange_at.ensures.agree w.if-branch.false));
    same = λ f. s ∙ c.loop-y.invariant.same (sym w.given-is ∙ f);
    falls = λ t. let l = c.loop-y.invariant.falls (sym w.given-is ∙ t) in let p = weight_same c.exchange_at.new.run c.loop-y.run s in omega arith;
  })
]
