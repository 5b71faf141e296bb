use Rattle.std.proofs.Common.{◌≡◌, length, sym, ◌∙◌, ap, arith, below_more, true, false, List}
use Rattle.vf_table.specs.declared.node.Node.{Node}
use Rattle.vf_ground.specs.Held.{Agree}
use Rattle.vf_refuting.proofs.Running.{goes_more}
use Rattle.vf_refuting.proofs.Passes.{weight_most, weight_same, fine_same, agree_same}
use Rattle.vf_refuting.proofs.exchange.exchange_once.Goals as goal
use Rattle.vf_refuting.proofs.exchange.exchange_once.Goals.{then-branch+else-conflict, else-branch}

pub returns-then-conflict-clause-goes : goal.returns-then-conflict-clause-goes
returns-then-conflict-clause-goes c = goes_more c.loop-x.invariant.goes c.in_ok-exchange_beside.ensures.goes

pub loop-x-preserved : goal.loop-x-preserved
loop-x-preserved c = elim c.if-branch.branch [
  | then-branch+else-conflict w ↦ record {
    fine = λ h. let e : false ≡ true = w.if-conflict.ensures.1 h in cc;
    goes = goes_more c.loop-x.invariant.goes c.in_ok-exchange_beside.ensures.goes;
    agree = λ f. absurd (let e : true ≡ false = sym w.given-is ∙ f in cc);
    same = λ f. absurd (let e : true ≡ false = sym w.given-is ∙ f in cc);
    falls = λ t. let l = weight_most c.loop-x.given c.loop-x.run c.args.run.now c.loop-x.invariant.same c.loop-x.invariant.falls in
        let k = c.in_ok-exchange_beside.ensures.falls w.if-branch.true (λ h. let e : false ≡ true = w.if-conflict.ensures.1 h in cc) in omega arith;
  }
  | else-branch w ↦ (let s = c.in_ok-exchange_beside.ensures.same w.if-branch.false in record {
    fine = fine_same c.exchange_beside.new.run c.loop-x.run s c.loop-x.invariant.fine;
    goes = goes_more c.loop-x.invariant.goes c.in_ok-exchange_beside.ensures.goes;
    agree = λ f j k l m. below_more (λ i. Agree c.args.run.now.classes.nodes c.args.run.now.classes.merged c.args.run.now.bounds.edges i k) c.loop-x.x (λ i h. c.loop-x.invariant.agree (sym w.given-is ∙ f) i k h m)
        (agree_same c.loop-x.run c.args.run.now c.loop-x.x k (c.loop-x.invariant.same (sym w.given-is ∙ f)) (c.in_ok-exchange_beside.ensures.agree w.if-branch.false k (let d = ap (λ (ns : List Node). length ns) c.loop-x.invariant.goes.nodes in omega arith))) j l;
    same = λ f. s ∙ c.loop-x.invariant.same (sym w.given-is ∙ f);
    falls = λ t. let l = c.loop-x.invariant.falls (sym w.given-is ∙ t) in let p = weight_same c.exchange_beside.new.run c.loop-x.run s in omega arith;
  })
]
