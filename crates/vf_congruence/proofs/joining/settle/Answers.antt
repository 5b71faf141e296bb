use Rattle.std.proofs.Common.{sum, arith, ap}
use Rattle.vf_congruence.specs.Meeting.{AreTogether}
use Rattle.vf_congruence.proofs.Meeting.{settled_has, only_none, only_more, bounded_none, bounded_more}
use Rattle.vf_congruence.proofs.joining.settle.Goals as goal

pub loop-init : goal.loop-init
loop-init c = record { kept = λ x y h. h; bounded = bounded_none c.args.classes.now; only = only_none c.args.nodes.now c.args.classes.now; weight = omega arith }

pub loop-preserved : goal.loop-preserved
loop-preserved c = record {
  kept = λ x y h. c.settle_once.ensures.kept x y (c.loop.invariant.kept x y h);
  bounded = bounded_more c.args.classes.now c.loop.classes c.settle_once.new.classes c.loop.auto.classes c.loop.invariant.bounded c.settle_once.ensures.bounded;
  only = only_more c.args.nodes.now c.args.classes.now c.loop.classes c.settle_once.new.classes c.loop.invariant.only c.settle_once.ensures.only;
  weight = let f = c.settle_once.ensures.falls c.loop-test.true in let g = c.loop.invariant.weight in omega arith;
}

pub returns-clause-complete : goal.returns-clause-complete
returns-clause-complete c = λ a b h.
    settled_has c.args.nodes.now c.settle_once.new.classes (AreTogether c.args.classes.now) (omega arith) (c.settle_once.ensures.settled c.loop-test.false)
    (λ x y k. (c.settle_once.ensures.kept x y (c.loop.invariant.kept x y k)).one) h

pub returns-clause-weight : goal.returns-clause-weight
returns-clause-weight c = let e = ap sum (c.settle_once.ensures.same c.loop-test.false) in let g = c.loop.invariant.weight in omega arith

pub returns-clause-bounded : goal.returns-clause-bounded
returns-clause-bounded c = bounded_more c.args.classes.now c.loop.classes c.settle_once.new.classes c.loop.auto.classes c.loop.invariant.bounded c.settle_once.ensures.bounded
