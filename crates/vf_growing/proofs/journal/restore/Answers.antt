use Rattle.std.proofs.Common.{arith, inl, inr}
use Rattle.vf_growing.proofs.Steps.{moved_from, moved_more, found_at}
use Rattle.vf_growing.proofs.journal.restore.Goals as goal

pub bounds-classes-m : goal.bounds-classes-m
bounds-classes-m c = let h = c.requires _ (found_at c.args.moved.now c.loop-m.m-index (record { term = 0; class = 0 }) (omega arith)) in omega arith

pub loop-m-init : goal.loop-m-init
loop-m-init c = λ before h k l. moved_from before c.args.moved.now c.args.classes.now h k l

pub loop-m-preserved : goal.loop-m-preserved
loop-m-preserved c = λ before h k l. moved_more before c.args.moved.now c.loop-m.classes c.args.classes.now c.loop-m.m-index h (omega arith)
    (let r = c.requires _ (found_at c.args.moved.now c.loop-m.m-index (record { term = 0; class = 0 }) (omega arith)) in omega arith) k l (c.loop-m.invariant before h k l)

pub returns : goal.returns
returns c = λ before h k l. elim (c.loop-m.invariant before h k l) [
  | inl f ↦ absurd (let a = f.later in let b = f.within in omega arith)
  | inr e ↦ e
]
