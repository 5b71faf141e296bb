use Rattle.std.proofs.Common.{◌≡◌, ℕ, Some, arith, slice_index, below_more}
use Rattle.std.specs.Prelude.{slice_get}
use Rattle.vf_congruence.proofs.Explained.{pair_read, pair_in, pair_found, pair_joined}
use Rattle.vf_congruence.proofs.explaining.parted_pair.Goals as goal

pub bounds-labels-x : goal.bounds-labels-x
bounds-labels-x c = (c.requires _ _ (pair_in c.args.merged.now c.loop-i.i c.loop-i-test.true)).0

pub bounds-labels-y : goal.bounds-labels-y
bounds-labels-y c = (c.requires _ _ (pair_in c.args.merged.now c.loop-i.i c.loop-i-test.true)).1

pub returns-then-labels-x : goal.returns-then-labels-x
returns-then-labels-x c = record { x = _; y = _; found = pair_read c.args.merged.now c.loop-i.i c.loop-i-test.true; within = c.loop-i-test.true; apart = c.if-labels-x.true }

pub loop-i-preserved : goal.loop-i-preserved
loop-i-preserved c = λ k x y l e. below_more (λ k. (x y : ℕ) → slice_get c.args.merged.now k ≡ Some (x, y) → slice_index c.args.labels.now x ≡ slice_index c.args.labels.now y) c.loop-i.i
    (λ k l x y e. c.loop-i.invariant k x y l e) (λ x y e. pair_joined c.args.labels.now c.args.merged.now c.loop-i.i x y c.loop-i-test.true c.if-labels-x.false e) k l x y e

pub returns : goal.returns
returns c = λ x y w. c.loop-i.invariant w.0 x y (let l = w.1 in omega arith) (pair_found c.args.merged.now x y w)
