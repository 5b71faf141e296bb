use Rattle.std.proofs.lemmas.List.{append-nil}
use Rattle.std.proofs.Common.{◌≡◌, ◌++◌, ◌∙◌, ◌-◌, sym, ap, drop, reverse, subst, arith, List, ℕ}
use Rattle.vf_sorts.specs.declared.pair.Pair.{Pair}
use Rattle.vf_sorts.specs.Pairs.{paired}
use Rattle.vf_sorts.proofs.Pairing.{appended_before, is_there, paired_none}
use Rattle.vf_sorts.proofs.pair.pair_parts.Goals as goal

pub loop-i-init : goal.loop-i-init
loop-i-init c = record {
  most = omega (arith, c.len-i.ensures);
  paired = sym (ap (λ (ps : List Pair). c.args.pairs.now.items ++ reverse ps) (ap (λ (n : ℕ). drop n (paired c.args.left.now c.args.right.now)) c.len-i.ensures ∙ paired_none c.args.left.now c.args.right.now) ∙ append-nil c.args.pairs.now.items);
}

pub returns-in_default : goal.returns-in_default
returns-in_default c = absurd (is_there c.args.left.now (c.loop-i.i - 1) (let a = c.loop-i.invariant.most in let b = c.loop-i-test.true in omega (arith, a, b)) (sym c.in_default.ensures))

pub returns-in_default-get : goal.returns-in_default-get
returns-in_default-get c = absurd (is_there c.args.right.now (c.loop-i.i - 1) (let a = c.loop-i.invariant.most in let b = c.loop-i-test.true in let e = c.requires in omega (arith, a, b, e)) (sym c.in_default-get.ensures))

pub loop-i-preserved : goal.loop-i-preserved
loop-i-preserved c = record {
  most = let a = c.loop-i.invariant.most in omega (arith, a);
  paired = appended_before c.args.pairs.now.items c.loop-i.pairs.items c.push.new.self.items c.args.left.now c.args.right.now (c.loop-i.i - 1) c.in-Some.one.now c.in-Some-get.other.now c.in_ok-pair_of.field-0 (sym c.in-Some.ensures) (sym c.in-Some-get.ensures) c.in_ok-pair_of.ensures
      (subst (λ (n : ℕ). c.loop-i.pairs.items ≡ c.args.pairs.now.items ++ reverse (drop n (paired c.args.left.now c.args.right.now))) (let t = c.loop-i-test.true in omega (arith, t)) c.loop-i.invariant.paired) c.in_ok-push.ensures.items;
}
