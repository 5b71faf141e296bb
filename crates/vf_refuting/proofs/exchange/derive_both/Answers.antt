use Rattle.std.proofs.Common.{subst}
use Rattle.vf_refute.specs.Refutations.{HasDerived}
use Rattle.vf_refute.specs.declared.steps.Derived.TheVariants.{AreWithin}
use Rattle.vf_refuting.proofs.Deriving.{integer_later, both_least}
use Rattle.vf_refuting.proofs.exchange.derive_both.Goals as goal

pub derive_way-requires-2-clause-integer : goal.derive_way-requires-2-clause-integer
derive_way-requires-2-clause-integer c = integer_later c.args.y c.in_ok-above.ensures.continued c.requires.right_integer

pub returns-clause-derived : goal.returns-clause-derived
returns-clause-derived c = λ k p q.
    let a = c.in_ok-above.ensures.derived in
    let b = c.in_ok-below.ensures.derived in
    let e = both_least c.requires.fine p q a.least b.least in
    record {
      up = c.in_ok-below.ensures.continued.kept c.in_ok-above.above (AreWithin c.args.x c.args.y k) (subst (λ z. HasDerived c.derive_way.new.log.known c.in_ok-above.above (AreWithin c.args.x c.args.y z)) e.0 a.derived);
      down = subst (λ z. HasDerived c.derive_way-2.new.log.known c.in_ok-below.below (AreWithin c.args.y c.args.x z)) e.1 b.derived;
    }
