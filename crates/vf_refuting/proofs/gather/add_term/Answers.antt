use Rattle.std.specs.Prelude.{pos}
use Rattle.vf_ground.proofs.Gained.{both_kept}
use Rattle.vf_refuting.proofs.Deriving.{number_later}
use Rattle.vf_refuting.proofs.gather.add_term.Goals as goal

pub returns-clause-has : goal.returns-clause-has
returns-clause-has c = record {
  sum = λ q k p. both_kept c.add_as_sum.new.run.bounds.edges c.add_as_number.new.run.bounds.edges c.in_ok-add_as_number.ensures.goes.edges c.args.a q k (c.in_ok-add_as_sum.ensures.has q k p);
  number = λ k o p z. c.in_ok-add_as_number.ensures.has k o (number_later c.args.a k c.in_ok-add_as_sum.ensures.goes.log p) (number_later o (pos 0) c.in_ok-add_as_sum.ensures.goes.log z);
}
