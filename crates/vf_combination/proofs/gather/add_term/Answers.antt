use Rattle.std.proofs.lemmas.Option.{slice_get_within}
use Rattle.vf_ground.proofs.Gained.{both_kept}
use Rattle.vf_ground.proofs.Closing.{grown_join}
use Rattle.vf_combination.proofs.Onward.{bounds_join}
use Rattle.vf_combination.proofs.Marked.{near_join}
use Rattle.vf_combination.proofs.gather.add_term.Goals as goal

pub returns-clause-on : goal.returns-clause-on
returns-clause-on c = bounds_join c.args.bounds.now c.add_as_sum.new.bounds c.add_numbers.new.bounds c.in_ok-add_as_sum.ensures.on c.in_ok-add_numbers.ensures.on

pub returns-clause-marked : goal.returns-clause-marked
returns-clause-marked c = near_join c.args.bounds.now c.args.marks.now c.add_as_sum.new.bounds c.add_as_sum.new.marks c.add_numbers.new.bounds c.add_numbers.new.marks c.in_ok-add_as_sum.ensures.marked c.in_ok-add_numbers.ensures.marked

pub returns-clause-added : goal.returns-clause-added
returns-clause-added c = λ m. grown_join c.args.nodes.now m c.args.bounds.now.edges m c.add_as_sum.new.bounds.edges m c.add_numbers.new.bounds.edges (c.in_ok-add_as_sum.ensures.added m) (c.in_ok-add_numbers.ensures.added m)

pub returns-clause-has : goal.returns-clause-has
returns-clause-has c = record {
  sum = λ q k p. both_kept c.add_as_sum.new.bounds.edges c.add_numbers.new.bounds.edges c.in_ok-add_numbers.ensures.marked.kept c.args.term q k (c.in_ok-add_as_sum.ensures.has q k p);
  number = λ k o p z. c.in_ok-add_numbers.ensures.as_number k o (slice_get_within c.args.nodes.now o z.0 z.1) p z;
}

pub returns-clause-zero : goal.returns-clause-zero
returns-clause-zero c = λ k a p z. c.in_ok-add_numbers.ensures.as_zero k a (slice_get_within c.args.nodes.now a p.0 p.1) p z
