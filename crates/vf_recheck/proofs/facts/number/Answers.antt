use Rattle.std.proofs.Common.{arith}
use Rattle.vf_question.proofs.Places.{place_within}
use Rattle.vf_recheck.proofs.facts.number.Goals as goal

pub overflow_cast-result : goal.overflow_cast-result
overflow_cast-result c = let w = place_within c.args.term.now c.args.terms.now in omega (arith, c.requires)
