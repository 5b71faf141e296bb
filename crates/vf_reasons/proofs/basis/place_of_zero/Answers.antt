use Rattle.std.proofs.Common.{arith}
use Rattle.vf_question.proofs.Places.{place_within}
use Rattle.vf_reasons.proofs.basis.place_of_zero.Goals as goal

pub overflow_cast-result : goal.overflow_cast-result
overflow_cast-result c = let w = place_within c.of_number-zero.result c.args.terms.now in omega (arith, w, c.requires, c.place.ensures)
