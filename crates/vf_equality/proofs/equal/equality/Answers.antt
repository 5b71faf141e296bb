use Rattle.vf_equality.proofs.Plain.{literal_asked}
use Rattle.vf_equality.proofs.equal.equality.Goals as goal

pub returns-then-is_integer-2-clause-askable : goal.returns-then-is_integer-2-clause-askable
returns-then-is_integer-2-clause-askable c = literal_asked c.comparison_literal.result c.args.left.now c.args.right.now c.comparison_literal.ensures c.requires.left c.requires.right
