use Rattle.std.proofs.Common.{sym, subst}
use Rattle.std.specs.Prelude.{All}
use Rattle.vf_formula.specs.Literals.{shown_literal}
use Rattle.vf_question.specs.Plain.{IsPlainLiteral}
use Rattle.vf_asking.specs.Journal.{path_to}
use Rattle.vf_prover.proofs.Answering.{path_plain, too_many_on_path}
use Rattle.vf_prover.proofs.deciding.explain_along.Goals as goal

pub explain_here-requires-clause-facts : goal.explain_here-requires-clause-facts
explain_here-requires-clause-facts c = subst (All IsPlainLiteral) (sym (c.in_ok-few.ensures.facts c.if-few.true)) (path_plain c.args.trail.now.facts c.args.at.number c.requires.facts)

pub returns-else-few-clause-explained : goal.returns-else-few-clause-explained
returns-else-few-clause-explained c = too_many_on_path (path_to c.args.trail.now.facts c.args.at.number) (shown_literal c.args.goal.now) c.in_ok-few.few c.if-few.false c.in_ok-few.ensures.few
