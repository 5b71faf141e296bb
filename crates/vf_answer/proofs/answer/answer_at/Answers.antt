use Rattle.std.proofs.Common.{arith}
use Rattle.vf_answer.proofs.Counting.{too_many, proved_answered, unknown_answered}
use Rattle.vf_answer.proofs.answer.answer_at.Goals as goal

pub returns-then-count-gt-MOST_TERMS : goal.returns-then-count-gt-MOST_TERMS
returns-then-count-gt-MOST_TERMS c = λ u facts goal e enough. too_many facts c.args.path.now.now.facts goal e (omega (arith, c.count.ensures, c.if-count-gt-MOST_TERMS.true))

pub returns-then-refuted : goal.returns-then-refuted
returns-then-refuted c = λ u facts goal e enough. proved_answered u facts c.args.path.now.now.facts goal c.refuted.result e (omega (arith, c.count.ensures, c.if-count-gt-MOST_TERMS.false)) c.if-refuted.true (c.refuted.ensures u enough)

pub returns : goal.returns
returns c = λ u facts goal e enough. unknown_answered u facts c.args.path.now.now.facts goal c.refuted.result e (omega (arith, c.count.ensures, c.if-count-gt-MOST_TERMS.false)) c.if-refuted.false (c.refuted.ensures u enough)
