use Rattle.std.proofs.Common.{drop}
use Rattle.vf_formula.specs.Rows.{row, size_of}
use Rattle.vf_question.specs.Plain.{ArePlain}
use Rattle.vf_question.proofs.plain.+is_plain.Given as goal

abbrev pub decreases-is_plain : goal.decreases-is_plain
decreases-is_plain l = size_of l.term.now

abbrev pub invariant-loop-part : goal.invariant-loop-part
invariant-loop-part l = ArePlain (row (drop l.part-index l.part-items)) → ArePlain (row l.part-items)
