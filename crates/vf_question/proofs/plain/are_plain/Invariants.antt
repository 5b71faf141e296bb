use Rattle.std.proofs.Common.{ℕ, ◌<◌, slice_index_or}
use Rattle.vf_formula.specs.declared.literal.Literal.{Literal}
use Rattle.vf_formula.specs.Literals.{shown_literal}
use Rattle.vf_question.specs.Plain.{IsPlainLiteral}
use Rattle.vf_question.proofs.plain.are_plain.Given as goal

abbrev pub invariant-loop-literal : goal.invariant-loop-literal
invariant-loop-literal l = (k : ℕ) (d : Literal) → k < l.literal-index → IsPlainLiteral (shown_literal (slice_index_or l.literals k d))
