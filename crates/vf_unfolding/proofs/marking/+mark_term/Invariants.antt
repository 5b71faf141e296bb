use Rattle.std.proofs.Common.{◌≡◌, ◌<◌, length, map, take, drop}
use Rattle.std.specs.Prelude.{All}
use Rattle.vf_formula.specs.Rows.{row, size_of}
use Rattle.vf_question.specs.Numbered.{with_row, all_terms}
use Rattle.vf_question.specs.Questions.{at}
use Rattle.vf_unfolding.proofs.marking.+mark_term.Given as goal

abbrev pub decreases-mark_term : goal.decreases-mark_term
decreases-mark_term l = size_of l.term.now

abbrev pub invariant-loop-part : goal.invariant-loop-part
invariant-loop-part l = record {
  within : All (λ k. k < length (all_terms l.interning.literals)) l.asked.items;
  rest : with_row (row (drop l.part-index l.part-items)) (map (at (all_terms l.interning.literals)) l.asked.items) ≡ with_row (row l.part-items) (map (at (all_terms l.interning.literals)) l.initial.asked.items);
  kept : take (length l.initial.asked.items) l.asked.items ≡ l.initial.asked.items;
}
