use Rattle.std.proofs.Common.{◌≡◌, length, take, drop}
use Rattle.vf_closure.specs.Terms.{Term}
use Rattle.vf_formula.specs.Rows.{row, size_of}
use Rattle.vf_question.specs.Numbered.{with_row}
use Rattle.vf_question.specs.Tabled.{places}
use Rattle.vf_question.proofs.Has.{Has}
use Rattle.vf_interning.specs.Interned.{IsTermTable}
use Rattle.vf_recheck.proofs.numbering.+number_term.Given as goal

abbrev pub decreases-number_term : goal.decreases-number_term
decreases-number_term l = size_of l.term.now

abbrev pub invariant-loop-part : goal.invariant-loop-part
invariant-loop-part l = record {
  table : IsTermTable l.nodes.items l.terms.items;
  rest : with_row (row (drop l.part-index l.part-items)) l.terms.items ≡ with_row (row l.part-items) l.initial.terms.items;
  there : (p : Term) → Has (take l.part-index l.part-items) p → Has l.terms.items p;
  numbers : l.parts.items ≡ places l.terms.items (row (take l.part-index l.part-items));
  kept : take (length l.initial.terms.items) l.terms.items ≡ l.initial.terms.items;
}
