use Rattle.std.proofs.Common.{◌≡◌, map, drop}
use Rattle.vf_formula.specs.Literals.{shown_literal}
use Rattle.vf_question.specs.Numbered.{with_literals}
use Rattle.vf_interning.specs.Interned.{IsTermTable}
use Rattle.vf_recheck.proofs.numbering.number_literals.Given as goal

abbrev pub invariant-loop-literal : goal.invariant-loop-literal
invariant-loop-literal l = record {
  table : IsTermTable l.nodes.items l.terms.items;
  rest : with_literals (map shown_literal (drop l.literal-index l.literals)) l.terms.items ≡ with_literals (map shown_literal l.literals) l.initial.terms.items;
}
