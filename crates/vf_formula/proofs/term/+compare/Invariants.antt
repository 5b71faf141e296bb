use Rattle.std.proofs.Common.{◌≡◌, drop}
use Rattle.vf_normal.specs.Order.{compare_rows}
use Rattle.vf_formula.specs.Rows.{row}
use Rattle.vf_formula.proofs.term.+compare.Given as goal

abbrev pub invariant-TermList::compare-loop-i : goal.invariant-TermList::compare-loop-i
invariant-TermList::compare-loop-i l =
    compare_rows (row (drop l.i l.self-inside.items.items)) (row (drop l.i l.other-inside.items.items))
    ≡ compare_rows (row l.self-inside.items.items) (row l.other-inside.items.items)
