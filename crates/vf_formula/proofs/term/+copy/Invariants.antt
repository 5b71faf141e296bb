use Rattle.std.proofs.Common.{◌≡◌, take}
use Rattle.vf_formula.proofs.term.+copy.Given as goal

abbrev pub invariant-TermList::copy-loop-item : goal.invariant-TermList::copy-loop-item
invariant-TermList::copy-loop-item l = l.all ≡ take l.item-index l.item-items
