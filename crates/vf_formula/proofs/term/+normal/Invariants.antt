use Rattle.std.proofs.Common.{◌≡◌, drop}
use Rattle.vf_normal.specs.Normal.{all_normal}
use Rattle.vf_formula.specs.Rows.{row}
use Rattle.vf_formula.specs.Shares.{AllKeepFractions}
use Rattle.vf_formula.proofs.Parts.{ahead}
use Rattle.vf_formula.proofs.term.+normal.Given as goal

abbrev pub invariant-TermList::normal-loop-item : goal.invariant-TermList::normal-loop-item
invariant-TermList::normal-loop-item l = record {
  value : ahead l.all (all_normal (row (drop l.item-index l.item-items))) ≡ all_normal (row l.item-items);
  kept : AllKeepFractions (row (drop l.item-index l.item-items)) → AllKeepFractions (row l.item-items);
}
