use Rattle.std.proofs.Common.{◌≡◌, drop}
use Rattle.vf_formula.specs.Rows.{row, size_of}
use Rattle.vf_formula.proofs.Parts.{ahead}
use Rattle.vf_definitions.specs.Filled.{all_filled}
use Rattle.vf_definitions.proofs.filling.+filled.Given as goal

abbrev pub decreases-filled : goal.decreases-filled
decreases-filled l = size_of l.body.now

abbrev pub invariant-loop-part : goal.invariant-loop-part
invariant-loop-part l = ahead l.all (all_filled (row l.arguments) (row (drop l.part-index l.part-items))) ≡ all_filled (row l.arguments) (row l.part-items)
