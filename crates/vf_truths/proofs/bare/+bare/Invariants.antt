use Rattle.std.proofs.Common.{◌+◌}
use Rattle.vf_formula.specs.Rows.{size_of}
use Rattle.vf_truths.proofs.bare.+bare.Given as goal

abbrev pub decreases-beside : goal.decreases-beside
decreases-beside l = size_of l.left.now + size_of l.right.now + 1

abbrev pub decreases-bare : goal.decreases-bare
decreases-bare l = size_of l.term.now
