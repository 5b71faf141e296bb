use Rattle.std.proofs.Common.{refl}
use Rattle.vf_lower.specs.Lowering.{◌⨾◌, does, gives, taken}
use Rattle.vf_lower.specs.Branches.{either}
use Rattle.vf_lower.specs.Statements.{looped}
use Rattle.vf_lower.proofs.examples.lowered_in_examples.Goals as goal

pub returns : goal.returns
unfolding ◌⨾◌ does gives taken either looped
returns c = record { sums = refl; comparisons_as_values = refl; both_operands = refl; conversions = refl; changes = refl; loops = refl }
