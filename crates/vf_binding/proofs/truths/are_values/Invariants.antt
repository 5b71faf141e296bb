use Rattle.std.proofs.Common.{◌≡◌, drop}
use Rattle.vf_syntax.specs.Assertions.{are_value_patterns}
use Rattle.vf_binding.proofs.truths.are_values.Given as goal

-- whether those that are left are expressions tells whether all are
abbrev pub invariant-loop-at : goal.invariant-loop-at
invariant-loop-at l = are_value_patterns l.fn.patterns ≡ are_value_patterns (drop l.at l.fn.patterns)
