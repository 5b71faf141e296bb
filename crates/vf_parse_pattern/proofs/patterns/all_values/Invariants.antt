use Rattle.std.proofs.Common.{◌≡◌, drop}
use Rattle.vf_syntax.specs.Assertions.{are_value_patterns}
use Rattle.vf_parse_pattern.proofs.patterns.all_values.Given as goal

abbrev pub invariant-loop-pattern : goal.invariant-loop-pattern
invariant-loop-pattern l = are_value_patterns (drop l.pattern-index l.patterns) ≡ are_value_patterns l.patterns
