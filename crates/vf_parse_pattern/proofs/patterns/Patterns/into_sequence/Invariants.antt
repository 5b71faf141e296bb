use Rattle.std.proofs.Common.{◌≡◌}
use Rattle.vf_parse_pattern.proofs.patterns.Patterns.into_sequence.Given as goal

abbrev pub invariant-loop-pattern : goal.invariant-loop-pattern
invariant-loop-pattern l = l.patterns ≡ l.yielded
