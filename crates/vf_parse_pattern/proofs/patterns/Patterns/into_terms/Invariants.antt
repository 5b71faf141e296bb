use Rattle.std.proofs.Common.{◌≡◌}
use Rattle.vf_parse_pattern.specs.Patterns.{terms_of}
use Rattle.vf_parse_pattern.proofs.patterns.Patterns.into_terms.Given as goal

abbrev pub invariant-loop-pattern : goal.invariant-loop-pattern
invariant-loop-pattern l = l.terms ≡ terms_of l.yielded
