-- Patterns of one depth and of another.
use Rattle.std.proofs.Common.{ℕ}
use Rattle.vf_parse_pattern.specs.Patterns.{pattern_at, patterns_at, any_patterns_at}
use Rattle.vf_grammar_depth.proofs.expressions.Deeper.{Deeper}
use Rattle.vf_grammar_depth.proofs.terms.Whole.{RisesByTwo, term_same, term_rises}
use Rattle.vf_grammar_depth.proofs.patterns.Patterns.{pattern_deep, patterns_deep, any_patterns_deep}

pub pattern_same : (d : ℕ) → Deeper 0 (pattern_at d) (pattern_at d)
pattern_same d = pattern_deep d d (term_same d)

pub pattern_rises : RisesByTwo pattern_at
pattern_rises d m lt = pattern_deep d m (term_rises d m lt)

pub patterns_same : (d : ℕ) → Deeper 0 (patterns_at d) (patterns_at d)
patterns_same d = patterns_deep d d (term_same d)

pub patterns_rises : RisesByTwo patterns_at
patterns_rises d m lt = patterns_deep d m (term_rises d m lt)

pub any_patterns_same : (d : ℕ) → Deeper 0 (any_patterns_at d) (any_patterns_at d)
any_patterns_same d = any_patterns_deep d d (term_same d)

pub any_patterns_rises : RisesByTwo any_patterns_at
any_patterns_rises d m lt = any_patterns_deep d m (term_rises d m lt)
