-- Expressions of one depth and of another.
use Rattle.std.proofs.Common.{ℕ, zero, suc, ◌<◌, arith}
use Rattle.vf_parse_expression.specs.Operands.{sees_primary, sees_operand}
use Rattle.vf_parse_expression.specs.Parsers.{post_at, expr_at, unary_at, factor_at}
use Rattle.vf_grammar_depth.proofs.expressions.Deeper.{Deeper}
use Rattle.vf_grammar_depth.proofs.expressions.Begun.{Begun, none_deep, same_deep}
use Rattle.vf_grammar_depth.proofs.expressions.Expressions.{post_deep, operand_deep, conditional_deep}
use Rattle.vf_grammar_depth.proofs.expressions.Starts.{post_starts, operand_starts, conditional_starts}

mutual
  unfolding expr_at unary_at factor_at

  pub expr_same : (d : ℕ) → Deeper 0 (expr_at d) (expr_at d)
  expr_same zero = same_deep sees_operand
  expr_same (suc d) = conditional_deep (expr_same d) (operand_deep (expr_same d) (unary_same d) (factor_same d))

  unary_same : (d : ℕ) → Deeper 0 (unary_at d) (unary_at d)
  unary_same zero = same_deep sees_operand
  unary_same (suc d) = operand_deep (expr_same d) (unary_same d) (factor_same d)

  factor_same : (d : ℕ) → Deeper 0 (factor_at d) (factor_at d)
  factor_same zero = same_deep sees_primary
  factor_same (suc d) = post_deep (expr_same d) (factor_same d)

mutual
  unfolding expr_at unary_at factor_at

  pub expr_deep : (d m : ℕ) → d < m → Deeper 1 (expr_at d) (expr_at m)
  expr_deep d zero lt = absurd (omega (arith, lt))
  expr_deep zero (suc m) lt = none_deep (conditional_starts (expr_same m) (operand_deep (expr_same m) (unary_same m) (factor_same m)) (operand_starts (expr_same m) (unary_same m) (factor_same m)))
  expr_deep (suc d) (suc m) lt =
      let below : d < m = omega (arith, lt) in
      conditional_deep (expr_deep d m below) (operand_deep (expr_deep d m below) (unary_deep d m below) (factor_deep d m below))

  unary_deep : (d m : ℕ) → d < m → Deeper 1 (unary_at d) (unary_at m)
  unary_deep d zero lt = absurd (omega (arith, lt))
  unary_deep zero (suc m) lt = none_deep (operand_starts (expr_same m) (unary_same m) (factor_same m))
  unary_deep (suc d) (suc m) lt =
      let below : d < m = omega (arith, lt) in
      operand_deep (expr_deep d m below) (unary_deep d m below) (factor_deep d m below)

  factor_deep : (d m : ℕ) → d < m → Deeper 1 (factor_at d) (factor_at m)
  factor_deep d zero lt = absurd (omega (arith, lt))
  factor_deep zero (suc m) lt = none_deep (post_starts (expr_same m) (factor_same m))
  factor_deep (suc d) (suc m) lt =
      let below : d < m = omega (arith, lt) in
      post_deep (expr_deep d m below) (factor_deep d m below)

pub postfix_deep : (d m : ℕ) → d < m → Deeper 1 (post_at (expr_at d) (factor_at d)) (post_at (expr_at m) (factor_at m))
postfix_deep d m lt = post_deep (expr_deep d m lt) (factor_deep d m lt)

pub postfix_same : (d : ℕ) → Deeper 0 (post_at (expr_at d) (factor_at d)) (post_at (expr_at d) (factor_at d))
postfix_same d = post_deep (expr_same d) (factor_same d)

-- what begins it is taken
pub postfix_starts : (d : ℕ) → Begun sees_primary (post_at (expr_at d) (factor_at d))
postfix_starts d = post_starts (expr_same d) (factor_same d)
