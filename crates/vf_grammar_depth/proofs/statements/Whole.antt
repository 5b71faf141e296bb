-- Statements of one depth and of another.
use Rattle.std.proofs.Common.{ℕ, zero, suc, ◌+◌, ◌<◌, arith}
use Rattle.vf_syntax.specs.declared.side.Grammar.{Grammar}
use Rattle.vf_syntax.specs.declared.contract.Invariant.{Invariant}
use Rattle.vf_syntax.specs.GhostCommandTree.{GhostCommandTree}
use Rattle.vf_cursor.specs.Parsing.{Parser}
use Rattle.vf_parse_expression.specs.Parsers.{expr_at, postfix_at}
use Rattle.vf_parse_simple.specs.Simples.{simple_at}
use Rattle.vf_parse_statement.specs.Annotations.{reads_none}
use Rattle.vf_parse_statement.specs.Parsers.{sees_statement, real_at, stmt_at, body_at}
use Rattle.vf_grammar_depth.proofs.expressions.Deeper.{Deeper, fail_deep, same_of}
use Rattle.vf_grammar_depth.proofs.expressions.Begun.{none_deep, same_deep}
use Rattle.vf_grammar_depth.proofs.expressions.Whole.{expr_same, expr_deep, postfix_same, postfix_deep, postfix_starts}
use Rattle.vf_grammar_depth.proofs.expressions.Answers.{Rises}
use Rattle.vf_grammar_depth.proofs.statements.Simples.{simple_deep}
use Rattle.vf_grammar_depth.proofs.statements.Statements.{stmt_deep, body_deep, real_deep}
use Rattle.vf_grammar_depth.proofs.statements.Starts.{real_starts}

-- assignments and calls
pub simples_rise : Rises (λ d. simple_at (expr_at d) (postfix_at d))
simples_rise d m lt = simple_deep (expr_deep d m lt) (postfix_deep d m lt)

-- the parsers of all depths, each of which goes past where those end that have more than so many levels less
abbrev pub RisesAbove : {A : Type 0} → ℕ → (ℕ → Parser A) → Type 0
RisesAbove gap p = (d m : ℕ) → d + gap < m → Deeper 1 (p d) (p m)

-- one level is enough
pub rises_each : {A : Type 0} (p : ℕ → Parser A) → RisesAbove 0 p → Rises p
rises_each p h d m lt = h d m (omega (arith, lt))

-- what reads nothing
pub nothing_rises : {A : Type 0} (gap : ℕ) → RisesAbove {A = A} gap reads_none
nothing_rises gap d m lt = fail_deep

-- one depth and itself
pub rises_same : {A : Type 0} (gap : ℕ) (p : ℕ → Parser A) → RisesAbove gap p → (d : ℕ) → Deeper 0 (p d) (p d)
rises_same gap p h d = same_of (h d (suc (d + gap)) (omega arith))

real_same : (gap : ℕ) (g : Grammar) (c : ℕ → Parser GhostCommandTree) (i : ℕ → Parser Invariant) → RisesAbove gap c → RisesAbove gap i → (d : ℕ) → Deeper 0 (real_at g c i d) (real_at g c i d)
unfolding real_at
real_same gap g c i hc hi zero = same_deep sees_statement
real_same gap g c i hc hi (suc d) =
    let down = real_same gap g c i hc hi d in
    real_deep g (expr_same d) (postfix_same d) (rises_same gap i hi d) down (stmt_deep g (rises_same gap c hc d) down)

real_rises : (gap : ℕ) (g : Grammar) (c : ℕ → Parser GhostCommandTree) (i : ℕ → Parser Invariant) → RisesAbove gap c → RisesAbove gap i → RisesAbove gap (real_at g c i)
unfolding real_at
real_rises gap g c i hc hi d zero lt = absurd (omega (arith, lt))
real_rises gap g c i hc hi zero (suc m) lt =
    let down = real_same gap g c i hc hi m in
    none_deep (real_starts g (expr_same m) (postfix_same m) (postfix_starts m) (rises_same gap i hi m) down (stmt_deep g (rises_same gap c hc m) down))
real_rises gap g c i hc hi (suc d) (suc m) lt =
    let far : d + gap < m = omega (arith, lt) in
    let below : d < m = omega (arith, lt) in
    let down = real_rises gap g c i hc hi d m far in
    real_deep g (expr_deep d m below) (postfix_deep d m below) (hi d m far) down (stmt_deep g (hc d m far) down)

-- statements and ghost commands
pub statements_rise : (gap : ℕ) (g : Grammar) (c : ℕ → Parser GhostCommandTree) (i : ℕ → Parser Invariant) → RisesAbove gap c → RisesAbove gap i → RisesAbove gap (stmt_at g c i)
statements_rise gap g c i hc hi d m lt = stmt_deep g (hc d m lt) (real_rises gap g c i hc hi d m lt)

-- bodies of functions
pub bodies_rise : (gap : ℕ) (g : Grammar) (c : ℕ → Parser GhostCommandTree) (i : ℕ → Parser Invariant) → RisesAbove gap c → RisesAbove gap i → RisesAbove gap (body_at g c i)
bodies_rise gap g c i hc hi d m lt = body_deep (statements_rise gap g c i hc hi d m lt)
