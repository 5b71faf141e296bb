-- Two trees that a parser reads from the same tokens are one.
use Rattle.std.proofs.Common.{◌≡◌, ◌+◌, false, List, Some, sym, ◌∙◌, arith}
use Rattle.vf_lexer.specs.declared.token.Token.{Token}
use Rattle.vf_syntax.specs.ExprTree.{ExprTree}
use Rattle.vf_syntax.specs.Expressions.{expr, nesting}
use Rattle.vf_cursor.proofs.Facts.{ok_pair}
use Rattle.vf_grammar_read.specs.expressions.Laws.{goes_on_with}
use Rattle.vf_grammar_read.proofs.expressions.ExprFull.{expr_full, at_most}
use Rattle.vf_grammar_read.proofs.expressions.Behind.{ended}

pub one_expression : (x y : ExprTree) (ts rest : List Token) → expr x ts ≡ Some rest → expr y ts ≡ Some rest → goes_on_with rest ≡ false → x ≡ y
one_expression x y ts rest h k free =
    let d = nesting x + nesting y + 1 in
    let one = expr_full (nesting x + nesting y + 1) x ts rest h (omega arith) (at_most x) (ended rest free) in
    let two = expr_full (nesting x + nesting y + 1) y ts rest k (omega arith) (at_most y) (ended rest free) in
    (ok_pair x y rest rest (sym one ∙ two)).0
