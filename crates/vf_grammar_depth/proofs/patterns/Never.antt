-- Where a parser goes past each token that is too deep for it, none is.
use Rattle.std.proofs.Common.{ℕ, List, length, Ok, Err, arith}
use Rattle.vf_lexer.specs.declared.token.Token.{Token}
use Rattle.vf_cursor.specs.declared.fault.Fault.TheVariants.{Syntax, Depth}
use Rattle.vf_cursor.specs.Parsing.{Read, Parser}
use Rattle.vf_grammar_depth.specs.expressions.Deep.{IsNotTooDeep}
use Rattle.vf_grammar_depth.proofs.expressions.Deeper.{DeeperAt, Deeper}

never_at : {A : Type 0} (n : ℕ) (r : Read A) → DeeperAt 1 n r r → IsNotTooDeep r
never_at n (Ok x) h = tt
never_at n (Err (Syntax k)) h = tt
never_at n (Err (Depth k)) h = absurd (omega (arith, h.1))

-- a parser that answers so where it is asked itself
pub never_deep : {A : Type 0} {p : Parser A} → Deeper 1 p p → (ts : List Token) → IsNotTooDeep (p ts)
never_deep {p = p} h ts = never_at (length ts) (p ts) (h.run ts)
