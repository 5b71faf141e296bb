-- What is answered where sorts and expressions of ghost text may nest deeper.
use Rattle.std.specs.Prelude.{ℕ, suc, ◌+◌, ◌<◌, List, length}
use Rattle.vf_lexer.specs.declared.token.Token.{Token}
use Rattle.vf_parse_term.specs.Sorts.{sort_at}
use Rattle.vf_parse_term.specs.Terms.{term_at}
use Rattle.vf_grammar_depth.specs.expressions.Deep.{Deepens, IsNotTooDeep}

-- where more may nest, a sort is answered alike, but past each token that was too deep; and nothing is too deep where more may nest than there are tokens
abbrev pub SortsDeepen : Type 0
SortsDeepen = (d m : ℕ) (ts : List Token) → d < m → Deepens (sort_at d ts) (sort_at m ts) × (length ts < m → IsNotTooDeep (sort_at m ts))

-- the same of an expression, where two more may nest, since what stands behind the `?` of a conditional counts two
abbrev pub TermsDeepen : Type 0
TermsDeepen = (d m : ℕ) (ts : List Token) → suc d < m → Deepens (term_at d ts) (term_at m ts) × (suc (length ts + length ts) < m → IsNotTooDeep (term_at m ts))
