-- What a parser answers that may nest deeper, and that no depth is owed beyond the number of tokens.
use Rattle.std.specs.Prelude.{◌≡◌, ℕ, ◌<◌, List, length, Ok, Err}
use Rattle.vf_lexer.specs.declared.token.Token.{Token}
use Rattle.vf_cursor.specs.declared.fault.Fault.TheVariants.{Syntax, Depth}
use Rattle.vf_cursor.specs.Parsing.{Read}
use Rattle.vf_parse_expression.specs.Parsers.{expr_at, postfix_at}

-- what is read goes past the token in front of which n are left, or another token further on is refused
abbrev pub GoesPast : {A : Type 0} → ℕ → Read A → Type 0
GoesPast n (Ok x) = length x.1 < n
GoesPast n (Err (Syntax k)) = k < n
GoesPast n (Err (Depth k)) = k < n

-- what is answered where more may nest: the same, or past the token that was too deep something else
abbrev pub Deepens : {A : Type 0} → Read A → Read A → Type 0
Deepens (Ok x) more = more ≡ Ok x
Deepens (Err (Syntax n)) more = more ≡ Err (Syntax n)
Deepens (Err (Depth n)) more = GoesPast n more

-- nothing is too deep
abbrev pub IsNotTooDeep : {A : Type 0} → Read A → Type 0
IsNotTooDeep (Ok x) = Unit {0}
IsNotTooDeep (Err (Syntax n)) = Unit {0}
IsNotTooDeep (Err (Depth n)) = ⊥

-- where more may nest, an expression is answered alike, but past each token that was too deep; and nothing is too deep where more may nest than there are tokens
abbrev pub ExpressionsDeepen : Type 0
ExpressionsDeepen = (d m : ℕ) (ts : List Token) → d < m → Deepens (expr_at d ts) (expr_at m ts) × (length ts < m → IsNotTooDeep (expr_at m ts))

-- the same of a primary expression with what stands behind it
abbrev pub PostfixesDeepen : Type 0
PostfixesDeepen = (d m : ℕ) (ts : List Token) → d < m → Deepens (postfix_at d ts) (postfix_at m ts) × (length ts < m → IsNotTooDeep (postfix_at m ts))
