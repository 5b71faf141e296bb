-- The parser of shares.
use Rattle.std.specs.Prelude.{Bool, true, false, ◌||◌, List, [], Option, Some, None, if◌then◌else◌}
use Rattle.vf_lexer.specs.declared.punctuator.Punctuator.TheVariants as punctuators
use Rattle.vf_lexer.specs.declared.token.Token.{Token}
use Rattle.vf_syntax.specs.declared.side.Side.TheVariants.{Ghost}
use Rattle.vf_syntax.specs.declared.pattern.Share.{Share}
use Rattle.vf_syntax.specs.declared.pattern.Amount.{Amount}
use Rattle.vf_syntax.specs.declared.pattern.Amount.TheVariants as amounts
use Rattle.vf_syntax.specs.declared.pattern.Factor.{Factor}
use Rattle.vf_syntax.specs.declared.pattern.Factor.TheVariants as factors
use Rattle.vf_syntax.specs.declared.pattern.FactorLink.{FactorLink}
use Rattle.vf_syntax.specs.Walks.{head_has, is_mark, is_name}
use Rattle.vf_cursor.specs.Parsing.{Parser, ok, ◌>>=◌, here_at, mark_at, name_at, number_at, many, item_step}

-- a number
unfoldable pub number_factor_at : Parser Factor
number_factor_at ts = here_at ts >>= λ p. number_at Ghost p.1 >>= λ n. ok (factors.Number n.0.0 n.0.1 p.0) n.1

-- a number or a name
unfoldable pub factor_at : Parser Factor
factor_at ts = if head_has (is_name Ghost) ts then (name_at Ghost ts >>= λ n. ok (factors.Name n.0) n.1) else number_factor_at ts

-- a token is `*` or `/`
unfoldable pub is_factor_mark : Token → Bool
is_factor_mark t = is_mark Ghost punctuators.Star t || is_mark Ghost punctuators.Slash t

-- `*` or `/`, and the factor behind it
unfoldable pub factor_link_at : Parser FactorLink
factor_link_at ts = if head_has (is_mark Ghost punctuators.Slash) ts then (mark_at Ghost punctuators.Slash ts >>= λ m. factor_at m.1 >>= λ f. ok (record { divides = true; factor = f.0 }) f.1)
    else (mark_at Ghost punctuators.Star ts >>= λ m. factor_at m.1 >>= λ f. ok (record { divides = false; factor = f.0 }) f.1)

-- one more factor
unfoldable pub factor_step : List FactorLink → Parser (List FactorLink)
factor_step xs ts = item_step factor_link_at xs ts

-- factors with `*` and `/` between them
unfoldable pub product_at : Parser Amount
product_at ts = factor_at ts >>= λ f. many is_factor_mark factor_step [] f.1 >>= λ ls. ok (amounts.Product f.0 ls.0) ls.1

-- what stands between the brackets of a share
unfoldable pub amount_at : Parser Amount
amount_at ts = if head_has (is_mark Ghost punctuators.Question) ts then (mark_at Ghost punctuators.Question ts >>= λ q. name_at Ghost q.1 >>= λ n. ok (amounts.Binds q.0 n.0) n.1) else product_at ts

-- a share
unfoldable pub share_at : Parser Share
share_at ts = mark_at Ghost punctuators.OpenBracket ts >>= λ p. amount_at p.1 >>= λ a. mark_at Ghost punctuators.CloseBracket a.1 >>= λ z. ok (record { place = p.0; amount = a.0 }) z.1

-- a share, or none
unfoldable pub any_share_at : Parser (Option Share)
any_share_at ts = if head_has (is_mark Ghost punctuators.OpenBracket) ts then (share_at ts >>= λ s. ok (Some s.0) s.1) else ok None ts
