-- Nothing nests in a share.
use Rattle.std.proofs.Common.{ℕ, Bool, true, false, [], Some, None}
use Rattle.vf_base.specs.declared.place.Place.{Place}
use Rattle.vf_lexer.specs.declared.punctuator.Punctuator.TheVariants as punctuators
use Rattle.vf_syntax.specs.declared.side.Side.TheVariants.{Ghost}
use Rattle.vf_syntax.specs.declared.pattern.Share.{Share}
use Rattle.vf_syntax.specs.declared.pattern.Amount.{Amount}
use Rattle.vf_syntax.specs.declared.pattern.Amount.TheVariants as amounts
use Rattle.vf_syntax.specs.declared.pattern.Factor.{Factor}
use Rattle.vf_syntax.specs.declared.pattern.Factor.TheVariants as factors
use Rattle.vf_syntax.specs.declared.pattern.FactorLink.{FactorLink}
use Rattle.vf_syntax.specs.Walks.{head_has, is_mark, is_name}
use Rattle.vf_parse_pattern.specs.Shares.{number_factor_at, factor_at, is_factor_mark, factor_link_at, factor_step, product_at, amount_at, share_at, any_share_at}
use Rattle.vf_grammar_depth.proofs.expressions.Deeper.{Deeper, keeps, then_deep, done_deep, here_deep, mark_deep, name_deep, number_deep, head_deep, items_deep}
use Rattle.vf_grammar_depth.proofs.expressions.Begun.{Begun, then_begun, mark_begun}

-- an operator and the factor behind it
abbrev link_of : Bool → Factor → FactorLink
link_of v f = record { divides = v; factor = f }

-- a share at a place
abbrev share_of : Place → Amount → Share
share_of p a = record { place = p; amount = a }

number_factor_deep : {j : ℕ} → Deeper j number_factor_at number_factor_at
unfolding number_factor_at
number_factor_deep = then_deep here_deep (λ p. then_deep (number_deep Ghost) (λ n. done_deep (factors.Number n.0 n.1 p)))

factor_deep : {j : ℕ} → Deeper j factor_at factor_at
unfolding factor_at
factor_deep = head_deep (is_name Ghost) (then_deep (name_deep Ghost) (λ n. done_deep (factors.Name n))) number_factor_deep

factor_link_deep : {j : ℕ} → Deeper j factor_link_at factor_link_at
unfolding factor_link_at
factor_link_deep =
    head_deep (is_mark Ghost punctuators.Slash) (then_deep (mark_deep Ghost punctuators.Slash) (λ m. then_deep factor_deep (λ f. done_deep (link_of true f))))
    (then_deep (mark_deep Ghost punctuators.Star) (λ m. then_deep factor_deep (λ f. done_deep (link_of false f))))

product_deep : {j : ℕ} → Deeper j product_at product_at
unfolding product_at factor_step
product_deep = then_deep factor_deep (λ f. then_deep (items_deep is_factor_mark factor_link_deep []) (λ ls. done_deep (amounts.Product f ls)))

amount_deep : {j : ℕ} → Deeper j amount_at amount_at
unfolding amount_at
amount_deep = head_deep (is_mark Ghost punctuators.Question) (then_deep (mark_deep Ghost punctuators.Question) (λ q. then_deep (name_deep Ghost) (λ n. done_deep (amounts.Binds q n)))) product_deep

pub share_deep : {j : ℕ} → Deeper j share_at share_at
unfolding share_at
share_deep = then_deep (mark_deep Ghost punctuators.OpenBracket) (λ p. then_deep amount_deep (λ a. then_deep (mark_deep Ghost punctuators.CloseBracket) (λ z. done_deep (share_of p a))))

pub any_share_deep : {j : ℕ} → Deeper j any_share_at any_share_at
unfolding any_share_at
any_share_deep = head_deep (is_mark Ghost punctuators.OpenBracket) (then_deep share_deep (λ s. done_deep (Some s))) (done_deep None)

-- the bracket in front is taken
pub share_starts : Begun (head_has (is_mark Ghost punctuators.OpenBracket)) share_at
unfolding share_at
share_starts = then_begun (mark_begun Ghost punctuators.OpenBracket) (λ p. keeps (then_deep {j = 0} amount_deep (λ a. then_deep (mark_deep Ghost punctuators.CloseBracket) (λ z. done_deep (share_of p a)))))
