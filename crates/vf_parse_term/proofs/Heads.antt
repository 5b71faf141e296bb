-- What a token in front tells.
use Rattle.std.proofs.Common.{◌≡◌, ℕ, zero, suc, ◌≤◌, Bool, List, [], ◌∷◌, Ok, refl, arith}
use Rattle.std.specs.Prelude.{◌||◌}
use Rattle.vf_base.specs.declared.place.Place.{Place}
use Rattle.vf_lexer.specs.declared.punctuator.Punctuator.TheVariants.{OpenParenthesis}
use Rattle.vf_lexer.specs.declared.token.Token.{Token}
use Rattle.vf_syntax.specs.declared.side.Side.TheVariants.{Ghost}
use Rattle.vf_syntax.specs.declared.operator.Level.{Level}
use Rattle.vf_syntax.specs.declared.operator.Level.TheVariants.{Or}
use Rattle.vf_syntax.specs.GhostExprTree.{GhostExprTree}
use Rattle.vf_syntax.specs.Walks.{head_has, is_mark, is_name}
use Rattle.vf_cursor.specs.Parsing.{Parser, next_by, number_of, is_there}
use Rattle.vf_cursor.specs.Types.{next_on, next_unary}
use Rattle.vf_parse_term.specs.Terms.{is_constant_word, begins_term, level_above, joins, chain_at, rest_at, joined_at}

pub begins_term_is : (ts : List Token) → head_has begins_term ts ≡ (head_has (is_mark Ghost OpenParenthesis) ts || head_has (is_name Ghost) ts || head_has is_constant_word ts || is_there (next_by Ghost number_of ts) || is_there (next_unary Ghost ts))
unfolding begins_term next_unary
begins_term_is [] = refl
begins_term_is (t ∷ ts) = refl

pub joins_next : (l : Level) (ts : List Token) → head_has (joins l) ts ≡ is_there (next_on Ghost l ts)
unfolding joins next_on
joins_next l [] = refl
joins_next l (t ∷ ts) = refl

pub last_level : (j : ℕ) → 5 ≤ j → level_above j ≡ Or
last_level zero h = absurd (omega arith)
last_level (suc zero) h = absurd (omega arith)
last_level (suc (suc zero)) h = absurd (omega arith)
last_level (suc (suc (suc zero))) h = absurd (omega arith)
last_level (suc (suc (suc (suc zero)))) h = absurd (omega arith)
last_level (suc (suc (suc (suc (suc j))))) h = refl

-- one level more
pub rest_more : (u : Parser GhostExprTree) (n j : ℕ) → n ≡ suc j → (p : Place) (a b : GhostExprTree) (ts mid : List Token) → rest_at u j p a ts ≡ Ok (b, mid) → rest_at u n p a ts ≡ chain_at (level_above j) (joined_at u j) p b mid
unfolding rest_at
rest_more u n j h p a b ts mid e = rw (h, e) refl
