-- The parser of expressions of ghost text, by how many expressions and operators in front of their operand may stand in one another.
-- e and f are the parsers of an expression one level and two levels further down, u that of an operand one level further down.
use Rattle.std.specs.Prelude.{ℕ, zero, suc, Bool, ◌||◌, List, [], ◌∷◌, ◌++◌, Option, Some, None, Err, length, if◌then◌else◌}
use Rattle.vf_base.specs.declared.place.Place.{Place}
use Rattle.vf_lexer.specs.declared.punctuator.Punctuator.TheVariants as punctuators
use Rattle.vf_lexer.specs.declared.token.Token.{Token}
use Rattle.vf_syntax.specs.declared.keyword.Keyword.TheVariants as keywords
use Rattle.vf_syntax.specs.declared.side.Side.TheVariants.{Ghost}
use Rattle.vf_syntax.specs.declared.operator.UnaryOperator.{UnaryOperator}
use Rattle.vf_syntax.specs.declared.operator.BinaryOperator.{BinaryOperator}
use Rattle.vf_syntax.specs.declared.operator.Level.{Level}
use Rattle.vf_syntax.specs.declared.operator.Level.TheVariants as levels
use Rattle.vf_syntax.specs.GhostExprTree.{GhostExprTree, GhostLinkTree, ghost_expr_list, ghost_link_list, ghost_link}
use Rattle.vf_syntax.specs.GhostExprTree as tree
use Rattle.vf_syntax.specs.Walks.{head_has, is_mark, is_word, is_name}
use Rattle.vf_syntax.specs.Written.{unary_mark, binary_mark}
use Rattle.vf_cursor.specs.Parsing.{Parser, ok, ◌>>=◌, fails_at, here_at, mark_at, word_at, name_at, number_at, number_of, told_by, is_there, many, item_step}
use Rattle.vf_cursor.specs.Types.{next_on, next_unary}
use Rattle.vf_parse_term.specs.Pieces.{too_deep_at, any_at}

-- a token is a word that is an expression
unfoldable pub is_constant_word : Token → Bool
is_constant_word t = is_word Ghost keywords.True t || is_word Ghost keywords.False t || is_word Ghost keywords.Result t || is_word Ghost keywords.This t || is_word Ghost keywords.CurrentThread t

-- a token can begin an expression
unfoldable pub begins_term : Token → Bool
begins_term t = is_mark Ghost punctuators.OpenParenthesis t || is_name Ghost t || is_constant_word t || is_there (told_by Ghost number_of t) || is_there (next_unary Ghost (t ∷ []))

-- a truth value, or a number
unfoldable pub literal_at : Place → Parser GhostExprTree
literal_at p ts = if head_has (is_word Ghost keywords.True) ts then (word_at Ghost keywords.True ts >>= λ a. ok (tree.true_ p) a.1)
    else (if head_has (is_word Ghost keywords.False) ts then (word_at Ghost keywords.False ts >>= λ a. ok (tree.false_ p) a.1)
    else (number_at Ghost ts >>= λ n. ok (tree.number p n.0.0 n.0.1) n.1))

-- a word that is an expression, or a number
unfoldable pub constant_at : Place → Parser GhostExprTree
constant_at p ts = if head_has (is_word Ghost keywords.Result) ts then (word_at Ghost keywords.Result ts >>= λ a. ok (tree.result p) a.1)
    else (if head_has (is_word Ghost keywords.This) ts then (word_at Ghost keywords.This ts >>= λ a. ok (tree.this_ p) a.1)
    else (if head_has (is_word Ghost keywords.CurrentThread) ts then (word_at Ghost keywords.CurrentThread ts >>= λ a. ok (tree.current_thread p) a.1)
    else literal_at p ts))

-- arguments between parentheses
unfoldable pub arguments_at : Parser GhostExprTree → Parser (List GhostExprTree)
arguments_at e ts = mark_at Ghost punctuators.OpenParenthesis ts >>= λ a. any_at (is_mark Ghost punctuators.CloseParenthesis) e a.1 >>= λ xs. mark_at Ghost punctuators.CloseParenthesis xs.1 >>= λ b. ok xs.0 b.1

-- a name at a place, or an application of it, behind the name
unfoldable pub named_at : Parser GhostExprTree → Place → List ℕ → Parser GhostExprTree
named_at e p x ts = if head_has (is_mark Ghost punctuators.OpenParenthesis) ts then (arguments_at e ts >>= λ xs. ok (tree.application p x (ghost_expr_list xs.0)) xs.1) else ok (tree.name_ p x) ts

-- what stands behind the first branch of a conditional, up to its ")"
unfoldable pub second_branch_at : Parser GhostExprTree → Place → GhostExprTree → GhostExprTree → Parser GhostExprTree
second_branch_at f p c a ts = mark_at Ghost punctuators.Colon ts >>= λ k. f k.1 >>= λ b. mark_at Ghost punctuators.CloseParenthesis b.1 >>= λ z. ok (tree.conditional p c a b.0) z.1

-- what stands behind the test of a conditional, up to its ")"
unfoldable pub branches_at : Parser GhostExprTree → Place → GhostExprTree → Parser GhostExprTree
branches_at f p c ts = mark_at Ghost punctuators.Question ts >>= λ q. f q.1 >>= λ a. second_branch_at f p c a.0 a.1

-- an expression in parentheses, or a conditional in them
unfoldable pub parenthesized_at : Parser GhostExprTree → Parser GhostExprTree → Place → Parser GhostExprTree
parenthesized_at e f p ts = mark_at Ghost punctuators.OpenParenthesis ts >>= λ o. e o.1 >>= λ c. if head_has (is_mark Ghost punctuators.Question) c.1 then branches_at f p c.0 c.1
    else (mark_at Ghost punctuators.CloseParenthesis c.1 >>= λ z. ok (tree.parenthesized p c.0) z.1)

-- a primary expression at a place
unfoldable pub primary_form_at : Parser GhostExprTree → Parser GhostExprTree → Place → Parser GhostExprTree
primary_form_at e f p ts = if head_has (is_mark Ghost punctuators.OpenParenthesis) ts then parenthesized_at e f p ts
    else (if head_has (is_name Ghost) ts then (name_at Ghost ts >>= λ n. named_at e p n.0.text n.1) else constant_at p ts)

-- a primary expression
unfoldable pub primary_at : Parser GhostExprTree → Parser GhostExprTree → Parser GhostExprTree
primary_at e f ts = here_at ts >>= λ p. primary_form_at e f p.0 p.1

-- an operand in front of which this operator stands, or none
abbrev pub signed_by : Parser GhostExprTree → Parser GhostExprTree → Parser GhostExprTree → Option UnaryOperator → Parser GhostExprTree
signed_by e f u None ts = primary_at e f ts
signed_by e f u (Some o) ts = mark_at Ghost (unary_mark o) ts >>= λ p. u p.1 >>= λ a. ok (tree.unary p.0 o a.0) a.1

-- an operand
unfoldable pub signed_at : Parser GhostExprTree → Parser GhostExprTree → Parser GhostExprTree → Parser GhostExprTree
signed_at e f u ts = signed_by e f u (next_unary Ghost ts) ts

-- the levels of operators, from those that hold most tightly on
abbrev pub level_above : ℕ → Level
level_above zero = levels.Multiplicative
level_above (suc zero) = levels.Additive
level_above (suc (suc zero)) = levels.Relational
level_above (suc (suc (suc zero))) = levels.Equality
level_above (suc (suc (suc (suc zero)))) = levels.And
level_above (suc (suc (suc (suc (suc j))))) = levels.Or

-- a token is an operator of a level
unfoldable pub joins : Level → Token → Bool
joins l t = is_there (next_on Ghost l (t ∷ []))

-- an operator, and the operand behind it
abbrev pub link_by : Parser GhostExprTree → Option BinaryOperator → Parser GhostLinkTree
link_by p None ts = fails_at ts
link_by p (Some o) ts = mark_at Ghost (binary_mark o) ts >>= λ q. p q.1 >>= λ b. ok (ghost_link q.0 o b.0) b.1

-- an operator of a level, and the operand behind it
unfoldable pub link_at : Level → Parser GhostExprTree → Parser GhostLinkTree
link_at l p ts = link_by p (next_on Ghost l ts) ts

-- one more operator of a level, and the operand behind it
unfoldable pub link_step : Level → Parser GhostExprTree → List GhostLinkTree → Parser (List GhostLinkTree)
link_step l p xs ts = item_step (link_at l p) xs ts

-- a first operand with what joins it to others
abbrev pub chained : Place → Level → GhostExprTree → List GhostLinkTree → GhostExprTree
chained p l a [] = a
chained p l a (x ∷ xs) = tree.chain p l a (ghost_link_list (x ∷ xs))

-- what joins a first operand, which stands at a place, to others on a level
unfoldable pub chain_at : Level → Parser GhostExprTree → Place → GhostExprTree → Parser GhostExprTree
chain_at l p q a ts = many (joins l) (link_step l p) [] ts >>= λ xs. ok (chained q l a xs.0) xs.1

-- an operand and what goes on with it
unfoldable pub joined_by : Parser GhostExprTree → (Place → GhostExprTree → Parser GhostExprTree) → Parser GhostExprTree
joined_by u k ts = here_at ts >>= λ p. u p.1 >>= λ a. k p.0 a.0 a.1

-- what goes on with a first operand, which stands at a place, on the lowest so many levels
unfoldable pub rest_at : Parser GhostExprTree → ℕ → Place → GhostExprTree → Parser GhostExprTree
rest_at u zero p a ts = ok a ts
rest_at u (suc j) p a ts = rest_at u j p a ts >>= λ b. chain_at (level_above j) (joined_by u (rest_at u j)) p b.0 b.1

-- operands joined on the lowest so many levels
abbrev pub joined_at : Parser GhostExprTree → ℕ → Parser GhostExprTree
joined_at u j = joined_by u (rest_at u j)

unfoldable mutual
  -- an expression in which fewer than so many stand in one another
  pub term_at : ℕ → Parser GhostExprTree
  term_at zero ts = too_deep_at begins_term ts
  term_at (suc d) ts = joined_at (signed_at (term_at d) (branch_at d) (unary_at d)) 6 ts

  -- an expression that stands one deeper than it seems
  pub branch_at : ℕ → Parser GhostExprTree
  branch_at zero ts = too_deep_at begins_term ts
  branch_at (suc d) ts = term_at d ts

  -- an operand behind an operator
  pub unary_at : ℕ → Parser GhostExprTree
  unary_at zero ts = too_deep_at begins_term ts
  unary_at (suc d) ts = signed_at (term_at d) (branch_at d) (unary_at d) ts

-- an operand in which at most so many stand in one another
abbrev pub operand_at : ℕ → Parser GhostExprTree
operand_at d = signed_at (term_at d) (branch_at d) (unary_at d)
