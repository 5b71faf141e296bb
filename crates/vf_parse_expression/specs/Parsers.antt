-- Parsers of expressions of real text. Most are given the parsers of what stands one level of nesting further down:
-- e of an expression, u of an operand, f of a primary expression with what stands behind it.
use Rattle.std.specs.Prelude.{ℕ, zero, suc, Bool, List, [], ◌∷◌, length, Option, Some, None, Err, if◌then◌else◌}
use Rattle.vf_base.specs.declared.place.Place.{Place}
use Rattle.vf_lexer.specs.declared.punctuator.Punctuator.TheVariants as punctuators
use Rattle.vf_syntax.specs.declared.keyword.Keyword.TheVariants as keywords
use Rattle.vf_syntax.specs.declared.side.Side.TheVariants.{Real}
use Rattle.vf_syntax.specs.declared.operator.UnaryOperator.{UnaryOperator}
use Rattle.vf_syntax.specs.declared.operator.Level.{Level}
use Rattle.vf_syntax.specs.ExprTree.{ExprTree, LinkTree, PostfixTree, expr_list}
use Rattle.vf_syntax.specs.ExprTree as tree
use Rattle.vf_syntax.specs.Walks.{head_has, is_mark, is_word, is_name}
use Rattle.vf_syntax.specs.Written.{unary_mark}
use Rattle.vf_cursor.specs.declared.fault.Fault.TheVariants.{Depth}
use Rattle.vf_cursor.specs.Parsing.{Parser, ok, ◌>>=◌, fails_at, here_at, mark_at, word_at, name_at, number_of, character_of, next_by, is_there, many, item_step}
use Rattle.vf_cursor.specs.Types.{next_unary, ctype_at}
use Rattle.vf_parse_expression.specs.Operands.{sees_cast, sees_primary, sees_operand, joins, is_part, nth_level, operator_at, chained, posted, number_primary_at, character_primary_at, field_at, malloc_struct_at}

-- where nothing may stand one level further down: what could begin it is too deep, and nothing else can stand there
abbrev pub too_deep : {A : Type 0} → Bool → Parser A
too_deep begins ts = if begins then Err (Depth (length ts)) else fails_at ts

-- "," expression
unfoldable pub next_argument_at : Parser ExprTree → Parser ExprTree
next_argument_at e ts = mark_at Real punctuators.Comma ts >>= λ c. e c.1

-- the arguments of a call behind the first
unfoldable pub more_arguments_at : Parser ExprTree → List ExprTree → Parser (List ExprTree)
more_arguments_at e xs ts = many (is_mark Real punctuators.Comma) (item_step (next_argument_at e)) xs ts

-- the arguments of a call
unfoldable pub arguments_at : Parser ExprTree → Parser (List ExprTree)
arguments_at e ts = if head_has (is_mark Real punctuators.CloseParenthesis) ts then ok [] ts else (e ts >>= λ a. more_arguments_at e (a.0 ∷ []) a.1)

-- an array read: "[" expression "]"
unfoldable pub index_at : Parser ExprTree → Parser PostfixTree
index_at e ts = mark_at Real punctuators.OpenBracket ts >>= λ o. e o.1 >>= λ a. mark_at Real punctuators.CloseBracket a.1 >>= λ c. ok (tree.index_ o.0 a.0) c.1

-- a call: "(" arguments ")"
unfoldable pub call_at : Parser ExprTree → Parser PostfixTree
call_at e ts = mark_at Real punctuators.OpenParenthesis ts >>= λ o. arguments_at e o.1 >>= λ xs. mark_at Real punctuators.CloseParenthesis xs.1 >>= λ c. ok (tree.call_ o.0 (expr_list xs.0)) c.1

-- a part behind an operand
unfoldable pub part_at : Parser ExprTree → Parser PostfixTree
part_at e ts = if head_has (is_mark Real punctuators.Arrow) ts then field_at ts else (if head_has (is_mark Real punctuators.OpenBracket) ts then index_at e ts else call_at e ts)

-- the parts behind an operand
unfoldable pub parts_at : Parser ExprTree → Parser (List PostfixTree)
parts_at e ts = many is_part (item_step (part_at e)) [] ts

-- an operand "*" "sizeof" "(" "int" ")" ")" behind `malloc(`, whose place is known
unfoldable pub malloc_ints_at : Parser ExprTree → Place → Parser ExprTree
malloc_ints_at f p ts = f ts >>= λ n. mark_at Real punctuators.Star n.1 >>= λ s. word_at Real keywords.Sizeof s.1 >>= λ a. mark_at Real punctuators.OpenParenthesis a.1 >>= λ b. word_at Real keywords.Int b.1
    >>= λ c. mark_at Real punctuators.CloseParenthesis c.1 >>= λ d. mark_at Real punctuators.CloseParenthesis d.1 >>= λ x. ok (tree.malloc_ints p n.0 s.0) x.1

-- what stands behind `malloc(`, whose place is known
unfoldable pub malloc_inside_at : Parser ExprTree → Place → Parser ExprTree
malloc_inside_at f p ts = if head_has (is_word Real keywords.Sizeof) ts then malloc_struct_at p ts else malloc_ints_at f p ts

-- a call of `malloc`
unfoldable pub malloc_at : Parser ExprTree → Parser ExprTree
malloc_at f ts = word_at Real keywords.Malloc ts >>= λ w. mark_at Real punctuators.OpenParenthesis w.1 >>= λ o. malloc_inside_at f w.0 o.1

-- "(" expression ")"
unfoldable pub parenthesized_at : Parser ExprTree → Parser ExprTree
parenthesized_at e ts = mark_at Real punctuators.OpenParenthesis ts >>= λ o. e o.1 >>= λ a. mark_at Real punctuators.CloseParenthesis a.1 >>= λ c. ok (tree.parenthesized o.0 a.0) c.1

-- a primary expression that begins with a word, or one between parentheses
unfoldable pub word_primary_at : Parser ExprTree → Parser ExprTree → Parser ExprTree
word_primary_at e f ts = if head_has (is_word Real keywords.True) ts then (word_at Real keywords.True ts >>= λ w. ok (tree.true_ w.0) w.1)
    else (if head_has (is_word Real keywords.False) ts then (word_at Real keywords.False ts >>= λ w. ok (tree.false_ w.0) w.1)
    else (if head_has (is_word Real keywords.Malloc) ts then malloc_at f ts
    else (if head_has (is_name Real) ts then (name_at Real ts >>= λ n. ok (tree.name_ n.0.place n.0.text) n.1)
    else parenthesized_at e ts)))

-- a primary expression
unfoldable pub primary_at : Parser ExprTree → Parser ExprTree → Parser ExprTree
primary_at e f ts = if is_there (next_by Real number_of ts) then number_primary_at ts else (if is_there (next_by Real character_of ts) then character_primary_at ts else word_primary_at e f ts)

-- a primary expression with what stands behind it
unfoldable pub post_at : Parser ExprTree → Parser ExprTree → Parser ExprTree
post_at e f ts = here_at ts >>= λ h. primary_at e f h.1 >>= λ a. parts_at e a.1 >>= λ xs. ok (posted h.0 a.0 xs.0) xs.1

-- "(" type ")" operand
unfoldable pub cast_at : Parser ExprTree → Parser ExprTree
cast_at u ts = mark_at Real punctuators.OpenParenthesis ts >>= λ o. ctype_at Real o.1 >>= λ t. mark_at Real punctuators.CloseParenthesis t.1 >>= λ c. u c.1 >>= λ a. ok (tree.cast o.0 t.0 a.0) a.1

-- an operator and the operand behind it
unfoldable pub signed_at : Parser ExprTree → UnaryOperator → Parser ExprTree
signed_at u o ts = mark_at Real (unary_mark o) ts >>= λ m. u m.1 >>= λ a. ok (tree.unary m.0 o a.0) a.1

-- an operand without an operator in front
unfoldable pub unsigned_at : Parser ExprTree → Parser ExprTree → Parser ExprTree → Parser ExprTree
unsigned_at e u f ts = if sees_cast ts then cast_at u ts else post_at e f ts

-- an operand, where an operator in front was looked for
abbrev pub found_operand : Parser ExprTree → Parser ExprTree → Parser ExprTree → Option UnaryOperator → Parser ExprTree
found_operand e u f None ts = unsigned_at e u f ts
found_operand e u f (Some o) ts = signed_at u o ts

-- an operand
unfoldable pub whole_operand_at : Parser ExprTree → Parser ExprTree → Parser ExprTree → Parser ExprTree
whole_operand_at e u f ts = found_operand e u f (next_unary Real ts) ts

-- an operator of a level, and the operand behind it, which p reads
unfoldable pub link_at : Level → Parser ExprTree → Parser LinkTree
link_at l p ts = operator_at l ts >>= λ o. p o.1 >>= λ b. ok (tree.link o.0.0 o.0.1 b.0) b.1

-- operators of a level with their operands
unfoldable pub links_at : Level → Parser ExprTree → Parser (List LinkTree)
links_at l p ts = many (joins l) (item_step (link_at l p)) [] ts

-- operands joined by operators of a level
unfoldable pub chain_at : Level → Parser ExprTree → Parser ExprTree
chain_at l p ts = here_at ts >>= λ h. p h.1 >>= λ a. links_at l p a.1 >>= λ xs. ok (chained h.0 l a.0 xs.0) xs.1

-- operands joined by operators of the closest so many levels
unfoldable pub tier_at : Parser ExprTree → ℕ → Parser ExprTree
tier_at u zero ts = u ts
tier_at u (suc j) ts = chain_at (nth_level j) (tier_at u j) ts

-- what stands behind the condition of a conditional, if it is one
unfoldable pub choice_at : Parser ExprTree → Place → ExprTree → Parser ExprTree
choice_at e p c ts = if head_has (is_mark Real punctuators.Question) ts
    then (mark_at Real punctuators.Question ts >>= λ q. e q.1 >>= λ a. mark_at Real punctuators.Colon a.1 >>= λ k. e k.1 >>= λ b. ok (tree.conditional p c a.0 b.0) b.1)
    else ok c ts

-- a conditional, or what it may consist of
unfoldable pub conditional_at : Parser ExprTree → Parser ExprTree → Parser ExprTree
conditional_at e o ts = here_at ts >>= λ h. tier_at o 6 h.1 >>= λ c. choice_at e h.0 c.0 c.1

unfoldable mutual
  -- an expression that nests so deep at most
  pub expr_at : ℕ → Parser ExprTree
  expr_at zero ts = too_deep (sees_operand ts) ts
  expr_at (suc d) ts = conditional_at (expr_at d) (whole_operand_at (expr_at d) (unary_at d) (factor_at d)) ts

  -- an operand behind an operator, one level of nesting further down
  pub unary_at : ℕ → Parser ExprTree
  unary_at zero ts = too_deep (sees_operand ts) ts
  unary_at (suc d) ts = whole_operand_at (expr_at d) (unary_at d) (factor_at d) ts

  -- an operand of `malloc`, one level of nesting further down
  pub factor_at : ℕ → Parser ExprTree
  factor_at zero ts = too_deep (sees_primary ts) ts
  factor_at (suc d) ts = post_at (expr_at d) (factor_at d) ts

-- an operand in which so many levels of nesting may stand
abbrev pub operand_at : ℕ → Parser ExprTree
operand_at d = whole_operand_at (expr_at d) (unary_at d) (factor_at d)

-- a primary expression with what stands behind it, in which so many levels of nesting may stand
abbrev pub postfix_at : ℕ → Parser ExprTree
postfix_at d = post_at (expr_at d) (factor_at d)
