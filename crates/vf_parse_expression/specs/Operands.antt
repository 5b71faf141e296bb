-- Small parsers and tests of expressions of real text, which read no expression in them.
use Rattle.std.specs.Prelude.{ℕ, Bool, ◌&&◌, ◌||◌, List, [], ◌∷◌, length, Option, Some, None, if◌then◌else◌, nat_eq}
use Rattle.vf_base.specs.declared.place.Place.{Place}
use Rattle.vf_lexer.specs.declared.punctuator.Punctuator.TheVariants as punctuators
use Rattle.vf_lexer.specs.declared.token.Token.{Token}
use Rattle.vf_syntax.specs.declared.keyword.Keyword.TheVariants as keywords
use Rattle.vf_syntax.specs.declared.side.Side.TheVariants.{Real}
use Rattle.vf_syntax.specs.declared.operator.BinaryOperator.{BinaryOperator}
use Rattle.vf_syntax.specs.declared.operator.Level.{Level}
use Rattle.vf_syntax.specs.declared.operator.Level.TheVariants as levels
use Rattle.vf_syntax.specs.ExprTree.{ExprTree, LinkTree, PostfixTree, link_list, postfix_list}
use Rattle.vf_syntax.specs.ExprTree as tree
use Rattle.vf_syntax.specs.Walks.{head_has, is_mark, is_word, is_name}
use Rattle.vf_syntax.specs.Written.{binary_mark}
use Rattle.vf_cursor.specs.Parsing.{Parser, ok, ◌>>=◌, fails_at, here_at, mark_at, word_at, name_at, number_at, character_at, number_of, character_of, next_by, is_there}
use Rattle.vf_cursor.specs.Types.{is_type_word, next_on, next_unary}

-- the tokens behind the next one
abbrev pub after : List Token → List Token
after [] = []
after (t ∷ ts) = ts

-- a type comes next, with a parenthesis behind it where its first word may be that of an expression
unfoldable pub sees_cast_type : List Token → Bool
sees_cast_type ts = head_has (is_type_word Real) ts || (head_has (is_name Real) ts && (head_has (is_mark Real punctuators.Star) (after ts) && head_has (is_mark Real punctuators.CloseParenthesis) (after (after ts))))

-- a cast comes next
unfoldable pub sees_cast : List Token → Bool
sees_cast ts = head_has (is_mark Real punctuators.OpenParenthesis) ts && sees_cast_type (after ts)

-- what can begin a primary expression comes next
unfoldable pub sees_primary : List Token → Bool
sees_primary ts = is_there (next_by Real number_of ts) || (is_there (next_by Real character_of ts) || (head_has (is_word Real keywords.True) ts || (head_has (is_word Real keywords.False) ts
    || (head_has (is_word Real keywords.Malloc) ts || (head_has (is_name Real) ts || head_has (is_mark Real punctuators.OpenParenthesis) ts)))))

-- what can begin an expression comes next
unfoldable pub sees_operand : List Token → Bool
sees_operand ts = is_there (next_unary Real ts) || sees_primary ts

-- a token is an operator of a level
unfoldable pub joins : Level → Token → Bool
joins l t = is_there (next_on Real l (t ∷ []))

-- a token begins a part behind an operand
unfoldable pub is_part : Token → Bool
is_part t = is_mark Real punctuators.Arrow t || (is_mark Real punctuators.OpenBracket t || is_mark Real punctuators.OpenParenthesis t)

-- the levels from the closest
abbrev pub nth_level : ℕ → Level
nth_level n = if nat_eq n 0 then levels.Multiplicative else (if nat_eq n 1 then levels.Additive else (if nat_eq n 2 then levels.Relational
    else (if nat_eq n 3 then levels.Equality else (if nat_eq n 4 then levels.And else levels.Or))))

-- an operator that was seen, with its place
abbrev pub operator_found : Option BinaryOperator → Parser (Place × BinaryOperator)
operator_found None ts = fails_at ts
operator_found (Some o) ts = mark_at Real (binary_mark o) ts >>= λ m. ok (m.0, o) m.1

-- an operator of a level, with its place
unfoldable pub operator_at : Level → Parser (Place × BinaryOperator)
operator_at l ts = operator_found (next_on Real l ts) ts

-- an operand with the links behind it, or the operand alone
abbrev pub chained : Place → Level → ExprTree → List LinkTree → ExprTree
chained p l a xs = if nat_eq (length xs) 0 then a else tree.chain p l a (link_list xs)

-- an operand with the parts behind it, or the operand alone
abbrev pub posted : Place → ExprTree → List PostfixTree → ExprTree
posted p a xs = if nat_eq (length xs) 0 then a else tree.postfix p a (postfix_list xs)

-- a number
unfoldable pub number_primary_at : Parser ExprTree
number_primary_at ts = here_at ts >>= λ h. number_at Real h.1 >>= λ n. ok (tree.number h.0 n.0.0 n.0.1) n.1

-- a character constant
unfoldable pub character_primary_at : Parser ExprTree
character_primary_at ts = here_at ts >>= λ h. character_at h.1 >>= λ n. ok (tree.character h.0 n.0) n.1

-- a field read: "->" NAME
unfoldable pub field_at : Parser PostfixTree
field_at ts = mark_at Real punctuators.Arrow ts >>= λ a. name_at Real a.1 >>= λ n. ok (tree.field_ a.0 n.0) n.1

-- "sizeof" "(" "struct" NAME ")" ")" behind `malloc(`, whose place is known
unfoldable pub malloc_struct_at : Place → Parser ExprTree
malloc_struct_at p ts = word_at Real keywords.Sizeof ts >>= λ a. mark_at Real punctuators.OpenParenthesis a.1 >>= λ b. word_at Real keywords.Struct b.1 >>= λ c. name_at Real c.1
    >>= λ n. mark_at Real punctuators.CloseParenthesis n.1 >>= λ d. mark_at Real punctuators.CloseParenthesis d.1 >>= λ e. ok (tree.malloc p n.0) e.1
