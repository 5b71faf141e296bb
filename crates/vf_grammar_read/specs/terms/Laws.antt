-- What is spelled is read.
use Rattle.std.specs.Prelude.{◌≡◌, ℕ, ◌≤◌, Bool, false, ◌||◌, List, Some}
use Rattle.vf_lexer.specs.declared.punctuator.Punctuator.TheVariants.{OpenParenthesis, Less, Star}
use Rattle.vf_lexer.specs.declared.token.Token.{Token}
use Rattle.vf_syntax.specs.declared.side.Side.TheVariants.{Ghost}
use Rattle.vf_syntax.specs.SortTree.{SortTree}
use Rattle.vf_syntax.specs.GhostExprTree.{GhostExprTree}
use Rattle.vf_syntax.specs.Walks.{head_has, is_mark}
use Rattle.vf_syntax.specs.Written.{binary_of}
use Rattle.vf_syntax.specs.GhostExpressions.{sort, ghost_expr}
use Rattle.vf_cursor.specs.Parsing.{ok, is_there}
use Rattle.vf_cursor.specs.Types.{next_mark, found_then, is_width}
use Rattle.vf_parse_term.specs.Sorts.{sort_at}
use Rattle.vf_parse_term.specs.Terms.{term_at}
use Rattle.vf_parse_term.specs.Laws.{sort_depth, term_depth}

-- the next token goes on with a sort in front of it: it begins arguments behind a name, it makes a pointer of a type, or it is a word of an integer type
unfoldable pub goes_on_with_sort : List Token → Bool
goes_on_with_sort ts = head_has (is_mark Ghost Less) ts || (head_has (is_mark Ghost Star) ts || head_has (is_width Ghost) ts)

-- the next token goes on with an expression in front of it: it begins arguments behind a name, or it is an operator between operands
unfoldable pub goes_on_with_term : List Token → Bool
goes_on_with_term ts = head_has (is_mark Ghost OpenParenthesis) ts || is_there (found_then (next_mark Ghost ts) binary_of)

-- a sort that tokens spell, and that nests no deeper than it may, is read from them, where what stands behind does not go on with it
abbrev pub SortsAreRead : Type 0
SortsAreRead = (d : ℕ) (x : SortTree) (ts rest : List Token) → sort x ts ≡ Some rest → sort_depth x ≤ d → goes_on_with_sort rest ≡ false → sort_at d ts ≡ ok x rest

-- an expression that tokens spell, and that nests no deeper than it may, is read from them, where what stands behind does not go on with it
abbrev pub TermsAreRead : Type 0
TermsAreRead = (d : ℕ) (x : GhostExprTree) (ts rest : List Token) → ghost_expr x ts ≡ Some rest → term_depth x ≤ d → goes_on_with_term rest ≡ false → term_at d ts ≡ ok x rest

-- two expressions that the same tokens spell are one, places included
abbrev pub TermsHaveOneReading : Type 0
TermsHaveOneReading = (x y : GhostExprTree) (ts rest : List Token) → ghost_expr x ts ≡ Some rest → ghost_expr y ts ≡ Some rest → goes_on_with_term rest ≡ false → x ≡ y
