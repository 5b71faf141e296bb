-- Parsers of the parts of an assertion in which no assertion stands. d is how many expressions and operators in front of their operand may stand in one another there.
use Rattle.std.specs.Prelude.{ℕ, Bool, ◌&&◌, ◌||◌, List, Option, Some, None, if◌then◌else◌}
use Rattle.vf_base.specs.declared.place.Place.{Place}
use Rattle.vf_lexer.specs.declared.punctuator.Punctuator.TheVariants as punctuators
use Rattle.vf_lexer.specs.declared.token.Token.{Token}
use Rattle.vf_syntax.specs.declared.keyword.Keyword.TheVariants as keywords
use Rattle.vf_syntax.specs.declared.side.Side.TheVariants.{Ghost}
use Rattle.vf_syntax.specs.declared.operator.Level.TheVariants as levels
use Rattle.vf_syntax.specs.declared.written.Name.{Name}
use Rattle.vf_syntax.specs.declared.pattern.Pattern.{Pattern}
use Rattle.vf_syntax.specs.declared.pattern.Share.{Share}
use Rattle.vf_syntax.specs.GhostExprTree.{GhostExprTree}
use Rattle.vf_syntax.specs.GhostExprTree as exprs
use Rattle.vf_syntax.specs.GhostExpressions.{is_application}
use Rattle.vf_syntax.specs.AssertionTree as tree
use Rattle.vf_syntax.specs.Assertions.{are_value_patterns}
use Rattle.vf_syntax.specs.Walks.{head_has, is_mark, is_word, is_name}
use Rattle.vf_cursor.specs.Parsing.{Parser, ok, ◌>>=◌, fails_at, here_at, mark_at, word_at, name_at}
use Rattle.vf_parse_term.specs.Terms.{joins, rest_at, operand_at}
use Rattle.vf_parse_pattern.specs.Shares.{share_at}
use Rattle.vf_parse_pattern.specs.Patterns.{pattern_at, patterns_at}
use Rattle.vf_parse_chunk.specs.declared.pieces.Value.TheVariants as values
use Rattle.vf_parse_chunk.specs.declared.pieces.Piece.{Piece}
use Rattle.vf_parse_chunk.specs.declared.pieces.Piece.TheVariants as pieces
use Rattle.vf_parse_chunk.specs.declared.pieces.Front.{Front}
use Rattle.vf_parse_chunk.specs.declared.pieces.Front.TheVariants as fronts
use Rattle.vf_parse_chunk.specs.declared.pieces.Begun.{Begun}
use Rattle.vf_parse_chunk.specs.declared.pieces.Begun.TheVariants as begun
use Rattle.vf_parse_chunk.specs.Pieces.{term_of, begun_of}

-- an operator between operands comes next
unfoldable pub sees_operator : List Token → Bool
sees_operator ts = head_has (joins levels.Multiplicative) ts || head_has (joins levels.Additive) ts || head_has (joins levels.Relational) ts || head_has (joins levels.Equality) ts || head_has (joins levels.And) ts || head_has (joins levels.Or) ts

-- what was read goes on as an expression, since no chunk has this behind it
unfoldable pub goes_further : List Token → Bool
goes_further ts = sees_operator ts || head_has (is_mark Ghost punctuators.Arrow) ts || head_has (is_mark Ghost punctuators.Question) ts

-- what a name with patterns is, behind them
unfoldable pub applied_at : ℕ → Name → List Pattern → Parser Front
applied_at d n xs ts = if head_has (is_mark Ghost punctuators.OpenParenthesis) ts then (patterns_at d ts >>= λ ys. ok (fronts.Chunk n xs (Some ys.0)) ys.1)
    else (if are_value_patterns xs && goes_further ts then ok (fronts.Operand (term_of (values.Application n xs))) ts else ok (fronts.Chunk n xs None) ts)

-- what begins with a name
unfoldable pub named_at : ℕ → Parser Front
named_at d ts = name_at Ghost ts >>= λ n. if head_has (is_mark Ghost punctuators.OpenParenthesis) n.1 then (patterns_at d n.1 >>= λ xs. applied_at d n.0 xs.0 xs.1) else ok (fronts.Operand (exprs.name_ n.0.place n.0.text)) n.1

-- what stands at the front of a part, behind its share
unfoldable pub front_at : ℕ → Parser Front
front_at d ts = if head_has (is_name Ghost) ts then named_at d ts else (operand_at d ts >>= λ e. ok (fronts.Operand e.0) e.1)

-- a cell behind its pointer: "->" NAME "|->" pattern
unfoldable pub cell_at : ℕ → Place → Option Share → GhostExprTree → Parser Piece
cell_at d p s e ts = mark_at Ghost punctuators.Arrow ts >>= λ a. name_at Ghost a.1 >>= λ f. mark_at Ghost punctuators.PointsTo f.1 >>= λ b. pattern_at d b.1 >>= λ v. ok (pieces.Other (tree.cell p s e f.0 v.0)) v.1

-- a part with a share, behind its front, which stands at the second place
abbrev pub shared_by : ℕ → Place → Share → Place → Front → Parser Piece
shared_by d p s q (fronts.Chunk n xs ys) ts = ok (pieces.Other (tree.chunk p (Some s) n xs ys)) ts
shared_by d p s q (fronts.Operand e) ts = rest_at (operand_at d) 6 q e ts >>= λ a. cell_at d p (Some s) a.0 a.1

-- a part with a share
unfoldable pub shared_at : ℕ → Place → Parser Piece
shared_at d p ts = share_at ts >>= λ s. here_at s.1 >>= λ q. front_at d q.1 >>= λ f. shared_by d p s.0 q.0 f.0 f.1

-- what begins a part that begins with no parenthesis and no `switch`
unfoldable pub begun_at : ℕ → Place → Parser Begun
begun_at d p ts = if head_has (is_mark Ghost punctuators.OpenBracket) ts then (shared_at d p ts >>= λ x. ok (begun.Whole x.0) x.1)
    else (if head_has (is_word Ghost keywords.Emp) ts then (word_at Ghost keywords.Emp ts >>= λ w. ok (begun.Whole (pieces.Other (tree.empty_ p))) w.1)
    else (front_at d ts >>= λ f. ok (begun_of p f.0) f.1))

-- the part of which an expression is the first, where no conditional follows: a cell, or the expression alone, which is then no application
unfoldable pub ended_at : ℕ → Place → GhostExprTree → Parser Piece
ended_at d p e ts = if head_has (is_mark Ghost punctuators.Arrow) ts then cell_at d p None e ts else (if is_application e then fails_at ts else ok (pieces.Value (values.Term p e)) ts)
