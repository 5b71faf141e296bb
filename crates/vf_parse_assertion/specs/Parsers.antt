-- Parsers of assertions. d is how many expressions and operators in front of their operand may stand in one another in a part, and a reads an assertion inside of it.
use Rattle.std.specs.Prelude.{ℕ, zero, suc, Bool, ◌||◌, List, [], ◌∷◌, if◌then◌else◌}
use Rattle.vf_base.specs.declared.place.Place.{Place}
use Rattle.vf_lexer.specs.declared.punctuator.Punctuator.TheVariants as punctuators
use Rattle.vf_lexer.specs.declared.token.Token.{Token}
use Rattle.vf_syntax.specs.declared.keyword.Keyword.TheVariants as keywords
use Rattle.vf_syntax.specs.declared.side.Side.TheVariants.{Ghost}
use Rattle.vf_syntax.specs.declared.pattern.CasePattern.{CasePattern}
use Rattle.vf_syntax.specs.GhostExprTree.{GhostExprTree}
use Rattle.vf_syntax.specs.AssertionTree.{PartTree, part_list, AssertionCaseTree, assertion_case_list, assertion_case}
use Rattle.vf_syntax.specs.AssertionTree as tree
use Rattle.vf_syntax.specs.Walks.{head_has, is_mark, is_word}
use Rattle.vf_cursor.specs.Parsing.{Parser, ok, ◌>>=◌, fails_at, here_at, mark_at, word_at, many, item_step}
use Rattle.vf_parse_term.specs.Pieces.{too_deep_at}
use Rattle.vf_parse_term.specs.Terms.{begins_term, term_at, rest_at, operand_at}
use Rattle.vf_parse_pattern.specs.Patterns.{case_pattern_at}
use Rattle.vf_parse_chunk.specs.declared.pieces.Piece.{Piece}
use Rattle.vf_parse_chunk.specs.declared.pieces.Piece.TheVariants as pieces
use Rattle.vf_parse_chunk.specs.declared.pieces.Begun.{Begun}
use Rattle.vf_parse_chunk.specs.declared.pieces.Begun.TheVariants as begun
use Rattle.vf_parse_chunk.specs.Pieces.{part_of}
use Rattle.vf_parse_chunk.specs.Chunks.{begun_at, ended_at}
use Rattle.vf_parse_assertion.specs.declared.contents.Content.{Content}
use Rattle.vf_parse_assertion.specs.declared.contents.Content.TheVariants as contents
use Rattle.vf_parse_assertion.specs.Contents.{parts_of, enclosed, chosen}

-- a token can begin an assertion
unfoldable pub begins_part : Token → Bool
begins_part t = begins_term t || is_mark Ghost punctuators.OpenBracket t || is_word Ghost keywords.Emp t || is_word Ghost keywords.Switch t

-- "switch" "(" expression ")" "{"
unfoldable pub switch_head_at : ℕ → Parser GhostExprTree
switch_head_at d ts = word_at Ghost keywords.Switch ts >>= λ w. mark_at Ghost punctuators.OpenParenthesis w.1 >>= λ o. term_at d o.1 >>= λ e. mark_at Ghost punctuators.CloseParenthesis e.1
    >>= λ z. mark_at Ghost punctuators.OpenBrace z.1 >>= λ b. ok e.0 b.1

-- "case" pattern ":"
unfoldable pub case_head_at : Parser (Place × CasePattern)
case_head_at ts = word_at Ghost keywords.Case ts >>= λ w. case_pattern_at w.1 >>= λ c. mark_at Ghost punctuators.Colon c.1 >>= λ k. ok (w.0, c.0) k.1

-- "case" pattern ":" "return"
unfoldable pub return_head_at : Parser (Place × CasePattern)
return_head_at ts = case_head_at ts >>= λ h. word_at Ghost keywords.Return h.1 >>= λ w. ok h.0 w.1

-- "case" pattern ":" "return" assertion ";"
unfoldable pub case_at : Parser Content → Parser AssertionCaseTree
case_at a ts = return_head_at ts >>= λ h. a h.1 >>= λ x. mark_at Ghost punctuators.Semicolon x.1 >>= λ z. ok (assertion_case h.0.0 h.0.1 (part_list (parts_of x.0))) z.1

-- one more case
unfoldable pub case_step : Parser Content → List AssertionCaseTree → Parser (List AssertionCaseTree)
case_step a xs ts = item_step (case_at a) xs ts

-- cases, one after another
abbrev pub cases_at : Parser Content → Parser (List AssertionCaseTree)
cases_at a = many (is_word Ghost keywords.Case) (case_step a) []

-- a part that is a `switch`
unfoldable pub switch_at : ℕ → Parser Content → Place → Parser Begun
switch_at d a p ts = switch_head_at d ts >>= λ e. cases_at a e.1 >>= λ xs. mark_at Ghost punctuators.CloseBrace xs.1 >>= λ z. ok (begun.Whole (pieces.Other (tree.switch_ p e.0 (assertion_case_list xs.0)))) z.1

-- an assertion between parentheses
unfoldable pub enclosed_at : Parser Content → Place → Parser Begun
enclosed_at a p ts = mark_at Ghost punctuators.OpenParenthesis ts >>= λ o. a o.1 >>= λ x. mark_at Ghost punctuators.CloseParenthesis x.1 >>= λ z. ok (enclosed p x.0) z.1

-- what begins a part
unfoldable pub opening_at : ℕ → Parser Content → Place → Parser Begun
opening_at d a p ts = if head_has (is_mark Ghost punctuators.OpenParenthesis) ts then enclosed_at a p ts else (if head_has (is_word Ghost keywords.Switch) ts then switch_at d a p ts else begun_at d p ts)

-- a conditional behind its first branch; all parts to the right belong to the second
unfoldable pub second_branch_at : Parser Content → Place → GhostExprTree → Content → Parser Piece
second_branch_at a p c x ts = mark_at Ghost punctuators.Colon ts >>= λ k. a k.1 >>= λ y. if head_has (is_mark Ghost punctuators.SeparatingAnd) y.1 then fails_at y.1 else ok (chosen p c x y.0) y.1

-- a conditional behind its test
unfoldable pub conditional_at : Parser Content → Place → GhostExprTree → Parser Piece
conditional_at a p c ts = mark_at Ghost punctuators.Question ts >>= λ q. a q.1 >>= λ x. second_branch_at a p c x.0 x.1

-- a part behind the first operand of its expression
unfoldable pub further_at : ℕ → Parser Content → Place → GhostExprTree → Parser Piece
further_at d a p e ts = rest_at (operand_at d) 6 p e ts >>= λ x. if head_has (is_mark Ghost punctuators.Question) x.1 then conditional_at a p x.0 x.1 else ended_at d p x.0 x.1

-- a part behind what begins it
abbrev pub piece_by : ℕ → Parser Content → Place → Begun → Parser Piece
piece_by d a p (begun.Whole x) ts = ok x ts
piece_by d a p (begun.Operand e) ts = further_at d a p e ts

-- a part
unfoldable pub piece_at : ℕ → Parser Content → Parser Piece
piece_at d a ts = here_at ts >>= λ p. opening_at d a p.0 p.1 >>= λ b. piece_by d a p.0 b.0 b.1

-- "&*&" and a part
unfoldable pub other_part_at : ℕ → Parser Content → Parser PartTree
other_part_at d a ts = mark_at Ghost punctuators.SeparatingAnd ts >>= λ m. piece_at d a m.1 >>= λ x. ok (part_of x.0) x.1

-- one more part
unfoldable pub part_step : ℕ → Parser Content → List PartTree → Parser (List PartTree)
part_step d a xs ts = item_step (other_part_at d a) xs ts

-- the parts behind some
abbrev pub more_parts_at : ℕ → Parser Content → List PartTree → Parser (List PartTree)
more_parts_at d a = many (is_mark Ghost punctuators.SeparatingAnd) (part_step d a)

-- an assertion of two parts or more, behind the first
unfoldable pub several_at : ℕ → Parser Content → PartTree → Parser Content
several_at d a x ts = part_step d a (x ∷ []) ts >>= λ xs. more_parts_at d a xs.0 xs.1 >>= λ ys. ok (contents.Several ys.0) ys.1

-- an assertion
unfoldable pub joined_at : ℕ → Parser Content → Parser Content
joined_at d a ts = piece_at d a ts >>= λ x. if head_has (is_mark Ghost punctuators.SeparatingAnd) x.1 then several_at d a (part_of x.0) x.1 else ok (contents.Lone x.0) x.1

unfoldable mutual
  -- an assertion in which fewer than so many assertions, expressions and operators in front of their operand stand in one another
  pub content_at : ℕ → Parser Content
  content_at zero ts = too_deep_at begins_part ts
  content_at (suc d) ts = joined_at d (content_at d) ts

-- the same, by its parts
unfoldable pub assertion_at : ℕ → Parser (List PartTree)
assertion_at d ts = content_at d ts >>= λ x. ok (parts_of x.0) x.1
