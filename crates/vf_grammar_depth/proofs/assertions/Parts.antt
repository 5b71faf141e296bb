-- Assertions go past what was too deep, where more may nest. d is the depth of a part, and a reads an assertion inside of it; m and b are those that may nest deeper.
use Rattle.std.proofs.Common.{ℕ, List, [], ◌∷◌, ◌++◌}
use Rattle.std.specs.Prelude.{if◌then◌else◌}
use Rattle.vf_base.specs.declared.place.Place.{Place}
use Rattle.vf_lexer.specs.declared.punctuator.Punctuator.TheVariants as punctuators
use Rattle.vf_syntax.specs.declared.keyword.Keyword.TheVariants as keywords
use Rattle.vf_syntax.specs.declared.side.Side.TheVariants.{Ghost}
use Rattle.vf_syntax.specs.GhostExprTree.{GhostExprTree}
use Rattle.vf_syntax.specs.AssertionTree.{PartTree, part_list, assertion_case_list, assertion_case}
use Rattle.vf_syntax.specs.AssertionTree as tree
use Rattle.vf_syntax.specs.Walks.{head_has, is_mark, is_word}
use Rattle.vf_cursor.specs.Parsing.{Parser, ok, ◌>>=◌, mark_at}
use Rattle.vf_parse_chunk.specs.declared.pieces.Piece.{Piece}
use Rattle.vf_parse_chunk.specs.declared.pieces.Piece.TheVariants as pieces
use Rattle.vf_parse_chunk.specs.declared.pieces.Begun.{Begun}
use Rattle.vf_parse_chunk.specs.declared.pieces.Begun.TheVariants as begun
use Rattle.vf_parse_chunk.specs.Pieces.{part_of}
use Rattle.vf_parse_assertion.specs.declared.contents.Content.{Content}
use Rattle.vf_parse_assertion.specs.declared.contents.Content.TheVariants as contents
use Rattle.vf_parse_assertion.specs.Contents.{parts_of, enclosed, chosen}
use Rattle.vf_parse_assertion.specs.Parsers.{case_at, case_step, cases_at, switch_at, enclosed_at, opening_at, second_branch_at, conditional_at, further_at, piece_by, piece_at, other_part_at, part_step, more_parts_at, several_at, joined_at}
use Rattle.vf_grammar_depth.proofs.expressions.Deeper.{Deeper, then_deep, done_deep, fail_deep, here_deep, mark_deep, head_deep, items_deep}
use Rattle.vf_grammar_depth.proofs.terms.Terms.{rest_deep}
use Rattle.vf_grammar_depth.proofs.chunks.Chunks.{TermsDeeper, begun_deep, ended_deep}
use Rattle.vf_grammar_depth.proofs.assertions.Heads.{switch_head_deep, return_head_deep}

case_deep : {j : ℕ} {a b : Parser Content} → Deeper j a b → Deeper j (case_at a) (case_at b)
unfolding case_at
case_deep ha = then_deep return_head_deep (λ h. then_deep ha (λ x. then_deep (mark_deep Ghost punctuators.Semicolon) (λ z. done_deep (assertion_case h.0 h.1 (part_list (parts_of x))))))

-- cases up to the brace behind them
abbrev pub cased_at : Parser Content → Place → GhostExprTree → Parser Begun
cased_at a p e ts = cases_at a ts >>= λ xs. mark_at Ghost punctuators.CloseBrace xs.1 >>= λ z. ok (begun.Whole (pieces.Other (tree.switch_ p e (assertion_case_list xs.0)))) z.1

pub cased_deep : {j : ℕ} {a b : Parser Content} → Deeper j a b → (p : Place) (e : GhostExprTree) → Deeper j (cased_at a p e) (cased_at b p e)
unfolding case_step
cased_deep ha p e = then_deep (items_deep (is_word Ghost keywords.Case) (case_deep ha) []) (λ xs. then_deep (mark_deep Ghost punctuators.CloseBrace) (λ z. done_deep (begun.Whole (pieces.Other (tree.switch_ p e (assertion_case_list xs))))))

switch_deep : {j d m : ℕ} {a b : Parser Content} → TermsDeeper j d m → Deeper j a b → (p : Place) → Deeper j (switch_at d a p) (switch_at m b p)
unfolding switch_at
switch_deep {d = d} {m = m} h ha p = then_deep (switch_head_deep d m h.terms) (λ e. cased_deep ha p e)

-- an assertion and the parenthesis behind it
abbrev pub closed_at : Parser Content → Place → Parser Begun
closed_at a p ts = a ts >>= λ x. mark_at Ghost punctuators.CloseParenthesis x.1 >>= λ z. ok (enclosed p x.0) z.1

pub closed_deep : {j : ℕ} {a b : Parser Content} → Deeper j a b → (p : Place) → Deeper j (closed_at a p) (closed_at b p)
closed_deep ha p = then_deep ha (λ x. then_deep (mark_deep Ghost punctuators.CloseParenthesis) (λ z. done_deep (enclosed p x)))

enclosed_deep : {j : ℕ} {a b : Parser Content} → Deeper j a b → (p : Place) → Deeper j (enclosed_at a p) (enclosed_at b p)
unfolding enclosed_at
enclosed_deep ha p = then_deep (mark_deep Ghost punctuators.OpenParenthesis) (λ o. closed_deep ha p)

opening_deep : {j d m : ℕ} {a b : Parser Content} → TermsDeeper j d m → Deeper j a b → (p : Place) → Deeper j (opening_at d a p) (opening_at m b p)
unfolding opening_at
opening_deep h ha p = head_deep (is_mark Ghost punctuators.OpenParenthesis) (enclosed_deep ha p) (head_deep (is_word Ghost keywords.Switch) (switch_deep h ha p) (begun_deep h p))

second_branch_deep : {j : ℕ} {a b : Parser Content} → Deeper j a b → (p : Place) (c : GhostExprTree) (x : Content) → Deeper j (second_branch_at a p c x) (second_branch_at b p c x)
unfolding second_branch_at
second_branch_deep ha p c x = then_deep (mark_deep Ghost punctuators.Colon) (λ k. then_deep ha (λ y. head_deep (is_mark Ghost punctuators.SeparatingAnd) fail_deep (done_deep (chosen p c x y))))

conditional_deep : {j : ℕ} {a b : Parser Content} → Deeper j a b → (p : Place) (c : GhostExprTree) → Deeper j (conditional_at a p c) (conditional_at b p c)
unfolding conditional_at
conditional_deep ha p c = then_deep (mark_deep Ghost punctuators.Question) (λ q. then_deep ha (λ x. second_branch_deep ha p c x))

further_deep : {j d m : ℕ} {a b : Parser Content} → TermsDeeper j d m → Deeper j a b → (p : Place) (e : GhostExprTree) → Deeper j (further_at d a p e) (further_at m b p e)
unfolding further_at
further_deep h ha p e = then_deep (rest_deep h.operands 6 p e) (λ x. head_deep (is_mark Ghost punctuators.Question) (conditional_deep ha p x) (ended_deep h p x))

pub piece_by_deep : {j d m : ℕ} {a b : Parser Content} → TermsDeeper j d m → Deeper j a b → (p : Place) (x : Begun) → Deeper j (piece_by d a p x) (piece_by m b p x)
piece_by_deep h ha p (begun.Whole x) = done_deep x
piece_by_deep h ha p (begun.Operand e) = further_deep h ha p e

piece_deep : {j d m : ℕ} {a b : Parser Content} → TermsDeeper j d m → Deeper j a b → Deeper j (piece_at d a) (piece_at m b)
unfolding piece_at
piece_deep h ha = then_deep here_deep (λ p. then_deep (opening_deep h ha p) (λ x. piece_by_deep h ha p x))

other_part_deep : {j d m : ℕ} {a b : Parser Content} → TermsDeeper j d m → Deeper j a b → Deeper j (other_part_at d a) (other_part_at m b)
unfolding other_part_at
other_part_deep h ha = then_deep (mark_deep Ghost punctuators.SeparatingAnd) (λ s. then_deep (piece_deep h ha) (λ x. done_deep (part_of x)))

part_step_deep : {j d m : ℕ} {a b : Parser Content} → TermsDeeper j d m → Deeper j a b → (xs : List PartTree) → Deeper j (part_step d a xs) (part_step m b xs)
unfolding part_step
part_step_deep h ha xs = then_deep (other_part_deep h ha) (λ x. done_deep (xs ++ x ∷ []))

more_parts_deep : {j d m : ℕ} {a b : Parser Content} → TermsDeeper j d m → Deeper j a b → (xs : List PartTree) → Deeper j (more_parts_at d a xs) (more_parts_at m b xs)
unfolding part_step
more_parts_deep h ha xs = items_deep (is_mark Ghost punctuators.SeparatingAnd) (other_part_deep h ha) xs

several_deep : {j d m : ℕ} {a b : Parser Content} → TermsDeeper j d m → Deeper j a b → (x : PartTree) → Deeper j (several_at d a x) (several_at m b x)
unfolding several_at
several_deep h ha x = then_deep (part_step_deep h ha (x ∷ [])) (λ xs. then_deep (more_parts_deep h ha xs) (λ ys. done_deep (contents.Several ys)))

-- the parts behind the first
abbrev pub behind_at : ℕ → Parser Content → Piece → Parser Content
behind_at d a x ts = if head_has (is_mark Ghost punctuators.SeparatingAnd) ts then several_at d a (part_of x) ts else ok (contents.Lone x) ts

pub behind_deep : {j d m : ℕ} {a b : Parser Content} → TermsDeeper j d m → Deeper j a b → (x : Piece) → Deeper j (behind_at d a x) (behind_at m b x)
behind_deep h ha x = head_deep (is_mark Ghost punctuators.SeparatingAnd) (several_deep h ha (part_of x)) (done_deep (contents.Lone x))

pub joined_deep : {j d m : ℕ} {a b : Parser Content} → TermsDeeper j d m → Deeper j a b → Deeper j (joined_at d a) (joined_at m b)
unfolding joined_at
joined_deep h ha = then_deep (piece_deep h ha) (λ x. behind_deep h ha x)
