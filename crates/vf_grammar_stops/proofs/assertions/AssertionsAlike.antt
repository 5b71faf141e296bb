-- Assertions stop alike on tokens that are alike, also where the others may nest deeper.
use Rattle.std.proofs.Common.{◌≡◌, ℕ, zero, suc, ◌≤◌, Bool, false, List, [], ◌∷◌, ◌++◌, refl, sym, ◌∙◌, arith}
use Rattle.std.proofs.lemmas.Bool.{or_parts}
use Rattle.vf_base.specs.declared.place.Place.{Place}
use Rattle.vf_lexer.specs.declared.punctuator.Punctuator.TheVariants as punctuators
use Rattle.vf_lexer.specs.declared.token.Token.{Token}
use Rattle.vf_syntax.specs.declared.keyword.Keyword.TheVariants as keywords
use Rattle.vf_syntax.specs.declared.side.Side.TheVariants.{Ghost}
use Rattle.vf_syntax.specs.GhostExprTree.{GhostExprTree}
use Rattle.vf_syntax.specs.AssertionTree.{PartTree, part_list, assertion_case_list, assertion_case}
use Rattle.vf_syntax.specs.AssertionTree as tree
use Rattle.vf_syntax.specs.Walks.{head_has, is_mark, is_word}
use Rattle.vf_cursor.specs.Parsing.{Parser, here_at}
use Rattle.vf_parse_term.specs.Pieces.{too_deep_at}
use Rattle.vf_parse_term.specs.Terms.{begins_term}
use Rattle.vf_parse_chunk.specs.declared.pieces.Piece.TheVariants as pieces
use Rattle.vf_parse_chunk.specs.declared.pieces.Begun.{Begun}
use Rattle.vf_parse_chunk.specs.declared.pieces.Begun.TheVariants as begun
use Rattle.vf_parse_chunk.specs.Pieces.{part_of}
use Rattle.vf_parse_assertion.specs.declared.contents.Content.{Content}
use Rattle.vf_parse_assertion.specs.declared.contents.Content.TheVariants as contents
use Rattle.vf_parse_assertion.specs.Contents.{parts_of, enclosed, chosen}
use Rattle.vf_parse_assertion.specs.Parsers.{begins_part, switch_head_at, case_head_at, return_head_at, case_at, case_step, cases_at, switch_at, enclosed_at, opening_at, second_branch_at, conditional_at, further_at, piece_by, piece_at, other_part_at, part_step, more_parts_at, several_at, joined_at, content_at, assertion_at}
use Rattle.vf_parse_assertion.proofs.Heads.{begins_part_is}
use Rattle.vf_grammar_stops.proofs.types.Local.{Does, then_like, done_like, fail_like, here_like, mark_like, word_like, choice_like}
use Rattle.vf_grammar_stops.proofs.types.LoopAlike.{Takes, items_like}
use Rattle.vf_grammar_stops.proofs.expressions.Refused.{Refuses}
use Rattle.vf_grammar_stops.proofs.expressions.Takes.{mark_takes, word_takes, then_takes}
use Rattle.vf_grammar_stops.proofs.terms.Pieces.{too_deep_like}
use Rattle.vf_grammar_stops.proofs.terms.TermsAlike.{unbegun, term_like}
use Rattle.vf_grammar_stops.proofs.patterns.PatternsAlike.{case_pattern_like}
use Rattle.vf_grammar_stops.proofs.chunks.ChunksAlike.{rests_like, begun_refuses, begun_like, ended_like}

pub switch_head_like : (d m : ℕ) → d ≤ m → Does false (switch_head_at d) (switch_head_at m)
unfolding switch_head_at
switch_head_like d m le =
    then_like (word_like Ghost keywords.Switch) (λ w. then_like (mark_like Ghost punctuators.OpenParenthesis) (λ o. then_like (term_like d m le)
    (λ e. then_like (mark_like Ghost punctuators.CloseParenthesis) (λ z. then_like (mark_like Ghost punctuators.OpenBrace) (λ b. done_like e)))))

pub case_head_like : {b : Bool} → Does b case_head_at case_head_at
unfolding case_head_at
case_head_like = then_like (word_like Ghost keywords.Case) (λ w. then_like case_pattern_like (λ c. then_like (mark_like Ghost punctuators.Colon) (λ k. done_like (w, c))))

-- the head of a case takes a token
pub case_head_takes : Takes case_head_at
unfolding case_head_at
case_head_takes = then_takes (word_takes Ghost keywords.Case) (λ w. then_like case_pattern_like (λ c. then_like (mark_like Ghost punctuators.Colon) (λ k. done_like (w, c))))

pub return_head_like : {b : Bool} → Does b return_head_at return_head_at
unfolding return_head_at
return_head_like = then_like case_head_like (λ h. then_like (word_like Ghost keywords.Return) (λ w. done_like h))

pub return_head_takes : Takes return_head_at
unfolding return_head_at
return_head_takes = then_takes case_head_takes (λ h. then_like (word_like Ghost keywords.Return) (λ w. done_like h))

case_like : {a c : Parser Content} → Does false a c → Does false (case_at a) (case_at c)
unfolding case_at
case_like ha = then_like return_head_like (λ h. then_like ha (λ x. then_like (mark_like Ghost punctuators.Semicolon) (λ z. done_like (assertion_case h.0 h.1 (part_list (parts_of x))))))

case_takes : {c e : Parser Content} → Does false c e → Takes (case_at c)
unfolding case_at
case_takes hc = then_takes return_head_takes (λ h. then_like hc (λ x. then_like (mark_like Ghost punctuators.Semicolon) (λ z. done_like (assertion_case h.0 h.1 (part_list (parts_of x))))))

cases_like : {a c : Parser Content} → Does false a c → Does false c c → Does false (cases_at a) (cases_at c)
unfolding case_step
cases_like ha hc = items_like (is_word Ghost keywords.Case) (case_like ha) (case_takes hc) []

switch_like : {a c : Parser Content} (d m : ℕ) → d ≤ m → Does false a c → Does false c c → (p : Place) → Does false (switch_at d a p) (switch_at m c p)
unfolding switch_at
switch_like d m le ha hc p =
    then_like (switch_head_like d m le) (λ e. then_like (cases_like ha hc) (λ xs. then_like (mark_like Ghost punctuators.CloseBrace) (λ z. done_like (begun.Whole (pieces.Other (tree.switch_ p e (assertion_case_list xs)))))))

enclosed_like : {a c : Parser Content} → Does false a c → (p : Place) → Does false (enclosed_at a p) (enclosed_at c p)
unfolding enclosed_at
enclosed_like ha p = then_like (mark_like Ghost punctuators.OpenParenthesis) (λ o. then_like ha (λ x. then_like (mark_like Ghost punctuators.CloseParenthesis) (λ z. done_like (enclosed p x))))

opening_like : {a c : Parser Content} (d m : ℕ) → d ≤ m → Does false a c → Does false c c → (p : Place) → Does false (opening_at d a p) (opening_at m c p)
unfolding opening_at
opening_like d m le ha hc p = choice_like (is_mark Ghost punctuators.OpenParenthesis) (enclosed_like ha p) (choice_like (is_word Ghost keywords.Switch) (switch_like d m le ha hc p) (begun_like d m le p))

second_branch_like : {a c : Parser Content} → Does false a c → (p : Place) (t : GhostExprTree) (x : Content) → Does false (second_branch_at a p t x) (second_branch_at c p t x)
unfolding second_branch_at
second_branch_like ha p t x = then_like (mark_like Ghost punctuators.Colon) (λ k. then_like ha (λ y. choice_like (is_mark Ghost punctuators.SeparatingAnd) fail_like (done_like (chosen p t x y))))

conditional_like : {a c : Parser Content} → Does false a c → (p : Place) (t : GhostExprTree) → Does false (conditional_at a p t) (conditional_at c p t)
unfolding conditional_at
conditional_like ha p t = then_like (mark_like Ghost punctuators.Question) (λ q. then_like ha (λ x. second_branch_like ha p t x))

further_like : {a c : Parser Content} (d m : ℕ) → d ≤ m → Does false a c → (p : Place) (e : GhostExprTree) → Does false (further_at d a p e) (further_at m c p e)
unfolding further_at
further_like d m le ha p e = then_like (rests_like d m le p e) (λ x. choice_like (is_mark Ghost punctuators.Question) (conditional_like ha p x) (ended_like d m le p x))

piece_by_like : {a c : Parser Content} (d m : ℕ) → d ≤ m → Does false a c → (p : Place) (x : Begun) → Does false (piece_by d a p x) (piece_by m c p x)
piece_by_like d m le ha p (begun.Whole x) = done_like x
piece_by_like d m le ha p (begun.Operand e) = further_like d m le ha p e

piece_like : {a c : Parser Content} (d m : ℕ) → d ≤ m → Does false a c → Does false c c → Does false (piece_at d a) (piece_at m c)
unfolding piece_at
piece_like d m le ha hc = then_like here_like (λ p. then_like (opening_like d m le ha hc p) (λ x. piece_by_like d m le ha p x))

other_part_like : {a c : Parser Content} (d m : ℕ) → d ≤ m → Does false a c → Does false c c → Does false (other_part_at d a) (other_part_at m c)
unfolding other_part_at
other_part_like d m le ha hc = then_like (mark_like Ghost punctuators.SeparatingAnd) (λ s. then_like (piece_like d m le ha hc) (λ x. done_like (part_of x)))

other_part_takes : {c : Parser Content} (m : ℕ) → Does false c c → Takes (other_part_at m c)
unfolding other_part_at
other_part_takes m hc = then_takes (mark_takes Ghost punctuators.SeparatingAnd) (λ s. then_like (piece_like m m (omega arith) hc hc) (λ x. done_like (part_of x)))

more_parts_like : {a c : Parser Content} (d m : ℕ) → d ≤ m → Does false a c → Does false c c → (xs : List PartTree) → Does false (more_parts_at d a xs) (more_parts_at m c xs)
unfolding part_step
more_parts_like d m le ha hc xs = items_like (is_mark Ghost punctuators.SeparatingAnd) (other_part_like d m le ha hc) (other_part_takes m hc) xs

part_step_like : {a c : Parser Content} (d m : ℕ) → d ≤ m → Does false a c → Does false c c → (xs : List PartTree) → Does false (part_step d a xs) (part_step m c xs)
unfolding part_step
part_step_like d m le ha hc xs = then_like (other_part_like d m le ha hc) (λ x. done_like (xs ++ x ∷ []))

several_like : {a c : Parser Content} (d m : ℕ) → d ≤ m → Does false a c → Does false c c → (x : PartTree) → Does false (several_at d a x) (several_at m c x)
unfolding several_at
several_like d m le ha hc x = then_like (part_step_like d m le ha hc (x ∷ [])) (λ xs. then_like (more_parts_like d m le ha hc xs) (λ ys. done_like (contents.Several ys)))

joined_like : {a c : Parser Content} (d m : ℕ) → d ≤ m → Does false a c → Does false c c → Does false (joined_at d a) (joined_at m c)
unfolding joined_at
joined_like d m le ha hc = then_like (piece_like d m le ha hc) (λ x. choice_like (is_mark Ghost punctuators.SeparatingAnd) (several_like d m le ha hc (part_of x)) (done_like (contents.Lone x)))

-- the tests of what begins an assertion, each failed
record Unopened (ts : List Token) : Type 0 where
  term : head_has begins_term ts ≡ false
  bracket : head_has (is_mark Ghost punctuators.OpenBracket) ts ≡ false
  emp : head_has (is_word Ghost keywords.Emp) ts ≡ false
  switch_word : head_has (is_word Ghost keywords.Switch) ts ≡ false

unopened : (ts : List Token) → head_has begins_part ts ≡ false → Unopened ts
unopened ts h =
    let a = or_parts _ (head_has (is_word Ghost keywords.Switch) ts) (sym (begins_part_is ts) ∙ h) in
    let b = or_parts _ (head_has (is_word Ghost keywords.Emp) ts) a.0 in
    let c = or_parts (head_has begins_term ts) _ b.0 in
    record { term = c.0; bracket = c.1; emp = b.1; switch_word = a.1 }

opening_refuses : (d : ℕ) (a : Parser Content) (p : Place) (ts : List Token) → Unopened ts → Refuses (opening_at d a p) ts
unfolding opening_at
opening_refuses d a p ts u = rw ((unbegun ts u.term).opening, u.switch_word) (begun_refuses d p ts u.term u.bracket u.emp)

piece_refuses : (d : ℕ) (a : Parser Content) (ts : List Token) → Unopened ts → Refuses (piece_at d a) ts
unfolding piece_at here_at
piece_refuses d a [] u = refl
piece_refuses d a (t ∷ ts) u = rw (opening_refuses d a t.place (t ∷ ts) u) refl

-- what can't begin an assertion is refused at once
content_refuses : (m : ℕ) (ts : List Token) → head_has begins_part ts ≡ false → Refuses (content_at m) ts
unfolding content_at too_deep_at joined_at
content_refuses zero ts h = rw h refl
content_refuses (suc m) ts h = rw (piece_refuses m (content_at m) ts (unopened ts h)) refl

pub content_like : (d m : ℕ) → d ≤ m → Does false (content_at d) (content_at m)
unfolding content_at
content_like zero m le = too_deep_like begins_part (content_at m) (content_refuses m)
content_like (suc d) zero le = absurd (omega (arith, le))
content_like (suc d) (suc m) le = joined_like d m (omega (arith, le)) (content_like d m (omega (arith, le))) (content_like m m (omega arith))

pub assertion_like : (d m : ℕ) → d ≤ m → Does false (assertion_at d) (assertion_at m)
unfolding assertion_at
assertion_like d m le = then_like (content_like d m le) (λ x. done_like (parts_of x))
