-- Every form of part is read where it is spelled.
use Rattle.std.proofs.Common.{◌≡◌, ℕ, ◌+◌, ◌≤◌, Bool, true, false, not, ◌||◌, List, [], ◌∷◌, length, Option, Some, None, refl, sym, subst, ap, ◌∙◌, arith}
use Rattle.std.proofs.lemmas.Bool.{or_parts}
use Rattle.vf_base.specs.declared.place.Place.{Place}
use Rattle.vf_lexer.specs.declared.punctuator.Punctuator.TheVariants as punctuators
use Rattle.vf_lexer.specs.declared.token.Token.{Token}
use Rattle.vf_syntax.specs.declared.keyword.Keyword.TheVariants as keywords
use Rattle.vf_syntax.specs.declared.side.Side.TheVariants.{Ghost}
use Rattle.vf_syntax.specs.declared.written.Name.{Name}
use Rattle.vf_syntax.specs.declared.pattern.Pattern.{Pattern}
use Rattle.vf_syntax.specs.declared.pattern.Share.{Share}
use Rattle.vf_syntax.specs.GhostExprTree.{GhostExprTree}
use Rattle.vf_syntax.specs.AssertionTree.{PartTree, PartTrees, AssertionCaseTree, AssertionCaseTrees, no_assertion_case, more_assertion_case, assertion_case_list, assertion_case}
use Rattle.vf_syntax.specs.AssertionTree as tree
use Rattle.vf_syntax.specs.Walks.{Walk, ◌⨾◌, provided, at, mark, word, head_has, is_mark, is_word}
use Rattle.vf_syntax.specs.Written.{name}
use Rattle.vf_syntax.specs.Lists.{optional}
use Rattle.vf_syntax.specs.GhostExpressions.{ghost_expr, ghost_nesting, is_application}
use Rattle.vf_syntax.specs.Assertions.{share, pattern, pattern_list, case_pattern, part, assertion, assertion_cases, part_nesting, parts_nesting, case_nesting, cases_nesting, is_conditional, is_expression}
use Rattle.vf_syntax.specs.Assertions as spelled
use Rattle.vf_cursor.specs.Parsing.{Parser, ok}
use Rattle.vf_parse_expression.proofs.Collected.{Collects}
use Rattle.vf_parse_chunk.specs.declared.pieces.Piece.{Piece}
use Rattle.vf_parse_chunk.specs.declared.pieces.Piece.TheVariants as pieces
use Rattle.vf_parse_chunk.specs.declared.pieces.Begun.TheVariants as begun
use Rattle.vf_parse_chunk.specs.Pieces.{unshared}
use Rattle.vf_parse_chunk.specs.Chunks.{sees_operator, goes_further, begun_at, ended_at}
use Rattle.vf_parse_assertion.specs.declared.contents.Content.{Content}
use Rattle.vf_parse_assertion.specs.Contents.{chosen}
use Rattle.vf_parse_assertion.specs.Parsers.{switch_head_at, case_head_at, return_head_at, case_at, case_step, cases_at, switch_at, enclosed_at, opening_at, second_branch_at, conditional_at, piece_at}
use Rattle.vf_grammar_read.proofs.expressions.Same.{no_true}
use Rattle.vf_grammar_read.proofs.expressions.Fronts.{a_mark, Front, gone, at_stays, mark_front, word_front}
use Rattle.vf_grammar_read.proofs.expressions.Taken.{here_read, mark_read, word_read, word_here}
use Rattle.vf_grammar_read.proofs.expressions.Begins.{met}
use Rattle.vf_grammar_read.proofs.expressions.Items.{Item, items_full}
use Rattle.vf_grammar_read.proofs.terms.Begins.{behind}
use Rattle.vf_grammar_read.proofs.terms.Behind.{front_looser}
use Rattle.vf_grammar_read.proofs.terms.TermsFull.{term_full, most_loose}
use Rattle.vf_grammar_read.proofs.patterns.SharesFull.{name_front, share_front}
use Rattle.vf_grammar_read.proofs.patterns.PatternsFull.{case_full}
use Rattle.vf_grammar_read.proofs.chunks.ChunksFull.{Stops, term_ended, cell_ended, whole_full, arrow_further}
use Rattle.vf_grammar_read.proofs.assertions.Ends.{Ended, colon_ends, semicolon_ends, close_ends}
use Rattle.vf_grammar_read.proofs.assertions.Eaten.{case_eats}
use Rattle.vf_grammar_read.proofs.assertions.Contents.{piece_of, content_of, content_back, enclosed_group}
use Rattle.vf_grammar_read.proofs.assertions.Operands.{InsideFull, behind_term, term_opened}

-- a part that is spelled, and that nests no deeper than it may, is read, where nothing behind goes on with it
abbrev pub PieceRead : ℕ → Parser Content → PartTree → List Token → List Token → Type 0
PieceRead d a x ts rest = piece_at d a ts ≡ ok (piece_of x) rest

-- what begins neither with a parenthesis nor with `switch`, and is read as a whole
whole_piece : (d : ℕ) (a : Parser Content) (p : Place) (x : Piece) (ts rest : List Token) → at p ts ≡ Some ts → head_has (is_mark Ghost punctuators.OpenParenthesis) ts ≡ false → head_has (is_word Ghost keywords.Switch) ts ≡ false
    → begun_at d p ts ≡ ok (begun.Whole x) rest → piece_at d a ts ≡ ok x rest
unfolding piece_at opening_at
whole_piece d a p x ts rest here opens switches read = rw (here_read p ts ts here, opens, switches, read) refl

-- a part stands at its place
standing : (p : Place) (w : Walk) (ts rest : List Token) → (at p ⨾ w) ts ≡ Some rest → (at p ts ≡ Some ts) × (w ts ≡ Some rest)
standing p w ts rest h =
    let g = gone {g = w} (at p ts) h in
    let back = sym (at_stays p ts g.0 g.1) in
    (subst (λ us. at p ts ≡ Some us) back g.1, subst (λ us. w us ≡ Some rest) back g.2)

-- a share, or none, and a name begin neither with a parenthesis nor with `switch`
shared_front : (s : Option Share) (n : Name) (w : Walk) (ts rest : List Token) → (optional share s ⨾ name Ghost n ⨾ w) ts ≡ Some rest → (head_has (is_mark Ghost punctuators.OpenParenthesis) ts ≡ false) × (head_has (is_word Ghost keywords.Switch) ts ≡ false)
shared_front None n w ts rest h =
    let g = gone {g = w} (name Ghost n ts) h in
    let f = name_front n ts g.0 g.1 in
    (f.marks_are punctuators.OpenParenthesis, f.words_are keywords.Switch)
shared_front (Some s) n w ts rest h =
    let g = gone {g = name Ghost n ⨾ w} (share s ts) h in
    let f = share_front s ts g.0 g.1 in
    (f.marks_are punctuators.OpenParenthesis, f.words_are keywords.Switch)

chunk_piece : (d : ℕ) (a : Parser Content) (p : Place) (s : Option Share) (n : Name) (xs : List Pattern) (ys : Option (List Pattern)) (ts rest : List Token) → part (tree.chunk p s n xs ys) ts ≡ Some rest → part_nesting (tree.chunk p s n xs ys) ≤ d → Stops rest → PieceRead d a (tree.chunk p s n xs ys) ts rest
chunk_piece d a p None n xs ys ts rest h deep stop =
    let k = standing p (optional share None ⨾ name Ghost n ⨾ pattern_list xs ⨾ optional pattern_list ys) ts rest h in
    let f = shared_front None n (pattern_list xs ⨾ optional pattern_list ys) ts rest k.1 in
    whole_piece d a p (unshared p n xs ys) ts rest k.0 f.0 f.1 (whole_full d p (tree.chunk p None n xs ys) ts rest k.0 h refl deep stop)
chunk_piece d a p (Some s) n xs ys ts rest h deep stop =
    let k = standing p (optional share (Some s) ⨾ name Ghost n ⨾ pattern_list xs ⨾ optional pattern_list ys) ts rest h in
    let f = shared_front (Some s) n (pattern_list xs ⨾ optional pattern_list ys) ts rest k.1 in
    whole_piece d a p (pieces.Other (tree.chunk p (Some s) n xs ys)) ts rest k.0 f.0 f.1 (whole_full d p (tree.chunk p (Some s) n xs ys) ts rest k.0 h refl deep stop)

empty_piece : (d : ℕ) (a : Parser Content) (p : Place) (ts rest : List Token) → part (tree.empty_ p) ts ≡ Some rest → Stops rest → PieceRead d a (tree.empty_ p) ts rest
empty_piece d a p ts rest h stop =
    let k = standing p (word Ghost keywords.Emp) ts rest h in
    let f = word_front Ghost keywords.Emp ts rest k.1 in
    whole_piece d a p (pieces.Other (tree.empty_ p)) ts rest k.0 (f.marks_are punctuators.OpenParenthesis) (f.words_are keywords.Switch) (whole_full d p (tree.empty_ p) ts rest k.0 h refl (omega arith) stop)

negated : (b : Bool) → not b ≡ true → b ≡ false
negated true h = no_true h
negated false h = refl

either : (a b : Bool) → a ≡ true → (a || b) ≡ true
either true b h = refl
either false b h = no_true h

or_right : (a b : Bool) → b ≡ true → (a || b) ≡ true
or_right true b h = refl
or_right false b h = h

-- where a part ends stands neither `->` nor `?`
no_mark : (ts : List Token) → Stops ts → (head_has (is_mark Ghost punctuators.Arrow) ts ≡ false) × (head_has (is_mark Ghost punctuators.Question) ts ≡ false)
unfolding goes_further
no_mark ts s =
    let a = or_parts (sees_operator ts || head_has (is_mark Ghost punctuators.Arrow) ts) (head_has (is_mark Ghost punctuators.Question) ts) s.no_further in
    let b = or_parts (sees_operator ts) (head_has (is_mark Ghost punctuators.Arrow) ts) a.0 in
    (b.1, a.1)

question_further : (ts : List Token) → Front Ghost (a_mark punctuators.Question) ts → goes_further ts ≡ true
unfolding goes_further
question_further ts f = or_right (sees_operator ts || head_has (is_mark Ghost punctuators.Arrow) ts) (head_has (is_mark Ghost punctuators.Question) ts) (f.marks_are punctuators.Question)

asked_of : (d : ℕ) (a : Parser Content) (p : Place) (e : GhostExprTree) (ts : List Token) → head_has (is_mark Ghost punctuators.Question) ts ≡ true → behind_term d a p e ts ≡ conditional_at a p e ts
asked_of d a p e ts h = rw h refl

-- no `?` stands where a part ends
unasked : (d : ℕ) (a : Parser Content) (p : Place) (e : GhostExprTree) (ts : List Token) → head_has (is_mark Ghost punctuators.Question) ts ≡ false → behind_term d a p e ts ≡ ended_at d p e ts
unasked d a p e ts h = rw h refl

pure_piece : (d : ℕ) (a : Parser Content) → InsideFull d a → (p : Place) (e : GhostExprTree) (ts rest : List Token) → part (tree.pure p e) ts ≡ Some rest → part_nesting (tree.pure p e) ≤ d → Stops rest → PieceRead d a (tree.pure p e) ts rest
pure_piece d a ha p e ts rest h deep stop =
    let k = standing p (provided (not (is_application e)) ⨾ ghost_expr e) ts rest h in
    let q = gone {g = ghost_expr e} (provided (not (is_application e)) ts) k.1 in
    let w = met _ ts q.0 q.1 in
    let walk : ghost_expr e ts ≡ Some rest = subst (λ us. ghost_expr e us ≡ Some rest) (sym w.1) q.2 in
    term_opened d a ha p e ts rest k.0 walk deep stop.no_term (either (not (is_application e)) (goes_further rest) w.0) ∙ unasked d a p e rest (no_mark rest stop).1 ∙ term_ended d p e rest (negated (is_application e) w.0) (no_mark rest stop).0

cell_piece : (d : ℕ) (a : Parser Content) → InsideFull d a → (p : Place) (s : Option Share) (e : GhostExprTree) (f : Name) (v : Pattern) (ts rest : List Token) → part (tree.cell p s e f v) ts ≡ Some rest → part_nesting (tree.cell p s e f v) ≤ d → Stops rest → PieceRead d a (tree.cell p s e f v) ts rest
cell_piece d a ha p None e f v ts rest h deep stop =
    let k = standing p (optional share None ⨾ ghost_expr e ⨾ mark Ghost punctuators.Arrow ⨾ name Ghost f ⨾ mark Ghost punctuators.PointsTo ⨾ pattern v) ts rest h in
    let t = gone {g = mark Ghost punctuators.Arrow ⨾ name Ghost f ⨾ mark Ghost punctuators.PointsTo ⨾ pattern v} (ghost_expr e ts) k.1 in
    let b = gone {g = name Ghost f ⨾ mark Ghost punctuators.PointsTo ⨾ pattern v} (mark Ghost punctuators.Arrow t.0) t.2 in
    let arrow = mark_front Ghost punctuators.Arrow t.0 b.0 b.1 in
    term_opened d a ha p e ts t.0 k.0 t.1 (omega (arith, deep)) (front_looser 8 _ t.0 arrow (omega arith)) (or_right (not (is_application e)) (goes_further t.0) (arrow_further t.0 arrow))
    ∙ unasked d a p e t.0 (arrow.marks_are punctuators.Question) ∙ cell_ended d p e f v t.0 rest t.2 (omega (arith, deep)) stop.no_term
cell_piece d a ha p (Some s) e f v ts rest h deep stop =
    let k = standing p (share s ⨾ ghost_expr e ⨾ mark Ghost punctuators.Arrow ⨾ name Ghost f ⨾ mark Ghost punctuators.PointsTo ⨾ pattern v) ts rest h in
    let g = gone {g = ghost_expr e ⨾ mark Ghost punctuators.Arrow ⨾ name Ghost f ⨾ mark Ghost punctuators.PointsTo ⨾ pattern v} (share s ts) k.1 in
    let front = share_front s ts g.0 g.1 in
    whole_piece d a p (pieces.Other (tree.cell p (Some s) e f v)) ts rest k.0 (front.marks_are punctuators.OpenParenthesis) (front.words_are keywords.Switch) (whole_full d p (tree.cell p (Some s) e f v) ts rest k.0 h refl deep stop)

-- a conditional behind its test
branches_full : (d : ℕ) (a : Parser Content) → InsideFull d a → (p : Place) (c : GhostExprTree) (x y : PartTrees) (ts asked mid parted rest : List Token) → mark Ghost punctuators.Question ts ≡ Some asked → assertion x asked ≡ Some mid
    → mark Ghost punctuators.Colon mid ≡ Some parted → assertion y parted ≡ Some rest → parts_nesting x + 1 ≤ d → parts_nesting y + 1 ≤ d → Ended rest → conditional_at a p c ts ≡ ok (chosen p c (content_of x) (content_of y)) rest
unfolding conditional_at second_branch_at
branches_full d a ha p c x y ts asked mid parted rest question first colon second low lower end =
    rw ((mark_read Ghost _ ts asked question).1, ha x asked mid first low (colon_ends mid parted colon), (mark_read Ghost _ mid parted colon).1, ha y parted rest second lower end, end.no_more) refl

conditional_piece : (d : ℕ) (a : Parser Content) → InsideFull d a → (p : Place) (c : GhostExprTree) (x y : PartTrees) (ts rest : List Token) → part (tree.conditional p c x y) ts ≡ Some rest → part_nesting (tree.conditional p c x y) ≤ d → Ended rest → PieceRead d a (tree.conditional p c x y) ts rest
conditional_piece d a ha p c x y ts rest h deep end =
    let k = standing p (ghost_expr c ⨾ mark Ghost punctuators.Question ⨾ assertion x ⨾ mark Ghost punctuators.Colon ⨾ assertion y) ts rest h in
    let t = gone {g = mark Ghost punctuators.Question ⨾ assertion x ⨾ mark Ghost punctuators.Colon ⨾ assertion y} (ghost_expr c ts) k.1 in
    let q = gone {g = assertion x ⨾ mark Ghost punctuators.Colon ⨾ assertion y} (mark Ghost punctuators.Question t.0) t.2 in
    let one = gone {g = mark Ghost punctuators.Colon ⨾ assertion y} (assertion x q.0) q.2 in
    let b = gone {g = assertion y} (mark Ghost punctuators.Colon one.0) one.2 in
    let question = mark_front Ghost punctuators.Question t.0 q.0 q.1 in
    term_opened d a ha p c ts t.0 k.0 t.1 (omega (arith, deep)) (front_looser 8 _ t.0 question (omega arith)) (or_right (not (is_application c)) (goes_further t.0) (question_further t.0 question))
    ∙ asked_of d a p c t.0 (question.marks_are punctuators.Question) ∙ branches_full d a ha p c x y t.0 q.0 one.0 b.0 rest q.1 one.1 b.1 b.2 (omega (arith, deep)) (omega (arith, deep)) end

group_piece : (d : ℕ) (a : Parser Content) → InsideFull d a → (p : Place) (xs : PartTrees) (ts rest : List Token) → part (tree.group p xs) ts ≡ Some rest → part_nesting (tree.group p xs) ≤ d → PieceRead d a (tree.group p xs) ts rest
unfolding piece_at opening_at enclosed_at
group_piece d a ha p xs ts rest h deep =
    let k = standing p (provided (not (is_expression xs)) ⨾ mark Ghost punctuators.OpenParenthesis ⨾ assertion xs ⨾ mark Ghost punctuators.CloseParenthesis) ts rest h in
    let q = gone {g = mark Ghost punctuators.OpenParenthesis ⨾ assertion xs ⨾ mark Ghost punctuators.CloseParenthesis} (provided (not (is_expression xs)) ts) k.1 in
    let w = met _ ts q.0 q.1 in
    let o = gone {g = assertion xs ⨾ mark Ghost punctuators.CloseParenthesis} (mark Ghost punctuators.OpenParenthesis q.0) q.2 in
    let s = gone {g = mark Ghost punctuators.CloseParenthesis} (assertion xs o.0) o.2 in
    let opens : mark Ghost punctuators.OpenParenthesis ts ≡ Some o.0 = subst (λ us. mark Ghost punctuators.OpenParenthesis us ≡ Some o.0) (sym w.1) o.1 in
    rw (here_read p ts ts k.0, (mark_front Ghost _ ts o.0 opens).marks_are punctuators.OpenParenthesis, (mark_read Ghost _ ts o.0 opens).1, ha xs o.0 s.0 s.1 deep (close_ends s.0 rest s.2), (mark_read Ghost _ s.0 rest s.2).1, enclosed_group p xs o.0 s.0 s.1 (negated (is_expression xs) w.0)) refl

-- the cases of a `switch`, as a list
abbrev case_items : AssertionCaseTrees → List AssertionCaseTree
case_items no_assertion_case = []
case_items (more_assertion_case x xs) = x ∷ case_items xs

case_items_are : (xs : AssertionCaseTrees) → assertion_case_list (case_items xs) ≡ xs
case_items_are no_assertion_case = refl
case_items_are (more_assertion_case x xs) = ap (more_assertion_case x) (case_items_are xs)

cases_collect : Collects spelled.assertion_case case_nesting (λ (xs : List AssertionCaseTree). assertion_cases (assertion_case_list xs)) (λ (xs : List AssertionCaseTree). cases_nesting (assertion_case_list xs))
cases_collect = record { nothing_walk = λ ts. refl; item_walk = λ x xs ts. refl; nothing_deep = refl; item_deep = λ x xs. refl }

case_front : (x : AssertionCaseTree) (ts rest : List Token) → spelled.assertion_case x ts ≡ Some rest → head_has (is_word Ghost keywords.Case) ts ≡ true
case_front (tree.assertion_case p c xs) ts rest h =
    let g = gone (at p ts) h in
    let w = gone (word Ghost keywords.Case g.0) g.2 in
    (behind p g.1 (word_front Ghost keywords.Case g.0 w.0 w.1)).words_are keywords.Case

case_read : (d : ℕ) (a : Parser Content) → InsideFull d a → (x : AssertionCaseTree) (ts rest : List Token) → spelled.assertion_case x ts ≡ Some rest → case_nesting x ≤ d → case_at a ts ≡ ok x rest
unfolding case_at return_head_at case_head_at
case_read d a ha (tree.assertion_case p c xs) ts rest h deep =
    let g = gone (at p ts) h in
    let w = gone (word Ghost keywords.Case g.0) g.2 in
    let n = gone (case_pattern c w.0) w.2 in
    let k = gone (mark Ghost punctuators.Colon n.0) n.2 in
    let r = gone (word Ghost keywords.Return k.0) k.2 in
    let b = gone (assertion xs r.0) r.2 in
    let colon = mark_front Ghost punctuators.Colon n.0 k.0 k.1 in
    let back = content_back xs r.0 b.0 b.1 in
    rw (word_here Ghost _ p ts g.0 w.0 g.1 w.1, case_full c w.0 n.0 n.1 (colon.marks_are punctuators.OpenParenthesis), (mark_read Ghost _ n.0 k.0 k.1).1, (word_read Ghost _ k.0 r.0 r.1).1, ha xs r.0 b.0 b.1 deep (semicolon_ends b.0 rest b.2), (mark_read Ghost _ b.0 rest b.2).1)
    (λ i. ok (tree.assertion_case p c (back i)) rest)

case_item : (d : ℕ) (a : Parser Content) → InsideFull d a → Item spelled.assertion_case case_nesting d (λ ts. Unit {0}) (is_word Ghost keywords.Case) (case_at a)
case_item d a ha = record { full = λ x ts rest h deep u. case_read d a ha x ts rest h deep; heads = case_front; fine = λ x ts rest h. tt; eats = case_eats }

cases_full : (d : ℕ) (a : Parser Content) → InsideFull d a → (xs : AssertionCaseTrees) (ts rest : List Token) → assertion_cases xs ts ≡ Some rest → cases_nesting xs ≤ d → head_has (is_word Ghost keywords.Case) rest ≡ false → cases_at a ts ≡ ok (case_items xs) rest
unfolding case_step
cases_full d a ha xs ts rest h deep stop =
    let back = sym (case_items_are xs) in
    items_full cases_collect (case_item d a ha) (length ts) (case_items xs) [] ts rest (subst (λ ys. assertion_cases ys ts ≡ Some rest) back h) (subst (λ ys. cases_nesting ys ≤ d) back deep) tt stop (omega arith)

-- what stands in a `switch` in front of its cases
pub head_full : (d : ℕ) (e : GhostExprTree) (ts worded opened behind_it closed rest : List Token) → word Ghost keywords.Switch ts ≡ Some worded → mark Ghost punctuators.OpenParenthesis worded ≡ Some opened → ghost_expr e opened ≡ Some behind_it
    → mark Ghost punctuators.CloseParenthesis behind_it ≡ Some closed → mark Ghost punctuators.OpenBrace closed ≡ Some rest → ghost_nesting e + 1 ≤ d → switch_head_at d ts ≡ ok e rest
unfolding switch_head_at
head_full d e ts worded opened behind_it closed rest switches opens term closes brace deep =
    rw ((word_read Ghost _ ts worded switches).1, (mark_read Ghost _ worded opened opens).1, term_full d e opened behind_it term deep (most_loose e) (front_looser 8 _ behind_it (mark_front Ghost _ behind_it closed closes) (omega arith)), (mark_read Ghost _ behind_it closed closes).1, (mark_read Ghost _ closed rest brace).1) refl

switch_piece : (d : ℕ) (a : Parser Content) → InsideFull d a → (p : Place) (e : GhostExprTree) (cs : AssertionCaseTrees) (ts rest : List Token) → part (tree.switch_ p e cs) ts ≡ Some rest → part_nesting (tree.switch_ p e cs) ≤ d → PieceRead d a (tree.switch_ p e cs) ts rest
unfolding piece_at opening_at switch_at
switch_piece d a ha p e cs ts rest h deep =
    let k = standing p (word Ghost keywords.Switch ⨾ mark Ghost punctuators.OpenParenthesis ⨾ ghost_expr e ⨾ mark Ghost punctuators.CloseParenthesis ⨾ mark Ghost punctuators.OpenBrace ⨾ assertion_cases cs ⨾ mark Ghost punctuators.CloseBrace) ts rest h in
    let w = gone (word Ghost keywords.Switch ts) k.1 in
    let o = gone (mark Ghost punctuators.OpenParenthesis w.0) w.2 in
    let t = gone (ghost_expr e o.0) o.2 in
    let z = gone (mark Ghost punctuators.CloseParenthesis t.0) t.2 in
    let b = gone (mark Ghost punctuators.OpenBrace z.0) z.2 in
    let c = gone (assertion_cases cs b.0) b.2 in
    let f = word_front Ghost keywords.Switch ts w.0 w.1 in
    let closes = mark_front Ghost punctuators.CloseBrace c.0 rest c.2 in
    let all = case_items_are cs in
    rw (here_read p ts ts k.0, f.marks_are punctuators.OpenParenthesis, f.words_are keywords.Switch, head_full d e ts w.0 o.0 t.0 z.0 b.0 w.1 o.1 t.1 z.1 b.1 (omega (arith, deep)), cases_full d a ha cs b.0 c.0 c.1 (omega (arith, deep)) (closes.words_are keywords.Case), (mark_read Ghost _ c.0 rest c.2).1)
    (λ i. ok (pieces.Other (tree.switch_ p e (all i))) rest)

-- a part that is spelled is read; behind a conditional no part may come
pub piece_full : (d : ℕ) (a : Parser Content) → InsideFull d a → (x : PartTree) (ts rest : List Token) → part x ts ≡ Some rest → part_nesting x ≤ d → Stops rest → (is_conditional x ≡ true → head_has (is_mark Ghost punctuators.SeparatingAnd) rest ≡ false) → piece_at d a ts ≡ ok (piece_of x) rest
piece_full d a ha (tree.conditional p c x y) ts rest h deep stop last = conditional_piece d a ha p c x y ts rest h deep (record { stops = stop; no_more = last refl })
piece_full d a ha (tree.switch_ p e cs) ts rest h deep stop last = switch_piece d a ha p e cs ts rest h deep
piece_full d a ha (tree.cell p s e f v) ts rest h deep stop last = cell_piece d a ha p s e f v ts rest h deep stop
piece_full d a ha (tree.chunk p s n xs ys) ts rest h deep stop last = chunk_piece d a p s n xs ys ts rest h deep stop
piece_full d a ha (tree.empty_ p) ts rest h deep stop last = empty_piece d a p ts rest h stop
piece_full d a ha (tree.pure p e) ts rest h deep stop last = pure_piece d a ha p e ts rest h deep stop
piece_full d a ha (tree.group p xs) ts rest h deep stop last = group_piece d a ha p xs ts rest h deep
