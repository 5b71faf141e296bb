-- How a part that begins with an expression is read up to the end of the expression.
use Rattle.std.proofs.Common.{◌≡◌, ℕ, ◌+◌, ◌≤◌, true, false, not, ◌||◌, List, Some, Ok, Err, refl, sym, subst, ◌∙◌, arith}
use Rattle.std.specs.Prelude.{if◌then◌else◌}
use Rattle.vf_base.specs.declared.place.Place.{Place}
use Rattle.vf_lexer.specs.declared.punctuator.Punctuator.TheVariants as punctuators
use Rattle.vf_lexer.specs.declared.token.Token.{Token}
use Rattle.vf_syntax.specs.declared.keyword.Keyword.TheVariants as keywords
use Rattle.vf_syntax.specs.declared.side.Side.TheVariants.{Ghost}
use Rattle.vf_syntax.specs.declared.operator.UnaryOperator.{UnaryOperator}
use Rattle.vf_syntax.specs.declared.operator.UnaryOperator.TheVariants as unaries
use Rattle.vf_syntax.specs.GhostExprTree.{GhostExprTree}
use Rattle.vf_syntax.specs.GhostExprTree as exprs
use Rattle.vf_syntax.specs.AssertionTree.{PartTrees, no_part, more_part}
use Rattle.vf_syntax.specs.AssertionTree as tree
use Rattle.vf_syntax.specs.Walks.{at, mark, identifier, head_has, is_mark}
use Rattle.vf_syntax.specs.Written.{unary_mark, level_of}
use Rattle.vf_syntax.specs.GhostExpressions.{ghost_expr, ghost_nesting, ghost_rank, is_application}
use Rattle.vf_syntax.specs.Assertions.{assertion, parts_nesting}
use Rattle.vf_cursor.specs.Parsing.{Parser, Read, ok, ◌>>=◌, here_at}
use Rattle.vf_cursor.proofs.Facts.{ok_pair}
use Rattle.vf_parse_term.specs.Terms.{rest_at, operand_at, joined_by}
use Rattle.vf_parse_chunk.specs.declared.pieces.Piece.{Piece}
use Rattle.vf_parse_chunk.specs.declared.pieces.Piece.TheVariants as pieces
use Rattle.vf_parse_chunk.specs.declared.pieces.Begun.{Begun}
use Rattle.vf_parse_chunk.specs.declared.pieces.Begun.TheVariants as begun
use Rattle.vf_parse_chunk.specs.Pieces.{part_of_value}
use Rattle.vf_parse_chunk.specs.Chunks.{goes_further, begun_at, ended_at}
use Rattle.vf_parse_assertion.specs.declared.contents.Content.{Content}
use Rattle.vf_parse_assertion.specs.declared.contents.Content.TheVariants as contents
use Rattle.vf_parse_assertion.specs.Contents.{enclosed}
use Rattle.vf_parse_assertion.specs.Parsers.{enclosed_at, opening_at, conditional_at, further_at, piece_by, piece_at}
use Rattle.vf_grammar_read.proofs.expressions.Same.{no_true}
use Rattle.vf_grammar_read.proofs.expressions.Fronts.{Class, a_mark, a_word, a_name, a_number, a_character, class_mark, class_word, gone, at_stays, mark_front, word_front, identifier_front, number_front}
use Rattle.vf_grammar_read.proofs.expressions.Taken.{here_read, mark_read}
use Rattle.vf_grammar_read.proofs.expressions.Begins.{loose}
use Rattle.vf_grammar_read.proofs.terms.Begins.{class_term, behind, term_begins}
use Rattle.vf_grammar_read.proofs.terms.Behind.{Looser, front_looser, binary_hold}
use Rattle.vf_grammar_read.proofs.terms.TermsFull.{most_loose, joined_full, operand_full}
use Rattle.vf_grammar_read.specs.chunks.Laws.{behind_begun}
use Rattle.vf_grammar_read.proofs.chunks.Operands.{Next, alone, operator, first_of}
use Rattle.vf_grammar_read.proofs.chunks.ChunksFull.{term_begun}
use Rattle.vf_grammar_read.proofs.assertions.Values.{place_of, value_of, value_back, placed_at, value_spelled, value_deep}
use Rattle.vf_grammar_read.proofs.assertions.Contents.{content_of, lone_value, lone_choice}
use Rattle.vf_grammar_read.proofs.assertions.Ends.{Ended, close_ends, last_alone}

-- an assertion that is spelled, and that nests no deeper than it may, is read
abbrev pub InsideFull : ℕ → Parser Content → Type 0
InsideFull d a = (xs : PartTrees) (ts rest : List Token) → assertion xs ts ≡ Some rest → parts_nesting xs + 1 ≤ d → Ended rest → a ts ≡ ok (content_of xs) rest

-- a part behind its first expression
abbrev pub behind_term : ℕ → Parser Content → Place → GhostExprTree → Parser Piece
behind_term d a p e ts = if head_has (is_mark Ghost punctuators.Question) ts then conditional_at a p e ts else ended_at d p e ts

-- an operand stands in parentheses, or does not begin with one
data Opening (a : GhostExprTree) (ts : List Token) : Type 0 where
  in_parentheses : (q : Place) (b : GhostExprTree) → a ≡ exprs.parenthesized q b → Opening a ts
  with_branches : (q : Place) (c b e : GhostExprTree) → a ≡ exprs.conditional q c b e → Opening a ts
  without : head_has (is_mark Ghost punctuators.OpenParenthesis) ts ≡ false → Opening a ts

sign_open : (o : UnaryOperator) → class_mark (a_mark (unary_mark o)) punctuators.OpenParenthesis ≡ false
sign_open unaries.Minus = refl
sign_open unaries.Not = refl

opening_of : (a : GhostExprTree) (ts mid : List Token) → ghost_expr a ts ≡ Some mid → ghost_rank a ≤ 2 → Opening a ts
opening_of (exprs.number p n ty) ts mid h low = let g = gone (at p ts) h in without ((behind p g.1 (number_front Ghost n ty g.0 mid g.2)).marks_are punctuators.OpenParenthesis)
opening_of (exprs.true_ p) ts mid h low = let g = gone (at p ts) h in without ((behind p g.1 (word_front Ghost _ g.0 mid g.2)).marks_are punctuators.OpenParenthesis)
opening_of (exprs.false_ p) ts mid h low = let g = gone (at p ts) h in without ((behind p g.1 (word_front Ghost _ g.0 mid g.2)).marks_are punctuators.OpenParenthesis)
opening_of (exprs.result p) ts mid h low = let g = gone (at p ts) h in without ((behind p g.1 (word_front Ghost _ g.0 mid g.2)).marks_are punctuators.OpenParenthesis)
opening_of (exprs.this_ p) ts mid h low = let g = gone (at p ts) h in without ((behind p g.1 (word_front Ghost _ g.0 mid g.2)).marks_are punctuators.OpenParenthesis)
opening_of (exprs.current_thread p) ts mid h low = let g = gone (at p ts) h in without ((behind p g.1 (word_front Ghost _ g.0 mid g.2)).marks_are punctuators.OpenParenthesis)
opening_of (exprs.name_ p x) ts mid h low = let g = gone (at p ts) h in without ((behind p g.1 (identifier_front Ghost x g.0 mid g.2)).marks_are punctuators.OpenParenthesis)
opening_of (exprs.application p x xs) ts mid h low =
    let g = gone (at p ts) h in let m = gone (identifier Ghost x g.0) g.2 in
    without ((behind p g.1 (identifier_front Ghost x g.0 m.0 m.1)).marks_are punctuators.OpenParenthesis)
opening_of (exprs.parenthesized p a) ts mid h low = in_parentheses p a refl
opening_of (exprs.conditional p c a b) ts mid h low = with_branches p c a b refl
opening_of (exprs.unary p o a) ts mid h low =
    let g = gone (at p ts) h in let m = gone (mark Ghost (unary_mark o) g.0) g.2 in
    without ((behind p g.1 (mark_front Ghost _ g.0 m.0 m.1)).marks_are punctuators.OpenParenthesis ∙ sign_open o)
opening_of (exprs.chain p l a xs) ts mid h low = absurd (omega (arith, low, loose l))

-- no expression begins with `switch`
unswitched : (c : Class) → class_term c ≡ true → class_word c keywords.Switch ≡ false
unswitched (a_mark p) h = refl
unswitched (a_word keywords.True) h = refl
unswitched (a_word keywords.False) h = refl
unswitched (a_word keywords.Result) h = refl
unswitched (a_word keywords.This) h = refl
unswitched (a_word keywords.CurrentThread) h = refl
unswitched (a_word k) h = no_true h
unswitched a_name h = refl
unswitched a_number h = refl
unswitched a_character h = refl

-- the first operand of an expression is read, and then the expression behind it
record Joined (d : ℕ) (p : Place) (e : GhostExprTree) (ts rest : List Token) : Type 0 where
  operand : GhostExprTree
  mid : List Token
  walk : ghost_expr operand ts ≡ Some mid
  close : ghost_rank operand ≤ 2
  low : ghost_nesting operand ≤ ghost_nesting e
  whole : rest_at (operand_at d) 6 p operand mid ≡ ok e rest

behind_operand : (u : Parser GhostExprTree) (k : Place → GhostExprTree → Parser GhostExprTree) (q : Place) (a e : GhostExprTree) (ts mid rest : List Token) → here_at ts ≡ ok q ts → u ts ≡ ok a mid → joined_by u k ts ≡ ok e rest → k q a mid ≡ ok e rest
unfolding joined_by
behind_operand u k q a e ts mid rest h r w = rw (h, r) at w

joined_rest : (d : ℕ) (p : Place) (e : GhostExprTree) (ts rest : List Token) → at p ts ≡ Some ts → ghost_expr e ts ≡ Some rest → ghost_nesting e ≤ d → Looser 8 rest → Joined d p e ts rest
joined_rest d p e ts rest here h deep lo =
    let f = first_of e ts rest h in
    let low = f.low in
    let under_too : ghost_nesting f.operand + 0 ≤ d = omega (arith, low, deep) in
    let all_under : ghost_nesting e + 0 ≤ d = omega (arith, deep) in
    let read = operand_full d f.operand ts f.mid f.walk under_too f.close (held_by f.operand f.mid f.next) in
    let all = joined_full (operand_at d) d (operand_full d) 6 (omega arith) e ts rest h all_under (most_loose e) lo in
    record { operand = f.operand; mid = f.mid; walk = f.walk; close = f.close; low = f.low; whole = behind_operand (operand_at d) (rest_at (operand_at d) 6) p f.operand e ts f.mid rest (here_read p ts ts here) read all }
  where
    held_by : (a : GhostExprTree) (mid : List Token) → Next e a mid rest → Looser 2 mid
    held_by a mid (alone same s) = subst (λ us. Looser 2 us) (sym s) (omega (arith, lo))
    held_by a mid (operator o f) = front_looser 2 _ mid f (omega (arith, binary_hold o, loose (level_of o)))

-- what begins a part, by what was begun
begun_same : (d : ℕ) (a : Parser Content) (p : Place) (b : Begun) (ts : List Token) → piece_by d a p b ts ≡ behind_begun (behind_term d a p) d p b ts
unfolding further_at
begun_same d a p (begun.Whole x) ts = refl
begun_same d a p (begun.Operand e) ts = refl

bind_same : {A B : Type 0} (r : Read A) (f g : A → Parser B) → ((x : A) (ts : List Token) → f x ts ≡ g x ts) → (r >>= λ x. f x.0 x.1) ≡ (r >>= λ x. g x.0 x.1)
bind_same (Ok x) f g h = h x.0 x.1
bind_same (Err e) f g h = refl

opened_plainly : (d : ℕ) (a : Parser Content) (p : Place) (e : GhostExprTree) (ts rest : List Token) → at p ts ≡ Some ts → ghost_expr e ts ≡ Some rest → ghost_nesting e ≤ d → Looser 8 rest
    → (not (is_application e) || goes_further rest) ≡ true → head_has (is_mark Ghost punctuators.OpenParenthesis) ts ≡ false → piece_at d a ts ≡ behind_term d a p e rest
unfolding piece_at opening_at
opened_plainly d a p e ts rest here h deep lo further opens =
    let b = term_begins e ts rest h in
    let read = bind_same (begun_at d p ts) (piece_by d a p) (behind_begun (behind_term d a p) d p) (begun_same d a p) in
    rw (here_read p ts ts here, opens, b.front.words_are keywords.Switch ∙ unswitched b.class b.begins) (read ∙ term_begun (behind_term d a p) d p e ts rest here h deep lo further)

-- what stands between parentheses is an operand
opened_inside : (d : ℕ) (a : Parser Content) (p : Place) (e o : GhostExprTree) (c : Content) (ts inside closed mid rest : List Token) → at p ts ≡ Some ts → mark Ghost punctuators.OpenParenthesis ts ≡ Some inside → a inside ≡ ok c closed
    → mark Ghost punctuators.CloseParenthesis closed ≡ Some mid → enclosed p c ≡ begun.Operand o → rest_at (operand_at d) 6 p o mid ≡ ok e rest → piece_at d a ts ≡ behind_term d a p e rest
unfolding piece_at opening_at enclosed_at further_at
opened_inside d a p e o c ts inside closed mid rest here opens read closes is whole =
    rw (here_read p ts ts here, (mark_front Ghost _ ts inside opens).marks_are punctuators.OpenParenthesis, (mark_read Ghost _ ts inside opens).1, read, (mark_read Ghost _ closed mid closes).1, is, whole) refl

-- two places at which the same tokens stand
same_spot : (p q : Place) (ts us : List Token) → at p ts ≡ Some ts → at q ts ≡ Some us → p ≡ q
same_spot p q ts us h k = (ok_pair p q ts us (sym (here_read p ts ts h) ∙ here_read q ts us k)).0

-- an expression that is all of an assertion is spelled as that
lone_spelled : (e : GhostExprTree) (ts rest : List Token) → ghost_expr e ts ≡ Some rest → assertion (more_part (part_of_value (value_of e)) no_part) ts ≡ Some rest
lone_spelled e ts rest h = rw (last_alone (part_of_value (value_of e)), value_spelled e ts rest h) refl

-- a conditional of expressions that is all of an assertion
abbrev choice : GhostExprTree → GhostExprTree → GhostExprTree → PartTrees
choice c b k = more_part (tree.conditional (place_of c) c (more_part (part_of_value (value_of b)) no_part) (more_part (part_of_value (value_of k)) no_part)) no_part

choice_spelled : (c b k : GhostExprTree) (ts tested asked chosen parted rest : List Token) → ghost_expr c ts ≡ Some tested → mark Ghost punctuators.Question tested ≡ Some asked → ghost_expr b asked ≡ Some chosen
    → mark Ghost punctuators.Colon chosen ≡ Some parted → ghost_expr k parted ≡ Some rest → assertion (choice c b k) ts ≡ Some rest
choice_spelled c b k ts tested asked chosen parted rest test question first colon second =
    rw (placed_at c ts tested test, test, question, lone_spelled b asked chosen first, colon, lone_spelled k parted rest second) refl

-- an expression in parentheses, at the front of an expression
opened_lone : (d : ℕ) (a : Parser Content) → InsideFull d a → (p q : Place) (e b : GhostExprTree) (ts mid rest : List Token) → at p ts ≡ Some ts → ghost_expr (exprs.parenthesized q b) ts ≡ Some mid → ghost_nesting (exprs.parenthesized q b) ≤ d
    → rest_at (operand_at d) 6 p (exprs.parenthesized q b) mid ≡ ok e rest → piece_at d a ts ≡ behind_term d a p e rest
opened_lone d a ha p q e b ts mid rest here h deep whole =
    let g = gone (at q ts) h in
    let m = gone (mark Ghost punctuators.OpenParenthesis g.0) g.2 in
    let n = gone (ghost_expr b m.0) m.2 in
    let opens : mark Ghost punctuators.OpenParenthesis ts ≡ Some m.0 = subst (λ us. mark Ghost punctuators.OpenParenthesis us ≡ Some m.0) (sym (at_stays q ts g.0 g.1)) m.1 in
    let spelled : assertion (more_part (part_of_value (value_of b)) no_part) m.0 ≡ Some n.0 = lone_spelled b m.0 n.0 n.1 in
    let read : a m.0 ≡ ok (contents.Lone (pieces.Value (value_of b))) n.0 = subst (λ c. a m.0 ≡ ok c n.0) (lone_value b) (ha (more_part (part_of_value (value_of b)) no_part) m.0 n.0 spelled (omega (arith, value_deep b, deep)) (close_ends n.0 mid n.2)) in
    let spot = same_spot p q ts g.0 here g.1 in
    let back = value_back b in
    opened_inside d a p e (exprs.parenthesized q b) _ ts m.0 n.0 mid rest here opens read n.2 (λ i. begun.Operand (exprs.parenthesized (spot i) (back i))) whole

-- a conditional in parentheses, at the front of an expression
opened_choice : (d : ℕ) (a : Parser Content) → InsideFull d a → (p q : Place) (e c b k : GhostExprTree) (ts mid rest : List Token) → at p ts ≡ Some ts → ghost_expr (exprs.conditional q c b k) ts ≡ Some mid → ghost_nesting (exprs.conditional q c b k) ≤ d
    → rest_at (operand_at d) 6 p (exprs.conditional q c b k) mid ≡ ok e rest → piece_at d a ts ≡ behind_term d a p e rest
opened_choice d a ha p q e c b k ts mid rest here h deep whole =
    let g = gone (at q ts) h in
    let m = gone (mark Ghost punctuators.OpenParenthesis g.0) g.2 in
    let t = gone (ghost_expr c m.0) m.2 in
    let s = gone (mark Ghost punctuators.Question t.0) t.2 in
    let one = gone (ghost_expr b s.0) s.2 in
    let x = gone (mark Ghost punctuators.Colon one.0) one.2 in
    let two = gone (ghost_expr k x.0) x.2 in
    let opens : mark Ghost punctuators.OpenParenthesis ts ≡ Some m.0 = subst (λ us. mark Ghost punctuators.OpenParenthesis us ≡ Some m.0) (sym (at_stays q ts g.0 g.1)) m.1 in
    let spelled = choice_spelled c b k m.0 t.0 s.0 one.0 x.0 two.0 t.1 s.1 one.1 x.1 two.1 in
    let read : a m.0 ≡ ok (contents.Lone (pieces.Conditional (place_of c) c (value_of b) (value_of k))) two.0 = subst (λ y. a m.0 ≡ ok y two.0) (lone_choice (place_of c) c b k) (ha (choice c b k) m.0 two.0 spelled (omega (arith, value_deep b, value_deep k, deep)) (close_ends two.0 mid two.2)) in
    let spot = same_spot p q ts g.0 here g.1 in
    let first = value_back b in
    let second = value_back k in
    opened_inside d a p e (exprs.conditional q c b k) _ ts m.0 two.0 mid rest here opens read two.2 (λ i. begun.Operand (exprs.conditional (spot i) c (first i) (second i))) whole

pub term_opened : (d : ℕ) (a : Parser Content) → InsideFull d a → (p : Place) (e : GhostExprTree) (ts rest : List Token) → at p ts ≡ Some ts → ghost_expr e ts ≡ Some rest → ghost_nesting e ≤ d → Looser 8 rest
    → (not (is_application e) || goes_further rest) ≡ true → piece_at d a ts ≡ behind_term d a p e rest
term_opened d a ha p e ts rest here h deep lo further =
    let j = joined_rest d p e ts rest here h deep lo in
    by_opening j.operand j.mid j.walk j.low j.whole (opening_of j.operand ts j.mid j.walk j.close)
  where
    by_opening : (o : GhostExprTree) (mid : List Token) → ghost_expr o ts ≡ Some mid → ghost_nesting o ≤ ghost_nesting e → rest_at (operand_at d) 6 p o mid ≡ ok e rest → Opening o ts → piece_at d a ts ≡ behind_term d a p e rest
    by_opening o mid walk low whole (in_parentheses q b same) =
        let under : ghost_nesting o ≤ d = omega (arith, low, deep) in
        opened_lone d a ha p q e b ts mid rest here (subst (λ y. ghost_expr y ts ≡ Some mid) same walk) (subst (λ y. ghost_nesting y ≤ d) same under) (subst (λ y. rest_at (operand_at d) 6 p y mid ≡ ok e rest) same whole)
    by_opening o mid walk low whole (with_branches q c b k same) =
        let under : ghost_nesting o ≤ d = omega (arith, low, deep) in
        opened_choice d a ha p q e c b k ts mid rest here (subst (λ y. ghost_expr y ts ≡ Some mid) same walk) (subst (λ y. ghost_nesting y ≤ d) same under) (subst (λ y. rest_at (operand_at d) 6 p y mid ≡ ok e rest) same whole)
    by_opening o mid walk low whole (without opens) = opened_plainly d a p e ts rest here h deep lo further opens
