-- Chunks, cells, `emp` and expressions that are spelled are read as parts.
use Rattle.std.proofs.Common.{◌≡◌, ℕ, ◌+◌, ◌≤◌, max, Bool, true, false, not, ◌&&◌, ◌||◌, List, [], ◌∷◌, Option, Some, None, refl, sym, subst, ap, ◌∙◌, arith}
use Rattle.std.proofs.lemmas.Bool.{or_parts}
use Rattle.vf_base.specs.declared.place.Place.{Place}
use Rattle.vf_lexer.specs.declared.punctuator.Punctuator.TheVariants as punctuators
use Rattle.vf_lexer.specs.declared.token.Token.{Token}
use Rattle.vf_syntax.specs.declared.keyword.Keyword.TheVariants as keywords
use Rattle.vf_syntax.specs.declared.side.Side.TheVariants.{Ghost}
use Rattle.vf_syntax.specs.declared.operator.BinaryOperator.{BinaryOperator}
use Rattle.vf_syntax.specs.declared.written.Name.{Name}
use Rattle.vf_syntax.specs.declared.pattern.Pattern.{Pattern}
use Rattle.vf_syntax.specs.declared.pattern.Pattern.TheVariants as patterns
use Rattle.vf_syntax.specs.declared.pattern.Share.{Share}
use Rattle.vf_syntax.specs.GhostExprTree.{GhostExprTree, GhostExprTrees, no_ghost_expr, more_ghost_expr, ghost_expr_list}
use Rattle.vf_syntax.specs.GhostExprTree as exprs
use Rattle.vf_syntax.specs.AssertionTree.{PartTree}
use Rattle.vf_syntax.specs.AssertionTree as tree
use Rattle.vf_syntax.specs.Walks.{Walk, ◌⨾◌, at, mark, word, identifier, head_has, is_mark, is_name}
use Rattle.vf_syntax.specs.Written.{name, unary_mark, binary_mark, level_of}
use Rattle.vf_syntax.specs.Lists.{optional, separated, behind_commas, greatest, or_none}
use Rattle.vf_syntax.specs.GhostExpressions.{ghost_expr, ghost_nesting, ghost_rank, ghost_arguments, more_ghost_arguments, ghost_arguments_nesting, is_application}
use Rattle.vf_syntax.specs.Assertions.{part, part_nesting, share, pattern, pattern_list, pattern_nesting, are_value_patterns}
use Rattle.vf_cursor.specs.Parsing.{Parser, ok, ◌>>=◌, here_at}
use Rattle.vf_cursor.proofs.Facts.{ok_pair}
use Rattle.vf_parse_term.specs.Terms.{rest_at, operand_at, joined_by}
use Rattle.vf_parse_pattern.specs.Patterns.{terms_of}
use Rattle.vf_parse_chunk.specs.declared.pieces.Value.TheVariants as values
use Rattle.vf_parse_chunk.specs.declared.pieces.Piece.{Piece}
use Rattle.vf_parse_chunk.specs.declared.pieces.Piece.TheVariants as pieces
use Rattle.vf_parse_chunk.specs.declared.pieces.Front.TheVariants as fronts
use Rattle.vf_parse_chunk.specs.declared.pieces.Begun.TheVariants as begun
use Rattle.vf_parse_chunk.specs.Pieces.{unshared}
use Rattle.vf_parse_chunk.specs.Chunks.{sees_operator, goes_further, applied_at, named_at, front_at, cell_at, shared_at, begun_at, ended_at}
use Rattle.vf_grammar_read.proofs.expressions.Same.{some_same, no_true}
use Rattle.vf_grammar_read.proofs.expressions.Fronts.{Class, a_mark, a_word, a_name, a_number, a_character, class_mark, class_word, Front, gone, at_stays, mark_front, word_front, identifier_front, number_front}
use Rattle.vf_grammar_read.proofs.expressions.Taken.{here_read, mark_read, word_read, name_read, name_here}
use Rattle.vf_grammar_read.proofs.expressions.Begins.{loose}
use Rattle.vf_grammar_read.specs.terms.Laws.{goes_on_with_term}
use Rattle.vf_grammar_read.proofs.terms.Eaten.{term_eats}
use Rattle.vf_grammar_read.proofs.terms.Begins.{class_term, behind, term_begins}
use Rattle.vf_grammar_read.proofs.terms.Behind.{Looser, front_looser, unopened, binary_hold, ended}
use Rattle.vf_grammar_read.proofs.terms.TermsFull.{most_loose, joined_full, operand_full}
use Rattle.vf_grammar_read.proofs.patterns.SharesFull.{name_front, share_front, share_full}
use Rattle.vf_grammar_read.proofs.patterns.PatternsFull.{pattern_full, list_front, patterns_full}
use Rattle.vf_grammar_read.specs.chunks.Laws.{goes_on_with_part, is_whole, piece_of, behind_begun}
use Rattle.vf_grammar_read.proofs.chunks.Operands.{Next, alone, operator, first_of, seen}

-- arguments as patterns
pub as_patterns : GhostExprTrees → List Pattern
as_patterns no_ghost_expr = []
as_patterns (more_ghost_expr x xs) = patterns.Is x ∷ as_patterns xs

more_as : (xs : GhostExprTrees) → more_ghost_arguments xs ≡ behind_commas Ghost pattern (as_patterns xs)
unfolding as_patterns pattern
more_as no_ghost_expr = refl
more_as (more_ghost_expr x xs) = ap (λ (W : Walk). mark Ghost punctuators.Comma ⨾ ghost_expr x ⨾ W) (more_as xs)

separated_as : (xs : GhostExprTrees) → ghost_arguments xs ≡ separated Ghost pattern (as_patterns xs)
unfolding as_patterns pattern
separated_as no_ghost_expr = refl
separated_as (more_ghost_expr x xs) = ap (λ (W : Walk). ghost_expr x ⨾ W) (more_as xs)

pub nesting_as : (xs : GhostExprTrees) → ghost_arguments_nesting xs ≡ greatest pattern_nesting (as_patterns xs)
unfolding as_patterns
nesting_as no_ghost_expr = refl
nesting_as (more_ghost_expr x xs) = ap (λ (n : ℕ). max (ghost_nesting x + 1) n) (nesting_as xs)

pub values_as : (xs : GhostExprTrees) → are_value_patterns (as_patterns xs) ≡ true
unfolding as_patterns
values_as no_ghost_expr = refl
values_as (more_ghost_expr x xs) = values_as xs

pub terms_as : (xs : GhostExprTrees) → ghost_expr_list (terms_of (as_patterns xs)) ≡ xs
unfolding as_patterns
terms_as no_ghost_expr = refl
terms_as (more_ghost_expr x xs) = ap (more_ghost_expr x) (terms_as xs)

pub arguments_listed : (xs : GhostExprTrees) (ts rest : List Token) → (mark Ghost punctuators.OpenParenthesis ⨾ ghost_arguments xs ⨾ mark Ghost punctuators.CloseParenthesis) ts ≡ Some rest → pattern_list (as_patterns xs) ts ≡ Some rest
unfolding pattern_list
arguments_listed xs ts rest h = subst (λ (W : Walk). (mark Ghost punctuators.OpenParenthesis ⨾ W ⨾ mark Ghost punctuators.CloseParenthesis) ts ≡ Some rest) (separated_as xs) h

unnamed : (d : ℕ) (a : GhostExprTree) (ts mid : List Token) → head_has (is_name Ghost) ts ≡ false → operand_at d ts ≡ ok a mid → front_at d ts ≡ ok (fronts.Operand a) mid
unfolding front_at
unnamed d a ts mid h e = rw (h, e) refl

lone_name : (d : ℕ) (p : Place) (x : List ℕ) (ts mid : List Token) → ghost_expr (exprs.name_ p x) ts ≡ Some mid → Looser 2 mid → front_at d ts ≡ ok (fronts.Operand (exprs.name_ p x)) mid
unfolding front_at named_at
lone_name d p x ts mid h lo =
    let g = gone (at p ts) h in
    let f = behind p g.1 (identifier_front Ghost x g.0 mid g.2) in
    rw (f.names_are, name_here Ghost x p ts g.0 mid g.1 g.2, unopened mid (omega (arith, lo))) refl

applied_name : (d : ℕ) (p : Place) (x : List ℕ) (xs : GhostExprTrees) (ts mid : List Token) → ghost_expr (exprs.application p x xs) ts ≡ Some mid → ghost_nesting (exprs.application p x xs) ≤ d → Looser 2 mid → goes_further mid ≡ true → front_at d ts ≡ ok (fronts.Operand (exprs.application p x xs)) mid
unfolding front_at named_at applied_at
applied_name d p x xs ts mid h deep lo further =
    let g = gone (at p ts) h in
    let n = gone (identifier Ghost x g.0) g.2 in
    let f = behind p g.1 (identifier_front Ghost x g.0 n.0 n.1) in
    let list : pattern_list (as_patterns xs) n.0 ≡ Some mid = arguments_listed xs n.0 mid n.2 in
    let low : greatest pattern_nesting (as_patterns xs) ≤ d = omega (arith, deep, nesting_as xs) in
    let all = terms_as xs in
    rw (f.names_are, name_here Ghost x p ts g.0 n.0 g.1 n.1, (list_front (as_patterns xs) n.0 mid list).marks_are punctuators.OpenParenthesis, patterns_full d (as_patterns xs) n.0 mid list low, unopened mid (omega (arith, lo)), values_as xs, further) (λ i. ok (fronts.Operand (exprs.application p x (all i))) mid)

front_full : (d : ℕ) (a : GhostExprTree) (ts mid : List Token) → ghost_expr a ts ≡ Some mid → ghost_rank a ≤ 2 → ghost_nesting a ≤ d → Looser 2 mid → (is_application a ≡ true → goes_further mid ≡ true) → front_at d ts ≡ ok (fronts.Operand a) mid
front_full d (exprs.number p n ty) ts mid h low deep lo further = let g = gone (at p ts) h in unnamed d _ ts mid ((behind p g.1 (number_front Ghost n ty g.0 mid g.2)).names_are) (operand_full d (exprs.number p n ty) ts mid h (omega (arith, deep)) low lo)
front_full d (exprs.true_ p) ts mid h low deep lo further = let g = gone (at p ts) h in unnamed d _ ts mid ((behind p g.1 (word_front Ghost _ g.0 mid g.2)).names_are) (operand_full d (exprs.true_ p) ts mid h (omega (arith, deep)) low lo)
front_full d (exprs.false_ p) ts mid h low deep lo further = let g = gone (at p ts) h in unnamed d _ ts mid ((behind p g.1 (word_front Ghost _ g.0 mid g.2)).names_are) (operand_full d (exprs.false_ p) ts mid h (omega (arith, deep)) low lo)
front_full d (exprs.result p) ts mid h low deep lo further = let g = gone (at p ts) h in unnamed d _ ts mid ((behind p g.1 (word_front Ghost _ g.0 mid g.2)).names_are) (operand_full d (exprs.result p) ts mid h (omega (arith, deep)) low lo)
front_full d (exprs.this_ p) ts mid h low deep lo further = let g = gone (at p ts) h in unnamed d _ ts mid ((behind p g.1 (word_front Ghost _ g.0 mid g.2)).names_are) (operand_full d (exprs.this_ p) ts mid h (omega (arith, deep)) low lo)
front_full d (exprs.current_thread p) ts mid h low deep lo further = let g = gone (at p ts) h in unnamed d _ ts mid ((behind p g.1 (word_front Ghost _ g.0 mid g.2)).names_are) (operand_full d (exprs.current_thread p) ts mid h (omega (arith, deep)) low lo)
front_full d (exprs.name_ p x) ts mid h low deep lo further = lone_name d p x ts mid h lo
front_full d (exprs.application p x xs) ts mid h low deep lo further = applied_name d p x xs ts mid h deep lo (further refl)
front_full d (exprs.parenthesized p a) ts mid h low deep lo further =
    let g = gone (at p ts) h in let m = gone (mark Ghost punctuators.OpenParenthesis g.0) g.2 in
    unnamed d _ ts mid ((behind p g.1 (mark_front Ghost _ g.0 m.0 m.1)).names_are) (operand_full d (exprs.parenthesized p a) ts mid h (omega (arith, deep)) low lo)
front_full d (exprs.conditional p c a b) ts mid h low deep lo further =
    let g = gone (at p ts) h in let m = gone (mark Ghost punctuators.OpenParenthesis g.0) g.2 in
    unnamed d _ ts mid ((behind p g.1 (mark_front Ghost _ g.0 m.0 m.1)).names_are) (operand_full d (exprs.conditional p c a b) ts mid h (omega (arith, deep)) low lo)
front_full d (exprs.unary p o a) ts mid h low deep lo further =
    let g = gone (at p ts) h in let m = gone (mark Ghost (unary_mark o) g.0) g.2 in
    unnamed d _ ts mid ((behind p g.1 (mark_front Ghost _ g.0 m.0 m.1)).names_are) (operand_full d (exprs.unary p o a) ts mid h (omega (arith, deep)) low lo)
front_full d (exprs.chain p l a xs) ts mid h low deep lo further = absurd (omega (arith, low, loose l))

-- an operator goes further
operated : (o : BinaryOperator) (ts : List Token) → Front Ghost (a_mark (binary_mark o)) ts → goes_further ts ≡ true
unfolding goes_further
operated o ts f = rw (seen o ts f) refl

-- an operand, and what goes on with it, from the same tokens
behind_operand : (u : Parser GhostExprTree) (k : Place → GhostExprTree → Parser GhostExprTree) (q : Place) (a e : GhostExprTree) (ts mid rest : List Token) → here_at ts ≡ ok q ts → u ts ≡ ok a mid → joined_by u k ts ≡ ok e rest → k q a mid ≡ ok e rest
unfolding joined_by
behind_operand u k q a e ts mid rest h r w = rw (h, r) at w

-- the first operand of an expression is read as a front, and the expression behind it
record Opened (d : ℕ) (q : Place) (e : GhostExprTree) (ts rest : List Token) : Type 0 where
  operand : GhostExprTree
  mid : List Token
  front : front_at d ts ≡ ok (fronts.Operand operand) mid
  whole : rest_at (operand_at d) 6 q operand mid ≡ ok e rest

opened : (d : ℕ) (q : Place) (e : GhostExprTree) (ts rest : List Token) → here_at ts ≡ ok q ts → ghost_expr e ts ≡ Some rest → ghost_nesting e ≤ d → Looser 8 rest → (is_application e ≡ true → goes_further rest ≡ true) → Opened d q e ts rest
opened d q e ts rest here h deep lo further =
    let f = first_of e ts rest h in
    let low = f.low in
    let under : ghost_nesting f.operand ≤ d = omega (arith, low, deep) in
    let under_too : ghost_nesting f.operand + 0 ≤ d = omega (arith, under) in
    let all_under : ghost_nesting e + 0 ≤ d = omega (arith, deep) in
    let held = held_by f.operand f.mid f.next in
    let read = operand_full d f.operand ts f.mid f.walk under_too f.close held in
    let all = joined_full (operand_at d) d (operand_full d) 6 (omega arith) e ts rest h all_under (most_loose e) lo in
    record { operand = f.operand; mid = f.mid; front = front_full d f.operand ts f.mid f.walk f.close under held (further_by f.operand f.mid f.next); whole = behind_operand (operand_at d) (rest_at (operand_at d) 6) q f.operand e ts f.mid rest here read all }
  where
    held_by : (a : GhostExprTree) (mid : List Token) → Next e a mid rest → Looser 2 mid
    held_by a mid (alone same s) = subst (λ us. Looser 2 us) (sym s) (omega (arith, lo))
    held_by a mid (operator o f) = front_looser 2 _ mid f (omega (arith, binary_hold o, loose (level_of o)))

    further_by : (a : GhostExprTree) (mid : List Token) → Next e a mid rest → is_application a ≡ true → goes_further mid ≡ true
    further_by a mid (alone same s) k = subst (λ us. goes_further us ≡ true) (sym s) (further (subst (λ y. is_application y ≡ true) (sym same) k))
    further_by a mid (operator o f) k = operated o mid f

-- no expression begins with a `[` or with `emp`
unshared_class : (c : Class) → class_term c ≡ true → class_mark c punctuators.OpenBracket ≡ false
unshared_class (a_mark punctuators.OpenParenthesis) h = refl
unshared_class (a_mark punctuators.Minus) h = refl
unshared_class (a_mark punctuators.Not) h = refl
unshared_class (a_mark p) h = no_true h
unshared_class (a_word k) h = refl
unshared_class a_name h = refl
unshared_class a_number h = refl
unshared_class a_character h = refl

filled : (c : Class) → class_term c ≡ true → class_word c keywords.Emp ≡ false
filled (a_mark p) h = refl
filled (a_word keywords.True) h = refl
filled (a_word keywords.False) h = refl
filled (a_word keywords.Result) h = refl
filled (a_word keywords.This) h = refl
filled (a_word keywords.CurrentThread) h = refl
filled (a_word k) h = no_true h
filled a_name h = refl
filled a_number h = refl
filled a_character h = refl

negated : (a b : Bool) → (not a || b) ≡ true → a ≡ true → b ≡ true
negated true b h k = h
negated false b h k = no_true k

pub term_begun : (k : GhostExprTree → Parser Piece) (d : ℕ) (p : Place) (e : GhostExprTree) (ts rest : List Token) → at p ts ≡ Some ts → ghost_expr e ts ≡ Some rest → ghost_nesting e ≤ d → Looser 8 rest
    → (not (is_application e) || goes_further rest) ≡ true → (begun_at d p ts >>= λ b. behind_begun k d p b.0 b.1) ≡ k e rest
unfolding begun_at
term_begun k d p e ts rest here h deep lo further =
    let b = term_begins e ts rest h in
    let o = opened d p e ts rest (here_read p ts ts here) h deep lo (negated (is_application e) (goes_further rest) further) in
    rw (b.front.marks_are punctuators.OpenBracket ∙ unshared_class b.class b.begins, b.front.words_are keywords.Emp ∙ filled b.class b.begins, o.front, o.whole) refl

pub term_ended : (d : ℕ) (p : Place) (e : GhostExprTree) (rest : List Token) → is_application e ≡ false → head_has (is_mark Ghost punctuators.Arrow) rest ≡ false → ended_at d p e rest ≡ ok (pieces.Value (values.Term p e)) rest
unfolding ended_at
term_ended d p e rest a h = rw (h, a) refl

-- the rest of a cell
cell_full : (d : ℕ) (p : Place) (s : Option Share) (e : GhostExprTree) (f : Name) (v : Pattern) (ts rest : List Token) → (mark Ghost punctuators.Arrow ⨾ name Ghost f ⨾ mark Ghost punctuators.PointsTo ⨾ pattern v) ts ≡ Some rest → pattern_nesting v ≤ d → Looser 8 rest
    → cell_at d p s e ts ≡ ok (pieces.Other (tree.cell p s e f v)) rest
unfolding cell_at
cell_full d p s e f v ts rest h deep lo =
    let a = gone (mark Ghost punctuators.Arrow ts) h in
    let n = gone (name Ghost f a.0) a.2 in
    let b = gone (mark Ghost punctuators.PointsTo n.0) n.2 in
    rw ((mark_read Ghost _ ts a.0 a.1).1, name_read Ghost f a.0 n.0 n.1, (mark_read Ghost _ n.0 b.0 b.1).1, pattern_full d v b.0 rest b.2 deep lo) refl

pub cell_ended : (d : ℕ) (p : Place) (e : GhostExprTree) (f : Name) (v : Pattern) (ts rest : List Token) → (mark Ghost punctuators.Arrow ⨾ name Ghost f ⨾ mark Ghost punctuators.PointsTo ⨾ pattern v) ts ≡ Some rest → pattern_nesting v ≤ d → Looser 8 rest
    → ended_at d p e ts ≡ ok (pieces.Other (tree.cell p None e f v)) rest
unfolding ended_at
cell_ended d p e f v ts rest h deep lo =
    let a = gone (mark Ghost punctuators.Arrow ts) h in
    rw ((mark_front Ghost punctuators.Arrow ts a.0 a.1).marks_are punctuators.Arrow) (cell_full d p None e f v ts rest h deep lo)

no_and : (b c : Bool) → c ≡ false → (b && c) ≡ false
no_and true c h = h
no_and false c h = refl

-- what stands behind does not go on with a part
pub record Stops (rest : List Token) : Type 0 where
  pub no_term : Looser 8 rest
  pub no_further : goes_further rest ≡ false

pub stops : (rest : List Token) → goes_on_with_part rest ≡ false → Stops rest
unfolding goes_on_with_part
stops rest h = let a = or_parts (goes_on_with_term rest) _ h in record { no_term = ended rest a.0; no_further = a.1 }

applied_full : (d : ℕ) (n : Name) (xs : List Pattern) (ys : Option (List Pattern)) (ts rest : List Token) → optional pattern_list ys ts ≡ Some rest → or_none (greatest pattern_nesting) ys ≤ d → Stops rest → applied_at d n xs ts ≡ ok (fronts.Chunk n xs ys) rest
unfolding applied_at
applied_full d n xs None ts rest h deep s =
    let same : ts ≡ rest = some_same h in
    let back = sym same in
    let open_ = subst (λ us. head_has (is_mark Ghost punctuators.OpenParenthesis) us ≡ false) back (unopened rest (omega (arith, s.no_term))) in
    let further = subst (λ us. goes_further us ≡ false) back s.no_further in
    rw (open_, no_and (are_value_patterns xs) _ further) (λ i. ok (fronts.Chunk n xs None) (same i))
applied_full d n xs (Some ys) ts rest h deep s =
    rw ((list_front ys ts rest h).marks_are punctuators.OpenParenthesis, patterns_full d ys ts rest h deep) refl

chunk_front : (d : ℕ) (n : Name) (xs : List Pattern) (ys : Option (List Pattern)) (ts rest : List Token) → (name Ghost n ⨾ pattern_list xs ⨾ optional pattern_list ys) ts ≡ Some rest → greatest pattern_nesting xs ≤ d → or_none (greatest pattern_nesting) ys ≤ d → Stops rest
    → front_at d ts ≡ ok (fronts.Chunk n xs ys) rest
unfolding front_at named_at
chunk_front d n xs ys ts rest h one two s =
    let a = gone (name Ghost n ts) h in
    let b = gone (pattern_list xs a.0) a.2 in
    rw ((name_front n ts a.0 a.1).names_are, name_read Ghost n ts a.0 a.1, (list_front xs a.0 b.0 b.1).marks_are punctuators.OpenParenthesis, patterns_full d xs a.0 b.0 b.1 one) (applied_full d n xs ys b.0 rest b.2 two s)

-- a chunk without a share
chunk_whole : (d : ℕ) (p : Place) (n : Name) (xs : List Pattern) (ys : Option (List Pattern)) (ts rest : List Token) → (name Ghost n ⨾ pattern_list xs ⨾ optional pattern_list ys) ts ≡ Some rest → greatest pattern_nesting xs ≤ d → or_none (greatest pattern_nesting) ys ≤ d → Stops rest
    → begun_at d p ts ≡ ok (begun.Whole (unshared p n xs ys)) rest
unfolding begun_at
chunk_whole d p n xs ys ts rest h one two s =
    let a = gone (name Ghost n ts) h in
    let f = name_front n ts a.0 a.1 in
    rw (f.marks_are punctuators.OpenBracket, f.words_are keywords.Emp, chunk_front d n xs ys ts rest h one two s) refl

-- a place is read where something stands
here_name : (n : Name) (ts rest : List Token) → name Ghost n ts ≡ Some rest → (p : Place) × (here_at ts ≡ ok p ts)
unfolding name
here_name n ts rest h =
    let g = gone (at n.place ts) h in
    let back = sym (at_stays n.place ts g.0 g.1) in
    (n.place, subst (λ us. here_at ts ≡ ok n.place us) back (here_read n.place ts g.0 g.1))

here_some : (x : GhostExprTree) (ts rest : List Token) → ghost_expr x ts ≡ Some rest → (p : Place) × (here_at ts ≡ ok p ts)
unfolding here_at
here_some x [] rest h = absurd (omega (arith, (term_eats x).eat [] rest h))
here_some x (t ∷ ts) rest h = (t.place, refl)

shared_chunk : (d : ℕ) (p : Place) (s : Share) (n : Name) (xs : List Pattern) (ys : Option (List Pattern)) (ts rest : List Token) → (share s ⨾ name Ghost n ⨾ pattern_list xs ⨾ optional pattern_list ys) ts ≡ Some rest
    → greatest pattern_nesting xs ≤ d → or_none (greatest pattern_nesting) ys ≤ d → Stops rest → begun_at d p ts ≡ ok (begun.Whole (pieces.Other (tree.chunk p (Some s) n xs ys))) rest
unfolding begun_at shared_at
shared_chunk d p s n xs ys ts rest h one two stop =
    let a = gone (share s ts) h in
    let b = gone (name Ghost n a.0) a.2 in
    let q = here_name n a.0 b.0 b.1 in
    rw ((share_front s ts a.0 a.1).marks_are punctuators.OpenBracket, share_full s ts a.0 a.1, q.1, chunk_front d n xs ys a.0 rest a.2 one two stop) refl

or_true : (a b : Bool) → (a || true || b) ≡ true
or_true true b = refl
or_true false b = refl

pub arrow_further : (ts : List Token) → Front Ghost (a_mark punctuators.Arrow) ts → goes_further ts ≡ true
unfolding goes_further
arrow_further ts f = rw (f.marks_are punctuators.Arrow) (or_true (sees_operator ts) _)

shared_cell : (d : ℕ) (p : Place) (s : Share) (e : GhostExprTree) (f : Name) (v : Pattern) (ts rest : List Token) → (share s ⨾ ghost_expr e ⨾ mark Ghost punctuators.Arrow ⨾ name Ghost f ⨾ mark Ghost punctuators.PointsTo ⨾ pattern v) ts ≡ Some rest
    → ghost_nesting e ≤ d → pattern_nesting v ≤ d → Stops rest → begun_at d p ts ≡ ok (begun.Whole (pieces.Other (tree.cell p (Some s) e f v))) rest
unfolding begun_at shared_at
shared_cell d p s e f v ts rest h one two stop =
    let a = gone (share s ts) h in
    let b = gone (ghost_expr e a.0) a.2 in
    let c = gone (mark Ghost punctuators.Arrow b.0) b.2 in
    let q = here_some e a.0 b.0 b.1 in
    let arrow = mark_front Ghost punctuators.Arrow b.0 c.0 c.1 in
    let o = opened d q.0 e a.0 b.0 q.1 b.1 one (front_looser 8 _ b.0 arrow (omega arith)) (λ k. arrow_further b.0 arrow) in
    rw ((share_front s ts a.0 a.1).marks_are punctuators.OpenBracket, share_full s ts a.0 a.1, q.1, o.front, o.whole, cell_full d p (Some s) e f v b.0 rest b.2 two stop.no_term) refl

empty_whole : (d : ℕ) (p : Place) (ts rest : List Token) → word Ghost keywords.Emp ts ≡ Some rest → begun_at d p ts ≡ ok (begun.Whole (pieces.Other (tree.empty_ p))) rest
unfolding begun_at
empty_whole d p ts rest h =
    let f = word_front Ghost keywords.Emp ts rest h in
    rw (f.marks_are punctuators.OpenBracket, f.words_are keywords.Emp, (word_read Ghost _ ts rest h).1) refl

-- a place at which a part stands is its own, and the part stands there
record Placed (p r : Place) (w : Walk) (ts rest : List Token) : Type 0 where
  same : r ≡ p
  walk : w ts ≡ Some rest

placed : (p r : Place) (w : Walk) (ts rest : List Token) → at p ts ≡ Some ts → (at r ⨾ w) ts ≡ Some rest → Placed p r w ts rest
placed p r w ts rest here h =
    let g = gone {g = w} (at r ts) h in
    record { same = (ok_pair r p g.0 ts (sym (here_read r ts g.0 g.1) ∙ here_read p ts ts here)).0; walk = subst (λ us. w us ≡ Some rest) (sym (at_stays r ts g.0 g.1)) g.2 }

pub whole_full : (d : ℕ) (p : Place) (x : PartTree) (ts rest : List Token) → at p ts ≡ Some ts → part x ts ≡ Some rest → is_whole x ≡ true → part_nesting x ≤ d → Stops rest → begun_at d p ts ≡ ok (begun.Whole (piece_of x)) rest
whole_full d p (tree.chunk r None n xs ys) ts rest here h w deep stop =
    let k = placed p r (name Ghost n ⨾ pattern_list xs ⨾ optional pattern_list ys) ts rest here h in
    let same = k.same in
    subst (λ (q : Place). begun_at d p ts ≡ ok (begun.Whole (unshared q n xs ys)) rest) (sym same) (chunk_whole d p n xs ys ts rest k.walk (omega (arith, deep)) (omega (arith, deep)) stop)
whole_full d p (tree.chunk r (Some s) n xs ys) ts rest here h w deep stop =
    let k = placed p r (share s ⨾ name Ghost n ⨾ pattern_list xs ⨾ optional pattern_list ys) ts rest here h in
    let same = k.same in
    subst (λ (q : Place). begun_at d p ts ≡ ok (begun.Whole (pieces.Other (tree.chunk q (Some s) n xs ys))) rest) (sym same) (shared_chunk d p s n xs ys ts rest k.walk (omega (arith, deep)) (omega (arith, deep)) stop)
whole_full d p (tree.cell r (Some s) e f v) ts rest here h w deep stop =
    let k = placed p r (share s ⨾ ghost_expr e ⨾ mark Ghost punctuators.Arrow ⨾ name Ghost f ⨾ mark Ghost punctuators.PointsTo ⨾ pattern v) ts rest here h in
    let same = k.same in
    subst (λ (q : Place). begun_at d p ts ≡ ok (begun.Whole (pieces.Other (tree.cell q (Some s) e f v))) rest) (sym same) (shared_cell d p s e f v ts rest k.walk (omega (arith, deep)) (omega (arith, deep)) stop)
whole_full d p (tree.cell r None e f v) ts rest here h w deep stop = no_true w
whole_full d p (tree.empty_ r) ts rest here h w deep stop =
    let k = placed p r (word Ghost keywords.Emp) ts rest here h in
    let same = k.same in
    subst (λ (q : Place). begun_at d p ts ≡ ok (begun.Whole (pieces.Other (tree.empty_ q))) rest) (sym same) (empty_whole d p ts rest k.walk)
whole_full d p (tree.conditional r c a b) ts rest here h w deep stop = no_true w
whole_full d p (tree.switch_ r e cs) ts rest here h w deep stop = no_true w
whole_full d p (tree.pure r e) ts rest here h w deep stop = no_true w
whole_full d p (tree.group r a) ts rest here h w deep stop = no_true w
