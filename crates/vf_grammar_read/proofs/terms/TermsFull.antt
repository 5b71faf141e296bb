-- Expressions of ghost text that are spelled are read, where what stands behind does not go on with them.
use Rattle.std.proofs.Common.{◌≡◌, ℕ, zero, suc, ◌+◌, ◌≤◌, ◌<◌, max, true, false, ◌&&◌, List, [], ◌∷◌, length, Some, None, Result, Ok, Err, refl, sym, subst, ap, ◌∙◌, ◌⊎◌, inl, inr, arith, nat_eq}
use Rattle.std.specs.Prelude.{nat_le}
use Rattle.std.proofs.lemmas.Bool.{leb-true, ltb-true, eqb-true, cases_eq}
use Rattle.vf_base.specs.declared.place.Place.{Place}
use Rattle.vf_lexer.specs.declared.punctuator.Punctuator.TheVariants as punctuators
use Rattle.vf_lexer.specs.declared.token.Token.{Token}
use Rattle.vf_syntax.specs.declared.keyword.Keyword.TheVariants as keywords
use Rattle.vf_syntax.specs.declared.side.Side.TheVariants.{Ghost}
use Rattle.vf_syntax.specs.declared.operator.UnaryOperator.{UnaryOperator}
use Rattle.vf_syntax.specs.declared.operator.UnaryOperator.TheVariants as unaries
use Rattle.vf_syntax.specs.declared.operator.BinaryOperator.{BinaryOperator}
use Rattle.vf_syntax.specs.declared.operator.Level.{Level}
use Rattle.vf_syntax.specs.declared.operator.Level.TheVariants as levels
use Rattle.vf_syntax.specs.GhostExprTree.{GhostExprTree, GhostExprTrees, GhostLinkTree, GhostLinkTrees, no_ghost_expr, more_ghost_expr, no_ghost_link, more_ghost_link, ghost_expr_list, ghost_link_list}
use Rattle.vf_syntax.specs.GhostExprTree as tree
use Rattle.vf_syntax.specs.Walks.{Walk, ◌⨾◌, provided, at, mark, identifier, head_has, is_mark}
use Rattle.vf_syntax.specs.Written.{unary_mark, unary_of, binary_mark, level_of, looseness}
use Rattle.vf_syntax.specs.Lists.{behind_commas, separated, greatest}
use Rattle.vf_syntax.specs.GhostExpressions as spelled
use Rattle.vf_syntax.specs.GhostExpressions.{ghost_expr, ghost_links, ghost_arguments, more_ghost_arguments, ghost_nesting, ghost_link_nesting, ghost_links_nesting, ghost_arguments_nesting, ghost_rank, is_ghost_operand, has_ghost_links, ghost_joins_on}
use Rattle.vf_cursor.specs.declared.fault.Fault.{Fault}
use Rattle.vf_cursor.specs.Parsing.{Parser, ok, ◌>>=◌, here_at, item_step}
use Rattle.vf_cursor.specs.Types.{next_unary, next_mark, found_then}
use Rattle.vf_cursor.proofs.Facts.{ok_pair}
use Rattle.vf_cursor.proofs.Loop.{many_stops}
use Rattle.vf_parse_expression.proofs.Collected.{Collects}
use Rattle.vf_parse_term.specs.Terms.{literal_at, constant_at, arguments_at, named_at, second_branch_at, branches_at, parenthesized_at, primary_form_at, primary_at, signed_at, level_above, joins, link_at, link_step, chained, chain_at, joined_by, rest_at, joined_at, term_at, branch_at, unary_at, operand_at}
use Rattle.vf_parse_term.specs.Laws.{term_depth}
use Rattle.vf_grammar_read.proofs.expressions.Same.{no_true, both}
use Rattle.vf_grammar_read.proofs.expressions.Fronts.{Class, a_mark, a_word, a_name, a_number, a_character, class_next, Front, gone, at_stays, mark_front, word_front, identifier_front, number_front}
use Rattle.vf_grammar_read.proofs.expressions.Taken.{here_read, mark_read, mark_here, word_read, name_here, number_read}
use Rattle.vf_grammar_read.proofs.expressions.Begins.{met, loose}
use Rattle.vf_grammar_read.proofs.expressions.Behind.{level_same}
use Rattle.vf_grammar_read.proofs.expressions.Items.{Item, first_fine, items_full}
use Rattle.vf_grammar_read.specs.terms.Laws.{goes_on_with_term}
use Rattle.vf_grammar_read.proofs.terms.Lists.{Listed, any_full}
use Rattle.vf_grammar_read.proofs.terms.Eaten.{term_eats, ghost_link_eats}
use Rattle.vf_grammar_read.proofs.terms.Begins.{class_primary, behind, term_begins, unclosed}
use Rattle.vf_grammar_read.proofs.terms.Behind.{Looser, front_looser, unopened, no_join, next_found, joined, binary_hold, ended}
use Rattle.vf_grammar_read.proofs.terms.SortsFull.{stands}

-- an expression that is spelled, holds together so closely, nests no deeper than it may, with k more, and stands before what holds looser, is read
abbrev pub Full : ℕ → ℕ → ℕ → Parser GhostExprTree → Type 0
Full k r d p = (x : GhostExprTree) (ts rest : List Token) → ghost_expr x ts ≡ Some rest → ghost_nesting x + k ≤ d → ghost_rank x ≤ r → Looser r rest → p ts ≡ ok x rest

-- lists of trees as they stand in a tree
pub expr_items : GhostExprTrees → List GhostExprTree
expr_items no_ghost_expr = []
expr_items (more_ghost_expr x xs) = x ∷ expr_items xs

pub expr_items_are : (xs : GhostExprTrees) → ghost_expr_list (expr_items xs) ≡ xs
unfolding expr_items
expr_items_are no_ghost_expr = refl
expr_items_are (more_ghost_expr x xs) = ap (more_ghost_expr x) (expr_items_are xs)

more_are : (xs : GhostExprTrees) → more_ghost_arguments xs ≡ behind_commas Ghost ghost_expr (expr_items xs)
unfolding expr_items
more_are no_ghost_expr = refl
more_are (more_ghost_expr x xs) = ap (λ (W : Walk). mark Ghost punctuators.Comma ⨾ ghost_expr x ⨾ W) (more_are xs)

pub separated_are : (xs : GhostExprTrees) → ghost_arguments xs ≡ separated Ghost ghost_expr (expr_items xs)
unfolding expr_items
separated_are no_ghost_expr = refl
separated_are (more_ghost_expr x xs) = ap (λ (W : Walk). ghost_expr x ⨾ W) (more_are xs)

pub nesting_is : (xs : GhostExprTrees) → ghost_arguments_nesting xs ≡ greatest term_depth (expr_items xs)
unfolding expr_items
nesting_is no_ghost_expr = refl
nesting_is (more_ghost_expr x xs) = ap (λ (n : ℕ). max (ghost_nesting x + 1) n) (nesting_is xs)

link_items : GhostLinkTrees → List GhostLinkTree
link_items no_ghost_link = []
link_items (more_ghost_link x xs) = x ∷ link_items xs

link_items_are : (xs : GhostLinkTrees) → ghost_link_list (link_items xs) ≡ xs
unfolding link_items
link_items_are no_ghost_link = refl
link_items_are (more_ghost_link x xs) = ap (more_ghost_link x) (link_items_are xs)

pub links_collect : (l : Level) → Collects (spelled.ghost_link l) ghost_link_nesting (λ (xs : List GhostLinkTree). ghost_links l (ghost_link_list xs)) (λ (xs : List GhostLinkTree). ghost_links_nesting (ghost_link_list xs))
links_collect l = record { nothing_walk = λ ts. refl; item_walk = λ x xs ts. refl; nothing_deep = refl; item_deep = λ x xs. refl }

level_loose : (l : Level) → looseness l ≤ 8
level_loose levels.Multiplicative = omega arith
level_loose levels.Additive = omega arith
level_loose levels.Relational = omega arith
level_loose levels.Equality = omega arith
level_loose levels.And = omega arith
level_loose levels.Or = omega arith

pub most_loose : (x : GhostExprTree) → ghost_rank x ≤ 8
most_loose (tree.number p n ty) = omega arith
most_loose (tree.true_ p) = omega arith
most_loose (tree.false_ p) = omega arith
most_loose (tree.result p) = omega arith
most_loose (tree.this_ p) = omega arith
most_loose (tree.current_thread p) = omega arith
most_loose (tree.name_ p x) = omega arith
most_loose (tree.application p f xs) = omega arith
most_loose (tree.parenthesized p a) = omega arith
most_loose (tree.conditional p c a b) = omega arith
most_loose (tree.unary p o a) = omega arith
most_loose (tree.chain p l a xs) = level_loose l

term_listed : (e : Parser GhostExprTree) (d : ℕ) → Full 1 8 d e → Listed ghost_expr term_depth d (Looser 8) e
term_listed e d he = record {
  full = λ x ts rest h deep lo. he x ts rest h deep (most_loose x) lo;
  commas = λ ts rest h. front_looser 8 _ ts (mark_front Ghost punctuators.Comma ts rest h) (omega arith);
  eats = term_eats;
}

pub term_open : (x : GhostExprTree) (ts rest : List Token) → ghost_expr x ts ≡ Some rest → head_has (is_mark Ghost punctuators.CloseParenthesis) ts ≡ false
term_open x ts rest h = let b = term_begins x ts rest h in b.front.marks_are punctuators.CloseParenthesis ∙ unclosed b.class b.begins

pub arguments_full : (e : Parser GhostExprTree) (d : ℕ) → Full 1 8 d e → (xs : GhostExprTrees) (ts rest : List Token) → (mark Ghost punctuators.OpenParenthesis ⨾ ghost_arguments xs ⨾ mark Ghost punctuators.CloseParenthesis) ts ≡ Some rest → ghost_arguments_nesting xs ≤ d → arguments_at e ts ≡ ok (expr_items xs) rest
unfolding arguments_at
arguments_full e d he xs ts rest h deep =
    let a = gone (mark Ghost punctuators.OpenParenthesis ts) h in
    let b = gone (ghost_arguments xs a.0) a.2 in
    let z = mark_front Ghost punctuators.CloseParenthesis b.0 rest b.2 in
    let walk : separated Ghost ghost_expr (expr_items xs) a.0 ≡ Some b.0 = subst (λ (W : Walk). W a.0 ≡ Some b.0) (separated_are xs) b.1 in
    let low : greatest term_depth (expr_items xs) ≤ d = omega (arith, deep, nesting_is xs) in
    let read = any_full (is_mark Ghost punctuators.CloseParenthesis) ghost_expr term_depth d (Looser 8) e (term_listed e d he) term_open (expr_items xs) a.0 b.0 walk low (front_looser 8 _ b.0 z (omega arith)) (z.marks_are punctuators.Comma) (z.marks_are punctuators.CloseParenthesis) in
    rw ((mark_read Ghost _ ts a.0 a.1).1, read, (mark_read Ghost _ b.0 rest b.2).1) refl

application_full : (e : Parser GhostExprTree) (d : ℕ) → Full 1 8 d e → (p : Place) (f : List ℕ) (xs : GhostExprTrees) (ts rest : List Token) → (mark Ghost punctuators.OpenParenthesis ⨾ ghost_arguments xs ⨾ mark Ghost punctuators.CloseParenthesis) ts ≡ Some rest → ghost_arguments_nesting xs ≤ d → named_at e p f ts ≡ ok (tree.application p f xs) rest
unfolding named_at
application_full e d he p f xs ts rest h deep =
    let a = gone (mark Ghost punctuators.OpenParenthesis ts) h in
    let o = mark_front Ghost punctuators.OpenParenthesis ts a.0 a.1 in
    let all = expr_items_are xs in
    rw (o.marks_are punctuators.OpenParenthesis, arguments_full e d he xs ts rest h deep) (λ i. ok (tree.application p f (all i)) rest)

plain_name_full : (e : Parser GhostExprTree) (p : Place) (x : List ℕ) (rest : List Token) → Looser 1 rest → named_at e p x rest ≡ ok (tree.name_ p x) rest
unfolding named_at
plain_name_full e p x rest lo = rw (unopened rest lo) refl

branches_full : (f : Parser GhostExprTree) (d : ℕ) → Full 2 8 d f → (p : Place) (c a b : GhostExprTree) (ts rest : List Token)
    → (mark Ghost punctuators.Question ⨾ ghost_expr a ⨾ mark Ghost punctuators.Colon ⨾ ghost_expr b ⨾ mark Ghost punctuators.CloseParenthesis) ts ≡ Some rest
    → ghost_nesting a + 2 ≤ d → ghost_nesting b + 2 ≤ d → branches_at f p c ts ≡ ok (tree.conditional p c a b) rest
unfolding branches_at second_branch_at
branches_full f d hf p c a b ts rest h one two =
    let q = gone (mark Ghost punctuators.Question ts) h in
    let x = gone (ghost_expr a q.0) q.2 in
    let k = gone (mark Ghost punctuators.Colon x.0) x.2 in
    let y = gone (ghost_expr b k.0) k.2 in
    let colon = mark_front Ghost punctuators.Colon x.0 k.0 k.1 in
    let close = mark_front Ghost punctuators.CloseParenthesis y.0 rest y.2 in
    let first : f q.0 ≡ ok a x.0 = hf a q.0 x.0 x.1 one (most_loose a) (front_looser 8 _ x.0 colon (omega arith)) in
    let second : f k.0 ≡ ok b y.0 = hf b k.0 y.0 y.1 two (most_loose b) (front_looser 8 _ y.0 close (omega arith)) in
    rw ((mark_read Ghost _ ts q.0 q.1).1, first, (mark_read Ghost _ x.0 k.0 k.1).1, second, (mark_read Ghost _ y.0 rest y.2).1) refl

-- a primary expression is read
pub primary_full : (e f : Parser GhostExprTree) (d : ℕ) → Full 1 8 d e → Full 2 8 d f → (x : GhostExprTree) (ts rest : List Token) → ghost_expr x ts ≡ Some rest → ghost_nesting x ≤ d → ghost_rank x ≤ 0 → Looser 1 rest → primary_at e f ts ≡ ok x rest
unfolding primary_at primary_form_at constant_at literal_at parenthesized_at
primary_full e f d he hf (tree.number p n ty) ts rest h deep low lo =
    let g = gone (at p ts) h in
    let k = number_front Ghost n ty g.0 rest g.2 in
    rw (here_read p ts g.0 g.1, k.marks_are punctuators.OpenParenthesis, k.names_are, k.words_are keywords.Result, k.words_are keywords.This, k.words_are keywords.CurrentThread, k.words_are keywords.True, k.words_are keywords.False, number_read Ghost n ty g.0 rest g.2) refl
primary_full e f d he hf (tree.true_ p) ts rest h deep low lo =
    let g = gone (at p ts) h in
    let k = word_front Ghost keywords.True g.0 rest g.2 in
    rw (here_read p ts g.0 g.1, k.marks_are punctuators.OpenParenthesis, k.names_are, k.words_are keywords.Result, k.words_are keywords.This, k.words_are keywords.CurrentThread, k.words_are keywords.True, (word_read Ghost _ g.0 rest g.2).1) refl
primary_full e f d he hf (tree.false_ p) ts rest h deep low lo =
    let g = gone (at p ts) h in
    let k = word_front Ghost keywords.False g.0 rest g.2 in
    rw (here_read p ts g.0 g.1, k.marks_are punctuators.OpenParenthesis, k.names_are, k.words_are keywords.Result, k.words_are keywords.This, k.words_are keywords.CurrentThread, k.words_are keywords.True, k.words_are keywords.False, (word_read Ghost _ g.0 rest g.2).1) refl
primary_full e f d he hf (tree.result p) ts rest h deep low lo =
    let g = gone (at p ts) h in
    let k = word_front Ghost keywords.Result g.0 rest g.2 in
    rw (here_read p ts g.0 g.1, k.marks_are punctuators.OpenParenthesis, k.names_are, k.words_are keywords.Result, (word_read Ghost _ g.0 rest g.2).1) refl
primary_full e f d he hf (tree.this_ p) ts rest h deep low lo =
    let g = gone (at p ts) h in
    let k = word_front Ghost keywords.This g.0 rest g.2 in
    rw (here_read p ts g.0 g.1, k.marks_are punctuators.OpenParenthesis, k.names_are, k.words_are keywords.Result, k.words_are keywords.This, (word_read Ghost _ g.0 rest g.2).1) refl
primary_full e f d he hf (tree.current_thread p) ts rest h deep low lo =
    let g = gone (at p ts) h in
    let k = word_front Ghost keywords.CurrentThread g.0 rest g.2 in
    rw (here_read p ts g.0 g.1, k.marks_are punctuators.OpenParenthesis, k.names_are, k.words_are keywords.Result, k.words_are keywords.This, k.words_are keywords.CurrentThread, (word_read Ghost _ g.0 rest g.2).1) refl
primary_full e f d he hf (tree.name_ p x) ts rest h deep low lo =
    let g = gone (at p ts) h in
    let k = identifier_front Ghost x g.0 rest g.2 in
    rw (here_read p ts g.0 g.1, k.marks_are punctuators.OpenParenthesis, k.names_are, name_here Ghost x p g.0 g.0 rest (stands p ts g.0 g.1) g.2) (plain_name_full e p x rest lo)
primary_full e f d he hf (tree.application p x xs) ts rest h deep low lo =
    let g = gone (at p ts) h in
    let n = gone (identifier Ghost x g.0) g.2 in
    let k = identifier_front Ghost x g.0 n.0 n.1 in
    rw (here_read p ts g.0 g.1, k.marks_are punctuators.OpenParenthesis, k.names_are, name_here Ghost x p g.0 g.0 n.0 (stands p ts g.0 g.1) n.1) (application_full e d he p x xs n.0 rest n.2 deep)
primary_full e f d he hf (tree.parenthesized p a) ts rest h deep low lo =
    let g = gone (at p ts) h in
    let m = gone (mark Ghost punctuators.OpenParenthesis g.0) g.2 in
    let x = gone (ghost_expr a m.0) m.2 in
    let k = mark_front Ghost punctuators.OpenParenthesis g.0 m.0 m.1 in
    let z = mark_front Ghost punctuators.CloseParenthesis x.0 rest x.2 in
    let read : e m.0 ≡ ok a x.0 = he a m.0 x.0 x.1 deep (most_loose a) (front_looser 8 _ x.0 z (omega arith)) in
    rw (here_read p ts g.0 g.1, k.marks_are punctuators.OpenParenthesis, (mark_read Ghost _ g.0 m.0 m.1).1, read, z.marks_are punctuators.Question, (mark_read Ghost _ x.0 rest x.2).1) refl
primary_full e f d he hf (tree.conditional p c a b) ts rest h deep low lo =
    let g = gone (at p ts) h in
    let m = gone (mark Ghost punctuators.OpenParenthesis g.0) g.2 in
    let x = gone (ghost_expr c m.0) m.2 in
    let q = gone (mark Ghost punctuators.Question x.0) x.2 in
    let k = mark_front Ghost punctuators.OpenParenthesis g.0 m.0 m.1 in
    let z = mark_front Ghost punctuators.Question x.0 q.0 q.1 in
    let read : e m.0 ≡ ok c x.0 = he c m.0 x.0 x.1 (omega (arith, deep)) (most_loose c) (front_looser 8 _ x.0 z (omega arith)) in
    rw (here_read p ts g.0 g.1, k.marks_are punctuators.OpenParenthesis, (mark_read Ghost _ g.0 m.0 m.1).1, read, z.marks_are punctuators.Question) (branches_full f d hf p c a b x.0 rest x.2 (omega (arith, deep)) (omega (arith, deep)))
primary_full e f d he hf (tree.unary p o a) ts rest h deep low lo = absurd (omega (arith, low))
primary_full e f d he hf (tree.chain p l a xs) ts rest h deep low lo = absurd (omega (arith, low, loose l))

sign_back : (o : UnaryOperator) → unary_of (unary_mark o) ≡ Some o
sign_back unaries.Minus = refl
sign_back unaries.Not = refl

-- an operand with an operator in front
signed_full : (e f u : Parser GhostExprTree) (d : ℕ) → Full 1 2 d u → (p : Place) (o : UnaryOperator) (a : GhostExprTree) (ts rest : List Token) → ghost_expr (tree.unary p o a) ts ≡ Some rest → ghost_nesting (tree.unary p o a) + 0 ≤ d → Looser 2 rest → signed_at e f u ts ≡ ok (tree.unary p o a) rest
unfolding signed_at next_unary
signed_full e f u d hu p o a ts rest h deep lo =
    let g = gone (at p ts) h in
    let m = gone (mark Ghost (unary_mark o) g.0) g.2 in
    let q = gone (provided (nat_le (ghost_rank a) 2) m.0) m.2 in
    let w = met _ m.0 q.0 q.1 in
    let k = behind p g.1 (mark_front Ghost (unary_mark o) g.0 m.0 m.1) in
    let read : u m.0 ≡ ok a rest = rw w.1 (hu a q.0 rest q.2 (omega (arith, deep)) (leb-true (ghost_rank a) 2 w.0) lo) in
    rw (k.next_is, sign_back o, mark_here Ghost _ p ts g.0 m.0 g.1 m.1, read) refl

-- no primary expression begins with an operator
unsigned : (c : Class) → class_primary c ≡ true → found_then (class_next c) unary_of ≡ None
unsigned (a_mark punctuators.OpenParenthesis) h = refl
unsigned (a_mark p) h = no_true h
unsigned (a_word k) h = refl
unsigned a_name h = refl
unsigned a_number h = refl
unsigned a_character h = refl

unsigned_full : (e f u : Parser GhostExprTree) (d : ℕ) → Full 1 8 d e → Full 2 8 d f → (x : GhostExprTree) (ts rest : List Token) → ghost_expr x ts ≡ Some rest → ghost_nesting x + 0 ≤ d → ghost_rank x ≤ 0 → Looser 2 rest → signed_at e f u ts ≡ ok x rest
unfolding signed_at next_unary
unsigned_full e f u d he hf x ts rest h deep low lo =
    let b = term_begins x ts rest h in
    let none : found_then (next_mark Ghost ts) unary_of ≡ None = rw b.front.next_is (unsigned b.class (b.close low)) in
    rw none (primary_full e f d he hf x ts rest h (omega (arith, deep)) low (omega (arith, lo)))

-- an operand is one with an operator in front, or a primary expression
data Operand (x : GhostExprTree) : Type 0 where
  without : ghost_rank x ≤ 0 → Operand x
  with_sign : (p : Place) (o : UnaryOperator) (a : GhostExprTree) → x ≡ tree.unary p o a → Operand x

an_operand : (x : GhostExprTree) → ghost_rank x ≤ 2 → Operand x
an_operand (tree.number p n ty) h = without (omega arith)
an_operand (tree.true_ p) h = without (omega arith)
an_operand (tree.false_ p) h = without (omega arith)
an_operand (tree.result p) h = without (omega arith)
an_operand (tree.this_ p) h = without (omega arith)
an_operand (tree.current_thread p) h = without (omega arith)
an_operand (tree.name_ p x) h = without (omega arith)
an_operand (tree.application p f xs) h = without (omega arith)
an_operand (tree.parenthesized p a) h = without (omega arith)
an_operand (tree.conditional p c a b) h = without (omega arith)
an_operand (tree.unary p o a) h = with_sign p o a refl
an_operand (tree.chain p l a xs) h = absurd (omega (arith, h, loose l))

pub operand_by_full : (e f u : Parser GhostExprTree) (d : ℕ) → Full 1 8 d e → Full 2 8 d f → Full 1 2 d u → Full 0 2 d (signed_at e f u)
operand_by_full e f u d he hf hu x ts rest h deep low lo = by_kind (an_operand x low)
  where
    by_kind : Operand x → signed_at e f u ts ≡ ok x rest
    by_kind (without c) = unsigned_full e f u d he hf x ts rest h deep c lo
    by_kind (with_sign p o a same) =
        subst (λ y. signed_at e f u ts ≡ ok y rest) (sym same)
        (signed_full e f u d hu p o a ts rest (subst (λ y. ghost_expr y ts ≡ Some rest) same h) (subst (λ y. ghost_nesting y + 0 ≤ d) same deep) lo)

-- the operator and the operand of a link stand there
record Linked (l : Level) (x : GhostLinkTree) (ts rest : List Token) : Type 0 where
  place : Place
  operator : BinaryOperator
  operand : GhostExprTree
  parts : x ≡ tree.ghost_link place operator operand
  here : List Token
  inside : List Token
  at_place : at place ts ≡ Some here
  marks : mark Ghost (binary_mark operator) here ≡ Some inside
  walk : ghost_expr operand inside ≡ Some rest
  on_its_level : nat_eq (looseness (level_of operator)) (looseness l) ≡ true
  below : ghost_rank operand < looseness l

linked : (l : Level) (x : GhostLinkTree) (ts rest : List Token) → spelled.ghost_link l x ts ≡ Some rest → Linked l x ts rest
linked l (tree.ghost_link p o a) ts rest h =
    let g = gone (at p ts) h in
    let q = gone (provided (ghost_joins_on l (tree.ghost_link p o a)) g.0) g.2 in
    let w = met _ g.0 q.0 q.1 in
    let m = gone (mark Ghost (binary_mark o) q.0) q.2 in
    let c = both _ _ w.0 in
    record { place = p; operator = o; operand = a; parts = refl; here = g.0; inside = m.0; at_place = g.1; marks = subst (λ us. mark Ghost (binary_mark o) us ≡ Some m.0) (sym w.1) m.1; walk = m.2; on_its_level = c.0; below = ltb-true (ghost_rank a) (looseness l) c.1 }

link_front : (l : Level) (x : GhostLinkTree) (ts rest : List Token) (k : Linked l x ts rest) → Front Ghost (a_mark (binary_mark k.operator)) ts
link_front l x ts rest k = behind k.place k.at_place (mark_front Ghost (binary_mark k.operator) k.here k.inside k.marks)

link_read : (l : Level) (r d : ℕ) (p : Parser GhostExprTree) → suc r ≡ looseness l → Full 0 r d p → (x : GhostLinkTree) (ts rest : List Token) → Linked l x ts rest → ghost_link_nesting x ≤ d → Looser r rest → link_at l p ts ≡ ok x rest
unfolding link_at
link_read l r d p level hp x ts rest k deep lo =
    let same = k.parts in
    let back = sym same in
    let depth : ghost_nesting k.operand + 0 ≤ d = omega (arith, subst (λ (y : GhostLinkTree). ghost_link_nesting y ≤ d) same deep) in
    let found = next_found l k.operator ts (link_front l x ts rest k) k.on_its_level in
    let one = mark_here Ghost (binary_mark k.operator) k.place ts k.here k.inside k.at_place k.marks in
    let two : p k.inside ≡ ok k.operand rest = hp k.operand k.inside rest k.walk depth (omega (arith, level, k.below)) lo in
    rw (found, one, two) (λ i. ok (back i) rest)

link_item : (l : Level) (r d : ℕ) (p : Parser GhostExprTree) → suc r ≡ looseness l → Full 0 r d p → Item (spelled.ghost_link l) ghost_link_nesting d (Looser r) (joins l) (link_at l p)
link_item l r d p level hp = record {
  full = λ x ts rest h deep lo. link_read l r d p level hp x ts rest (linked l x ts rest h) deep lo;
  heads = λ x ts rest h. let k = linked l x ts rest h in joined l k.operator ts (link_front l x ts rest k) k.on_its_level;
  fine = λ x ts rest h. let k = linked l x ts rest h in front_looser r _ ts (link_front l x ts rest k) (omega (arith, level, binary_hold k.operator, eqb-true (looseness (level_of k.operator)) (looseness l) k.on_its_level));
  eats = λ x. ghost_link_eats l x;
}

chained_is : (p : Place) (l : Level) (a : GhostExprTree) (xs : GhostLinkTrees) → has_ghost_links xs ≡ true → chained p l a (link_items xs) ≡ tree.chain p l a xs
unfolding link_items
chained_is p l a no_ghost_link h = no_true h
chained_is p l a (more_ghost_link x xs) h = ap (λ (ys : GhostLinkTrees). tree.chain p l a (more_ghost_link x ys)) (link_items_are xs)

-- the place of the first token, and what was read of an operand and what goes on with it
then_then : {A B C : Type 0} (r : Result A Fault) (f : A → Result B Fault) (g : B → Result C Fault) → (r >>= λ x. f x >>= g) ≡ ((r >>= f) >>= g)
then_then (Ok x) f g = refl
then_then (Err e) f g = refl

-- one level more goes on behind what the lower levels read
level_more : (u : Parser GhostExprTree) (j : ℕ) (p : Place) (ts : List Token) → here_at ts ≡ ok p ts → joined_at u (suc j) ts ≡ (joined_at u j ts >>= λ b. chain_at (level_above j) (joined_at u j) p b.0 b.1)
unfolding joined_by rest_at
level_more u j p ts h = rw h (then_then (u ts) (λ a. rest_at u j p a.0 a.1) (λ b. chain_at (level_above j) (joined_at u j) p b.0 b.1))

-- a place is read where something stands
here_some : (x : GhostExprTree) (ts rest : List Token) → ghost_expr x ts ≡ Some rest → (p : Place) × (here_at ts ≡ ok p ts)
unfolding here_at
here_some x [] rest h = absurd (omega (arith, (term_eats x).eat [] rest h))
here_some x (t ∷ ts) rest h = (t.place, refl)

here_is : (p : Place) (ts us : List Token) → at p ts ≡ Some us → here_at ts ≡ ok p ts
here_is p ts us h = subst (λ r. here_at ts ≡ ok p r) (sym (at_stays p ts us h)) (here_read p ts us h)

-- an expression without links on a level is read as itself
unchained_full : (l : Level) (r : ℕ) (q : Parser GhostExprTree) → suc r ≡ looseness l → (p : Place) (x : GhostExprTree) (rest : List Token) → Looser (suc r) rest → chain_at l q p x rest ≡ ok x rest
unfolding chain_at link_step
unchained_full l r q level p x rest lo =
    rw (many_stops (joins l) (item_step (link_at l q)) (length rest) [] rest (no_join l (suc r) rest lo (omega (arith, level)))) refl

-- links behind a first operand are read
links_full : (l : Level) (r d : ℕ) (q : Parser GhostExprTree) → suc r ≡ looseness l → Full 0 r d q → (p : Place) (a : GhostExprTree) (xs : GhostLinkTrees) (ts rest : List Token) → ghost_links l xs ts ≡ Some rest → ghost_links_nesting xs ≤ d → has_ghost_links xs ≡ true → Looser (suc r) rest
    → (Looser r ts) × (chain_at l q p a ts ≡ ok (tree.chain p l a xs) rest)
unfolding chain_at link_step
links_full l r d q level hq p a xs ts rest h deep some lo =
    let i = link_item l r d q level hq in
    let walk : ghost_links l (ghost_link_list (link_items xs)) ts ≡ Some rest = subst (λ ys. ghost_links l ys ts ≡ Some rest) (sym (link_items_are xs)) h in
    let depth : ghost_links_nesting (ghost_link_list (link_items xs)) ≤ d = subst (λ ys. ghost_links_nesting ys ≤ d) (sym (link_items_are xs)) deep in
    let below : Looser r rest = omega (arith, lo) in
    let others = items_full (links_collect l) i (length ts) (link_items xs) [] ts rest walk depth below (no_join l (suc r) rest lo (omega (arith, level))) (omega arith) in
    let all = chained_is p l a xs some in
    (first_fine (links_collect l) i (link_items xs) ts rest walk below, rw others (λ j. ok (all j) rest))

-- operands joined by operators of a level are read
chained_full : (u : Parser GhostExprTree) (j d : ℕ) → suc (j + 2) ≡ looseness (level_above j) → Full 0 (j + 2) d (joined_at u j) → (p : Place) (a : GhostExprTree) (xs : GhostLinkTrees) (ts rest : List Token)
    → ghost_expr (tree.chain p (level_above j) a xs) ts ≡ Some rest → ghost_nesting (tree.chain p (level_above j) a xs) + 0 ≤ d → Looser (suc (j + 2)) rest → joined_at u (suc j) ts ≡ ok (tree.chain p (level_above j) a xs) rest
chained_full u j d level hq p a xs ts rest h deep lo =
    let g = gone (at p ts) h in
    let c = gone (provided (is_ghost_operand (level_above j) a && has_ghost_links xs) g.0) g.2 in
    let w = met _ g.0 c.0 c.1 in
    let conditions = both _ _ w.0 in
    let m = gone (ghost_expr a c.0) c.2 in
    let same : ts ≡ c.0 = at_stays p ts g.0 g.1 ∙ w.1 in
    let k = links_full (level_above j) (j + 2) d (joined_at u j) level hq p a xs m.0 rest m.2 (omega (arith, deep)) conditions.1 lo in
    let walk : ghost_expr a ts ≡ Some m.0 = subst (λ us. ghost_expr a us ≡ Some m.0) (sym same) m.1 in
    let first : joined_at u j ts ≡ ok a m.0 = hq a ts m.0 walk (omega (arith, deep)) (omega (arith, level, ltb-true (ghost_rank a) (looseness (level_above j)) conditions.0)) k.0 in
    rw (level_more u j p ts (here_is p ts g.0 g.1), first) k.1

plain_full : (u : Parser GhostExprTree) (j d : ℕ) → suc (j + 2) ≡ looseness (level_above j) → Full 0 (j + 2) d (joined_at u j) → (x : GhostExprTree) (ts rest : List Token)
    → ghost_expr x ts ≡ Some rest → ghost_nesting x + 0 ≤ d → ghost_rank x ≤ j + 2 → Looser (suc (j + 2)) rest → joined_at u (suc j) ts ≡ ok x rest
plain_full u j d level hq x ts rest h deep low lo =
    let p = here_some x ts rest h in
    let first : joined_at u j ts ≡ ok x rest = hq x ts rest h deep low (omega (arith, lo)) in
    rw (level_more u j p.0 ts p.1, first) (unchained_full (level_above j) (j + 2) (joined_at u j) level p.0 x rest lo)

-- an expression of a level is a chain on it, or holds closer
data Chain (n : ℕ) (x : GhostExprTree) : Type 0 where
  closer : ghost_rank x ≤ n → Chain n x
  chain_of : (p : Place) (l : Level) (a : GhostExprTree) (xs : GhostLinkTrees) → x ≡ tree.chain p l a xs → looseness l ≡ suc n → Chain n x

under : (m n : ℕ) → m ≤ suc n → ((m ≡ suc n) → ⊥) → m ≤ n
under m n a b = omega (arith, a, b)

closer_or : (n : ℕ) (x : GhostExprTree) → 2 ≤ n → ghost_rank x ≤ suc n → Chain n x
closer_or n (tree.number p v ty) h low = closer (omega arith)
closer_or n (tree.true_ p) h low = closer (omega arith)
closer_or n (tree.false_ p) h low = closer (omega arith)
closer_or n (tree.result p) h low = closer (omega arith)
closer_or n (tree.this_ p) h low = closer (omega arith)
closer_or n (tree.current_thread p) h low = closer (omega arith)
closer_or n (tree.name_ p x) h low = closer (omega arith)
closer_or n (tree.application p f xs) h low = closer (omega arith)
closer_or n (tree.parenthesized p a) h low = closer (omega arith)
closer_or n (tree.conditional p c a b) h low = closer (omega arith)
closer_or n (tree.unary p o a) h low = closer (omega (arith, h))
closer_or n (tree.chain p l a xs) h low = by_looseness (cases_eq (looseness l) (suc n))
  where
    by_looseness : (looseness l ≡ suc n) ⊎ ((looseness l ≡ suc n) → ⊥) → Chain n (tree.chain p l a xs)
    by_looseness (inl e) = chain_of p l a xs refl e
    by_looseness (inr e) = closer (under (looseness l) n low e)

-- operands joined by operators of a level, where those of the closer levels are read
level_full : (u : Parser GhostExprTree) (j d : ℕ) → suc (j + 2) ≡ looseness (level_above j) → Full 0 (j + 2) d (joined_at u j) → (x : GhostExprTree) → Chain (j + 2) x → (ts rest : List Token) → ghost_expr x ts ≡ Some rest → ghost_nesting x + 0 ≤ d → Looser (suc (j + 2)) rest → joined_at u (suc j) ts ≡ ok x rest
level_full u j d level hq x (closer c) ts rest w deep lo = plain_full u j d level hq x ts rest w deep c lo
level_full u j d level hq x (chain_of p m a xs same e) ts rest w deep lo =
    let this : m ≡ level_above j = level_same m (level_above j) (e ∙ level) in
    let whole : x ≡ tree.chain p (level_above j) a xs = same ∙ ap (λ (k : Level). tree.chain p k a xs) this in
    subst (λ y. joined_at u (suc j) ts ≡ ok y rest) (sym whole)
    (chained_full u j d level hq p a xs ts rest (subst (λ y. ghost_expr y ts ≡ Some rest) whole w) (subst (λ y. ghost_nesting y + 0 ≤ d) whole deep) lo)

lowest_full : (u : Parser GhostExprTree) (d : ℕ) → Full 0 2 d u → Full 0 2 d (joined_at u 0)
unfolding joined_by rest_at
lowest_full u d hu x ts rest h deep low lo =
    let p = here_some x ts rest h in
    rw (p.1, hu x ts rest h deep low lo) refl

looseness_above : (j : ℕ) → j ≤ 5 → looseness (level_above j) ≡ j + 3
looseness_above zero h = refl
looseness_above (suc zero) h = refl
looseness_above (suc (suc zero)) h = refl
looseness_above (suc (suc (suc zero))) h = refl
looseness_above (suc (suc (suc (suc zero)))) h = refl
looseness_above (suc (suc (suc (suc (suc j))))) h = omega arith

pub joined_full : (u : Parser GhostExprTree) (d : ℕ) → Full 0 2 d u → (j : ℕ) → j ≤ 6 → Full 0 (j + 2) d (joined_at u j)
joined_full u d hu zero h x ts rest w deep low lo = lowest_full u d hu x ts rest w deep low lo
joined_full u d hu (suc j) h x ts rest w deep low lo =
    let level : suc (j + 2) ≡ looseness (level_above j) = omega (arith, looseness_above j (omega (arith, h))) in
    level_full u j d level (joined_full u d hu j (omega (arith, h))) x (closer_or (j + 2) x (omega arith) (omega (arith, low))) ts rest w deep (omega (arith, lo))

mutual
  unfolding term_at branch_at unary_at

  pub term_full : (d : ℕ) → Full 1 8 d (term_at d)
  term_full zero x ts rest h deep low lo = absurd (omega (arith, deep))
  term_full (suc d) x ts rest h deep low lo =
      joined_full (operand_at d) d (operand_by_full (term_at d) (branch_at d) (unary_at d) d (term_full d) (branch_full d) (unary_full d)) 6 (omega arith) x ts rest h (omega (arith, deep)) low lo

  pub branch_full : (d : ℕ) → Full 2 8 d (branch_at d)
  branch_full zero x ts rest h deep low lo = absurd (omega (arith, deep))
  branch_full (suc d) x ts rest h deep low lo = term_full d x ts rest h (omega (arith, deep)) low lo

  pub unary_full : (d : ℕ) → Full 1 2 d (unary_at d)
  unary_full zero x ts rest h deep low lo = absurd (omega (arith, deep))
  unary_full (suc d) x ts rest h deep low lo = operand_by_full (term_at d) (branch_at d) (unary_at d) d (term_full d) (branch_full d) (unary_full d) x ts rest h (omega (arith, deep)) low lo

pub operand_full : (d : ℕ) → Full 0 2 d (operand_at d)
operand_full d = operand_by_full (term_at d) (branch_at d) (unary_at d) d (term_full d) (branch_full d) (unary_full d)

pub one_term : (x y : GhostExprTree) (ts rest : List Token) → ghost_expr x ts ≡ Some rest → ghost_expr y ts ≡ Some rest → goes_on_with_term rest ≡ false → x ≡ y
one_term x y ts rest h k free =
    let one = term_full (ghost_nesting x + ghost_nesting y + 1) x ts rest h (omega arith) (most_loose x) (ended rest free) in
    let two = term_full (ghost_nesting x + ghost_nesting y + 1) y ts rest k (omega arith) (most_loose y) (ended rest free) in
    (ok_pair x y rest rest (sym one ∙ two)).0
