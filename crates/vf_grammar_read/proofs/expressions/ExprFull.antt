-- Expressions that are spelled are read, where what stands behind does not go on with them.
use Rattle.std.proofs.Common.{◌≡◌, ℕ, zero, suc, ◌+◌, ◌≤◌, ◌<◌, true, false, ◌&&◌, List, [], ◌∷◌, length, Some, None, refl, sym, subst, ap, ◌∙◌, ◌⊎◌, inl, inr, arith, nat_eq}
use Rattle.std.proofs.lemmas.Bool.{leb-true, ltb-true, ne_eqb, eqb-true, cases_eq}
use Rattle.vf_base.specs.declared.place.Place.{Place}
use Rattle.vf_lexer.specs.declared.punctuator.Punctuator.TheVariants as punctuators
use Rattle.vf_lexer.specs.declared.token.Token.{Token}
use Rattle.vf_syntax.specs.declared.keyword.Keyword.TheVariants as keywords
use Rattle.vf_syntax.specs.declared.side.Side.TheVariants.{Real}
use Rattle.vf_syntax.specs.declared.operator.UnaryOperator.{UnaryOperator}
use Rattle.vf_syntax.specs.declared.operator.UnaryOperator.TheVariants as unaries
use Rattle.vf_syntax.specs.declared.operator.Level.{Level}
use Rattle.vf_syntax.specs.declared.operator.Level.TheVariants as levels
use Rattle.vf_syntax.specs.declared.written.CType.{CType}
use Rattle.vf_syntax.specs.ExprTree.{ExprTree, ExprTrees, LinkTree, LinkTrees, PostfixTree, PostfixTrees, no_expr, more_expr, no_link, more_link, no_postfix, more_postfix, expr_list, link_list, postfix_list}
use Rattle.vf_syntax.specs.ExprTree as tree
use Rattle.vf_syntax.specs.Walks.{◌⨾◌, goes_on, provided, at, mark, word, number, character, head_has, is_mark, is_word}
use Rattle.vf_syntax.specs.Written.{name, ctype, unary_mark, unary_of, binary_mark, level_of, looseness}
use Rattle.vf_syntax.specs.Expressions.{expr, link, links, postfix, postfixes, arguments, more_arguments, nesting, link_nesting, links_nesting, part_nesting, postfix_nesting, arguments_nesting, rank, is_within, is_operand, has_links, has_parts, joins_on}
use Rattle.vf_cursor.specs.Parsing.{Parser, ok, here_at, item_step}
use Rattle.vf_cursor.specs.Types.{next_unary, next_mark, found_then}
use Rattle.vf_cursor.proofs.Loop.{many_stops}
use Rattle.vf_parse_expression.specs.Operands.{after, sees_cast, sees_cast_type, is_part, joins, nth_level, chained, posted, number_primary_at, character_primary_at, field_at, malloc_struct_at}
use Rattle.vf_parse_expression.specs.Parsers.{next_argument_at, more_arguments_at, arguments_at, index_at, call_at, part_at, parts_at, malloc_ints_at, malloc_inside_at, malloc_at, parenthesized_at, word_primary_at, primary_at, post_at, cast_at, signed_at, unsigned_at, whole_operand_at, link_at, links_at, chain_at, tier_at, choice_at, conditional_at, expr_at, unary_at, factor_at}
use Rattle.vf_parse_expression.proofs.OperandsSound.{level_looseness}
use Rattle.vf_parse_expression.proofs.Sound.{arguments_collect, parts_collect, links_collect}
use Rattle.vf_grammar_read.proofs.expressions.Same.{some_same, no_true, both}
use Rattle.vf_grammar_read.proofs.expressions.Fronts.{Class, a_mark, a_word, a_name, a_number, a_character, class_word, class_next, Front, gone, at_stays, mark_took, mark_front, word_front, identifier_front, number_front, character_front}
use Rattle.vf_grammar_read.proofs.expressions.Taken.{here_read, mark_here, mark_read, word_here, word_read, name_here, name_read, number_read, character_read}
use Rattle.vf_grammar_read.proofs.expressions.TypesFull.{Ends, Typed, by_word, by_name, width_of, type_word_of, ctype_full, ctype_begins}
use Rattle.vf_grammar_read.proofs.expressions.Eaten.{expr_eats, link_eats, part_eats, mark_eats, keeps, eat_then}
use Rattle.vf_grammar_read.proofs.expressions.Begins.{class_primary, class_expr, behind, met, loose, expr_begins, unclosed, uncast}
use Rattle.vf_grammar_read.proofs.expressions.Behind.{Looser, front_looser, part_mark, part_tells, no_part, no_question, no_join, joined, operator_full, binary_hold, level_same}
use Rattle.vf_grammar_read.proofs.expressions.Items.{Item, first_fine, items_full}

-- an expression that is spelled, holds together so closely, nests no deeper than it may, with k more, and stands before what holds looser, is read
abbrev pub Full : ℕ → ℕ → ℕ → Parser ExprTree → Type 0
Full k r d p = (x : ExprTree) (ts rest : List Token) → expr x ts ≡ Some rest → nesting x + k ≤ d → rank x ≤ r → Looser r rest → p ts ≡ ok x rest

-- lists of trees as they stand in a tree
expr_items : ExprTrees → List ExprTree
expr_items no_expr = []
expr_items (more_expr x xs) = x ∷ expr_items xs

expr_items_are : (xs : ExprTrees) → expr_list (expr_items xs) ≡ xs
unfolding expr_items
expr_items_are no_expr = refl
expr_items_are (more_expr x xs) = ap (more_expr x) (expr_items_are xs)

link_items : LinkTrees → List LinkTree
link_items no_link = []
link_items (more_link x xs) = x ∷ link_items xs

link_items_are : (xs : LinkTrees) → link_list (link_items xs) ≡ xs
unfolding link_items
link_items_are no_link = refl
link_items_are (more_link x xs) = ap (more_link x) (link_items_are xs)

part_items : PostfixTrees → List PostfixTree
part_items no_postfix = []
part_items (more_postfix x xs) = x ∷ part_items xs

part_items_are : (xs : PostfixTrees) → postfix_list (part_items xs) ≡ xs
unfolding part_items
part_items_are no_postfix = refl
part_items_are (more_postfix x xs) = ap (more_postfix x) (part_items_are xs)

-- a place is read where something stands
pub here_some : (x : ExprTree) (ts rest : List Token) → expr x ts ≡ Some rest → (p : Place) × (here_at ts ≡ ok p ts)
unfolding here_at
here_some x [] rest h = absurd (omega (arith, (expr_eats x).eat [] rest h))
here_some x (t ∷ ts) rest h = (t.place, refl)

number_full : (p : Place) (ts us rest : List Token) (n : ℕ) (ty : _) → at p ts ≡ Some us → number Real n ty us ≡ Some rest → number_primary_at ts ≡ ok (tree.number p n ty) rest
unfolding number_primary_at
number_full p ts us rest n ty h k = rw (here_read p ts us h, number_read Real n ty us rest k) refl

character_full : (p : Place) (ts us rest : List Token) (n : ℕ) → at p ts ≡ Some us → character n us ≡ Some rest → character_primary_at ts ≡ ok (tree.character p n) rest
unfolding character_primary_at
character_full p ts us rest n h k = rw (here_read p ts us h, character_read n us rest k) refl

field_full : (x : _) (p : Place) (ts rest : List Token) → postfix (tree.field_ p x) ts ≡ Some rest → field_at ts ≡ ok (tree.field_ p x) rest
unfolding field_at
field_full x p ts rest h =
    let g = gone (at p ts) h in
    let m = gone (mark Real punctuators.Arrow g.0) g.2 in
    rw (mark_here Real _ p ts g.0 m.0 g.1 m.1, name_read Real x m.0 rest m.2) refl

most_loose : (l : Level) → looseness l ≤ 8
most_loose levels.Multiplicative = omega arith
most_loose levels.Additive = omega arith
most_loose levels.Relational = omega arith
most_loose levels.Equality = omega arith
most_loose levels.And = omega arith
most_loose levels.Or = omega arith

pub at_most : (x : ExprTree) → rank x ≤ 9
at_most (tree.number p n ty) = omega arith
at_most (tree.character p n) = omega arith
at_most (tree.true_ p) = omega arith
at_most (tree.false_ p) = omega arith
at_most (tree.name_ p x) = omega arith
at_most (tree.parenthesized p a) = omega arith
at_most (tree.malloc p t) = omega arith
at_most (tree.malloc_ints p n q) = omega arith
at_most (tree.postfix p a xs) = omega arith
at_most (tree.unary p o a) = omega arith
at_most (tree.cast p t a) = omega arith
at_most (tree.chain p l a xs) = omega (arith, most_loose l)
at_most (tree.conditional p c a b) = omega arith

index_full : (e : Parser ExprTree) (d : ℕ) → Full 1 9 d e → (p : Place) (a : ExprTree) (ts rest : List Token) → postfix (tree.index_ p a) ts ≡ Some rest → nesting a + 1 ≤ d → index_at e ts ≡ ok (tree.index_ p a) rest
unfolding index_at
index_full e d he p a ts rest h deep =
    let g = gone (at p ts) h in
    let m = gone (mark Real punctuators.OpenBracket g.0) g.2 in
    let x = gone (expr a m.0) m.2 in
    let f = mark_front Real punctuators.CloseBracket x.0 rest x.2 in
    let c = mark_read Real punctuators.CloseBracket x.0 rest x.2 in
    rw (mark_here Real _ p ts g.0 m.0 g.1 m.1, he a m.0 x.0 x.1 deep (at_most a) (front_looser 9 _ x.0 f (omega arith)), c.1) refl

argument_item : (e : Parser ExprTree) (d : ℕ) → Full 1 9 d e → Item (λ (x : ExprTree) (ts : List Token). goes_on (mark Real punctuators.Comma ts) (expr x)) (λ (x : ExprTree). nesting x + 1) d (Looser 9) (is_mark Real punctuators.Comma) (next_argument_at e)
unfolding next_argument_at
argument_item e d he = record {
  full = λ x ts rest h deep lo. let g = gone {g = expr x} (mark Real punctuators.Comma ts) h in let c = mark_read Real punctuators.Comma ts g.0 g.1 in rw c.1 (he x g.0 rest g.2 deep (at_most x) lo);
  heads = λ x ts rest h. let g = gone {g = expr x} (mark Real punctuators.Comma ts) h in (mark_front Real _ ts g.0 g.1).marks_are punctuators.Comma;
  fine = λ x ts rest h. let g = gone {g = expr x} (mark Real punctuators.Comma ts) h in front_looser 9 _ ts (mark_front Real punctuators.Comma ts g.0 g.1) (omega arith);
  eats = λ x. eat_then (mark_eats Real punctuators.Comma) (keeps (expr_eats x));
}

arguments_full : (e : Parser ExprTree) (d : ℕ) → Full 1 9 d e → (xs : ExprTrees) (ts rest : List Token) → arguments xs ts ≡ Some rest → arguments_nesting xs ≤ d → Front Real (a_mark punctuators.CloseParenthesis) rest → arguments_at e ts ≡ ok (expr_items xs) rest
unfolding arguments_at more_arguments_at expr_items
arguments_full e d he no_expr ts rest h deep f =
    let same : ts ≡ rest = some_same h in
    let closed = subst (λ us. head_has (is_mark Real punctuators.CloseParenthesis) us ≡ true) (sym same) (f.marks_are punctuators.CloseParenthesis) in
    rw closed (λ i. ok [] (same i))
arguments_full e d he (more_expr x xs) ts rest h deep f =
    let g = gone (expr x ts) h in
    let b = expr_begins x ts g.0 g.1 in
    let opened = b.front.marks_are punctuators.CloseParenthesis ∙ unclosed b.class b.begins in
    let walk : more_arguments (expr_list (expr_items xs)) g.0 ≡ Some rest = subst (λ ys. more_arguments ys g.0 ≡ Some rest) (sym (expr_items_are xs)) g.2 in
    let depth : arguments_nesting (expr_list (expr_items xs)) ≤ d = subst (λ ys. arguments_nesting ys ≤ d) (sym (expr_items_are xs)) (omega (arith, deep)) in
    let behind_all = front_looser 9 _ rest f (omega arith) in
    let i = argument_item e d he in
    let one : e ts ≡ ok x g.0 = he x ts g.0 g.1 (omega (arith, deep)) (at_most x) (first_fine arguments_collect i (expr_items xs) g.0 rest walk behind_all) in
    rw (opened, one) (items_full arguments_collect i (length g.0) (expr_items xs) (x ∷ []) g.0 rest walk depth behind_all (f.marks_are punctuators.Comma) (omega arith))

call_full : (e : Parser ExprTree) (d : ℕ) → Full 1 9 d e → (p : Place) (xs : ExprTrees) (ts rest : List Token) → postfix (tree.call_ p xs) ts ≡ Some rest → arguments_nesting xs ≤ d → call_at e ts ≡ ok (tree.call_ p xs) rest
unfolding call_at
call_full e d he p xs ts rest h deep =
    let g = gone (at p ts) h in
    let m = gone (mark Real punctuators.OpenParenthesis g.0) g.2 in
    let x = gone (arguments xs m.0) m.2 in
    let f = mark_front Real punctuators.CloseParenthesis x.0 rest x.2 in
    let c = mark_read Real punctuators.CloseParenthesis x.0 rest x.2 in
    let all = expr_items_are xs in
    rw (mark_here Real _ p ts g.0 m.0 g.1 m.1, arguments_full e d he xs m.0 x.0 x.1 deep f, c.1) (λ i. ok (tree.call_ p (all i)) rest)

part_full : (e : Parser ExprTree) (d : ℕ) → Full 1 9 d e → (x : PostfixTree) (ts rest : List Token) → postfix x ts ≡ Some rest → part_nesting x ≤ d → part_at e ts ≡ ok x rest
unfolding part_at
part_full e d he (tree.field_ p n) ts rest h deep =
    let g = gone (at p ts) h in
    let m = gone (mark Real punctuators.Arrow g.0) g.2 in
    let f = behind p g.1 (mark_front Real _ g.0 m.0 m.1) in
    rw (f.marks_are punctuators.Arrow) (field_full n p ts rest h)
part_full e d he (tree.index_ p a) ts rest h deep =
    let g = gone (at p ts) h in
    let m = gone (mark Real punctuators.OpenBracket g.0) g.2 in
    let f = behind p g.1 (mark_front Real _ g.0 m.0 m.1) in
    rw (f.marks_are punctuators.Arrow, f.marks_are punctuators.OpenBracket) (index_full e d he p a ts rest h deep)
part_full e d he (tree.call_ p xs) ts rest h deep =
    let g = gone (at p ts) h in
    let m = gone (mark Real punctuators.OpenParenthesis g.0) g.2 in
    let f = behind p g.1 (mark_front Real _ g.0 m.0 m.1) in
    rw (f.marks_are punctuators.Arrow, f.marks_are punctuators.OpenBracket) (call_full e d he p xs ts rest h deep)

part_heads : (x : PostfixTree) (ts rest : List Token) → postfix x ts ≡ Some rest → head_has is_part ts ≡ true
part_heads (tree.field_ p n) ts rest h =
    let g = gone (at p ts) h in
    let m = gone (mark Real punctuators.Arrow g.0) g.2 in
    part_tells ts ∙ ap part_mark ((behind p g.1 (mark_front Real _ g.0 m.0 m.1)).next_is)
part_heads (tree.index_ p a) ts rest h =
    let g = gone (at p ts) h in
    let m = gone (mark Real punctuators.OpenBracket g.0) g.2 in
    part_tells ts ∙ ap part_mark ((behind p g.1 (mark_front Real _ g.0 m.0 m.1)).next_is)
part_heads (tree.call_ p xs) ts rest h =
    let g = gone (at p ts) h in
    let m = gone (mark Real punctuators.OpenParenthesis g.0) g.2 in
    part_tells ts ∙ ap part_mark ((behind p g.1 (mark_front Real _ g.0 m.0 m.1)).next_is)

part_item : (e : Parser ExprTree) (d : ℕ) → Full 1 9 d e → Item postfix part_nesting d (λ ts. Unit {0}) is_part (part_at e)
part_item e d he = record {
  full = λ x ts rest h deep u. part_full e d he x ts rest h deep;
  heads = λ x ts rest h. part_heads x ts rest h;
  fine = λ x ts rest h. tt;
  eats = λ x. part_eats x;
}

-- the parts behind an operand are read
parts_full : (e : Parser ExprTree) (d : ℕ) → Full 1 9 d e → (xs : PostfixTrees) (ts rest : List Token) → postfixes xs ts ≡ Some rest → postfix_nesting xs ≤ d → Looser 1 rest → parts_at e ts ≡ ok (part_items xs) rest
unfolding parts_at
parts_full e d he xs ts rest h deep lo =
    let walk : postfixes (postfix_list (part_items xs)) ts ≡ Some rest = subst (λ ys. postfixes ys ts ≡ Some rest) (sym (part_items_are xs)) h in
    let depth : postfix_nesting (postfix_list (part_items xs)) ≤ d = subst (λ ys. postfix_nesting ys ≤ d) (sym (part_items_are xs)) deep in
    items_full parts_collect (part_item e d he) (length ts) (part_items xs) [] ts rest walk depth tt (no_part rest lo) (omega arith)

malloc_struct_full : (p : Place) (tag : _) (ts us vs rest : List Token)
    → (word Real keywords.Sizeof ⨾ mark Real punctuators.OpenParenthesis ⨾ word Real keywords.Struct ⨾ name Real tag ⨾ mark Real punctuators.CloseParenthesis ⨾ mark Real punctuators.CloseParenthesis) vs ≡ Some rest
    → malloc_struct_at p vs ≡ ok (tree.malloc p tag) rest
unfolding malloc_struct_at
malloc_struct_full p tag ts us vs rest h =
    let a = gone (word Real keywords.Sizeof vs) h in
    let b = gone (mark Real punctuators.OpenParenthesis a.0) a.2 in
    let c = gone (word Real keywords.Struct b.0) b.2 in
    let n = gone (name Real tag c.0) c.2 in
    let k = gone (mark Real punctuators.CloseParenthesis n.0) n.2 in
    rw ((word_read Real _ vs a.0 a.1).1, (mark_read Real _ a.0 b.0 b.1).1, (word_read Real _ b.0 c.0 c.1).1, name_read Real tag c.0 n.0 n.1, (mark_read Real _ n.0 k.0 k.1).1, (mark_read Real _ k.0 rest k.2).1) refl

malloc_ints_full : (f : Parser ExprTree) (d : ℕ) → Full 1 1 d f → (p : Place) (n : ExprTree) (star : Place) (ts rest : List Token) → nesting n + 1 ≤ d
    → (provided (is_within 1 n) ⨾ expr n ⨾ at star ⨾ mark Real punctuators.Star ⨾ word Real keywords.Sizeof ⨾ mark Real punctuators.OpenParenthesis ⨾ word Real keywords.Int ⨾ mark Real punctuators.CloseParenthesis ⨾ mark Real punctuators.CloseParenthesis) ts ≡ Some rest
    → malloc_ints_at f p ts ≡ ok (tree.malloc_ints p n star) rest
unfolding malloc_ints_at
malloc_ints_full f d hf p n star ts rest deep h =
    let q = gone (provided (is_within 1 n) ts) h in
    let w = met _ ts q.0 q.1 in
    let x = gone (expr n q.0) q.2 in
    let t = gone (at star x.0) x.2 in
    let s = gone (mark Real punctuators.Star t.0) t.2 in
    let a = gone (word Real keywords.Sizeof s.0) s.2 in
    let b = gone (mark Real punctuators.OpenParenthesis a.0) a.2 in
    let c = gone (word Real keywords.Int b.0) b.2 in
    let k = gone (mark Real punctuators.CloseParenthesis c.0) c.2 in
    let front = behind star t.1 (mark_front Real punctuators.Star t.0 s.0 s.1) in
    let read : f q.0 ≡ ok n x.0 = hf n q.0 x.0 x.1 deep (leb-true (rank n) 1 w.0) (front_looser 1 _ x.0 front (omega arith)) in
    rw (w.1, read, mark_here Real _ star x.0 t.0 s.0 t.1 s.1, (word_read Real _ s.0 a.0 a.1).1, (mark_read Real _ a.0 b.0 b.1).1, (word_read Real _ b.0 c.0 c.1).1, (mark_read Real _ c.0 k.0 k.1).1, (mark_read Real _ k.0 rest k.2).1) refl

-- no expression begins with `sizeof`
unsized : (c : Class) → class_expr c ≡ true → class_word c keywords.Sizeof ≡ false
unsized (a_mark p) h = refl
unsized (a_word keywords.True) h = refl
unsized (a_word keywords.False) h = refl
unsized (a_word keywords.Malloc) h = refl
unsized (a_word k) h = no_true h
unsized a_name h = refl
unsized a_number h = refl
unsized a_character h = refl

-- a primary expression is read
pub primary_full : (e f : Parser ExprTree) (d : ℕ) → Full 1 9 d e → Full 1 1 d f → (x : ExprTree) (ts rest : List Token) → expr x ts ≡ Some rest → nesting x ≤ d → rank x ≤ 0 → primary_at e f ts ≡ ok x rest
unfolding primary_at word_primary_at parenthesized_at malloc_at malloc_inside_at
primary_full e f d he hf (tree.number p n ty) ts rest h deep low =
    let g = gone (at p ts) h in
    let k = behind p g.1 (number_front Real n ty g.0 rest g.2) in
    rw k.numbers_are (number_full p ts g.0 rest n ty g.1 g.2)
primary_full e f d he hf (tree.character p n) ts rest h deep low =
    let g = gone (at p ts) h in
    let k = behind p g.1 (character_front n g.0 rest g.2) in
    rw (k.numbers_are, k.characters_are) (character_full p ts g.0 rest n g.1 g.2)
primary_full e f d he hf (tree.true_ p) ts rest h deep low =
    let g = gone (at p ts) h in
    let k = behind p g.1 (word_front Real keywords.True g.0 rest g.2) in
    rw (k.numbers_are, k.characters_are, k.words_are keywords.True, word_here Real _ p ts g.0 rest g.1 g.2) refl
primary_full e f d he hf (tree.false_ p) ts rest h deep low =
    let g = gone (at p ts) h in
    let k = behind p g.1 (word_front Real keywords.False g.0 rest g.2) in
    rw (k.numbers_are, k.characters_are, k.words_are keywords.True, k.words_are keywords.False, word_here Real _ p ts g.0 rest g.1 g.2) refl
primary_full e f d he hf (tree.name_ p x) ts rest h deep low =
    let g = gone (at p ts) h in
    let k = behind p g.1 (identifier_front Real x g.0 rest g.2) in
    rw (k.numbers_are, k.characters_are, k.words_are keywords.True, k.words_are keywords.False, k.words_are keywords.Malloc, k.names_are, name_here Real x p ts g.0 rest g.1 g.2) refl
primary_full e f d he hf (tree.parenthesized p a) ts rest h deep low =
    let g = gone (at p ts) h in
    let m = gone (mark Real punctuators.OpenParenthesis g.0) g.2 in
    let x = gone (expr a m.0) m.2 in
    let k = behind p g.1 (mark_front Real punctuators.OpenParenthesis g.0 m.0 m.1) in
    let c = mark_read Real punctuators.CloseParenthesis x.0 rest x.2 in
    let read : e m.0 ≡ ok a x.0 = he a m.0 x.0 x.1 deep (at_most a) (front_looser 9 _ x.0 (mark_front Real punctuators.CloseParenthesis x.0 rest x.2) (omega arith)) in
    rw (k.numbers_are, k.characters_are, k.words_are keywords.True, k.words_are keywords.False, k.words_are keywords.Malloc, k.names_are, mark_here Real _ p ts g.0 m.0 g.1 m.1, read, c.1) refl
primary_full e f d he hf (tree.malloc p tag) ts rest h deep low =
    let g = gone (at p ts) h in
    let w = gone (word Real keywords.Malloc g.0) g.2 in
    let m = gone (mark Real punctuators.OpenParenthesis w.0) w.2 in
    let a = gone (word Real keywords.Sizeof m.0) m.2 in
    let k = behind p g.1 (word_front Real keywords.Malloc g.0 w.0 w.1) in
    let z = word_front Real keywords.Sizeof m.0 a.0 a.1 in
    rw (k.numbers_are, k.characters_are, k.words_are keywords.True, k.words_are keywords.False, k.words_are keywords.Malloc, word_here Real _ p ts g.0 w.0 g.1 w.1, (mark_read Real _ w.0 m.0 m.1).1, z.words_are keywords.Sizeof) (malloc_struct_full p tag ts g.0 m.0 rest m.2)
primary_full e f d he hf (tree.malloc_ints p n star) ts rest h deep low =
    let g = gone (at p ts) h in
    let w = gone (word Real keywords.Malloc g.0) g.2 in
    let m = gone (mark Real punctuators.OpenParenthesis w.0) w.2 in
    let q = gone (provided (is_within 1 n) m.0) m.2 in
    let x = gone (expr n q.0) q.2 in
    let k = behind p g.1 (word_front Real keywords.Malloc g.0 w.0 w.1) in
    let b = expr_begins n q.0 x.0 x.1 in
    let sized : head_has (is_word Real keywords.Sizeof) m.0 ≡ false = subst (λ us. head_has (is_word Real keywords.Sizeof) us ≡ false) (sym ((met _ m.0 q.0 q.1).1)) (b.front.words_are keywords.Sizeof ∙ unsized b.class b.begins) in
    rw (k.numbers_are, k.characters_are, k.words_are keywords.True, k.words_are keywords.False, k.words_are keywords.Malloc, word_here Real _ p ts g.0 w.0 g.1 w.1, (mark_read Real _ w.0 m.0 m.1).1, sized) (malloc_ints_full f d hf p n star m.0 rest deep m.2)
primary_full e f d he hf (tree.postfix p a xs) ts rest h deep low = absurd (omega (arith, low))
primary_full e f d he hf (tree.unary p o a) ts rest h deep low = absurd (omega (arith, low))
primary_full e f d he hf (tree.cast p t a) ts rest h deep low = absurd (omega (arith, low))
primary_full e f d he hf (tree.chain p l a xs) ts rest h deep low = absurd (omega (arith, low, loose l))
primary_full e f d he hf (tree.conditional p c a b) ts rest h deep low = absurd (omega (arith, low))

-- a list with an item is not empty
some_items : {A : Type 0} (x : A) (xs : List A) → nat_eq (length (x ∷ xs)) 0 ≡ false
some_items x xs = ne_eqb (length (x ∷ xs)) 0 (λ h. omega (arith, h))

posted_is : (p : Place) (a : ExprTree) (xs : PostfixTrees) → has_parts xs ≡ true → posted p a (part_items xs) ≡ tree.postfix p a xs
unfolding part_items
posted_is p a no_postfix h = no_true h
posted_is p a (more_postfix x xs) h = rw (some_items x (part_items xs)) (ap (λ (ys : PostfixTrees). tree.postfix p a (more_postfix x ys)) (part_items_are xs))

chained_is : (p : Place) (l : Level) (a : ExprTree) (xs : LinkTrees) → has_links xs ≡ true → chained p l a (link_items xs) ≡ tree.chain p l a xs
unfolding link_items
chained_is p l a no_link h = no_true h
chained_is p l a (more_link x xs) h = rw (some_items x (link_items xs)) (ap (λ (ys : LinkTrees). tree.chain p l a (more_link x ys)) (link_items_are xs))

-- an expression that holds together as closely as parts behind a primary expression is one, or a primary expression
data Closely (x : ExprTree) : Type 0 where
  primary : rank x ≤ 0 → Closely x
  with_parts : (p : Place) (a : ExprTree) (xs : PostfixTrees) → x ≡ tree.postfix p a xs → Closely x

closely : (x : ExprTree) → rank x ≤ 1 → Closely x
closely (tree.number p n ty) h = primary (omega arith)
closely (tree.character p n) h = primary (omega arith)
closely (tree.true_ p) h = primary (omega arith)
closely (tree.false_ p) h = primary (omega arith)
closely (tree.name_ p x) h = primary (omega arith)
closely (tree.parenthesized p a) h = primary (omega arith)
closely (tree.malloc p t) h = primary (omega arith)
closely (tree.malloc_ints p n q) h = primary (omega arith)
closely (tree.postfix p a xs) h = with_parts p a xs refl
closely (tree.unary p o a) h = absurd (omega (arith, h))
closely (tree.cast p t a) h = absurd (omega (arith, h))
closely (tree.chain p l a xs) h = absurd (omega (arith, h, loose l))
closely (tree.conditional p c a b) h = absurd (omega (arith, h))

with_parts_full : (e f : Parser ExprTree) (d : ℕ) → Full 1 9 d e → Full 1 1 d f → (p : Place) (a : ExprTree) (xs : PostfixTrees) (ts rest : List Token) → expr (tree.postfix p a xs) ts ≡ Some rest → nesting (tree.postfix p a xs) + 0 ≤ d → Looser 1 rest → post_at e f ts ≡ ok (tree.postfix p a xs) rest
unfolding post_at
with_parts_full e f d he hf p a xs ts rest h deep lo =
    let g = gone (at p ts) h in
    let q = gone (provided (is_within 0 a && has_parts xs) g.0) g.2 in
    let w = met _ g.0 q.0 q.1 in
    let parts = both _ _ w.0 in
    let m = gone (expr a q.0) q.2 in
    let first : primary_at e f g.0 ≡ ok a m.0 = subst (λ us. primary_at e f us ≡ ok a m.0) (sym w.1) (primary_full e f d he hf a q.0 m.0 m.1 (omega (arith, deep)) (leb-true (rank a) 0 parts.0)) in
    let all = posted_is p a xs parts.1 in
    rw (here_read p ts g.0 g.1, first, parts_full e d he xs m.0 rest m.2 (omega (arith, deep)) lo) (λ i. ok (all i) rest)

primary_post_full : (e f : Parser ExprTree) (d : ℕ) → Full 1 9 d e → Full 1 1 d f → (x : ExprTree) (ts rest : List Token) → expr x ts ≡ Some rest → nesting x + 0 ≤ d → rank x ≤ 0 → Looser 1 rest → post_at e f ts ≡ ok x rest
unfolding post_at parts_at
primary_post_full e f d he hf x ts rest h deep low lo =
    let p = here_some x ts rest h in
    rw (p.1, primary_full e f d he hf x ts rest h (omega (arith, deep)) low, many_stops is_part (item_step (part_at e)) (length rest) [] rest (no_part rest lo)) refl

-- a primary expression with what stands behind it is read
pub post_full : (e f : Parser ExprTree) (d : ℕ) → Full 1 9 d e → Full 1 1 d f → Full 0 1 d (post_at e f)
post_full e f d he hf x ts rest h deep low lo = by_kind (closely x low)
  where
    by_kind : Closely x → post_at e f ts ≡ ok x rest
    by_kind (primary c) = primary_post_full e f d he hf x ts rest h deep c lo
    by_kind (with_parts p a xs same) =
        subst (λ y. post_at e f ts ≡ ok y rest) (sym same)
        (with_parts_full e f d he hf p a xs ts rest (subst (λ y. expr y ts ≡ Some rest) same h) (subst (λ y. nesting y + 0 ≤ d) same deep) lo)

sign_back : (o : UnaryOperator) → unary_of (unary_mark o) ≡ Some o
sign_back unaries.Minus = refl
sign_back unaries.Not = refl

-- an operand with an operator in front
signed_full : (e u f : Parser ExprTree) (d : ℕ) → Full 1 2 d u → (p : Place) (o : UnaryOperator) (a : ExprTree) (ts rest : List Token) → expr (tree.unary p o a) ts ≡ Some rest → nesting (tree.unary p o a) + 0 ≤ d → Looser 2 rest → whole_operand_at e u f ts ≡ ok (tree.unary p o a) rest
unfolding whole_operand_at next_unary signed_at
signed_full e u f d hu p o a ts rest h deep lo =
    let g = gone (at p ts) h in
    let m = gone (mark Real (unary_mark o) g.0) g.2 in
    let q = gone (provided (is_within 2 a) m.0) m.2 in
    let w = met _ m.0 q.0 q.1 in
    let k = behind p g.1 (mark_front Real (unary_mark o) g.0 m.0 m.1) in
    let read : u m.0 ≡ ok a rest = rw w.1 (hu a q.0 rest q.2 (omega (arith, deep)) (leb-true (rank a) 2 w.0) lo) in
    rw (k.next_is, sign_back o, mark_here Real _ p ts g.0 m.0 g.1 m.1, read) refl

-- a type in front of a closing parenthesis is seen as that of a cast
cast_type : (ts rest : List Token) → Typed Real ts rest → Front Real (a_mark punctuators.CloseParenthesis) rest → sees_cast_type ts ≡ true
unfolding sees_cast_type
cast_type ts rest (by_word k f h) c = rw (type_word_of Real _ ts f, h) refl
cast_type ts rest (by_name mid t u f s first second) c =
    let inside : after ts ≡ mid = ap after first in
    let third : after mid ≡ rest = ap after second in
    rw (type_word_of Real _ ts f, f.names_are, inside, s.marks_are punctuators.Star, third, c.marks_are punctuators.CloseParenthesis) refl

cast_full : (e u f : Parser ExprTree) (d : ℕ) → Full 1 2 d u → (p : Place) (t : CType) (a : ExprTree) (ts rest : List Token) → expr (tree.cast p t a) ts ≡ Some rest → nesting (tree.cast p t a) + 0 ≤ d → Looser 2 rest → whole_operand_at e u f ts ≡ ok (tree.cast p t a) rest
unfolding whole_operand_at next_unary unsigned_at cast_at sees_cast
cast_full e u f d hu p t a ts rest h deep lo =
    let g = gone (at p ts) h in
    let m = gone (mark Real punctuators.OpenParenthesis g.0) g.2 in
    let z = gone (ctype Real t m.0) m.2 in
    let c = gone (mark Real punctuators.CloseParenthesis z.0) z.2 in
    let q = gone (provided (is_within 2 a) c.0) c.2 in
    let w = met _ c.0 q.0 q.1 in
    let k = behind p g.1 (mark_front Real punctuators.OpenParenthesis g.0 m.0 m.1) in
    let open_ = mark_took Real punctuators.OpenParenthesis g.0 m.0 m.1 in
    let inside : after ts ≡ m.0 = ap after (at_stays p ts g.0 g.1 ∙ open_.parts) in
    let close = mark_front Real punctuators.CloseParenthesis z.0 c.0 c.1 in
    let seen : sees_cast_type m.0 ≡ true = cast_type m.0 z.0 (ctype_begins Real t m.0 z.0 z.1) close in
    let ends : Ends Real z.0 = record { no_width = width_of Real _ z.0 close; no_star = close.marks_are punctuators.Star } in
    let read : u c.0 ≡ ok a rest = rw w.1 (hu a q.0 rest q.2 (omega (arith, deep)) (leb-true (rank a) 2 w.0) lo) in
    rw (k.next_is, k.marks_are punctuators.OpenParenthesis, inside, seen, mark_here Real _ p ts g.0 m.0 g.1 m.1, ctype_full Real t m.0 z.0 z.1 ends, (mark_read Real _ z.0 c.0 c.1).1, read) refl

-- no primary expression begins with an operator
unsigned : (c : Class) → class_primary c ≡ true → found_then (class_next c) unary_of ≡ None
unsigned (a_mark punctuators.OpenParenthesis) h = refl
unsigned (a_mark p) h = no_true h
unsigned (a_word k) h = refl
unsigned a_name h = refl
unsigned a_number h = refl
unsigned a_character h = refl

post_operand_full : (e u f : Parser ExprTree) (d : ℕ) → Full 1 9 d e → Full 1 1 d f → (x : ExprTree) (ts rest : List Token) → expr x ts ≡ Some rest → nesting x + 0 ≤ d → rank x ≤ 1 → Looser 2 rest → whole_operand_at e u f ts ≡ ok x rest
unfolding whole_operand_at next_unary unsigned_at
post_operand_full e u f d he hf x ts rest h deep low lo =
    let b = expr_begins x ts rest h in
    let none : found_then (next_mark Real ts) unary_of ≡ None = rw b.front.next_is (unsigned b.class (b.close low)) in
    rw (none, uncast x ts rest h low) (post_full e f d he hf x ts rest h deep low (omega (arith, lo)))

-- an operand is one with an operator or a cast in front, or one without
data Operand (x : ExprTree) : Type 0 where
  without : rank x ≤ 1 → Operand x
  with_sign : (p : Place) (o : UnaryOperator) (a : ExprTree) → x ≡ tree.unary p o a → Operand x
  with_cast : (p : Place) (t : CType) (a : ExprTree) → x ≡ tree.cast p t a → Operand x

an_operand : (x : ExprTree) → rank x ≤ 2 → Operand x
an_operand (tree.number p n ty) h = without (omega arith)
an_operand (tree.character p n) h = without (omega arith)
an_operand (tree.true_ p) h = without (omega arith)
an_operand (tree.false_ p) h = without (omega arith)
an_operand (tree.name_ p x) h = without (omega arith)
an_operand (tree.parenthesized p a) h = without (omega arith)
an_operand (tree.malloc p t) h = without (omega arith)
an_operand (tree.malloc_ints p n q) h = without (omega arith)
an_operand (tree.postfix p a xs) h = without (omega arith)
an_operand (tree.unary p o a) h = with_sign p o a refl
an_operand (tree.cast p t a) h = with_cast p t a refl
an_operand (tree.chain p l a xs) h = absurd (omega (arith, h, loose l))
an_operand (tree.conditional p c a b) h = absurd (omega (arith, h))

pub operand_full : (e u f : Parser ExprTree) (d : ℕ) → Full 1 9 d e → Full 1 2 d u → Full 1 1 d f → Full 0 2 d (whole_operand_at e u f)
operand_full e u f d he hu hf x ts rest h deep low lo = by_kind (an_operand x low)
  where
    by_kind : Operand x → whole_operand_at e u f ts ≡ ok x rest
    by_kind (without c) = post_operand_full e u f d he hf x ts rest h deep c lo
    by_kind (with_sign p o a same) =
        subst (λ y. whole_operand_at e u f ts ≡ ok y rest) (sym same)
        (signed_full e u f d hu p o a ts rest (subst (λ y. expr y ts ≡ Some rest) same h) (subst (λ y. nesting y + 0 ≤ d) same deep) lo)
    by_kind (with_cast p t a same) =
        subst (λ y. whole_operand_at e u f ts ≡ ok y rest) (sym same)
        (cast_full e u f d hu p t a ts rest (subst (λ y. expr y ts ≡ Some rest) same h) (subst (λ y. nesting y + 0 ≤ d) same deep) lo)

-- the operator and the operand of a link stand there
record Linked (l : Level) (x : LinkTree) (ts rest : List Token) : Type 0 where
  place : Place
  operator : _
  operand : ExprTree
  parts : x ≡ tree.link place operator operand
  here : List Token
  inside : List Token
  stands : at place ts ≡ Some here
  marks : mark Real (binary_mark operator) here ≡ Some inside
  walk : expr operand inside ≡ Some rest
  on_its_level : nat_eq (looseness (level_of operator)) (looseness l) ≡ true
  below : rank operand < looseness l

linked : (l : Level) (x : LinkTree) (ts rest : List Token) → link l x ts ≡ Some rest → Linked l x ts rest
linked l (tree.link p o a) ts rest h =
    let g = gone (at p ts) h in
    let q = gone (provided (joins_on l (tree.link p o a)) g.0) g.2 in
    let w = met _ g.0 q.0 q.1 in
    let m = gone (mark Real (binary_mark o) q.0) q.2 in
    let c = both _ _ w.0 in
    record { place = p; operator = o; operand = a; parts = refl; here = g.0; inside = m.0; stands = g.1; marks = subst (λ us. mark Real (binary_mark o) us ≡ Some m.0) (sym w.1) m.1; walk = m.2; on_its_level = c.0; below = ltb-true (rank a) (looseness l) c.1 }

link_front : (l : Level) (x : LinkTree) (ts rest : List Token) (k : Linked l x ts rest) → Front Real (a_mark (binary_mark k.operator)) ts
link_front l x ts rest k = behind k.place k.stands (mark_front Real (binary_mark k.operator) k.here k.inside k.marks)

link_item : (l : Level) (r d : ℕ) (p : Parser ExprTree) → suc r ≡ looseness l → Full 0 r d p → Item (link l) link_nesting d (Looser r) (joins l) (link_at l p)
unfolding link_at
link_item l r d p level hp = record {
  full = λ x ts rest h deep lo. read x ts rest (linked l x ts rest h) deep lo;
  heads = λ x ts rest h. let k = linked l x ts rest h in joined l k.operator ts (link_front l x ts rest k) k.on_its_level;
  fine = λ x ts rest h. let k = linked l x ts rest h in front_looser r _ ts (link_front l x ts rest k) (omega (arith, level, binary_hold k.operator, eqb-true (looseness (level_of k.operator)) (looseness l) k.on_its_level));
  eats = λ x. link_eats l x;
}
  where
    read : (x : LinkTree) (ts rest : List Token) → Linked l x ts rest → link_nesting x ≤ d → Looser r rest → link_at l p ts ≡ ok x rest
    read x ts rest k deep lo =
        let same = k.parts in
        let back = sym same in
        let depth : nesting k.operand + 0 ≤ d = omega (arith, subst (λ (y : LinkTree). link_nesting y ≤ d) same deep) in
        let one = operator_full l k.place k.operator ts k.here k.inside k.stands k.marks k.on_its_level in
        let two : p k.inside ≡ ok k.operand rest = hp k.operand k.inside rest k.walk depth (omega (arith, level, k.below)) lo in
        rw (one, two) (λ i. ok (back i) rest)

-- an operand without links is read as itself
unchained_full : (l : Level) (r d : ℕ) (p : Parser ExprTree) → suc r ≡ looseness l → Full 0 r d p → (x : ExprTree) (ts rest : List Token) → expr x ts ≡ Some rest → nesting x + 0 ≤ d → rank x ≤ r → Looser (suc r) rest → chain_at l p ts ≡ ok x rest
unfolding chain_at links_at
unchained_full l r d p level hp x ts rest h deep low lo =
    let q = here_some x ts rest h in
    rw (q.1, hp x ts rest h deep low (omega (arith, lo)), many_stops (joins l) (item_step (link_at l p)) (length rest) [] rest (no_join l (suc r) rest lo (omega (arith, level)))) refl

-- operands joined by operators of the level are read
chained_full : (l : Level) (r d : ℕ) (p : Parser ExprTree) → suc r ≡ looseness l → Full 0 r d p → (q : Place) (a : ExprTree) (xs : LinkTrees) (ts rest : List Token) → expr (tree.chain q l a xs) ts ≡ Some rest → nesting (tree.chain q l a xs) + 0 ≤ d → Looser (suc r) rest → chain_at l p ts ≡ ok (tree.chain q l a xs) rest
unfolding chain_at links_at
chained_full l r d p level hp q a xs ts rest h deep lo =
    let g = gone (at q ts) h in
    let c = gone (provided (is_operand l a && has_links xs) g.0) g.2 in
    let w = met _ g.0 c.0 c.1 in
    let conditions = both _ _ w.0 in
    let m = gone (expr a c.0) c.2 in
    let i = link_item l r d p level hp in
    let walk : links l (link_list (link_items xs)) m.0 ≡ Some rest = subst (λ ys. links l ys m.0 ≡ Some rest) (sym (link_items_are xs)) m.2 in
    let depth : links_nesting (link_list (link_items xs)) ≤ d = subst (λ ys. links_nesting ys ≤ d) (sym (link_items_are xs)) (omega (arith, deep)) in
    let below : Looser r rest = omega (arith, lo) in
    let first : p g.0 ≡ ok a m.0 = subst (λ us. p us ≡ ok a m.0) (sym w.1) (hp a c.0 m.0 m.1 (omega (arith, deep)) (omega (arith, level, ltb-true (rank a) (looseness l) conditions.0)) (first_fine (links_collect l) i (link_items xs) m.0 rest walk below)) in
    let others = items_full (links_collect l) i (length m.0) (link_items xs) [] m.0 rest walk depth below (no_join l (suc r) rest lo (omega (arith, level))) (omega arith) in
    let all = chained_is q l a xs conditions.1 in
    rw (here_read q ts g.0 g.1, first, others) (λ j. ok (all j) rest)

-- an expression of a level is a chain on it
data Chain (n : ℕ) (x : ExprTree) : Type 0 where
  closer : rank x ≤ n → Chain n x
  chain_of : (p : Place) (l : Level) (a : ExprTree) (xs : LinkTrees) → x ≡ tree.chain p l a xs → looseness l ≡ suc n → Chain n x

under : (m n : ℕ) → m ≤ suc n → ((m ≡ suc n) → ⊥) → m ≤ n
under m n a b = omega (arith, a, b)

closer_or : (n : ℕ) (x : ExprTree) → 2 ≤ n → n ≤ 7 → rank x ≤ suc n → Chain n x
closer_or n (tree.number p v ty) h k low = closer (omega arith)
closer_or n (tree.character p v) h k low = closer (omega arith)
closer_or n (tree.true_ p) h k low = closer (omega arith)
closer_or n (tree.false_ p) h k low = closer (omega arith)
closer_or n (tree.name_ p x) h k low = closer (omega arith)
closer_or n (tree.parenthesized p a) h k low = closer (omega arith)
closer_or n (tree.malloc p t) h k low = closer (omega arith)
closer_or n (tree.malloc_ints p v q) h k low = closer (omega arith)
closer_or n (tree.postfix p a xs) h k low = closer (omega (arith, h))
closer_or n (tree.unary p o a) h k low = closer (omega (arith, h))
closer_or n (tree.cast p t a) h k low = closer (omega (arith, h))
closer_or n (tree.chain p l a xs) h k low = by_looseness (cases_eq (looseness l) (suc n))
  where
    by_looseness : (looseness l ≡ suc n) ⊎ ((looseness l ≡ suc n) → ⊥) → Chain n (tree.chain p l a xs)
    by_looseness (inl e) = chain_of p l a xs refl e
    by_looseness (inr e) = closer (under (looseness l) n low e)
closer_or n (tree.conditional p c a b) h k low = absurd (omega (arith, low, k))

-- operands joined by operators of a level, where those of the closer levels are read
level_full : (l : Level) (r d : ℕ) (p : Parser ExprTree) → suc r ≡ looseness l → Full 0 r d p → (x : ExprTree) → Chain r x → (ts rest : List Token) → expr x ts ≡ Some rest → nesting x + 0 ≤ d → Looser (suc r) rest → chain_at l p ts ≡ ok x rest
level_full l r d p level hp x (closer c) ts rest w deep lo = unchained_full l r d p level hp x ts rest w deep c lo
level_full l r d p level hp x (chain_of q m a xs same e) ts rest w deep lo =
    let this : m ≡ l = level_same m l (e ∙ level) in
    let whole : x ≡ tree.chain q l a xs = same ∙ ap (λ (k : Level). tree.chain q k a xs) this in
    subst (λ y. chain_at l p ts ≡ ok y rest) (sym whole)
    (chained_full l r d p level hp q a xs ts rest (subst (λ y. expr y ts ≡ Some rest) whole w) (subst (λ y. nesting y + 0 ≤ d) whole deep) lo)

pub tier_full : (u : Parser ExprTree) (d : ℕ) → Full 0 2 d u → (j : ℕ) → j ≤ 6 → Full 0 (j + 2) d (tier_at u j)
unfolding tier_at
tier_full u d hu zero h x ts rest w deep low lo = hu x ts rest w deep low lo
tier_full u d hu (suc j) h x ts rest w deep low lo =
    let level : suc (j + 2) ≡ looseness (nth_level j) = omega (arith, level_looseness j (omega (arith, h))) in
    level_full (nth_level j) (j + 2) d (tier_at u j) level (tier_full u d hu j (omega (arith, h))) x (closer_or (j + 2) x (omega arith) (omega (arith, h)) (omega (arith, low))) ts rest w deep (omega (arith, lo))

choice_full : (e o : Parser ExprTree) (d : ℕ) → Full 1 9 d e → Full 0 2 d o → (p : Place) (c a b : ExprTree) (ts rest : List Token) → expr (tree.conditional p c a b) ts ≡ Some rest → nesting (tree.conditional p c a b) + 0 ≤ d → Looser 9 rest → conditional_at e o ts ≡ ok (tree.conditional p c a b) rest
unfolding conditional_at choice_at
choice_full e o d he ho p c a b ts rest h deep lo =
    let g = gone (at p ts) h in
    let q = gone (provided (is_within 8 c) g.0) g.2 in
    let w = met _ g.0 q.0 q.1 in
    let x = gone (expr c q.0) q.2 in
    let m = gone (mark Real punctuators.Question x.0) x.2 in
    let y = gone (expr a m.0) m.2 in
    let n = gone (mark Real punctuators.Colon y.0) y.2 in
    let question = mark_front Real punctuators.Question x.0 m.0 m.1 in
    let colon = mark_front Real punctuators.Colon y.0 n.0 n.1 in
    let one : tier_at o 6 g.0 ≡ ok c x.0 = subst (λ us. tier_at o 6 us ≡ ok c x.0) (sym w.1) (tier_full o d ho 6 (omega arith) c q.0 x.0 x.1 (omega (arith, deep)) (leb-true (rank c) 8 w.0) (front_looser 8 _ x.0 question (omega arith))) in
    let two : e m.0 ≡ ok a y.0 = he a m.0 y.0 y.1 (omega (arith, deep)) (at_most a) (front_looser 9 _ y.0 colon (omega arith)) in
    let three : e n.0 ≡ ok b rest = he b n.0 rest n.2 (omega (arith, deep)) (at_most b) lo in
    rw (here_read p ts g.0 g.1, one, question.marks_are punctuators.Question, (mark_read Real _ x.0 m.0 m.1).1, two, (mark_read Real _ y.0 n.0 n.1).1, three) refl

unconditional_full : (e o : Parser ExprTree) (d : ℕ) → Full 1 9 d e → Full 0 2 d o → (x : ExprTree) (ts rest : List Token) → expr x ts ≡ Some rest → nesting x + 0 ≤ d → rank x ≤ 8 → Looser 9 rest → conditional_at e o ts ≡ ok x rest
unfolding conditional_at choice_at
unconditional_full e o d he ho x ts rest h deep low lo =
    let p = here_some x ts rest h in
    rw (p.1, tier_full o d ho 6 (omega arith) x ts rest h deep low (omega (arith, lo)), no_question rest lo) refl

-- an expression is a conditional, or holds closer
data Choice (x : ExprTree) : Type 0 where
  no_choice : rank x ≤ 8 → Choice x
  choice_of : (p : Place) (c a b : ExprTree) → x ≡ tree.conditional p c a b → Choice x

a_choice : (x : ExprTree) → Choice x
a_choice (tree.number p n ty) = no_choice (omega arith)
a_choice (tree.character p n) = no_choice (omega arith)
a_choice (tree.true_ p) = no_choice (omega arith)
a_choice (tree.false_ p) = no_choice (omega arith)
a_choice (tree.name_ p x) = no_choice (omega arith)
a_choice (tree.parenthesized p a) = no_choice (omega arith)
a_choice (tree.malloc p t) = no_choice (omega arith)
a_choice (tree.malloc_ints p n q) = no_choice (omega arith)
a_choice (tree.postfix p a xs) = no_choice (omega arith)
a_choice (tree.unary p o a) = no_choice (omega arith)
a_choice (tree.cast p t a) = no_choice (omega arith)
a_choice (tree.chain p l a xs) = no_choice (most_loose l)
a_choice (tree.conditional p c a b) = choice_of p c a b refl

pub conditional_full : (e o : Parser ExprTree) (d : ℕ) → Full 1 9 d e → Full 0 2 d o → Full 0 9 d (conditional_at e o)
conditional_full e o d he ho x ts rest h deep low lo = by_kind (a_choice x)
  where
    by_kind : Choice x → conditional_at e o ts ≡ ok x rest
    by_kind (no_choice c) = unconditional_full e o d he ho x ts rest h deep c lo
    by_kind (choice_of p c a b same) =
        subst (λ y. conditional_at e o ts ≡ ok y rest) (sym same)
        (choice_full e o d he ho p c a b ts rest (subst (λ y. expr y ts ≡ Some rest) same h) (subst (λ y. nesting y + 0 ≤ d) same deep) lo)

mutual
  unfolding expr_at unary_at factor_at

  pub expr_full : (d : ℕ) → Full 1 9 d (expr_at d)
  expr_full zero x ts rest h deep low lo = absurd (omega (arith, deep))
  expr_full (suc d) x ts rest h deep low lo =
      conditional_full (expr_at d) (whole_operand_at (expr_at d) (unary_at d) (factor_at d)) d (expr_full d) (operand_full (expr_at d) (unary_at d) (factor_at d) d (expr_full d) (unary_full d) (factor_full d)) x ts rest h (omega (arith, deep)) low lo

  pub unary_full : (d : ℕ) → Full 1 2 d (unary_at d)
  unary_full zero x ts rest h deep low lo = absurd (omega (arith, deep))
  unary_full (suc d) x ts rest h deep low lo = operand_full (expr_at d) (unary_at d) (factor_at d) d (expr_full d) (unary_full d) (factor_full d) x ts rest h (omega (arith, deep)) low lo

  pub factor_full : (d : ℕ) → Full 1 1 d (factor_at d)
  factor_full zero x ts rest h deep low lo = absurd (omega (arith, deep))
  factor_full (suc d) x ts rest h deep low lo = post_full (expr_at d) (factor_at d) d (expr_full d) (factor_full d) x ts rest h (omega (arith, deep)) low lo

pub postfix_full : (d : ℕ) → Full 0 1 d (post_at (expr_at d) (factor_at d))
postfix_full d = post_full (expr_at d) (factor_at d) d (expr_full d) (factor_full d)
