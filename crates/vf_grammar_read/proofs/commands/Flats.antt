-- Ghost commands in which no other stands are read where they are spelled.
use Rattle.std.proofs.Common.{◌≡◌, ℕ, ◌+◌, ◌≤◌, Bool, true, false, List, [], ◌∷◌, Option, Some, refl, sym, subst, ap, ◌∙◌, arith}
use Rattle.vf_base.specs.declared.place.Place.{Place}
use Rattle.vf_lexer.specs.declared.punctuator.Punctuator.TheVariants as punctuators
use Rattle.vf_lexer.specs.declared.token.Token.{Token}
use Rattle.vf_syntax.specs.declared.keyword.Keyword.TheVariants as keywords
use Rattle.vf_syntax.specs.declared.side.Side.TheVariants.{Ghost}
use Rattle.vf_syntax.specs.declared.written.Name.{Name}
use Rattle.vf_syntax.specs.declared.pattern.Pattern.{Pattern}
use Rattle.vf_syntax.specs.declared.pattern.Share.{Share}
use Rattle.vf_syntax.specs.GhostExprTree.{GhostExprTree, GhostExprTrees, no_ghost_expr, more_ghost_expr, ghost_expr_list}
use Rattle.vf_syntax.specs.SortTree.{SortTree}
use Rattle.vf_syntax.specs.AssertionTree.{PartTree, part_list}
use Rattle.vf_syntax.specs.GhostCommandTree.{GhostCommandTree}
use Rattle.vf_syntax.specs.GhostCommandTree as tree
use Rattle.vf_syntax.specs.Walks.{◌⨾◌, at, mark, word, identifier, is_mark}
use Rattle.vf_syntax.specs.Written.{name}
use Rattle.vf_syntax.specs.Lists.{optional, greatest, or_none}
use Rattle.vf_syntax.specs.GhostExpressions.{sort, ghost_expr, ghost_nesting, ghost_arguments}
use Rattle.vf_syntax.specs.Assertions.{share, pattern_list, pattern_nesting, assertion}
use Rattle.vf_syntax.specs.Commands.{command, command_nesting}
use Rattle.vf_cursor.specs.Parsing.{ok}
use Rattle.vf_parse_term.specs.Terms.{term_at}
use Rattle.vf_parse_command.specs.declared.flat.Target.{Target}
use Rattle.vf_parse_command.specs.Flats.{sees_assignment, sees_call, applied_at, open_at, close_at, leak_at, assert_at, declaration_at, assignment_at, call_at, value_at, flat_at}
use Rattle.vf_grammar_read.proofs.expressions.Fronts.{Class, a_name, class_word, Front, gone, at_stays, mark_front, word_front, identifier_front}
use Rattle.vf_grammar_read.proofs.expressions.Taken.{here_read, mark_read, word_here, name_read, name_here}
use Rattle.vf_grammar_read.proofs.expressions.TypesFull.{width_of}
use Rattle.vf_grammar_read.proofs.terms.Begins.{behind}
use Rattle.vf_grammar_read.proofs.terms.Behind.{front_looser}
use Rattle.vf_grammar_read.proofs.terms.TermsFull.{most_loose, term_full, expr_items, expr_items_are, arguments_full}
use Rattle.vf_grammar_read.proofs.terms.SortsFull as sorts_full
use Rattle.vf_grammar_read.proofs.patterns.SharesFull.{name_front, any_share_full}
use Rattle.vf_grammar_read.proofs.patterns.PatternsFull.{patterns_full, any_patterns_full}
use Rattle.vf_grammar_read.proofs.assertions.Ends.{semicolon_ends}
use Rattle.vf_grammar_read.proofs.assertions.AssertionsFull.{assertion_full}
use Rattle.vf_grammar_read.proofs.commands.Sorts.{second, sort_other, sort_begins, sort_declares}

-- an expression and what ends the command are read
pub value_full : (d : ℕ) (e : GhostExprTree) (ts mid rest : List Token) → ghost_expr e ts ≡ Some mid → mark Ghost punctuators.Semicolon mid ≡ Some rest → ghost_nesting e + 1 ≤ d → term_at d ts ≡ ok e mid
value_full d e ts mid rest h m deep = term_full d e ts mid h deep (most_loose e) (front_looser 8 _ mid (mark_front Ghost punctuators.Semicolon mid rest m) (omega arith))

-- what `open` and `close` are for
target : Option Share → Name → List Pattern → Option (List Pattern) → Target
target s n xs ys = record { share = s; name = n; first = xs; second = ys }

target_full : (d : ℕ) (s : Option Share) (n : Name) (xs : List Pattern) (ys : Option (List Pattern)) (ts rest : List Token) → (optional share s ⨾ name Ghost n ⨾ pattern_list xs ⨾ optional pattern_list ys ⨾ mark Ghost punctuators.Semicolon) ts ≡ Some rest
    → greatest pattern_nesting xs ≤ d → or_none (greatest pattern_nesting) ys ≤ d → applied_at d ts ≡ ok (target s n xs ys) rest
unfolding applied_at target
target_full d s n xs ys ts rest h low lower =
    let a = gone {g = name Ghost n ⨾ pattern_list xs ⨾ optional pattern_list ys ⨾ mark Ghost punctuators.Semicolon} (optional share s ts) h in
    let b = gone {g = pattern_list xs ⨾ optional pattern_list ys ⨾ mark Ghost punctuators.Semicolon} (name Ghost n a.0) a.2 in
    let c = gone {g = optional pattern_list ys ⨾ mark Ghost punctuators.Semicolon} (pattern_list xs b.0) b.2 in
    let e = gone {g = mark Ghost punctuators.Semicolon} (optional pattern_list ys c.0) c.2 in
    let one = any_share_full s ts a.0 a.1 ((name_front n a.0 b.0 b.1).marks_are punctuators.OpenBracket) in
    let two = any_patterns_full d ys c.0 e.0 e.1 lower ((mark_front Ghost punctuators.Semicolon e.0 rest e.2).marks_are punctuators.OpenParenthesis) in
    rw (one, name_read Ghost n a.0 b.0 b.1, patterns_full d xs b.0 c.0 c.1 low, two, (mark_read Ghost _ e.0 rest e.2).1) refl

open_full : (d : ℕ) (p : Place) (s : Option Share) (n : Name) (xs : List Pattern) (ys : Option (List Pattern)) (ts rest : List Token) → command (tree.open_ p s n xs ys) ts ≡ Some rest → command_nesting (tree.open_ p s n xs ys) ≤ d → flat_at d ts ≡ ok (tree.open_ p s n xs ys) rest
unfolding flat_at open_at target
open_full d p s n xs ys ts rest h deep =
    let g = gone (at p ts) h in
    let w = gone (word Ghost keywords.Open g.0) g.2 in
    let f = behind p g.1 (word_front Ghost keywords.Open g.0 w.0 w.1) in
    rw (f.words_are keywords.Open, word_here Ghost _ p ts g.0 w.0 g.1 w.1, target_full d s n xs ys w.0 rest w.2 (omega (arith, deep)) (omega (arith, deep))) refl

close_full : (d : ℕ) (p : Place) (s : Option Share) (n : Name) (xs : List Pattern) (ys : Option (List Pattern)) (ts rest : List Token) → command (tree.close_ p s n xs ys) ts ≡ Some rest → command_nesting (tree.close_ p s n xs ys) ≤ d → flat_at d ts ≡ ok (tree.close_ p s n xs ys) rest
unfolding flat_at close_at target
close_full d p s n xs ys ts rest h deep =
    let g = gone (at p ts) h in
    let w = gone (word Ghost keywords.Close g.0) g.2 in
    let f = behind p g.1 (word_front Ghost keywords.Close g.0 w.0 w.1) in
    rw (f.words_are keywords.Open, f.words_are keywords.Close, word_here Ghost _ p ts g.0 w.0 g.1 w.1, target_full d s n xs ys w.0 rest w.2 (omega (arith, deep)) (omega (arith, deep))) refl

leak_full : (d : ℕ) (p : Place) (a : List PartTree) (ts rest : List Token) → command (tree.leak_ p a) ts ≡ Some rest → command_nesting (tree.leak_ p a) ≤ d → flat_at d ts ≡ ok (tree.leak_ p a) rest
unfolding flat_at leak_at
leak_full d p a ts rest h deep =
    let g = gone (at p ts) h in
    let w = gone (word Ghost keywords.Leak g.0) g.2 in
    let b = gone (assertion (part_list a) w.0) w.2 in
    let f = behind p g.1 (word_front Ghost keywords.Leak g.0 w.0 w.1) in
    rw (f.words_are keywords.Open, f.words_are keywords.Close, f.words_are keywords.Leak, word_here Ghost _ p ts g.0 w.0 g.1 w.1, assertion_full d a w.0 b.0 b.1 deep (semicolon_ends b.0 rest b.2), (mark_read Ghost _ b.0 rest b.2).1) refl

assert_full : (d : ℕ) (p : Place) (a : List PartTree) (ts rest : List Token) → command (tree.assert_ p a) ts ≡ Some rest → command_nesting (tree.assert_ p a) ≤ d → flat_at d ts ≡ ok (tree.assert_ p a) rest
unfolding flat_at assert_at
assert_full d p a ts rest h deep =
    let g = gone (at p ts) h in
    let w = gone (word Ghost keywords.Assert g.0) g.2 in
    let b = gone (assertion (part_list a) w.0) w.2 in
    let f = behind p g.1 (word_front Ghost keywords.Assert g.0 w.0 w.1) in
    rw (f.words_are keywords.Open, f.words_are keywords.Close, f.words_are keywords.Leak, f.words_are keywords.Assert, word_here Ghost _ p ts g.0 w.0 g.1 w.1, assertion_full d a w.0 b.0 b.1 deep (semicolon_ends b.0 rest b.2), (mark_read Ghost _ b.0 rest b.2).1) refl

-- what begins with none of the words
unworded : (d : ℕ) (c : Class) (ts : List Token) → Front Ghost c ts → class_word c keywords.Open ≡ false → class_word c keywords.Close ≡ false → class_word c keywords.Leak ≡ false → class_word c keywords.Assert ≡ false → flat_at d ts ≡ value_at d ts
unfolding flat_at
unworded d c ts f one two three four = rw (f.words_are keywords.Open ∙ one, f.words_are keywords.Close ∙ two, f.words_are keywords.Leak ∙ three, f.words_are keywords.Assert ∙ four) refl

assignment_value : (d : ℕ) (p : Place) (x : List ℕ) (e : GhostExprTree) (ts rest : List Token) → command (tree.assignment p x e) ts ≡ Some rest → command_nesting (tree.assignment p x e) ≤ d → value_at d ts ≡ ok (tree.assignment p x e) rest
unfolding value_at sees_assignment assignment_at
assignment_value d p x e ts rest h deep =
    let g = gone (at p ts) h in
    let n = gone (identifier Ghost x g.0) g.2 in
    let m = gone (mark Ghost punctuators.Becomes n.0) n.2 in
    let b = gone (ghost_expr e m.0) m.2 in
    let f = behind p g.1 (identifier_front Ghost x g.0 n.0 n.1) in
    let sees = second x (is_mark Ghost punctuators.Becomes) ts g.0 n.0 (at_stays p ts g.0 g.1) n.1 ∙ (mark_front Ghost punctuators.Becomes n.0 m.0 m.1).marks_are punctuators.Becomes in
    rw (f.names_are, sees, name_here Ghost x p ts g.0 n.0 g.1 n.1, (mark_read Ghost _ n.0 m.0 m.1).1, value_full d e m.0 b.0 rest b.1 b.2 deep, (mark_read Ghost _ b.0 rest b.2).1) refl

assignment_full : (d : ℕ) (p : Place) (x : List ℕ) (e : GhostExprTree) (ts rest : List Token) → command (tree.assignment p x e) ts ≡ Some rest → command_nesting (tree.assignment p x e) ≤ d → flat_at d ts ≡ ok (tree.assignment p x e) rest
assignment_full d p x e ts rest h deep =
    let g = gone (at p ts) h in
    let n = gone (identifier Ghost x g.0) g.2 in
    unworded d a_name ts (behind p g.1 (identifier_front Ghost x g.0 n.0 n.1)) refl refl refl refl ∙ assignment_value d p x e ts rest h deep

-- arguments as a list
abbrev term_items : GhostExprTrees → List GhostExprTree
term_items no_ghost_expr = []
term_items (more_ghost_expr x xs) = x ∷ term_items xs

listed : (xs : List GhostExprTree) → term_items (ghost_expr_list xs) ≡ xs
listed [] = refl
listed (x ∷ xs) = ap (λ (ys : List GhostExprTree). x ∷ ys) (listed xs)

items_back : (xs : List GhostExprTree) → expr_items (ghost_expr_list xs) ≡ xs
items_back xs = sym (listed (expr_items (ghost_expr_list xs))) ∙ ap term_items (expr_items_are (ghost_expr_list xs)) ∙ listed xs

arguments_walk : (xs : GhostExprTrees) (ts inside closed rest : List Token) → mark Ghost punctuators.OpenParenthesis ts ≡ Some inside → ghost_arguments xs inside ≡ Some closed → mark Ghost punctuators.CloseParenthesis closed ≡ Some rest
    → (mark Ghost punctuators.OpenParenthesis ⨾ ghost_arguments xs ⨾ mark Ghost punctuators.CloseParenthesis) ts ≡ Some rest
arguments_walk xs ts inside closed rest one two three = rw (one, two) three

call_value : (d : ℕ) (p : Place) (x : List ℕ) (xs : List GhostExprTree) (ts rest : List Token) → command (tree.call_ p x xs) ts ≡ Some rest → command_nesting (tree.call_ p x xs) ≤ d → value_at d ts ≡ ok (tree.call_ p x xs) rest
unfolding value_at sees_assignment sees_call call_at
call_value d p x xs ts rest h deep =
    let g = gone (at p ts) h in
    let n = gone (identifier Ghost x g.0) g.2 in
    let m = gone (mark Ghost punctuators.OpenParenthesis n.0) n.2 in
    let b = gone (ghost_arguments (ghost_expr_list xs) m.0) m.2 in
    let z = gone (mark Ghost punctuators.CloseParenthesis b.0) b.2 in
    let f = behind p g.1 (identifier_front Ghost x g.0 n.0 n.1) in
    let o = mark_front Ghost punctuators.OpenParenthesis n.0 m.0 m.1 in
    let here = second x (is_mark Ghost punctuators.OpenParenthesis) ts g.0 n.0 (at_stays p ts g.0 g.1) n.1 ∙ o.marks_are punctuators.OpenParenthesis in
    let none = second x (is_mark Ghost punctuators.Becomes) ts g.0 n.0 (at_stays p ts g.0 g.1) n.1 ∙ o.marks_are punctuators.Becomes in
    let list = arguments_walk (ghost_expr_list xs) n.0 m.0 b.0 z.0 m.1 b.1 z.1 in
    let all = items_back xs in
    rw (f.names_are, none, here, name_here Ghost x p ts g.0 n.0 g.1 n.1, arguments_full (term_at d) d (term_full d) (ghost_expr_list xs) n.0 z.0 list deep, (mark_read Ghost _ z.0 rest z.2).1) (λ i. ok (tree.call_ p x (all i)) rest)

call_full : (d : ℕ) (p : Place) (x : List ℕ) (xs : List GhostExprTree) (ts rest : List Token) → command (tree.call_ p x xs) ts ≡ Some rest → command_nesting (tree.call_ p x xs) ≤ d → flat_at d ts ≡ ok (tree.call_ p x xs) rest
call_full d p x xs ts rest h deep =
    let g = gone (at p ts) h in
    let n = gone (identifier Ghost x g.0) g.2 in
    unworded d a_name ts (behind p g.1 (identifier_front Ghost x g.0 n.0 n.1)) refl refl refl refl ∙ call_value d p x xs ts rest h deep

declaration_value : (d : ℕ) (p : Place) (s : SortTree) (n : Name) (e : GhostExprTree) (ts rest : List Token) → command (tree.declaration p s n e) ts ≡ Some rest → command_nesting (tree.declaration p s n e) ≤ d → value_at d ts ≡ ok (tree.declaration p s n e) rest
unfolding value_at declaration_at
declaration_value d p s n e ts rest h deep =
    let g = gone (at p ts) h in
    let m = gone (sort s g.0) g.2 in
    let k = gone (name Ghost n m.0) m.2 in
    let q = gone (mark Ghost punctuators.Becomes k.0) k.2 in
    let b = gone (ghost_expr e q.0) q.2 in
    let walk = subst (λ us. sort s us ≡ Some m.0) (sym (at_stays p ts g.0 g.1)) m.1 in
    let declares = sort_declares s n ts m.0 k.0 walk k.1 in
    let f = name_front n m.0 k.0 k.1 in
    let ends = sorts_full.mark_ended _ m.0 f refl refl (width_of Ghost _ m.0 f) in
    rw (declares.no_assignment, declares.no_call, here_read p ts g.0 g.1, sorts_full.sort_full d s g.0 m.0 m.1 (omega (arith, deep)) ends, name_read Ghost n m.0 k.0 k.1, (mark_read Ghost _ k.0 q.0 q.1).1, value_full d e q.0 b.0 rest b.1 b.2 (omega (arith, deep)), (mark_read Ghost _ b.0 rest b.2).1) refl

declaration_full : (d : ℕ) (p : Place) (s : SortTree) (n : Name) (e : GhostExprTree) (ts rest : List Token) → command (tree.declaration p s n e) ts ≡ Some rest → command_nesting (tree.declaration p s n e) ≤ d → flat_at d ts ≡ ok (tree.declaration p s n e) rest
declaration_full d p s n e ts rest h deep =
    let g = gone (at p ts) h in
    let m = gone (sort s g.0) g.2 in
    let b = sort_begins s g.0 m.0 m.1 in
    let o = sort_other b.class b.begins in
    unworded d b.class ts (behind p g.1 b.front) o.no_open o.no_close o.no_leak o.no_assert ∙ declaration_value d p s n e ts rest h deep

-- no other ghost command stands in a ghost command
abbrev pub is_flat : GhostCommandTree → Bool
is_flat (tree.if_ p e xs) = false
is_flat (tree.if_else p e xs ys) = false
is_flat (tree.switch_ p e cs) = false
is_flat (tree.block p xs) = false
is_flat x = true

pub flat_full : (d : ℕ) (x : GhostCommandTree) (ts rest : List Token) → is_flat x ≡ true → command x ts ≡ Some rest → command_nesting x ≤ d → flat_at d ts ≡ ok x rest
flat_full d (tree.open_ p s n xs ys) ts rest k h deep = open_full d p s n xs ys ts rest h deep
flat_full d (tree.close_ p s n xs ys) ts rest k h deep = close_full d p s n xs ys ts rest h deep
flat_full d (tree.leak_ p a) ts rest k h deep = leak_full d p a ts rest h deep
flat_full d (tree.assert_ p a) ts rest k h deep = assert_full d p a ts rest h deep
flat_full d (tree.declaration p s n e) ts rest k h deep = declaration_full d p s n e ts rest h deep
flat_full d (tree.assignment p x e) ts rest k h deep = assignment_full d p x e ts rest h deep
flat_full d (tree.call_ p x xs) ts rest k h deep = call_full d p x xs ts rest h deep
flat_full d (tree.if_ p e xs) ts rest k h deep = absurd cc
flat_full d (tree.if_else p e xs ys) ts rest k h deep = absurd cc
flat_full d (tree.switch_ p e cs) ts rest k h deep = absurd cc
flat_full d (tree.block p xs) ts rest k h deep = absurd cc
