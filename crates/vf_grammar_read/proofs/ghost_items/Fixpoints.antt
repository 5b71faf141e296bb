-- What stands between the braces of a fixpoint is read where it is spelled.
use Rattle.std.proofs.Common.{◌≡◌, ℕ, ◌+◌, ◌≤◌, List, [], length, Some, refl, arith}
use Rattle.vf_lexer.specs.declared.punctuator.Punctuator.TheVariants as punctuators
use Rattle.vf_lexer.specs.declared.token.Token.{Token}
use Rattle.vf_syntax.specs.declared.keyword.Keyword.TheVariants as keywords
use Rattle.vf_syntax.specs.declared.side.Side.TheVariants.{Ghost}
use Rattle.vf_syntax.specs.declared.written.Name.{Name}
use Rattle.vf_syntax.specs.declared.item.FixpointBody.{FixpointBody}
use Rattle.vf_syntax.specs.declared.item.FixpointBody.TheVariants as fixpoints
use Rattle.vf_syntax.specs.declared.item.FixpointCase.{FixpointCase}
use Rattle.vf_syntax.specs.GhostExprTree.{GhostExprTree}
use Rattle.vf_syntax.specs.Walks.{at, mark, word, is_word}
use Rattle.vf_syntax.specs.Written.{name}
use Rattle.vf_syntax.specs.Lists.{each, greatest}
use Rattle.vf_syntax.specs.GhostExpressions.{ghost_expr, ghost_nesting}
use Rattle.vf_syntax.specs.Assertions.{case_pattern}
use Rattle.vf_syntax.specs.Units.{fixpoint_case, fixpoint_body, fixpoint_case_nesting, fixpoint_body_nesting}
use Rattle.vf_cursor.specs.Parsing.{ok}
use Rattle.vf_parse_expression.proofs.Collected.{Collects}
use Rattle.vf_parse_assertion.specs.Parsers.{case_head_at, return_head_at}
use Rattle.vf_parse_ghost.specs.Fixpoints.{case_at, case_step, value_at, switch_head_at, switch_at, fixpoint_body_at}
use Rattle.vf_grammar_read.proofs.expressions.Fronts.{a_word, Front, gone, mark_front, word_front}
use Rattle.vf_grammar_read.proofs.expressions.Taken.{mark_read, word_read, word_here, name_read}
use Rattle.vf_grammar_read.proofs.expressions.Eaten.{Eats, keeps, keep_then, eat_then, then_eat, at_keeps, mark_eats, word_eats}
use Rattle.vf_grammar_read.proofs.expressions.Items.{Item, items_full}
use Rattle.vf_grammar_read.proofs.terms.Eaten.{term_eats}
use Rattle.vf_grammar_read.proofs.terms.Begins.{behind}
use Rattle.vf_grammar_read.proofs.patterns.PatternsFull.{case_full}
use Rattle.vf_grammar_read.proofs.assertions.Eaten.{case_pattern_eats}
use Rattle.vf_grammar_read.proofs.commands.Flats.{value_full}

case_front : (x : FixpointCase) (ts rest : List Token) → fixpoint_case x ts ≡ Some rest → Front Ghost (a_word keywords.Case) ts
unfolding fixpoint_case
case_front x ts rest h =
    let g = gone (at x.place ts) h in
    let w = gone (word Ghost keywords.Case g.0) g.2 in
    behind x.place g.1 (word_front Ghost keywords.Case g.0 w.0 w.1)

case_eats : (x : FixpointCase) → Eats (fixpoint_case x)
unfolding fixpoint_case
case_eats x = then_eat (at_keeps x.place) (eat_then (word_eats _ _) (keep_then (keeps (case_pattern_eats x.pattern)) (keep_then (keeps (mark_eats _ _)) (keep_then (keeps (word_eats _ _)) (keep_then (keeps (term_eats x.value)) (keeps (mark_eats _ _)))))))

case_read : (d : ℕ) (x : FixpointCase) (ts rest : List Token) → fixpoint_case x ts ≡ Some rest → fixpoint_case_nesting x ≤ d → case_at d ts ≡ ok x rest
unfolding fixpoint_case case_at return_head_at case_head_at
case_read d x ts rest h deep =
    let g = gone (at x.place ts) h in
    let w = gone (word Ghost keywords.Case g.0) g.2 in
    let n = gone (case_pattern x.pattern w.0) w.2 in
    let k = gone (mark Ghost punctuators.Colon n.0) n.2 in
    let r = gone (word Ghost keywords.Return k.0) k.2 in
    let b = gone (ghost_expr x.value r.0) r.2 in
    let colon = mark_front Ghost punctuators.Colon n.0 k.0 k.1 in
    rw (word_here Ghost _ x.place ts g.0 w.0 g.1 w.1, case_full x.pattern w.0 n.0 n.1 (colon.marks_are punctuators.OpenParenthesis), (mark_read Ghost _ n.0 k.0 k.1).1, (word_read Ghost _ k.0 r.0 r.1).1, value_full d x.value r.0 b.0 rest b.1 b.2 deep, (mark_read Ghost _ b.0 rest b.2).1) refl

cases_collect : Collects fixpoint_case fixpoint_case_nesting (each fixpoint_case) (greatest fixpoint_case_nesting)
cases_collect = record { nothing_walk = λ ts. refl; item_walk = λ x xs ts. refl; nothing_deep = refl; item_deep = λ x xs. refl }

case_item : (d : ℕ) → Item fixpoint_case fixpoint_case_nesting d (λ ts. Unit {0}) (is_word Ghost keywords.Case) (case_at d)
case_item d = record { full = λ x ts rest h deep u. case_read d x ts rest h deep; heads = λ x ts rest h. (case_front x ts rest h).words_are keywords.Case; fine = λ x ts rest h. tt; eats = case_eats }

value_body : (d : ℕ) (e : GhostExprTree) (ts rest : List Token) → fixpoint_body (fixpoints.Value e) ts ≡ Some rest → ghost_nesting e + 1 ≤ d → fixpoint_body_at d ts ≡ ok (fixpoints.Value e) rest
unfolding fixpoint_body fixpoint_body_at value_at
value_body d e ts rest h deep =
    let w = gone (word Ghost keywords.Return ts) h in
    let b = gone (ghost_expr e w.0) w.2 in
    let f = word_front Ghost keywords.Return ts w.0 w.1 in
    rw (f.words_are keywords.Switch, (word_read Ghost _ ts w.0 w.1).1, value_full d e w.0 b.0 rest b.1 b.2 deep, (mark_read Ghost _ b.0 rest b.2).1) refl

switch_body : (d : ℕ) (n : Name) (cs : List FixpointCase) (ts rest : List Token) → fixpoint_body (fixpoints.Switch n cs) ts ≡ Some rest → greatest fixpoint_case_nesting cs ≤ d → fixpoint_body_at d ts ≡ ok (fixpoints.Switch n cs) rest
unfolding fixpoint_body fixpoint_body_at switch_at switch_head_at case_step
switch_body d n cs ts rest h deep =
    let w = gone (word Ghost keywords.Switch ts) h in
    let o = gone (mark Ghost punctuators.OpenParenthesis w.0) w.2 in
    let x = gone (name Ghost n o.0) o.2 in
    let z = gone (mark Ghost punctuators.CloseParenthesis x.0) x.2 in
    let b = gone (mark Ghost punctuators.OpenBrace z.0) z.2 in
    let k = gone (each fixpoint_case cs b.0) b.2 in
    let f = word_front Ghost keywords.Switch ts w.0 w.1 in
    let closes = mark_front Ghost punctuators.CloseBrace k.0 rest k.2 in
    let read = items_full cases_collect (case_item d) (length b.0) cs [] b.0 k.0 k.1 deep tt (closes.words_are keywords.Case) (omega arith) in
    rw (f.words_are keywords.Switch, (word_read Ghost _ ts w.0 w.1).1, (mark_read Ghost _ w.0 o.0 o.1).1, name_read Ghost n o.0 x.0 x.1, (mark_read Ghost _ x.0 z.0 z.1).1, (mark_read Ghost _ z.0 b.0 b.1).1, read, (mark_read Ghost _ k.0 rest k.2).1) refl

pub fixpoint_full : (d : ℕ) (b : FixpointBody) (ts rest : List Token) → fixpoint_body b ts ≡ Some rest → fixpoint_body_nesting b ≤ d → fixpoint_body_at d ts ≡ ok b rest
fixpoint_full d (fixpoints.Value e) ts rest h deep = value_body d e ts rest h deep
fixpoint_full d (fixpoints.Switch n cs) ts rest h deep = switch_body d n cs ts rest h deep
