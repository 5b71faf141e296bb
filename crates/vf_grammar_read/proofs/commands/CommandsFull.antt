-- Ghost commands that are spelled are read, where no `else` stands behind them.
use Rattle.std.proofs.Common.{◌≡◌, ℕ, zero, suc, ◌+◌, ◌≤◌, true, false, List, [], ◌∷◌, length, Some, refl, sym, subst, ap, ◌∙◌, arith}
use Rattle.vf_base.specs.declared.place.Place.{Place}
use Rattle.vf_lexer.specs.declared.punctuator.Punctuator.TheVariants as punctuators
use Rattle.vf_lexer.specs.declared.token.Token.{Token}
use Rattle.vf_syntax.specs.declared.keyword.Keyword.TheVariants as keywords
use Rattle.vf_syntax.specs.declared.side.Side.TheVariants.{Ghost}
use Rattle.vf_syntax.specs.declared.item.GhostBody.{GhostBody}
use Rattle.vf_syntax.specs.GhostExprTree.{GhostExprTree}
use Rattle.vf_syntax.specs.GhostCommandTree.{GhostCommandTree, GhostCommandTrees, CommandCaseTree, CommandCaseTrees, no_ghost_command, more_ghost_command, no_command_case, more_command_case, ghost_command_list, command_case_list}
use Rattle.vf_syntax.specs.GhostCommandTree as tree
use Rattle.vf_syntax.specs.Walks.{at, mark, word, identifier, head_has, is_mark, is_word}
use Rattle.vf_syntax.specs.GhostExpressions.{sort, ghost_expr, ghost_nesting}
use Rattle.vf_syntax.specs.Assertions.{case_pattern}
use Rattle.vf_syntax.specs.Commands.{command, commands, command_cases, command_nesting, commands_nesting, command_case_nesting, command_cases_nesting}
use Rattle.vf_syntax.specs.Commands as spelled
use Rattle.vf_syntax.specs.Units.{ghost_body}
use Rattle.vf_cursor.specs.Parsing.{Parser, ok, mark_at}
use Rattle.vf_cursor.proofs.Facts.{ok_pair}
use Rattle.vf_parse_expression.proofs.Collected.{Collects}
use Rattle.vf_parse_assertion.specs.Parsers.{case_head_at}
use Rattle.vf_parse_command.specs.Commands.{is_inside, command_step, commands_at, body_by, block_at, if_head_at, branches_at, if_at, case_at, case_step, switch_at, command_by, command_at, body_at}
use Rattle.vf_parse_command.specs.Laws.{command_depth, body_depth}
use Rattle.vf_grammar_read.proofs.expressions.Same.{no_true}
use Rattle.vf_grammar_read.proofs.expressions.Fronts.{Class, a_mark, a_word, class_mark, class_word, Front, gone, at_stays, mark_front, word_front, identifier_front}
use Rattle.vf_grammar_read.proofs.expressions.Taken.{here_read, mark_read, mark_here, word_read, word_here}
use Rattle.vf_grammar_read.proofs.expressions.Items.{Item, items_full}
use Rattle.vf_grammar_read.proofs.terms.Begins.{behind}
use Rattle.vf_grammar_read.proofs.terms.Behind.{front_looser}
use Rattle.vf_grammar_read.proofs.terms.TermsFull.{most_loose, term_full}
use Rattle.vf_grammar_read.proofs.patterns.PatternsFull.{case_full}
use Rattle.vf_grammar_read.proofs.assertions.Parts.{head_full}
use Rattle.vf_grammar_read.proofs.commands.Sorts.{sort_other, sort_begins}
use Rattle.vf_grammar_read.proofs.commands.Begins.{Closed, brace_closed, case_front, case_closed, command_begins, command_eats, case_eats}
use Rattle.vf_grammar_read.proofs.commands.Flats.{is_flat, flat_full}

-- no `else` stands behind
abbrev pub Elseless : List Token → Type 0
Elseless ts = head_has (is_word Ghost keywords.Else) ts ≡ false

-- every ghost command that is spelled, and that nests no deeper than it may, is read, where no `else` stands behind it
abbrev pub FullCommand : ℕ → Parser GhostCommandTree → Type 0
FullCommand d c = (x : GhostCommandTree) (ts rest : List Token) → command x ts ≡ Some rest → command_depth x ≤ d → Elseless rest → c ts ≡ ok x rest

commands_collect : Collects command command_depth (λ (xs : List GhostCommandTree). commands (ghost_command_list xs)) (λ (xs : List GhostCommandTree). commands_nesting (ghost_command_list xs))
commands_collect = record { nothing_walk = λ ts. refl; item_walk = λ x xs ts. refl; nothing_deep = refl; item_deep = λ x xs. refl }

command_item : (d : ℕ) (c : Parser GhostCommandTree) → FullCommand d c → Item command command_depth d Elseless is_inside c
command_item d c hc = record {
  full = hc;
  heads = λ x ts rest h. (command_begins x ts rest h).inside;
  fine = λ x ts rest h. (command_begins x ts rest h).no_else;
  eats = command_eats;
}

-- ghost commands up to what ends a block or a case
commands_full : (d : ℕ) (c : Parser GhostCommandTree) → FullCommand d c → (xs : List GhostCommandTree) (ts rest : List Token) → commands (ghost_command_list xs) ts ≡ Some rest → commands_nesting (ghost_command_list xs) ≤ d → Closed rest → commands_at c ts ≡ ok xs rest
unfolding command_step
commands_full d c hc xs ts rest h deep e = items_full commands_collect (command_item d c hc) (length ts) xs [] ts rest h deep e.no_else e.outside (omega arith)

-- commands as a list
abbrev command_items : GhostCommandTrees → List GhostCommandTree
command_items no_ghost_command = []
command_items (more_ghost_command x xs) = x ∷ command_items xs

command_items_are : (xs : GhostCommandTrees) → ghost_command_list (command_items xs) ≡ xs
command_items_are no_ghost_command = refl
command_items_are (more_ghost_command x xs) = ap (more_ghost_command x) (command_items_are xs)

abbrev braced : Place → Place → List GhostCommandTree → GhostBody
braced p q xs = record { place = p; commands = xs; last = q }

-- a block between braces whose places are known
body_by_full : (d : ℕ) (c : Parser GhostCommandTree) → FullCommand d c → (p q : Place) (xs : List GhostCommandTree) (ts inside closed rest : List Token) → mark_at Ghost punctuators.OpenBrace ts ≡ ok p inside → commands (ghost_command_list xs) inside ≡ Some closed → commands_nesting (ghost_command_list xs) ≤ d
    → mark_at Ghost punctuators.CloseBrace closed ≡ ok q rest → Closed closed → body_by c ts ≡ ok (braced p q xs) rest
unfolding body_by
body_by_full d c hc p q xs ts inside closed rest opens walk deep closes e = rw (opens, commands_full d c hc xs inside closed walk deep e, closes) refl

-- the commands of a tree between braces, and where the braces stand
record Block (c : Parser GhostCommandTree) (xs : GhostCommandTrees) (ts rest : List Token) : Type 0 where
  first : Place
  last : Place
  read : body_by c ts ≡ ok (braced first last (command_items xs)) rest

block_full : (d : ℕ) (c : Parser GhostCommandTree) → FullCommand d c → (xs : GhostCommandTrees) (ts inside closed rest : List Token) → mark Ghost punctuators.OpenBrace ts ≡ Some inside → commands xs inside ≡ Some closed → commands_nesting xs ≤ d → mark Ghost punctuators.CloseBrace closed ≡ Some rest → Block c xs ts rest
block_full d c hc xs ts inside closed rest opens walk deep closes =
    let o = mark_read Ghost punctuators.OpenBrace ts inside opens in
    let z = mark_read Ghost punctuators.CloseBrace closed rest closes in
    let back = sym (command_items_are xs) in
    record { first = o.0; last = z.0; read = body_by_full d c hc o.0 z.0 (command_items xs) ts inside closed rest o.1 (subst (λ ys. commands ys inside ≡ Some closed) back walk) (subst (λ ys. commands_nesting ys ≤ d) back deep) z.1 (brace_closed closed rest closes) }

-- "if" "(" expression ")"
if_head_full : (d : ℕ) (p : Place) (e : GhostExprTree) (ts us worded opened behind_it rest : List Token) → at p ts ≡ Some us → word Ghost keywords.If us ≡ Some worded → mark Ghost punctuators.OpenParenthesis worded ≡ Some opened → ghost_expr e opened ≡ Some behind_it
    → mark Ghost punctuators.CloseParenthesis behind_it ≡ Some rest → ghost_nesting e + 1 ≤ d → if_head_at d ts ≡ ok (p, e) rest
unfolding if_head_at
if_head_full d p e ts us worded opened behind_it rest here ifs opens term closes deep =
    rw (word_here Ghost _ p ts us worded here ifs, (mark_read Ghost _ worded opened opens).1, term_full d e opened behind_it term deep (most_loose e) (front_looser 8 _ behind_it (mark_front Ghost _ behind_it rest closes) (omega arith)), (mark_read Ghost _ behind_it rest closes).1) refl

if_full : (d : ℕ) (c : Parser GhostCommandTree) → FullCommand d c → (p : Place) (e : GhostExprTree) (xs : GhostCommandTrees) (ts rest : List Token) → command (tree.if_ p e xs) ts ≡ Some rest → command_nesting (tree.if_ p e xs) ≤ d → Elseless rest → if_at d c ts ≡ ok (tree.if_ p e xs) rest
unfolding if_at branches_at
if_full d c hc p e xs ts rest h deep none =
    let g = gone (at p ts) h in
    let w = gone (word Ghost keywords.If g.0) g.2 in
    let o = gone (mark Ghost punctuators.OpenParenthesis w.0) w.2 in
    let t = gone (ghost_expr e o.0) o.2 in
    let z = gone (mark Ghost punctuators.CloseParenthesis t.0) t.2 in
    let b = gone (mark Ghost punctuators.OpenBrace z.0) z.2 in
    let k = gone (commands xs b.0) b.2 in
    let block = block_full d c hc xs z.0 b.0 k.0 rest b.1 k.1 (omega (arith, deep)) k.2 in
    let all = command_items_are xs in
    rw (if_head_full d p e ts g.0 w.0 o.0 t.0 z.0 g.1 w.1 o.1 t.1 z.1 (omega (arith, deep)), block.read, none) (λ i. ok (tree.if_ p e (all i)) rest)

-- "else" and a block behind the first
else_read : (c : Parser GhostCommandTree) (p : Place) (e : GhostExprTree) (b : GhostBody) (ys : GhostCommandTrees) (ts worded rest : List Token) → word Ghost keywords.Else ts ≡ Some worded → Block c ys worded rest → branches_at c p e b ts ≡ ok (tree.if_else p e (ghost_command_list b.commands) ys) rest
unfolding branches_at
else_read c p e b ys ts worded rest h k =
    let all = command_items_are ys in
    rw ((word_front Ghost keywords.Else ts worded h).words_are keywords.Else, (word_read Ghost _ ts worded h).1, k.read) (λ i. ok (tree.if_else p e (ghost_command_list b.commands) (all i)) rest)

if_else_read : (d : ℕ) (c : Parser GhostCommandTree) (p : Place) (e : GhostExprTree) (xs ys : GhostCommandTrees) (ts headed mid worded rest : List Token) → if_head_at d ts ≡ ok (p, e) headed → Block c xs headed mid → word Ghost keywords.Else mid ≡ Some worded → Block c ys worded rest
    → if_at d c ts ≡ ok (tree.if_else p e xs ys) rest
unfolding if_at
if_else_read d c p e xs ys ts headed mid worded rest head one h two =
    let first = command_items_are xs in
    rw (head, one.read) (else_read c p e (braced one.first one.last (command_items xs)) ys mid worded rest h two ∙ (λ i. ok (tree.if_else p e (first i) ys) rest))

if_else_full : (d : ℕ) (c : Parser GhostCommandTree) → FullCommand d c → (p : Place) (e : GhostExprTree) (xs ys : GhostCommandTrees) (ts rest : List Token) → command (tree.if_else p e xs ys) ts ≡ Some rest → command_nesting (tree.if_else p e xs ys) ≤ d → if_at d c ts ≡ ok (tree.if_else p e xs ys) rest
if_else_full d c hc p e xs ys ts rest h deep =
    let g = gone (at p ts) h in
    let w = gone (word Ghost keywords.If g.0) g.2 in
    let o = gone (mark Ghost punctuators.OpenParenthesis w.0) w.2 in
    let t = gone (ghost_expr e o.0) o.2 in
    let z = gone (mark Ghost punctuators.CloseParenthesis t.0) t.2 in
    let b = gone (mark Ghost punctuators.OpenBrace z.0) z.2 in
    let k = gone (commands xs b.0) b.2 in
    let q = gone (mark Ghost punctuators.CloseBrace k.0) k.2 in
    let l = gone (word Ghost keywords.Else q.0) q.2 in
    let m = gone (mark Ghost punctuators.OpenBrace l.0) l.2 in
    let j = gone (commands ys m.0) m.2 in
    let head = if_head_full d p e ts g.0 w.0 o.0 t.0 z.0 g.1 w.1 o.1 t.1 z.1 (omega (arith, deep)) in
    let one = block_full d c hc xs z.0 b.0 k.0 q.0 b.1 k.1 (omega (arith, deep)) q.1 in
    let two = block_full d c hc ys l.0 m.0 j.0 rest m.1 j.1 (omega (arith, deep)) j.2 in
    if_else_read d c p e xs ys ts z.0 q.0 l.0 rest head one l.1 two

-- cases as a list
abbrev case_items : CommandCaseTrees → List CommandCaseTree
case_items no_command_case = []
case_items (more_command_case x xs) = x ∷ case_items xs

case_items_are : (xs : CommandCaseTrees) → command_case_list (case_items xs) ≡ xs
case_items_are no_command_case = refl
case_items_are (more_command_case x xs) = ap (more_command_case x) (case_items_are xs)

cases_collect : Collects spelled.command_case command_case_nesting (λ (xs : List CommandCaseTree). command_cases (command_case_list xs)) (λ (xs : List CommandCaseTree). command_cases_nesting (command_case_list xs))
cases_collect = record { nothing_walk = λ ts. refl; item_walk = λ x xs ts. refl; nothing_deep = refl; item_deep = λ x xs. refl }

case_read : (d : ℕ) (c : Parser GhostCommandTree) → FullCommand d c → (x : CommandCaseTree) (ts rest : List Token) → spelled.command_case x ts ≡ Some rest → command_case_nesting x ≤ d → Closed rest → case_at c ts ≡ ok x rest
unfolding case_at case_head_at
case_read d c hc (tree.command_case p a xs) ts rest h deep e =
    let g = gone (at p ts) h in
    let w = gone (word Ghost keywords.Case g.0) g.2 in
    let n = gone (case_pattern a w.0) w.2 in
    let k = gone (mark Ghost punctuators.Colon n.0) n.2 in
    let back = sym (command_items_are xs) in
    let read = commands_full d c hc (command_items xs) k.0 rest (subst (λ ys. commands ys k.0 ≡ Some rest) back k.2) (subst (λ ys. commands_nesting ys ≤ d) back deep) e in
    let all = command_items_are xs in
    rw (word_here Ghost _ p ts g.0 w.0 g.1 w.1, case_full a w.0 n.0 n.1 ((mark_front Ghost punctuators.Colon n.0 k.0 k.1).marks_are punctuators.OpenParenthesis), (mark_read Ghost _ n.0 k.0 k.1).1, read) (λ i. ok (tree.command_case p a (all i)) rest)

case_item : (d : ℕ) (c : Parser GhostCommandTree) → FullCommand d c → Item spelled.command_case command_case_nesting d Closed (is_word Ghost keywords.Case) (case_at c)
case_item d c hc = record { full = case_read d c hc; heads = λ x ts rest h. (case_front x ts rest h).words_are keywords.Case; fine = case_closed; eats = case_eats }

switch_full : (d : ℕ) (c : Parser GhostCommandTree) → FullCommand d c → (p : Place) (e : GhostExprTree) (cs : CommandCaseTrees) (ts rest : List Token) → command (tree.switch_ p e cs) ts ≡ Some rest → command_nesting (tree.switch_ p e cs) ≤ d → switch_at d c ts ≡ ok (tree.switch_ p e cs) rest
unfolding switch_at case_step
switch_full d c hc p e cs ts rest h deep =
    let g = gone (at p ts) h in
    let w = gone (word Ghost keywords.Switch g.0) g.2 in
    let o = gone (mark Ghost punctuators.OpenParenthesis w.0) w.2 in
    let t = gone (ghost_expr e o.0) o.2 in
    let z = gone (mark Ghost punctuators.CloseParenthesis t.0) t.2 in
    let b = gone (mark Ghost punctuators.OpenBrace z.0) z.2 in
    let k = gone (command_cases cs b.0) b.2 in
    let back = sym (case_items_are cs) in
    let closes = mark_front Ghost punctuators.CloseBrace k.0 rest k.2 in
    let low : command_cases_nesting cs ≤ d = omega (arith, deep) in
    let read = items_full cases_collect (case_item d c hc) (length b.0) (case_items cs) [] b.0 k.0 (subst (λ ys. command_cases ys b.0 ≡ Some k.0) back k.1) (subst (λ ys. command_cases_nesting ys ≤ d) back low) (brace_closed k.0 rest k.2) (closes.words_are keywords.Case) (omega arith) in
    let all = case_items_are cs in
    rw (here_read p ts g.0 g.1, head_full d e g.0 w.0 o.0 t.0 z.0 b.0 w.1 o.1 t.1 z.1 b.1 (omega (arith, deep)), read, (mark_read Ghost _ k.0 rest k.2).1) (λ i. ok (tree.switch_ p e (all i)) rest)

block_command : (d : ℕ) (c : Parser GhostCommandTree) → FullCommand d c → (p : Place) (xs : GhostCommandTrees) (ts rest : List Token) → command (tree.block p xs) ts ≡ Some rest → command_nesting (tree.block p xs) ≤ d → block_at c ts ≡ ok (tree.block p xs) rest
unfolding block_at
block_command d c hc p xs ts rest h deep =
    let g = gone (at p ts) h in
    let b = gone (mark Ghost punctuators.OpenBrace g.0) g.2 in
    let k = gone (commands xs b.0) b.2 in
    let z = mark_read Ghost punctuators.CloseBrace k.0 rest k.2 in
    let back = sym (command_items_are xs) in
    let read = body_by_full d c hc p z.0 (command_items xs) ts b.0 k.0 rest (mark_here Ghost _ p ts g.0 b.0 g.1 b.1) (subst (λ ys. commands ys b.0 ≡ Some k.0) back k.1) (subst (λ ys. commands_nesting ys ≤ d) back deep) z.1 (brace_closed k.0 rest k.2) in
    let all = command_items_are xs in
    rw read (λ i. ok (tree.block p (all i)) rest)

-- what begins with none of the words and marks of commands that hold others
record Plain (ts : List Token) : Type 0 where
  no_if : head_has (is_word Ghost keywords.If) ts ≡ false
  no_switch : head_has (is_word Ghost keywords.Switch) ts ≡ false
  no_brace : head_has (is_mark Ghost punctuators.OpenBrace) ts ≡ false

front_plain : (c : Class) (ts : List Token) → Front Ghost c ts → class_word c keywords.If ≡ false → class_word c keywords.Switch ≡ false → class_mark c punctuators.OpenBrace ≡ false → Plain ts
front_plain c ts f a b e = record { no_if = f.words_are keywords.If ∙ a; no_switch = f.words_are keywords.Switch ∙ b; no_brace = f.marks_are punctuators.OpenBrace ∙ e }

flat_plain : (x : GhostCommandTree) (ts rest : List Token) → is_flat x ≡ true → command x ts ≡ Some rest → Plain ts
flat_plain (tree.open_ p s n xs ys) ts rest k h = let g = gone (at p ts) h in let w = gone (word Ghost keywords.Open g.0) g.2 in front_plain _ ts (behind p g.1 (word_front Ghost keywords.Open g.0 w.0 w.1)) refl refl refl
flat_plain (tree.close_ p s n xs ys) ts rest k h = let g = gone (at p ts) h in let w = gone (word Ghost keywords.Close g.0) g.2 in front_plain _ ts (behind p g.1 (word_front Ghost keywords.Close g.0 w.0 w.1)) refl refl refl
flat_plain (tree.leak_ p a) ts rest k h = let g = gone (at p ts) h in let w = gone (word Ghost keywords.Leak g.0) g.2 in front_plain _ ts (behind p g.1 (word_front Ghost keywords.Leak g.0 w.0 w.1)) refl refl refl
flat_plain (tree.assert_ p a) ts rest k h = let g = gone (at p ts) h in let w = gone (word Ghost keywords.Assert g.0) g.2 in front_plain _ ts (behind p g.1 (word_front Ghost keywords.Assert g.0 w.0 w.1)) refl refl refl
flat_plain (tree.assignment p x e) ts rest k h = let g = gone (at p ts) h in let w = gone (identifier Ghost x g.0) g.2 in front_plain _ ts (behind p g.1 (identifier_front Ghost x g.0 w.0 w.1)) refl refl refl
flat_plain (tree.call_ p x xs) ts rest k h = let g = gone (at p ts) h in let w = gone (identifier Ghost x g.0) g.2 in front_plain _ ts (behind p g.1 (identifier_front Ghost x g.0 w.0 w.1)) refl refl refl
flat_plain (tree.declaration p s n e) ts rest k h =
    let g = gone (at p ts) h in
    let m = gone (sort s g.0) g.2 in
    let b = sort_begins s g.0 m.0 m.1 in
    let o = sort_other b.class b.begins in
    front_plain b.class ts (behind p g.1 b.front) o.no_if o.no_switch (o.no_mark punctuators.OpenBrace)
flat_plain (tree.if_ p e xs) ts rest k h = no_true k
flat_plain (tree.if_else p e xs ys) ts rest k h = no_true k
flat_plain (tree.switch_ p e cs) ts rest k h = no_true k
flat_plain (tree.block p xs) ts rest k h = no_true k

-- a command that holds no other
flat_command : (d : ℕ) (c : Parser GhostCommandTree) (x : GhostCommandTree) (ts rest : List Token) → is_flat x ≡ true → command x ts ≡ Some rest → command_nesting x ≤ d → command_by d c ts ≡ ok x rest
unfolding command_by
flat_command d c x ts rest k h deep = let b = flat_plain x ts rest k h in rw (b.no_if, b.no_switch, b.no_brace) (flat_full d x ts rest k h deep)

by_if : (d : ℕ) (c : Parser GhostCommandTree) (ts : List Token) → Front Ghost (a_word keywords.If) ts → command_by d c ts ≡ if_at d c ts
unfolding command_by
by_if d c ts f = rw (f.words_are keywords.If) refl

by_switch : (d : ℕ) (c : Parser GhostCommandTree) (ts : List Token) → Front Ghost (a_word keywords.Switch) ts → command_by d c ts ≡ switch_at d c ts
unfolding command_by
by_switch d c ts f = rw (f.words_are keywords.If, f.words_are keywords.Switch) refl

by_block : (d : ℕ) (c : Parser GhostCommandTree) (ts : List Token) → Front Ghost (a_mark punctuators.OpenBrace) ts → command_by d c ts ≡ block_at c ts
unfolding command_by
by_block d c ts f = rw (f.words_are keywords.If, f.words_are keywords.Switch, f.marks_are punctuators.OpenBrace) refl

by_full : (d : ℕ) (c : Parser GhostCommandTree) → FullCommand d c → (x : GhostCommandTree) (ts rest : List Token) → command x ts ≡ Some rest → command_nesting x ≤ d → Elseless rest → command_by d c ts ≡ ok x rest
by_full d c hc (tree.if_ p e xs) ts rest h deep none =
    let g = gone (at p ts) h in let w = gone (word Ghost keywords.If g.0) g.2 in
    by_if d c ts (behind p g.1 (word_front Ghost keywords.If g.0 w.0 w.1)) ∙ if_full d c hc p e xs ts rest h deep none
by_full d c hc (tree.if_else p e xs ys) ts rest h deep none =
    let g = gone (at p ts) h in let w = gone (word Ghost keywords.If g.0) g.2 in
    by_if d c ts (behind p g.1 (word_front Ghost keywords.If g.0 w.0 w.1)) ∙ if_else_full d c hc p e xs ys ts rest h deep
by_full d c hc (tree.switch_ p e cs) ts rest h deep none =
    let g = gone (at p ts) h in let w = gone (word Ghost keywords.Switch g.0) g.2 in
    by_switch d c ts (behind p g.1 (word_front Ghost keywords.Switch g.0 w.0 w.1)) ∙ switch_full d c hc p e cs ts rest h deep
by_full d c hc (tree.block p xs) ts rest h deep none =
    let g = gone (at p ts) h in let w = gone (mark Ghost punctuators.OpenBrace g.0) g.2 in
    by_block d c ts (behind p g.1 (mark_front Ghost punctuators.OpenBrace g.0 w.0 w.1)) ∙ block_command d c hc p xs ts rest h deep
by_full d c hc (tree.open_ p s n xs ys) ts rest h deep none = flat_command d c (tree.open_ p s n xs ys) ts rest refl h deep
by_full d c hc (tree.close_ p s n xs ys) ts rest h deep none = flat_command d c (tree.close_ p s n xs ys) ts rest refl h deep
by_full d c hc (tree.leak_ p a) ts rest h deep none = flat_command d c (tree.leak_ p a) ts rest refl h deep
by_full d c hc (tree.assert_ p a) ts rest h deep none = flat_command d c (tree.assert_ p a) ts rest refl h deep
by_full d c hc (tree.declaration p s n e) ts rest h deep none = flat_command d c (tree.declaration p s n e) ts rest refl h deep
by_full d c hc (tree.assignment p x e) ts rest h deep none = flat_command d c (tree.assignment p x e) ts rest refl h deep
by_full d c hc (tree.call_ p x xs) ts rest h deep none = flat_command d c (tree.call_ p x xs) ts rest refl h deep

mutual
  unfolding command_at

  pub command_full : (d : ℕ) → FullCommand d (command_at d)
  command_full zero x ts rest h deep none = absurd (omega (arith, deep))
  command_full (suc d) x ts rest h deep none = by_full d (command_at d) (command_full d) x ts rest h (omega (arith, deep)) none

pub body_full : (d : ℕ) (x : GhostBody) (ts rest : List Token) → ghost_body x ts ≡ Some rest → body_depth x ≤ d → body_at d ts ≡ ok x rest
unfolding ghost_body
body_full d x ts rest h deep =
    let g = gone (at x.place ts) h in
    let b = gone (mark Ghost punctuators.OpenBrace g.0) g.2 in
    let k = gone (commands (ghost_command_list x.commands) b.0) b.2 in
    let l = gone (at x.last k.0) k.2 in
    let closes : mark Ghost punctuators.CloseBrace k.0 ≡ Some rest = subst (λ us. mark Ghost punctuators.CloseBrace us ≡ Some rest) (sym (at_stays x.last k.0 l.0 l.1)) l.2 in
    body_by_full d (command_at d) (command_full d) x.place x.last x.commands ts b.0 k.0 rest (mark_here Ghost _ x.place ts g.0 b.0 g.1 b.1) k.1 deep (mark_here Ghost _ x.last k.0 l.0 rest l.1 l.2) (brace_closed k.0 rest closes)

pub one_command : (x y : GhostCommandTree) (ts rest : List Token) → command x ts ≡ Some rest → command y ts ≡ Some rest → Elseless rest → x ≡ y
one_command x y ts rest h k none =
    let one = command_full (command_depth x + command_depth y) x ts rest h (omega arith) none in
    let two = command_full (command_depth x + command_depth y) y ts rest k (omega arith) none in
    (ok_pair x y rest rest (sym one ∙ two)).0
