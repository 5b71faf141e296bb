-- Statements that are spelled are read, where no `else` stands behind them.
use Rattle.std.proofs.Common.{◌≡◌, ℕ, zero, suc, ◌+◌, ◌≤◌, Bool, true, false, not, List, [], ◌∷◌, length, Option, Some, refl, sym, subst, ap, ◌∙◌, arith}
use Rattle.vf_base.specs.declared.place.Place.{Place}
use Rattle.vf_lexer.specs.declared.punctuator.Punctuator.TheVariants as punctuators
use Rattle.vf_lexer.specs.declared.token.Token.{Token}
use Rattle.vf_syntax.specs.declared.keyword.Keyword.TheVariants as keywords
use Rattle.vf_syntax.specs.declared.side.Side.TheVariants.{Real, Ghost}
use Rattle.vf_syntax.specs.declared.side.Grammar.{Grammar}
use Rattle.vf_syntax.specs.declared.side.Grammar.TheVariants as grammars
use Rattle.vf_syntax.specs.declared.contract.Invariant.{Invariant}
use Rattle.vf_syntax.specs.declared.simple.Simple.{Simple}
use Rattle.vf_syntax.specs.declared.simple.First.{First}
use Rattle.vf_syntax.specs.declared.item.Body.{Body}
use Rattle.vf_syntax.specs.ExprTree.{ExprTree}
use Rattle.vf_syntax.specs.GhostCommandTree.{GhostCommandTree}
use Rattle.vf_syntax.specs.StmtTree.{StmtTree, StmtTrees, no_stmt, more_stmt, stmt_list}
use Rattle.vf_syntax.specs.StmtTree as tree
use Rattle.vf_syntax.specs.Walks.{◌⨾◌, provided, at, mark, word, head_has, is_on, is_mark, is_word}
use Rattle.vf_syntax.specs.Lists.{optional}
use Rattle.vf_syntax.specs.Expressions.{expr}
use Rattle.vf_syntax.specs.Commands.{command, command_nesting}
use Rattle.vf_syntax.specs.Statements.{owed, simple, first, invariant_walk, invariant_nesting, stmt, stmt_nesting, stmts, stmts_nesting, is_open, is_command}
use Rattle.vf_syntax.specs.Units.{body}
use Rattle.vf_cursor.specs.Parsing.{Parser, ok}
use Rattle.vf_parse_expression.specs.Parsers.{expr_at, postfix_at}
use Rattle.vf_parse_expression.proofs.Small.{goes}
use Rattle.vf_parse_statement.specs.Annotations.{reads_none}
use Rattle.vf_grammar_read.proofs.simple_statements.SimplesFull.{one_read}
use Rattle.vf_parse_statement.specs.Parsers.{is_whole, branches_at, if_at, while_head_at, while_at, for_head_at, for_at, command_statement_at, sees_annotation, stmt_by, is_inside, stmts_by, body_by, block_by, real_by, real_at, stmt_at, body_at}
use Rattle.vf_parse_statement.proofs.Sound.{stmts_collect}
use Rattle.vf_grammar_read.proofs.expressions.Same.{no_true}
use Rattle.vf_grammar_read.proofs.expressions.Fronts.{a_mark, Front, gone, mark_front, word_front}
use Rattle.vf_grammar_read.proofs.expressions.Taken.{here_read, mark_here, word_here, word_read}
use Rattle.vf_grammar_read.proofs.expressions.Begins.{behind, met}
use Rattle.vf_grammar_read.proofs.expressions.ExprFull.{Full, expr_full, postfix_full}
use Rattle.vf_grammar_read.proofs.expressions.Items.{Item, items_full}
use Rattle.vf_grammar_read.specs.statements.Annotations.{FullTexts}
use Rattle.vf_grammar_read.proofs.statements.Begins.{Elseless, stmt_begins, stmt_eats, off_word, real_only}
use Rattle.vf_grammar_read.proofs.statements.Parts.{owed_full, condition_full, head_full, is_flat, flat_full}

-- no `else` stands behind a statement that ends in an `if` without one
abbrev pub NoElse : StmtTree → List Token → Type 0
NoElse x rest = is_open x ≡ true → head_has (is_word Real keywords.Else) rest ≡ false

-- a statement of real text that is spelled, and nests no deeper than it may, with k more, is read, where no `else` stands behind that would belong to it
abbrev pub FullReal : Grammar → ℕ → ℕ → Parser StmtTree → Type 0
FullReal g k d p = (x : StmtTree) (ts rest : List Token) → stmt g x ts ≡ Some rest → stmt_nesting x + k ≤ d → is_command x ≡ false → NoElse x rest → p ts ≡ ok x rest

-- the same of a statement or a ghost command
abbrev pub FullStmt : Grammar → ℕ → Parser StmtTree → Type 0
FullStmt g d p = (x : StmtTree) (ts rest : List Token) → stmt g x ts ≡ Some rest → stmt_nesting x + 1 ≤ d → Elseless rest → p ts ≡ ok x rest

-- the invariants that a grammar owes are read
abbrev pub Owes : Grammar → ℕ → Parser Invariant → Type 0
Owes g d i = is_whole g ≡ true → (x : Invariant) (ts rest : List Token) → invariant_walk x ts ≡ Some rest → invariant_nesting x ≤ d → i ts ≡ ok x rest

turned : (b : Bool) → not b ≡ true → b ≡ false
turned true h = no_true h
turned false h = refl

-- a branch is read behind its conditions
branch_full : (g : Grammar) (s : Parser StmtTree) (d : ℕ) → FullReal g 1 d s → (a : StmtTree) (ts us rest : List Token) → provided (not (is_command a)) ts ≡ Some us → stmt g a us ≡ Some rest → stmt_nesting a + 1 ≤ d → NoElse a rest → s ts ≡ ok a rest
branch_full g s d hs a ts us rest h k deep e =
    let w = met _ ts us h in
    hs a ts rest (subst (λ vs. stmt g a vs ≡ Some rest) (sym w.1) k) deep (turned (is_command a) w.0) e

if_full : (g : Grammar) (e : Parser ExprTree) (s : Parser StmtTree) (d : ℕ) → Full 1 9 d e → FullReal g 1 d s → (p : Place) (c : ExprTree) (a : StmtTree) (ts rest : List Token) → stmt g (tree.if_ p c a) ts ≡ Some rest → stmt_nesting (tree.if_ p c a) ≤ d
    → head_has (is_word Real keywords.Else) rest ≡ false → if_at e s ts ≡ ok (tree.if_ p c a) rest
unfolding if_at branches_at
if_full g e s d he hs p c a ts rest h deep none =
    let k = gone (at p ts) h in
    let m = gone (word Real keywords.If k.0) k.2 in
    let o = gone (mark Real punctuators.OpenParenthesis m.0) m.2 in
    let x = gone (expr c o.0) o.2 in
    let z = gone (mark Real punctuators.CloseParenthesis x.0) x.2 in
    let q = gone (provided (not (is_command a)) z.0) z.2 in
    let one = condition_full e d he c m.0 o.0 x.0 z.0 o.1 x.1 z.1 (omega (arith, deep)) in
    let two = branch_full g s d hs a z.0 q.0 rest q.1 q.2 (omega (arith, deep)) (λ u. none) in
    rw (word_here Real _ p ts k.0 m.0 k.1 m.1, one, two, none) refl

if_else_full : (g : Grammar) (e : Parser ExprTree) (s : Parser StmtTree) (d : ℕ) → Full 1 9 d e → FullReal g 1 d s → (p : Place) (c : ExprTree) (a b : StmtTree) (ts rest : List Token) → stmt g (tree.if_else p c a b) ts ≡ Some rest → stmt_nesting (tree.if_else p c a b) ≤ d
    → NoElse b rest → if_at e s ts ≡ ok (tree.if_else p c a b) rest
unfolding if_at branches_at
if_else_full g e s d he hs p c a b ts rest h deep end =
    let k = gone (at p ts) h in
    let m = gone (word Real keywords.If k.0) k.2 in
    let o = gone (mark Real punctuators.OpenParenthesis m.0) m.2 in
    let x = gone (expr c o.0) o.2 in
    let z = gone (mark Real punctuators.CloseParenthesis x.0) x.2 in
    let q = gone (provided (not (is_command a)) z.0) z.2 in
    let r = gone (provided (not (is_open a)) q.0) q.2 in
    let w = met _ q.0 r.0 r.1 in
    let y = gone (stmt g a r.0) r.2 in
    let l = gone (word Real keywords.Else y.0) y.2 in
    let v = gone (provided (not (is_command b)) l.0) l.2 in
    let walk : stmt g a q.0 ≡ Some y.0 = subst (λ us. stmt g a us ≡ Some y.0) (sym w.1) y.1 in
    let one = condition_full e d he c m.0 o.0 x.0 z.0 o.1 x.1 z.1 (omega (arith, deep)) in
    let two = branch_full g s d hs a z.0 q.0 y.0 q.1 walk (omega (arith, deep)) (λ u. no_true (sym (turned (is_open a) w.0) ∙ u)) in
    let three = branch_full g s d hs b l.0 v.0 rest v.1 v.2 (omega (arith, deep)) end in
    rw (word_here Real _ p ts k.0 m.0 k.1 m.1, one, two, (word_front Real keywords.Else y.0 l.0 l.1).words_are keywords.Else, (word_read Real _ y.0 l.0 l.1).1, three) refl

while_full : (g : Grammar) (e : Parser ExprTree) (i : Parser Invariant) (s : Parser StmtTree) (d : ℕ) → Full 1 9 d e → Owes g d i → FullReal g 1 d s → (p : Place) (c : ExprTree) (v : Option Invariant) (a : StmtTree) (ts rest : List Token) → stmt g (tree.while_ p c v a) ts ≡ Some rest
    → stmt_nesting (tree.while_ p c v a) ≤ d → NoElse a rest → while_at g e i s ts ≡ ok (tree.while_ p c v a) rest
unfolding while_at while_head_at
while_full g e i s d he hi hs p c v a ts rest h deep end =
    let k = gone (at p ts) h in
    let m = gone (word Real keywords.While k.0) k.2 in
    let o = gone (mark Real punctuators.OpenParenthesis m.0) m.2 in
    let x = gone (expr c o.0) o.2 in
    let z = gone (mark Real punctuators.CloseParenthesis x.0) x.2 in
    let y = gone (owed g invariant_walk v z.0) z.2 in
    let q = gone (provided (not (is_command a)) y.0) y.2 in
    let one = condition_full e d he c m.0 o.0 x.0 z.0 o.1 x.1 z.1 (omega (arith, deep)) in
    let two = owed_full g invariant_walk invariant_nesting d i hi v z.0 y.0 y.1 (omega (arith, deep)) in
    let three = branch_full g s d hs a y.0 q.0 rest q.1 q.2 (omega (arith, deep)) end in
    rw (word_here Real _ p ts k.0 m.0 k.1 m.1, one, two, three) refl

for_full : (g : Grammar) (e f : Parser ExprTree) (i : Parser Invariant) (s : Parser StmtTree) (d : ℕ) → Full 1 9 d e → Full 0 1 d f → Owes g d i → FullReal g 1 d s → (p : Place) (b : Option First) (c : Option ExprTree) (t : Option Simple) (v : Option Invariant) (a : StmtTree) (ts rest : List Token)
    → stmt g (tree.for_ p b c t v a) ts ≡ Some rest → stmt_nesting (tree.for_ p b c t v a) ≤ d → NoElse a rest → for_at g e f i s ts ≡ ok (tree.for_ p b c t v a) rest
unfolding for_at for_head_at
for_full g e f i s d he hf hi hs p b c t v a ts rest h deep end =
    let k = gone (at p ts) h in
    let m = gone (word Real keywords.For k.0) k.2 in
    let o = gone (mark Real punctuators.OpenParenthesis m.0) m.2 in
    let x1 = gone (optional first b o.0) o.2 in
    let s1 = gone (mark Real punctuators.Semicolon x1.0) x1.2 in
    let x2 = gone (optional expr c s1.0) s1.2 in
    let s2 = gone (mark Real punctuators.Semicolon x2.0) x2.2 in
    let x3 = gone (optional simple t s2.0) s2.2 in
    let z = gone (mark Real punctuators.CloseParenthesis x3.0) x3.2 in
    let y = gone (owed g invariant_walk v z.0) z.2 in
    let q = gone (provided (not (is_command a)) y.0) y.2 in
    let inside : (mark Real punctuators.OpenParenthesis ⨾ optional first b ⨾ mark Real punctuators.Semicolon ⨾ optional expr c ⨾ mark Real punctuators.Semicolon ⨾ optional simple t) m.0 ≡ Some x3.0 =
    goes (optional first b ⨾ mark Real punctuators.Semicolon ⨾ optional expr c ⨾ mark Real punctuators.Semicolon ⨾ optional simple t) o.1
    (goes (mark Real punctuators.Semicolon ⨾ optional expr c ⨾ mark Real punctuators.Semicolon ⨾ optional simple t) x1.1
    (goes (optional expr c ⨾ mark Real punctuators.Semicolon ⨾ optional simple t) s1.1 (goes (mark Real punctuators.Semicolon ⨾ optional simple t) x2.1 (goes (optional simple t) s2.1 x3.1)))) in
    let one = head_full e f d he hf b c t m.0 x3.0 z.0 inside z.1 (omega (arith, deep)) (omega (arith, deep)) (omega (arith, deep)) in
    let two = owed_full g invariant_walk invariant_nesting d i hi v z.0 y.0 y.1 (omega (arith, deep)) in
    let three = branch_full g s d hs a y.0 q.0 rest q.1 q.2 (omega (arith, deep)) end in
    rw (word_here Real _ p ts k.0 m.0 k.1 m.1, one, two, three) refl

-- a ghost command is read, where no `else` of ghost text stands behind it
abbrev pub Commanded : Grammar → ℕ → Parser GhostCommandTree → Type 0
Commanded g d c = is_whole g ≡ true → (x : GhostCommandTree) (ts rest : List Token) → command x ts ≡ Some rest → command_nesting x + 1 ≤ d → head_has (is_word Ghost keywords.Else) rest ≡ false → c ts ≡ ok x rest

command_full : (c : Parser GhostCommandTree) (d : ℕ) → Commanded grammars.Whole d c → (p : Place) (x : GhostCommandTree) (ts rest : List Token) → stmt grammars.Whole (tree.ghost p x) ts ≡ Some rest → command_nesting x + 1 ≤ d → head_has (is_word Ghost keywords.Else) rest ≡ false → command_statement_at c ts ≡ ok (tree.ghost p x) rest
unfolding command_statement_at
command_full c d hc p x ts rest h deep e =
    let a = gone (at p ts) h in
    rw (here_read p ts a.0 a.1, hc refl x a.0 rest a.2 deep e) refl

pub real_unseen : (g : Grammar) (ts : List Token) → head_has (is_on Ghost) ts ≡ false → sees_annotation g ts ≡ false
unfolding sees_annotation
real_unseen grammars.Whole ts h = h
real_unseen grammars.Plain ts h = refl

pub ghost_seen : (ts : List Token) → head_has (is_on Ghost) ts ≡ true → sees_annotation grammars.Whole ts ≡ true
unfolding sees_annotation
ghost_seen ts h = h

of_real_text : (g : Grammar) (c : Parser GhostCommandTree) (s : Parser StmtTree) (d : ℕ) → FullReal g 1 d s → (x : StmtTree) (ts rest : List Token) → stmt g x ts ≡ Some rest → stmt_nesting x + 1 ≤ d → Elseless rest → is_command x ≡ false → stmt_by g c s ts ≡ ok x rest
unfolding stmt_by
of_real_text g c s d hs x ts rest h deep e k =
    rw (real_unseen g ts ((stmt_begins g x ts rest h).of_real_text k)) (hs x ts rest h deep k (λ u. e.real))

of_ghost_text : (c : Parser GhostCommandTree) (s : Parser StmtTree) (d : ℕ) → Commanded grammars.Whole d c → (p : Place) (x : GhostCommandTree) (ts rest : List Token) → stmt grammars.Whole (tree.ghost p x) ts ≡ Some rest → command_nesting x + 1 ≤ d → Elseless rest → stmt_by grammars.Whole c s ts ≡ ok (tree.ghost p x) rest
unfolding stmt_by
of_ghost_text c s d hc p x ts rest h deep e =
    rw (ghost_seen ts ((stmt_begins grammars.Whole (tree.ghost p x) ts rest h).of_ghost_text refl)) (command_full c d hc p x ts rest h deep e.ghost)

pub stmt_full : (g : Grammar) (c : Parser GhostCommandTree) (s : Parser StmtTree) (d : ℕ) → Commanded g d c → FullReal g 1 d s → FullStmt g d (stmt_by g c s)
stmt_full grammars.Whole c s d hc hs (tree.ghost p x) ts rest h deep e = of_ghost_text c s d hc p x ts rest h deep e
stmt_full grammars.Plain c s d hc hs (tree.ghost p x) ts rest h deep e = absurd cc
stmt_full g c s d hc hs (tree.declaration p t n x last) ts rest h deep e = of_real_text g c s d hs _ ts rest h deep e refl
stmt_full g c s d hc hs (tree.simple p x last) ts rest h deep e = of_real_text g c s d hs _ ts rest h deep e refl
stmt_full g c s d hc hs (tree.if_ p k a) ts rest h deep e = of_real_text g c s d hs _ ts rest h deep e refl
stmt_full g c s d hc hs (tree.if_else p k a b) ts rest h deep e = of_real_text g c s d hs _ ts rest h deep e refl
stmt_full g c s d hc hs (tree.while_ p k v a) ts rest h deep e = of_real_text g c s d hs _ ts rest h deep e refl
stmt_full g c s d hc hs (tree.for_ p b k t v a) ts rest h deep e = of_real_text g c s d hs _ ts rest h deep e refl
stmt_full g c s d hc hs (tree.return_ p x last) ts rest h deep e = of_real_text g c s d hs _ ts rest h deep e refl
stmt_full g c s d hc hs (tree.block p xs last) ts rest h deep e = of_real_text g c s d hs _ ts rest h deep e refl
stmt_full g c s d hc hs (tree.empty_ p) ts rest h deep e = of_real_text g c s d hs _ ts rest h deep e refl

-- a closing brace ends a list of statements
closing_elseless : (ts : List Token) → Front Real (a_mark punctuators.CloseBrace) ts → Elseless ts
closing_elseless ts f = record { real = f.words_are keywords.Else; ghost = off_word Ghost keywords.Else ts (real_only ts f.side_is) }

pub closing_outside : (ts : List Token) → Front Real (a_mark punctuators.CloseBrace) ts → head_has is_inside ts ≡ false
unfolding is_inside
closing_outside [] f = refl
closing_outside (t ∷ ts) f = rw (f.marks_are punctuators.CloseBrace) refl

stmt_item : (g : Grammar) (p : Parser StmtTree) (d : ℕ) → FullStmt g d p → Item (stmt g) (λ (x : StmtTree). stmt_nesting x + 1) d Elseless is_inside p
stmt_item g p d hp = record {
  full = λ x ts rest h deep e. hp x ts rest h deep e;
  heads = λ x ts rest h. (stmt_begins g x ts rest h).inside;
  fine = λ x ts rest h. (stmt_begins g x ts rest h).elseless;
  eats = λ x. stmt_eats g x;
}

pub stmts_full : (g : Grammar) (p : Parser StmtTree) (d : ℕ) → FullStmt g d p → (xs : List StmtTree) (ts rest : List Token) → stmts g (stmt_list xs) ts ≡ Some rest → stmts_nesting (stmt_list xs) ≤ d → Front Real (a_mark punctuators.CloseBrace) rest → stmts_by p ts ≡ ok xs rest
unfolding stmts_by
stmts_full g p d hp xs ts rest h deep f = items_full (stmts_collect g) (stmt_item g p d hp) (length ts) xs [] ts rest h deep (closing_elseless rest f) (closing_outside rest f) (omega arith)

pub body_full : (g : Grammar) (p : Parser StmtTree) (d : ℕ) → FullStmt g d p → (x : Body) (ts rest : List Token) → body g x ts ≡ Some rest → stmts_nesting (stmt_list x.statements) ≤ d → body_by p ts ≡ ok x rest
unfolding body body_by
body_full g p d hp x ts rest h deep =
    let a = gone (at x.place ts) h in
    let o = gone (mark Real punctuators.OpenBrace a.0) a.2 in
    let y = gone (stmts g (stmt_list x.statements) o.0) o.2 in
    let z = gone (at x.last y.0) y.2 in
    let f = behind x.last z.1 (mark_front Real punctuators.CloseBrace z.0 rest z.2) in
    rw (mark_here Real _ x.place ts a.0 o.0 a.1 o.1, stmts_full g p d hp x.statements o.0 y.0 y.1 deep f, mark_here Real _ x.last y.0 z.0 rest z.1 z.2) refl

-- the statements of a block as a list
stmt_items : StmtTrees → List StmtTree
stmt_items no_stmt = []
stmt_items (more_stmt x xs) = x ∷ stmt_items xs

stmt_items_are : (xs : StmtTrees) → stmt_list (stmt_items xs) ≡ xs
unfolding stmt_items
stmt_items_are no_stmt = refl
stmt_items_are (more_stmt x xs) = ap (more_stmt x) (stmt_items_are xs)

block_full : (g : Grammar) (p : Parser StmtTree) (d : ℕ) → FullStmt g d p → (q : Place) (xs : StmtTrees) (last : Place) (ts rest : List Token) → stmt g (tree.block q xs last) ts ≡ Some rest → stmts_nesting xs ≤ d → block_by p ts ≡ ok (tree.block q xs last) rest
unfolding block_by body
block_full g p d hp q xs last ts rest h deep =
    let same = stmt_items_are xs in
    let x : Body = record { place = q; statements = stmt_items xs; last = last } in
    let walk : stmt g (tree.block q (stmt_list (stmt_items xs)) last) ts ≡ Some rest = subst (λ (ys : StmtTrees). stmt g (tree.block q ys last) ts ≡ Some rest) (sym same) h in
    let depth : stmts_nesting (stmt_list (stmt_items xs)) ≤ d = subst (λ (ys : StmtTrees). stmts_nesting ys ≤ d) (sym same) deep in
    rw (body_full g p d hp (record { place = q; statements = stmt_items xs; last = last }) ts rest walk depth) (λ i. ok (tree.block q (same i) last) rest)

flat_real_full : (g : Grammar) (e f : Parser ExprTree) (i : Parser Invariant) (s p : Parser StmtTree) (d : ℕ) → Full 1 9 d e → Full 0 1 d f → (x : StmtTree) (ts rest : List Token) → stmt g x ts ≡ Some rest → stmt_nesting x ≤ d → is_flat x ≡ true → real_by g e f i s p ts ≡ ok x rest
unfolding real_by
flat_real_full g e f i s p d he hf x ts rest h deep k =
    let r = flat_full g e f d he hf x ts rest h deep k in
    rw (r.0.no_if, r.0.no_while, r.0.no_for, r.0.no_brace) r.1

real_full : (g : Grammar) (e f : Parser ExprTree) (i : Parser Invariant) (s p : Parser StmtTree) (d : ℕ) → Full 1 9 d e → Full 0 1 d f → Owes g d i → FullReal g 1 d s → FullStmt g d p → (x : StmtTree) (ts rest : List Token) → stmt g x ts ≡ Some rest → stmt_nesting x ≤ d → is_command x ≡ false → NoElse x rest
    → real_by g e f i s p ts ≡ ok x rest
unfolding real_by
real_full g e f i s p d he hf hi hs hp (tree.declaration q t n x last) ts rest h deep k end = flat_real_full g e f i s p d he hf _ ts rest h deep refl
real_full g e f i s p d he hf hi hs hp (tree.simple q x last) ts rest h deep k end = flat_real_full g e f i s p d he hf _ ts rest h deep refl
real_full g e f i s p d he hf hi hs hp (tree.return_ q x last) ts rest h deep k end = flat_real_full g e f i s p d he hf _ ts rest h deep refl
real_full g e f i s p d he hf hi hs hp (tree.empty_ q) ts rest h deep k end = flat_real_full g e f i s p d he hf _ ts rest h deep refl
real_full g e f i s p d he hf hi hs hp (tree.if_ q c a) ts rest h deep k end =
    let b = gone (at q ts) h in let m = gone (word Real keywords.If b.0) b.2 in
    let w = behind q b.1 (word_front Real keywords.If b.0 m.0 m.1) in
    rw (w.words_are keywords.If) (if_full g e s d he hs q c a ts rest h deep (end refl))
real_full g e f i s p d he hf hi hs hp (tree.if_else q c a o) ts rest h deep k end =
    let b = gone (at q ts) h in let m = gone (word Real keywords.If b.0) b.2 in
    let w = behind q b.1 (word_front Real keywords.If b.0 m.0 m.1) in
    rw (w.words_are keywords.If) (if_else_full g e s d he hs q c a o ts rest h deep end)
real_full g e f i s p d he hf hi hs hp (tree.while_ q c v a) ts rest h deep k end =
    let b = gone (at q ts) h in let m = gone (word Real keywords.While b.0) b.2 in
    let w = behind q b.1 (word_front Real keywords.While b.0 m.0 m.1) in
    rw (w.words_are keywords.If, w.words_are keywords.While) (while_full g e i s d he hi hs q c v a ts rest h deep end)
real_full g e f i s p d he hf hi hs hp (tree.for_ q x c t v a) ts rest h deep k end =
    let b = gone (at q ts) h in let m = gone (word Real keywords.For b.0) b.2 in
    let w = behind q b.1 (word_front Real keywords.For b.0 m.0 m.1) in
    rw (w.words_are keywords.If, w.words_are keywords.While, w.words_are keywords.For) (for_full g e f i s d he hf hi hs q x c t v a ts rest h deep end)
real_full g e f i s p d he hf hi hs hp (tree.block q xs last) ts rest h deep k end =
    let b = gone (at q ts) h in let m = gone (mark Real punctuators.OpenBrace b.0) b.2 in
    let w = behind q b.1 (mark_front Real punctuators.OpenBrace b.0 m.0 m.1) in
    rw (w.words_are keywords.If, w.words_are keywords.While, w.words_are keywords.For, w.marks_are punctuators.OpenBrace) (block_full g p d hp q xs last ts rest h deep)
real_full g e f i s p d he hf hi hs hp (tree.ghost q c) ts rest h deep k end = no_true (sym k)

pub all_full : (g : Grammar) (c : ℕ → Parser GhostCommandTree) (i : ℕ → Parser Invariant) → FullTexts g c i → (d : ℕ) → FullReal g 1 d (real_at g c i d)
unfolding real_at
all_full g c i t zero x ts rest h deep k end = absurd (omega (arith, deep))
all_full g c i t (suc d) x ts rest h deep k end =
    let down = all_full g c i t d in
    real_full g (expr_at d) (postfix_at d) (i d) (real_at g c i d) (stmt_by g (c d) (real_at g c i d)) d (expr_full d) (postfix_full d) (λ w. t.invariants_are_read w d) down (stmt_full g (c d) (real_at g c i d) d (λ w. t.commands_are_read w d) down) x ts rest h (omega (arith, deep)) k end

pub statement_full : (g : Grammar) (c : ℕ → Parser GhostCommandTree) (i : ℕ → Parser Invariant) → FullTexts g c i → (d : ℕ) → FullStmt g d (stmt_at g c i d)
statement_full g c i t d = stmt_full g (c d) (real_at g c i d) d (λ w. t.commands_are_read w d) (all_full g c i t d)

-- where a grammar has no annotations, nothing is owed
pub plain_texts : (c : ℕ → Parser GhostCommandTree) (i : ℕ → Parser Invariant) → FullTexts grammars.Plain c i
plain_texts c i = record { commands_are_read = λ h. no_true h; invariants_are_read = λ h. no_true h }

pub bodies_full : (g : Grammar) (c : ℕ → Parser GhostCommandTree) (i : ℕ → Parser Invariant) → FullTexts g c i → (d : ℕ) (x : Body) (ts rest : List Token) → body g x ts ≡ Some rest → stmts_nesting (stmt_list x.statements) ≤ d → body_at g c i d ts ≡ ok x rest
bodies_full g c i t d x ts rest h deep = body_full g (stmt_at g c i d) d (statement_full g c i t d) x ts rest h deep

pub closing_front : (ts : List Token) → head_has (is_mark Real punctuators.CloseBrace) ts ≡ true → Front Real (a_mark punctuators.CloseBrace) ts
unfolding mark
closing_front [] h = no_true h
closing_front (t ∷ ts) h = mark_front Real punctuators.CloseBrace (t ∷ ts) ts (rw h refl)

pub one_body : (x y : Body) (ts rest : List Token) → body grammars.Plain x ts ≡ Some rest → body grammars.Plain y ts ≡ Some rest → x ≡ y
one_body x y ts rest h k =
    one_read (body_at grammars.Plain reads_none reads_none (stmts_nesting (stmt_list x.statements) + stmts_nesting (stmt_list y.statements))) x y ts rest
    (bodies_full grammars.Plain reads_none reads_none (plain_texts reads_none reads_none) (stmts_nesting (stmt_list x.statements) + stmts_nesting (stmt_list y.statements)) x ts rest h (omega arith))
    (bodies_full grammars.Plain reads_none reads_none (plain_texts reads_none reads_none) (stmts_nesting (stmt_list x.statements) + stmts_nesting (stmt_list y.statements)) y ts rest k (omega arith))
