-- What statements begin with, and that each takes a token at least.
use Rattle.std.proofs.Common.{◌≡◌, ◌≤◌, Bool, true, false, not, ◌||◌, List, [], ◌∷◌, Option, Some, None, refl, sym, subst, ◌∙◌}
use Rattle.std.proofs.lemmas.Bool.{or_parts}
use Rattle.vf_base.specs.declared.place.Place.{Place}
use Rattle.vf_lexer.specs.declared.punctuator.Punctuator.{Punctuator}
use Rattle.vf_lexer.specs.declared.punctuator.Punctuator.TheVariants as punctuators
use Rattle.vf_lexer.specs.declared.token.Token.{Token}
use Rattle.vf_syntax.specs.declared.keyword.Keyword.{Keyword}
use Rattle.vf_syntax.specs.declared.keyword.Keyword.TheVariants as keywords
use Rattle.vf_syntax.specs.declared.side.Side.{Side}
use Rattle.vf_syntax.specs.declared.side.Side.TheVariants.{Real, Ghost}
use Rattle.vf_syntax.specs.declared.side.Grammar.{Grammar}
use Rattle.vf_syntax.specs.declared.side.Grammar.TheVariants as grammars
use Rattle.vf_syntax.specs.declared.operator.StepOperator.{StepOperator}
use Rattle.vf_syntax.specs.declared.operator.StepOperator.TheVariants as steps
use Rattle.vf_syntax.specs.declared.simple.Simple.{Simple}
use Rattle.vf_syntax.specs.declared.simple.Simple.TheVariants as simples
use Rattle.vf_syntax.specs.declared.simple.First.{First}
use Rattle.vf_syntax.specs.declared.simple.First.TheVariants as firsts
use Rattle.vf_syntax.specs.ExprTree.{ExprTree}
use Rattle.vf_syntax.specs.StmtTree.{StmtTree, StmtTrees, no_stmt, more_stmt}
use Rattle.vf_syntax.specs.StmtTree as tree
use Rattle.vf_syntax.specs.Walks.{Walk, provided, at, mark, word, head_has, is_on, is_mark, is_word}
use Rattle.vf_syntax.specs.Written.{ctype, step_mark}
use Rattle.vf_syntax.specs.Expressions.{expr, rank}
use Rattle.vf_syntax.specs.Statements.{simple, first, initializer, invariant_walk, owed, stmt, stmts, is_command, is_left_side, is_call}
use Rattle.vf_parse_statement.specs.Parsers.{is_inside}
use Rattle.vf_grammar_read.proofs.expressions.Same.{no_true}
use Rattle.vf_grammar_read.proofs.expressions.Fronts.{Class, a_mark, a_word, a_name, a_number, a_character, class_mark, class_word, Front, gone, at_stays, mark_front, word_front}
use Rattle.vf_grammar_read.proofs.expressions.TypesFull.{Typed, by_word, by_name, class_type, ctype_begins}
use Rattle.vf_grammar_read.proofs.expressions.Eaten.{Keeps, Eats, keeps, keep_then, eat_then, then_eat, nothing_keeps, provided_keeps, at_keeps, mark_eats, word_eats, name_eats, ctype_eats, expr_eats}
use Rattle.vf_grammar_read.proofs.expressions.Begins.{class_primary, behind, met, expr_begins}
use Rattle.vf_grammar_read.proofs.simple_statements.SimplesFull.{left_close, call_close}
use Rattle.vf_grammar_read.proofs.statements.GhostEaten.{Ghostly, never_eats, never_keeps, optional_keeps, command_eats, command_begins, invariant_keeps}

-- what stands on one side stands not on the other
pub real_only : (ts : List Token) → head_has (is_on Real) ts ≡ true → head_has (is_on Ghost) ts ≡ false
real_only [] h = refl
real_only (t ∷ ts) h = turned t.is_ghost h
  where
    turned : (b : Bool) → not b ≡ true → b ≡ false
    turned true h = no_true h
    turned false h = refl

pub off_word : (s : Side) (k : Keyword) (ts : List Token) → head_has (is_on s) ts ≡ false → head_has (is_word s k) ts ≡ false
unfolding is_word
off_word s k [] h = refl
off_word s k (t ∷ ts) h = rw h refl

pub off_mark : (s : Side) (p : Punctuator) (ts : List Token) → head_has (is_on s) ts ≡ false → head_has (is_mark s p) ts ≡ false
unfolding is_mark
off_mark s p [] h = refl
off_mark s p (t ∷ ts) h = rw h refl

pub ghost_only : (ts : List Token) → head_has (is_on Ghost) ts ≡ true → head_has (is_on Real) ts ≡ false
ghost_only [] h = refl
ghost_only (t ∷ ts) h = rw h refl

-- a token begins a statement without others in it: no word of a loop, of an `if` or of a `return`, no brace, and no semicolon
abbrev pub special : Class → Bool
special c = class_word c keywords.If || class_word c keywords.While || class_word c keywords.For || class_word c keywords.Return || class_word c keywords.Else || class_mark c punctuators.OpenBrace || class_mark c punctuators.CloseBrace || class_mark c punctuators.Semicolon || class_mark c punctuators.CloseParenthesis

pub record Ordinary (ts : List Token) : Type 0 where
  pub class : Class
  pub front : Front Real class ts
  pub plain : special class ≡ false

ordinary_at : (p : Place) (ts us : List Token) → at p ts ≡ Some us → Ordinary us → Ordinary ts
ordinary_at p ts us h o = subst (λ vs. Ordinary vs) (sym (at_stays p ts us h)) o

type_ordinary : (k : Keyword) → class_type (a_word k) ≡ true → special (a_word k) ≡ false
type_ordinary keywords.Signed h = refl
type_ordinary keywords.Unsigned h = refl
type_ordinary keywords.Char h = refl
type_ordinary keywords.Short h = refl
type_ordinary keywords.Int h = refl
type_ordinary keywords.Long h = refl
type_ordinary keywords.Bool h = refl
type_ordinary keywords.Void h = refl
type_ordinary keywords.Struct h = refl
type_ordinary k h = no_true h

primary_ordinary : (c : Class) → class_primary c ≡ true → special c ≡ false
primary_ordinary (a_mark punctuators.OpenParenthesis) h = refl
primary_ordinary (a_mark p) h = no_true h
primary_ordinary (a_word keywords.True) h = refl
primary_ordinary (a_word keywords.False) h = refl
primary_ordinary (a_word keywords.Malloc) h = refl
primary_ordinary (a_word k) h = no_true h
primary_ordinary a_name h = refl
primary_ordinary a_number h = refl
primary_ordinary a_character h = refl

step_ordinary : (o : StepOperator) → special (a_mark (step_mark o)) ≡ false
step_ordinary steps.Increment = refl
step_ordinary steps.Decrement = refl

pub typed_ordinary : (ts rest : List Token) → Typed Real ts rest → Ordinary ts
typed_ordinary ts rest (by_word k f h) = record { class = a_word k; front = f; plain = type_ordinary k h }
typed_ordinary ts rest (by_name mid t u f s a b) = record { class = a_name; front = f; plain = refl }

closely_ordinary : (x : ExprTree) (ts us rest : List Token) (b : Bool) → rank x ≤ 1 → provided b ts ≡ Some us → expr x us ≡ Some rest → Ordinary ts
closely_ordinary x ts us rest b low h k =
    let e = expr_begins x us rest k in
    subst (λ vs. Ordinary vs) (sym ((met b ts us h).1)) (record { class = e.class; front = e.front; plain = primary_ordinary e.class (e.close low) })

pub simple_ordinary : (x : Simple) (ts rest : List Token) → simple x ts ≡ Some rest → Ordinary ts
simple_ordinary (simples.Assignment a o q b) ts rest h =
    let c = gone (provided (is_left_side a) ts) h in
    let x = gone (expr a c.0) c.2 in
    closely_ordinary a ts c.0 x.0 _ (left_close a (met _ ts c.0 c.1).0) c.1 x.1
simple_ordinary (simples.StepAfter a o q) ts rest h =
    let c = gone (provided (is_left_side a) ts) h in
    let x = gone (expr a c.0) c.2 in
    closely_ordinary a ts c.0 x.0 _ (left_close a (met _ ts c.0 c.1).0) c.1 x.1
simple_ordinary (simples.StepBefore q o a) ts rest h =
    let y = gone (at q ts) h in
    let m = gone (mark Real (step_mark o) y.0) y.2 in
    record { class = a_mark (step_mark o); front = behind q y.1 (mark_front Real (step_mark o) y.0 m.0 m.1); plain = step_ordinary o }
simple_ordinary (simples.Call a) ts rest h =
    let c = gone (provided (is_call a) ts) h in
    closely_ordinary a ts c.0 rest _ (call_close a (met _ ts c.0 c.1).0) c.1 c.2

simple_eats : (x : Simple) → Eats (simple x)
simple_eats (simples.Assignment a o q b) = then_eat (provided_keeps _) (eat_then (expr_eats a) (keep_then (at_keeps q) (keep_then (keeps (mark_eats _ _)) (keeps (expr_eats b)))))
simple_eats (simples.StepAfter a o q) = then_eat (provided_keeps _) (eat_then (expr_eats a) (keep_then (at_keeps q) (keeps (mark_eats _ _))))
simple_eats (simples.StepBefore q o a) = then_eat (at_keeps q) (eat_then (mark_eats _ _) (keep_then (provided_keeps _) (keeps (expr_eats a))))
simple_eats (simples.Call a) = then_eat (provided_keeps _) (expr_eats a)

first_keeps : (x : First) → Keeps (first x)
first_keeps (firsts.Declaration t n e) = keep_then (keeps (ctype_eats _ t)) (keep_then (keeps (name_eats _ n)) (keep_then (keeps (mark_eats _ _)) (keeps (expr_eats e))))
first_keeps (firsts.Simple x) = keeps (simple_eats x)

initializer_keeps : (x : ExprTree) → Keeps (initializer x)
initializer_keeps x = keep_then (keeps (mark_eats _ _)) (keeps (expr_eats x))

pub owed_keeps : {A : Type 0} (g : Grammar) (w : A → Walk) → ((x : A) → Keeps (w x)) → (x : Option A) → Keeps (owed g w x)
owed_keeps grammars.Whole w h (Some x) = h x
owed_keeps grammars.Whole w h None = never_keeps
owed_keeps grammars.Plain w h None = nothing_keeps
owed_keeps grammars.Plain w h (Some x) = never_keeps

mutual
  pub stmt_eats : (g : Grammar) (x : StmtTree) → Eats (stmt g x)
  stmt_eats g (tree.declaration p t n e last) = then_eat (at_keeps p) (eat_then (ctype_eats _ t) (keep_then (keeps (name_eats _ n)) (keep_then (optional_keeps initializer initializer_keeps e) (keep_then (at_keeps last) (keeps (mark_eats _ _))))))
  stmt_eats g (tree.simple p s last) = then_eat (at_keeps p) (eat_then (simple_eats s) (keep_then (at_keeps last) (keeps (mark_eats _ _))))
  stmt_eats g (tree.if_ p c a) = then_eat (at_keeps p) (eat_then (word_eats _ _) (keep_then (keeps (mark_eats _ _)) (keep_then (keeps (expr_eats c)) (keep_then (keeps (mark_eats _ _)) (keep_then (provided_keeps _) (keeps (stmt_eats g a)))))))
  stmt_eats g (tree.if_else p c a b) = then_eat (at_keeps p) (eat_then (word_eats _ _) (keep_then (keeps (mark_eats _ _)) (keep_then (keeps (expr_eats c)) (keep_then (keeps (mark_eats _ _)) (keep_then (provided_keeps _) (keep_then (provided_keeps _) (keep_then (keeps (stmt_eats g a)) (keep_then (keeps (word_eats _ _)) (keep_then (provided_keeps _) (keeps (stmt_eats g b)))))))))))
  stmt_eats g (tree.while_ p c i body) = then_eat (at_keeps p) (eat_then (word_eats _ _) (keep_then (keeps (mark_eats _ _)) (keep_then (keeps (expr_eats c)) (keep_then (keeps (mark_eats _ _)) (keep_then (owed_keeps g invariant_walk invariant_keeps i) (keep_then (provided_keeps _) (keeps (stmt_eats g body))))))))
  stmt_eats g (tree.for_ p f c s i body) = then_eat (at_keeps p) (eat_then (word_eats _ _) (keep_then (keeps (mark_eats _ _)) (keep_then (optional_keeps first first_keeps f) (keep_then (keeps (mark_eats _ _)) (keep_then (optional_keeps expr (λ (x : ExprTree). keeps (expr_eats x)) c) (keep_then (keeps (mark_eats _ _)) (keep_then (optional_keeps simple (λ (x : Simple). keeps (simple_eats x)) s) (keep_then (keeps (mark_eats _ _)) (keep_then (owed_keeps g invariant_walk invariant_keeps i) (keep_then (provided_keeps _) (keeps (stmt_eats g body))))))))))))
  stmt_eats g (tree.return_ p e last) = then_eat (at_keeps p) (eat_then (word_eats _ _) (keep_then (optional_keeps expr (λ (x : ExprTree). keeps (expr_eats x)) e) (keep_then (at_keeps last) (keeps (mark_eats _ _)))))
  stmt_eats g (tree.block p xs last) = then_eat (at_keeps p) (eat_then (mark_eats _ _) (keep_then (stmts_keep g xs) (keep_then (at_keeps last) (keeps (mark_eats _ _)))))
  stmt_eats g (tree.empty_ p) = then_eat (at_keeps p) (mark_eats _ _)
  stmt_eats grammars.Whole (tree.ghost p c) = then_eat (at_keeps p) (command_eats c)
  stmt_eats grammars.Plain (tree.ghost p c) = never_eats

  pub stmts_keep : (g : Grammar) (xs : StmtTrees) → Keeps (stmts g xs)
  stmts_keep g no_stmt = nothing_keeps
  stmts_keep g (more_stmt x xs) = keep_then (keeps (stmt_eats g x)) (stmts_keep g xs)

-- what is no `else`, of whatever text
pub record Elseless (ts : List Token) : Type 0 where
  pub real : head_has (is_word Real keywords.Else) ts ≡ false
  pub ghost : head_has (is_word Ghost keywords.Else) ts ≡ false

-- what a statement or a ghost command begins with
pub record Begun (x : StmtTree) (ts : List Token) : Type 0 where
  pub elseless : Elseless ts
  pub inside : head_has is_inside ts ≡ true
  pub of_real_text : is_command x ≡ false → head_has (is_on Ghost) ts ≡ false
  pub of_ghost_text : is_command x ≡ true → head_has (is_on Ghost) ts ≡ true

pub inside_real : (ts : List Token) → head_has (is_on Real) ts ≡ true → head_has (is_mark Real punctuators.CloseBrace) ts ≡ false → head_has is_inside ts ≡ true
unfolding is_inside
inside_real [] h k = no_true h
inside_real (t ∷ ts) h k = rw k refl

inside_ghost : (ts : List Token) → head_has (is_on Ghost) ts ≡ true → head_has is_inside ts ≡ true
unfolding is_inside
inside_ghost [] h = no_true h
inside_ghost (t ∷ ts) h = rw (off_mark Real punctuators.CloseBrace (t ∷ ts) (ghost_only (t ∷ ts) h)) refl

real_begun : (x : StmtTree) (c : Class) (ts : List Token) → Front Real c ts → class_word c keywords.Else ≡ false → class_mark c punctuators.CloseBrace ≡ false → is_command x ≡ false → Begun x ts
real_begun x c ts f h k m =
    let g = real_only ts f.side_is in
    record {
      elseless = record { real = f.words_are keywords.Else ∙ h; ghost = off_word Ghost keywords.Else ts g };
      inside = inside_real ts f.side_is (f.marks_are punctuators.CloseBrace ∙ k);
      of_real_text = λ e. g;
      of_ghost_text = λ e. no_true (sym m ∙ e);
    }

-- the parts of what is not special
pub record Parted (c : Class) : Type 0 where
  pub no_if : class_word c keywords.If ≡ false
  pub no_while : class_word c keywords.While ≡ false
  pub no_for : class_word c keywords.For ≡ false
  pub no_return : class_word c keywords.Return ≡ false
  pub no_else : class_word c keywords.Else ≡ false
  pub no_open : class_mark c punctuators.OpenBrace ≡ false
  pub no_close : class_mark c punctuators.CloseBrace ≡ false
  pub no_semicolon : class_mark c punctuators.Semicolon ≡ false
  pub no_parenthesis : class_mark c punctuators.CloseParenthesis ≡ false

pub parted : (c : Class) → special c ≡ false → Parted c
parted c h =
    let a = or_parts _ _ h in
    let b = or_parts _ _ a.0 in
    let d = or_parts _ _ b.0 in
    let e = or_parts _ _ d.0 in
    let f = or_parts _ _ e.0 in
    let g = or_parts _ _ f.0 in
    let i = or_parts _ _ g.0 in
    let j = or_parts _ _ i.0 in
    record { no_if = j.0; no_while = j.1; no_for = i.1; no_return = g.1; no_else = f.1; no_open = e.1; no_close = d.1; no_semicolon = b.1; no_parenthesis = a.1 }

ordinary_begun : (x : StmtTree) (ts : List Token) → Ordinary ts → is_command x ≡ false → Begun x ts
ordinary_begun x ts o h = let p = parted o.class o.plain in real_begun x o.class ts o.front p.no_else p.no_close h

word_begun : (x : StmtTree) (p : Place) (k : Keyword) (ts us rest : List Token) → at p ts ≡ Some us → word Real k us ≡ Some rest → class_word (a_word k) keywords.Else ≡ false → is_command x ≡ false → Begun x ts
word_begun x p k ts us rest h w e c = real_begun x (a_word k) ts (behind p h (word_front Real k us rest w)) e refl c

mark_begun : (x : StmtTree) (p : Place) (m : Punctuator) (ts us rest : List Token) → at p ts ≡ Some us → mark Real m us ≡ Some rest → class_mark (a_mark m) punctuators.CloseBrace ≡ false → is_command x ≡ false → Begun x ts
mark_begun x p m ts us rest h w e c = real_begun x (a_mark m) ts (behind p h (mark_front Real m us rest w)) refl e c

pub stmt_begins : (g : Grammar) (x : StmtTree) (ts rest : List Token) → stmt g x ts ≡ Some rest → Begun x ts
stmt_begins g (tree.declaration p t n e last) ts rest h =
    let a = gone (at p ts) h in let m = gone (ctype Real t a.0) a.2 in
    ordinary_begun _ ts (ordinary_at p ts a.0 a.1 (typed_ordinary a.0 m.0 (ctype_begins Real t a.0 m.0 m.1))) refl
stmt_begins g (tree.simple p s last) ts rest h =
    let a = gone (at p ts) h in let m = gone (simple s a.0) a.2 in
    ordinary_begun _ ts (ordinary_at p ts a.0 a.1 (simple_ordinary s a.0 m.0 m.1)) refl
stmt_begins g (tree.if_ p c a) ts rest h = let k = gone (at p ts) h in let m = gone (word Real keywords.If k.0) k.2 in word_begun _ p _ ts k.0 m.0 k.1 m.1 refl refl
stmt_begins g (tree.if_else p c a b) ts rest h = let k = gone (at p ts) h in let m = gone (word Real keywords.If k.0) k.2 in word_begun _ p _ ts k.0 m.0 k.1 m.1 refl refl
stmt_begins g (tree.while_ p c i body) ts rest h = let k = gone (at p ts) h in let m = gone (word Real keywords.While k.0) k.2 in word_begun _ p _ ts k.0 m.0 k.1 m.1 refl refl
stmt_begins g (tree.for_ p f c s i body) ts rest h = let k = gone (at p ts) h in let m = gone (word Real keywords.For k.0) k.2 in word_begun _ p _ ts k.0 m.0 k.1 m.1 refl refl
stmt_begins g (tree.return_ p e last) ts rest h = let k = gone (at p ts) h in let m = gone (word Real keywords.Return k.0) k.2 in word_begun _ p _ ts k.0 m.0 k.1 m.1 refl refl
stmt_begins g (tree.block p xs last) ts rest h = let k = gone (at p ts) h in let m = gone (mark Real punctuators.OpenBrace k.0) k.2 in mark_begun _ p _ ts k.0 m.0 k.1 m.1 refl refl
stmt_begins g (tree.empty_ p) ts rest h = let k = gone (at p ts) h in mark_begun _ p _ ts k.0 rest k.1 k.2 refl refl
stmt_begins grammars.Whole (tree.ghost p c) ts rest h =
    let k = gone (at p ts) h in
    let b : Ghostly ts = subst (λ vs. Ghostly vs) (sym (at_stays p ts k.0 k.1)) (command_begins c k.0 rest k.2) in
    record {
      elseless = record { real = off_word Real keywords.Else ts (ghost_only ts b.front.side_is); ghost = b.front.words_are keywords.Else ∙ b.no_else };
      inside = inside_ghost ts b.front.side_is;
      of_real_text = λ e. no_true (sym e);
      of_ghost_text = λ e. b.front.side_is;
    }
stmt_begins grammars.Plain (tree.ghost p c) ts rest h = absurd cc
