-- What stands in a statement besides other statements is read.
use Rattle.std.proofs.Common.{◌≡◌, ℕ, ◌+◌, ◌≤◌, Bool, true, false, List, Option, Some, None, refl, sym, subst, ◌∙◌, arith}
use Rattle.vf_base.specs.declared.place.Place.{Place}
use Rattle.vf_lexer.specs.declared.punctuator.Punctuator.TheVariants as punctuators
use Rattle.vf_lexer.specs.declared.token.Token.{Token}
use Rattle.vf_syntax.specs.declared.keyword.Keyword.TheVariants as keywords
use Rattle.vf_syntax.specs.declared.side.Side.TheVariants.{Real}
use Rattle.vf_syntax.specs.declared.side.Grammar.{Grammar}
use Rattle.vf_syntax.specs.declared.side.Grammar.TheVariants as grammars
use Rattle.vf_syntax.specs.declared.simple.Simple.{Simple}
use Rattle.vf_syntax.specs.declared.simple.First.{First}
use Rattle.vf_syntax.specs.declared.simple.First.TheVariants as firsts
use Rattle.vf_syntax.specs.declared.written.CType.{CType}
use Rattle.vf_syntax.specs.declared.written.Name.{Name}
use Rattle.vf_syntax.specs.ExprTree.{ExprTree}
use Rattle.vf_syntax.specs.StmtTree.{StmtTree}
use Rattle.vf_syntax.specs.StmtTree as tree
use Rattle.vf_syntax.specs.Walks.{Walk, ◌⨾◌, at, mark, word, head_has, is_mark, is_word}
use Rattle.vf_syntax.specs.Written.{name, ctype}
use Rattle.vf_syntax.specs.Lists.{optional, or_none}
use Rattle.vf_syntax.specs.Expressions.{expr, nesting}
use Rattle.vf_syntax.specs.Statements.{owed, simple, simple_nesting, first, first_nesting, initializer, whole_nesting, stmt, stmt_nesting}
use Rattle.vf_cursor.specs.Parsing.{Parser, ok}
use Rattle.vf_parse_expression.proofs.Small.{goes}
use Rattle.vf_parse_simple.specs.Simples.{sees_declaration, declared_at, simple_at, first_at}
use Rattle.vf_parse_statement.specs.declared.flat.Parts.{Parts}
use Rattle.vf_parse_statement.specs.Parsers.{is_whole, owed_at, unless_at, declaration_at, simple_statement_at, optional_expr_at, return_at, empty_at, flat_at, condition_at, optional_first_at, optional_step_at, head_at}
use Rattle.vf_grammar_read.proofs.expressions.Same.{some_same, no_true}
use Rattle.vf_grammar_read.proofs.expressions.Fronts.{Class, a_mark, a_word, a_name, a_number, a_character, class_mark, class_word, Front, gone, at_stays, mark_front, word_front}
use Rattle.vf_grammar_read.proofs.expressions.Taken.{here_read, mark_here, mark_read, word_here}
use Rattle.vf_grammar_read.proofs.expressions.TypesFull.{ctype_begins}
use Rattle.vf_grammar_read.proofs.expressions.Begins.{class_expr, behind, expr_begins}
use Rattle.vf_grammar_read.proofs.expressions.Behind.{front_looser}
use Rattle.vf_grammar_read.proofs.expressions.ExprFull.{Full, at_most}
use Rattle.vf_grammar_read.proofs.simple_statements.SimplesFull.{Closed, front_closed, declared_full, optional_value_full, simple_full, first_full, declaration_seen, no_declaration}
use Rattle.vf_grammar_read.proofs.statements.Begins.{Ordinary, parted, typed_ordinary, simple_ordinary}

-- a semicolon stands in front
abbrev pub Semicolon : List Token → Type 0
Semicolon ts = Front Real (a_mark punctuators.Semicolon) ts

pub semicolon_closed : (ts : List Token) → Semicolon ts → Closed ts
semicolon_closed ts f = front_closed _ ts f (omega arith) refl refl

-- a part that is owed is read, where a grammar has annotations
pub owed_full : {A : Type 0} (g : Grammar) (w : A → Walk) (n : A → ℕ) (d : ℕ) (p : Parser A) → (is_whole g ≡ true → (x : A) (ts rest : List Token) → w x ts ≡ Some rest → n x ≤ d → p ts ≡ ok x rest)
    → (x : Option A) (ts rest : List Token) → owed g w x ts ≡ Some rest → or_none n x ≤ d → owed_at g p ts ≡ ok x rest
owed_full grammars.Whole w n d p hp (Some x) ts rest h deep = rw (hp refl x ts rest h deep) refl
owed_full grammars.Whole w n d p hp None ts rest h deep = absurd cc
owed_full grammars.Plain w n d p hp None ts rest h deep = let same : ts ≡ rest = some_same h in λ i. ok None (same i)
owed_full grammars.Plain w n d p hp (Some x) ts rest h deep = absurd cc

-- a part that may be absent is read
unless_full : {A : Type 0} (w : A → Walk) (ends : Token → Bool) (p : Parser A) (x : Option A) (ts rest : List Token) → optional w x ts ≡ Some rest → head_has ends rest ≡ true
    → ((a : A) → x ≡ Some a → w a ts ≡ Some rest → (head_has ends ts ≡ false) × (p ts ≡ ok a rest)) → unless_at ends p ts ≡ ok x rest
unless_full w ends p None ts rest h stop f =
    let same : ts ≡ rest = some_same h in
    rw (subst (λ us. head_has ends us ≡ true) (sym same) stop) (λ i. ok None (same i))
unless_full w ends p (Some a) ts rest h stop f = let k = f a refl h in rw (k.0, k.1) refl

-- no expression begins with a semicolon
unended : (c : Class) → class_expr c ≡ true → class_mark c punctuators.Semicolon ≡ false
unended (a_mark punctuators.OpenParenthesis) h = refl
unended (a_mark punctuators.Minus) h = refl
unended (a_mark punctuators.Not) h = refl
unended (a_mark p) h = no_true h
unended (a_word k) h = refl
unended a_name h = refl
unended a_number h = refl
unended a_character h = refl

optional_expr_full : (e : Parser ExprTree) (d : ℕ) → Full 1 9 d e → (x : Option ExprTree) (ts rest : List Token) → optional expr x ts ≡ Some rest → or_none whole_nesting x ≤ d → Semicolon rest → optional_expr_at e ts ≡ ok x rest
unfolding optional_expr_at
optional_expr_full e d he x ts rest h deep f = unless_full expr (is_mark Real punctuators.Semicolon) e x ts rest h (f.marks_are punctuators.Semicolon) (λ a same k.
    let b = expr_begins a ts rest k in
    (b.front.marks_are punctuators.Semicolon ∙ unended b.class b.begins, he a ts rest k (subst (λ (y : Option ExprTree). or_none whole_nesting y ≤ d) same deep) (at_most a) (front_looser 9 _ rest f (omega arith))))

first_ordinary : (x : First) (ts rest : List Token) → first x ts ≡ Some rest → Ordinary ts
first_ordinary (firsts.Declaration t n e) ts rest h = let m = gone (ctype Real t ts) h in typed_ordinary ts m.0 (ctype_begins Real t ts m.0 m.1)
first_ordinary (firsts.Simple s) ts rest h = simple_ordinary s ts rest h

optional_first_full : (e f : Parser ExprTree) (d : ℕ) → Full 1 9 d e → Full 0 1 d f → (x : Option First) (ts rest : List Token) → optional first x ts ≡ Some rest → or_none first_nesting x ≤ d → Semicolon rest → optional_first_at e f ts ≡ ok x rest
unfolding optional_first_at
optional_first_full e f d he hf x ts rest h deep c = unless_full first (is_mark Real punctuators.Semicolon) (first_at e f) x ts rest h (c.marks_are punctuators.Semicolon) (λ a same k.
    let o = first_ordinary a ts rest k in
    (o.front.marks_are punctuators.Semicolon ∙ (parted o.class o.plain).no_semicolon, first_full e f d he hf a ts rest k (subst (λ (y : Option First). or_none first_nesting y ≤ d) same deep) (semicolon_closed rest c)))

optional_step_full : (e f : Parser ExprTree) (d : ℕ) → Full 1 9 d e → Full 0 1 d f → (x : Option Simple) (ts rest : List Token) → optional simple x ts ≡ Some rest → or_none simple_nesting x ≤ d → Front Real (a_mark punctuators.CloseParenthesis) rest → optional_step_at e f ts ≡ ok x rest
unfolding optional_step_at
optional_step_full e f d he hf x ts rest h deep c = unless_full simple (is_mark Real punctuators.CloseParenthesis) (simple_at e f) x ts rest h (c.marks_are punctuators.CloseParenthesis) (λ a same k.
    let o = simple_ordinary a ts rest k in
    (o.front.marks_are punctuators.CloseParenthesis ∙ (parted o.class o.plain).no_parenthesis, simple_full e f d he hf a ts rest k (subst (λ (y : Option Simple). or_none simple_nesting y ≤ d) same deep) (front_closed _ rest c (omega arith) refl refl)))

pub condition_full : (e : Parser ExprTree) (d : ℕ) → Full 1 9 d e → (c : ExprTree) (ts us vs rest : List Token) → mark Real punctuators.OpenParenthesis ts ≡ Some us → expr c us ≡ Some vs → mark Real punctuators.CloseParenthesis vs ≡ Some rest → nesting c + 1 ≤ d → condition_at e ts ≡ ok c rest
unfolding condition_at
condition_full e d he c ts us vs rest h k m deep =
    let f = mark_front Real punctuators.CloseParenthesis vs rest m in
    let read : e us ≡ ok c vs = he c us vs k deep (at_most c) (front_looser 9 _ vs f (omega arith)) in
    rw ((mark_read Real _ ts us h).1, read, (mark_read Real _ vs rest m).1) refl

-- the parts of a `for`
abbrev pub parts_of : Option First → Option ExprTree → Option Simple → Parts
parts_of f c s = record { first = f; condition = c; step = s }

pub head_full : (e f : Parser ExprTree) (d : ℕ) → Full 1 9 d e → Full 0 1 d f → (a : Option First) (c : Option ExprTree) (s : Option Simple) (ts us rest : List Token)
    → (mark Real punctuators.OpenParenthesis ⨾ optional first a ⨾ mark Real punctuators.Semicolon ⨾ optional expr c ⨾ mark Real punctuators.Semicolon ⨾ optional simple s) ts ≡ Some us → mark Real punctuators.CloseParenthesis us ≡ Some rest
    → or_none first_nesting a ≤ d → or_none whole_nesting c ≤ d → or_none simple_nesting s ≤ d → head_at e f ts ≡ ok (parts_of a c s) rest
unfolding head_at
head_full e f d he hf a c s ts us rest h last da dc ds =
    let o = gone (mark Real punctuators.OpenParenthesis ts) h in
    let x = gone (optional first a o.0) o.2 in
    let m = gone (mark Real punctuators.Semicolon x.0) x.2 in
    let y = gone (optional expr c m.0) m.2 in
    let n = gone (mark Real punctuators.Semicolon y.0) y.2 in
    let one = optional_first_full e f d he hf a o.0 x.0 x.1 da (mark_front Real _ x.0 m.0 m.1) in
    let two = optional_expr_full e d he c m.0 y.0 y.1 dc (mark_front Real _ y.0 n.0 n.1) in
    let three = optional_step_full e f d he hf s n.0 us n.2 ds (mark_front Real _ us rest last) in
    rw ((mark_read Real _ ts o.0 o.1).1, one, (mark_read Real _ x.0 m.0 m.1).1, two, (mark_read Real _ y.0 n.0 n.1).1, three, (mark_read Real _ us rest last).1) refl

declaration_full : (g : Grammar) (e : Parser ExprTree) (d : ℕ) → Full 1 9 d e → (p : Place) (t : CType) (n : Name) (x : Option ExprTree) (last : Place) (ts rest : List Token) → stmt g (tree.declaration p t n x last) ts ≡ Some rest → or_none whole_nesting x ≤ d
    → declaration_at e ts ≡ ok (tree.declaration p t n x last) rest
unfolding declaration_at
declaration_full g e d he p t n x last ts rest h deep =
    let a = gone (at p ts) h in
    let b = gone (ctype Real t a.0) a.2 in
    let c = gone (name Real n b.0) b.2 in
    let v = gone (optional initializer x c.0) c.2 in
    let z = gone (at last v.0) v.2 in
    let f = behind last z.1 (mark_front Real punctuators.Semicolon z.0 rest z.2) in
    let two : declared_at a.0 ≡ ok (t, n) c.0 = declared_full t n a.0 c.0 (goes (name Real n) b.1 c.1) in
    let three = optional_value_full e d he x c.0 v.0 v.1 deep (front_looser 9 _ v.0 f (omega arith)) (f.marks_are punctuators.Becomes) in
    rw (here_read p ts a.0 a.1, two, three, mark_here Real _ last v.0 z.0 rest z.1 z.2) refl

simple_statement_full : (g : Grammar) (e f : Parser ExprTree) (d : ℕ) → Full 1 9 d e → Full 0 1 d f → (p : Place) (x : Simple) (last : Place) (ts rest : List Token) → stmt g (tree.simple p x last) ts ≡ Some rest → simple_nesting x ≤ d
    → (sees_declaration ts ≡ false) × (simple_statement_at e f ts ≡ ok (tree.simple p x last) rest)
unfolding simple_statement_at
simple_statement_full g e f d he hf p x last ts rest h deep =
    let a = gone (at p ts) h in
    let v = gone (simple x a.0) a.2 in
    let z = gone (at last v.0) v.2 in
    let end = semicolon_closed v.0 (behind last z.1 (mark_front Real punctuators.Semicolon z.0 rest z.2)) in
    let one = simple_full e f d he hf x a.0 v.0 v.1 deep end in (
      subst (λ us. sees_declaration us ≡ false) (sym (at_stays p ts a.0 a.1)) (no_declaration x a.0 v.0 v.1 end),
      rw (here_read p ts a.0 a.1, one, mark_here Real _ last v.0 z.0 rest z.1 z.2) refl,
    )

return_full : (g : Grammar) (e : Parser ExprTree) (d : ℕ) → Full 1 9 d e → (p : Place) (x : Option ExprTree) (last : Place) (ts rest : List Token) → stmt g (tree.return_ p x last) ts ≡ Some rest → or_none whole_nesting x ≤ d → return_at e ts ≡ ok (tree.return_ p x last) rest
unfolding return_at
return_full g e d he p x last ts rest h deep =
    let a = gone (at p ts) h in
    let b = gone (word Real keywords.Return a.0) a.2 in
    let v = gone (optional expr x b.0) b.2 in
    let z = gone (at last v.0) v.2 in
    let f = behind last z.1 (mark_front Real punctuators.Semicolon z.0 rest z.2) in
    rw (word_here Real _ p ts a.0 b.0 a.1 b.1, optional_expr_full e d he x b.0 v.0 v.1 deep f, mark_here Real _ last v.0 z.0 rest z.1 z.2) refl

empty_full : (g : Grammar) (p : Place) (ts rest : List Token) → stmt g (tree.empty_ p) ts ≡ Some rest → empty_at ts ≡ ok (tree.empty_ p) rest
unfolding empty_at
empty_full g p ts rest h = let a = gone (at p ts) h in rw (mark_here Real _ p ts a.0 rest a.1 a.2) refl

-- a statement has no other in it
abbrev pub is_flat : StmtTree → Bool
is_flat (tree.declaration p t n x last) = true
is_flat (tree.simple p x last) = true
is_flat (tree.return_ p x last) = true
is_flat (tree.empty_ p) = true
is_flat x = false

-- what is read as a statement without others is no loop, no `if` and no block
pub record Flat (ts : List Token) : Type 0 where
  pub no_if : head_has (is_word Real keywords.If) ts ≡ false
  pub no_while : head_has (is_word Real keywords.While) ts ≡ false
  pub no_for : head_has (is_word Real keywords.For) ts ≡ false
  pub no_brace : head_has (is_mark Real punctuators.OpenBrace) ts ≡ false

front_flat : (c : Class) (ts : List Token) → Front Real c ts → class_word c keywords.If ≡ false → class_word c keywords.While ≡ false → class_word c keywords.For ≡ false → class_mark c punctuators.OpenBrace ≡ false → Flat ts
front_flat c ts f i w o b = record { no_if = f.words_are keywords.If ∙ i; no_while = f.words_are keywords.While ∙ w; no_for = f.words_are keywords.For ∙ o; no_brace = f.marks_are punctuators.OpenBrace ∙ b }

ordinary_flat : (ts : List Token) → Ordinary ts → Flat ts
ordinary_flat ts o = let p = parted o.class o.plain in front_flat o.class ts o.front p.no_if p.no_while p.no_for p.no_open

ordinary_at : (p : Place) (ts us : List Token) → at p ts ≡ Some us → Ordinary us → Ordinary ts
ordinary_at p ts us h o = subst (λ vs. Ordinary vs) (sym (at_stays p ts us h)) o

pub flat_full : (g : Grammar) (e f : Parser ExprTree) (d : ℕ) → Full 1 9 d e → Full 0 1 d f → (x : StmtTree) (ts rest : List Token) → stmt g x ts ≡ Some rest → stmt_nesting x ≤ d → is_flat x ≡ true → Flat ts × (flat_at e f ts ≡ ok x rest)
unfolding flat_at
flat_full g e f d he hf (tree.declaration p t n x last) ts rest h deep k =
    let a = gone (at p ts) h in let m = gone (ctype Real t a.0) a.2 in
    let o = ordinary_at p ts a.0 a.1 (typed_ordinary a.0 m.0 (ctype_begins Real t a.0 m.0 m.1)) in
    let q = parted o.class o.plain in
    let seen : sees_declaration ts ≡ true = subst (λ us. sees_declaration us ≡ true) (sym (at_stays p ts a.0 a.1)) (declaration_seen t a.0 m.0 m.1) in
    (ordinary_flat ts o, rw (o.front.words_are keywords.Return ∙ q.no_return, o.front.marks_are punctuators.Semicolon ∙ q.no_semicolon, seen) (declaration_full g e d he p t n x last ts rest h deep))
flat_full g e f d he hf (tree.simple p x last) ts rest h deep k =
    let a = gone (at p ts) h in let m = gone (simple x a.0) a.2 in
    let o = ordinary_at p ts a.0 a.1 (simple_ordinary x a.0 m.0 m.1) in
    let q = parted o.class o.plain in
    let r = simple_statement_full g e f d he hf p x last ts rest h deep in
    (ordinary_flat ts o, rw (o.front.words_are keywords.Return ∙ q.no_return, o.front.marks_are punctuators.Semicolon ∙ q.no_semicolon, r.0) r.1)
flat_full g e f d he hf (tree.return_ p x last) ts rest h deep k =
    let a = gone (at p ts) h in let m = gone (word Real keywords.Return a.0) a.2 in
    let c = behind p a.1 (word_front Real keywords.Return a.0 m.0 m.1) in
    (front_flat _ ts c refl refl refl refl, rw (c.words_are keywords.Return) (return_full g e d he p x last ts rest h deep))
flat_full g e f d he hf (tree.empty_ p) ts rest h deep k =
    let a = gone (at p ts) h in
    let c = behind p a.1 (mark_front Real punctuators.Semicolon a.0 rest a.2) in
    (front_flat _ ts c refl refl refl refl, rw (c.words_are keywords.Return, c.marks_are punctuators.Semicolon) (empty_full g p ts rest h))
flat_full g e f d he hf x ts rest h deep k = no_true k
