-- Assignments, calls and declarations that are spelled are read, where what stands behind does not go on with them.
use Rattle.std.proofs.Common.{◌≡◌, ℕ, ◌+◌, ◌≤◌, ◌<◌, true, false, ◌&&◌, ◌||◌, List, Option, Some, None, refl, sym, subst, ap, ◌∙◌, arith}
use Rattle.std.proofs.lemmas.Bool.{or_parts}
use Rattle.vf_base.specs.declared.place.Place.{Place}
use Rattle.vf_lexer.specs.declared.punctuator.Punctuator.TheVariants as punctuators
use Rattle.vf_lexer.specs.declared.token.Token.{Token}
use Rattle.vf_syntax.specs.declared.side.Side.TheVariants.{Real}
use Rattle.vf_syntax.specs.declared.operator.AssignmentOperator.{AssignmentOperator}
use Rattle.vf_syntax.specs.declared.operator.AssignmentOperator.TheVariants as assignments
use Rattle.vf_syntax.specs.declared.operator.StepOperator.{StepOperator}
use Rattle.vf_syntax.specs.declared.operator.StepOperator.TheVariants as steps
use Rattle.vf_syntax.specs.declared.simple.Simple.{Simple}
use Rattle.vf_syntax.specs.declared.simple.Simple.TheVariants as simples
use Rattle.vf_syntax.specs.declared.simple.First.{First}
use Rattle.vf_syntax.specs.declared.simple.First.TheVariants as firsts
use Rattle.vf_syntax.specs.declared.written.CType.{CType}
use Rattle.vf_syntax.specs.declared.written.Name.{Name}
use Rattle.vf_syntax.specs.ExprTree.{ExprTree, PostfixTrees}
use Rattle.vf_syntax.specs.ExprTree as tree
use Rattle.vf_syntax.specs.Walks.{◌⨾◌, provided, at, mark, head_has, is_mark, is_name}
use Rattle.vf_syntax.specs.Written.{name, ctype, assignment_mark, assignment_of, step_mark, step_of}
use Rattle.vf_syntax.specs.Lists.{optional, or_none}
use Rattle.vf_syntax.specs.Expressions.{expr, nesting, rank}
use Rattle.vf_syntax.specs.Statements.{simple, simple_nesting, first, first_nesting, initializer, whole_nesting, is_call, is_left_side}
use Rattle.vf_cursor.specs.Parsing.{Parser, ok, mark_at, is_there}
use Rattle.vf_cursor.specs.Types.{is_type_word, next_assignment, next_step, found_then}
use Rattle.vf_cursor.proofs.Facts.{ok_pair}
use Rattle.vf_parse_expression.specs.Operands.{after}
use Rattle.vf_parse_expression.specs.Parsers.{expr_at, postfix_at}
use Rattle.vf_parse_expression.proofs.Small.{goes}
use Rattle.vf_parse_simple.specs.Simples.{sees_declaration, declared_at, value_at, optional_value_at, assigned_at, step_after_at, step_before_at, called_at, behind_at, simple_at, first_declaration_at, first_at}
use Rattle.vf_grammar_read.specs.expressions.Laws.{goes_on_with}
use Rattle.vf_grammar_read.proofs.expressions.Same.{some_same, no_true}
use Rattle.vf_grammar_read.proofs.expressions.Fronts.{Class, a_mark, a_word, a_name, a_number, a_character, class_mark, class_next, Front, gone, mark_front, identifier_front}
use Rattle.vf_grammar_read.proofs.expressions.Taken.{mark_here, mark_read, name_read}
use Rattle.vf_grammar_read.proofs.expressions.TypesFull.{Typed, by_word, by_name, width_of, type_word_of, ctype_full, ctype_begins}
use Rattle.vf_grammar_read.proofs.expressions.Begins.{class_primary, behind, met, expr_begins, no_type, unstarred}
use Rattle.vf_grammar_read.proofs.expressions.Behind.{hold, Looser, front_looser, ended, no_star}
use Rattle.vf_grammar_read.proofs.expressions.ExprFull.{Full, at_most, expr_full, postfix_full}
use Rattle.vf_grammar_read.specs.simple_statements.Laws.{goes_on_with_simple}

-- what stands behind goes on with no assignment and no call
pub record Closed (rest : List Token) : Type 0 where
  pub looser : Looser 9 rest
  pub no_assignment : next_assignment rest ≡ None
  pub no_step : next_step rest ≡ None

pub front_closed : (c : Class) (ts : List Token) → Front Real c ts → 9 < hold (class_next c) → found_then (class_next c) assignment_of ≡ None → found_then (class_next c) step_of ≡ None → Closed ts
unfolding next_assignment next_step
front_closed c ts f h a s = record { looser = front_looser 9 c ts f h; no_assignment = rw f.next_is a; no_step = rw f.next_is s }

nothing_there : {A : Type 0} (o : Option A) → is_there o ≡ false → o ≡ None
nothing_there None h = refl
nothing_there (Some x) h = no_true (sym h)

pub closed : (ts : List Token) → goes_on_with_simple ts ≡ false → Closed ts
unfolding goes_on_with_simple
closed ts h =
    let a = or_parts (goes_on_with ts) _ h in
    let b = or_parts (is_there (next_assignment ts)) _ a.1 in
    record { looser = ended ts a.0; no_assignment = nothing_there (next_assignment ts) b.0; no_step = nothing_there (next_step ts) b.1 }

name_front : (n : Name) (ts rest : List Token) → name Real n ts ≡ Some rest → Front Real a_name ts
unfolding name
name_front n ts rest h = let g = gone (at n.place ts) h in behind n.place g.1 (identifier_front Real n.text g.0 rest g.2)

pub declared_full : (t : CType) (n : Name) (ts rest : List Token) → (ctype Real t ⨾ name Real n) ts ≡ Some rest → declared_at ts ≡ ok (t, n) rest
unfolding declared_at
declared_full t n ts rest h =
    let g = gone (ctype Real t ts) h in
    let f = name_front n g.0 rest g.2 in
    rw (ctype_full Real t ts g.0 g.1 (record { no_width = width_of Real _ g.0 f; no_star = f.marks_are punctuators.Star }), name_read Real n g.0 rest g.2) refl

pub value_full : (e : Parser ExprTree) (d : ℕ) → Full 1 9 d e → (x : ExprTree) (ts rest : List Token) → initializer x ts ≡ Some rest → nesting x + 1 ≤ d → Looser 9 rest → value_at e ts ≡ ok x rest
unfolding value_at
value_full e d he x ts rest h deep lo =
    let g = gone (mark Real punctuators.Becomes ts) h in
    rw ((mark_read Real _ ts g.0 g.1).1) (he x g.0 rest g.2 deep (at_most x) lo)

pub optional_value_full : (e : Parser ExprTree) (d : ℕ) → Full 1 9 d e → (x : Option ExprTree) (ts rest : List Token) → optional initializer x ts ≡ Some rest → or_none whole_nesting x ≤ d → Looser 9 rest → head_has (is_mark Real punctuators.Becomes) rest ≡ false
    → optional_value_at e ts ≡ ok x rest
unfolding optional_value_at
optional_value_full e d he None ts rest h deep lo stop =
    let same : ts ≡ rest = some_same h in
    rw (subst (λ us. head_has (is_mark Real punctuators.Becomes) us ≡ false) (sym same) stop) (λ i. ok None (same i))
optional_value_full e d he (Some x) ts rest h deep lo stop =
    let g = gone (mark Real punctuators.Becomes ts) h in
    rw ((mark_front Real punctuators.Becomes ts g.0 g.1).marks_are punctuators.Becomes, value_full e d he x ts rest h deep lo) refl

assignment_back : (o : AssignmentOperator) → assignment_of (assignment_mark o) ≡ Some o
assignment_back assignments.Becomes = refl
assignment_back assignments.PlusBecomes = refl
assignment_back assignments.MinusBecomes = refl
assignment_back assignments.TimesBecomes = refl
assignment_back assignments.DivideBecomes = refl
assignment_back assignments.RemainderBecomes = refl

assignment_hold : (o : AssignmentOperator) → 1 < hold (class_next (a_mark (assignment_mark o)))
assignment_hold assignments.Becomes = omega arith
assignment_hold assignments.PlusBecomes = omega arith
assignment_hold assignments.MinusBecomes = omega arith
assignment_hold assignments.TimesBecomes = omega arith
assignment_hold assignments.DivideBecomes = omega arith
assignment_hold assignments.RemainderBecomes = omega arith

step_back : (o : StepOperator) → step_of (step_mark o) ≡ Some o
step_back steps.Increment = refl
step_back steps.Decrement = refl

step_assigns_not : (o : StepOperator) → assignment_of (step_mark o) ≡ None
step_assigns_not steps.Increment = refl
step_assigns_not steps.Decrement = refl

step_hold : (o : StepOperator) → 1 < hold (class_next (a_mark (step_mark o)))
step_hold steps.Increment = omega arith
step_hold steps.Decrement = omega arith

-- a left side holds together closely
pub left_close : (x : ExprTree) → is_left_side x ≡ true → rank x ≤ 1
left_close (tree.number p n ty) h = no_true h
left_close (tree.character p n) h = no_true h
left_close (tree.true_ p) h = no_true h
left_close (tree.false_ p) h = no_true h
left_close (tree.name_ p x) h = omega arith
left_close (tree.parenthesized p a) h = no_true h
left_close (tree.malloc p t) h = no_true h
left_close (tree.malloc_ints p n q) h = no_true h
left_close (tree.postfix p a xs) h = omega arith
left_close (tree.unary p o a) h = no_true h
left_close (tree.cast p t a) h = no_true h
left_close (tree.chain p l a xs) h = no_true h
left_close (tree.conditional p c a b) h = no_true h

-- a call holds together closely
pub call_close : (x : ExprTree) → is_call x ≡ true → rank x ≤ 1
call_close (tree.number p n ty) h = no_true h
call_close (tree.character p n) h = no_true h
call_close (tree.true_ p) h = no_true h
call_close (tree.false_ p) h = no_true h
call_close (tree.name_ p x) h = no_true h
call_close (tree.parenthesized p a) h = no_true h
call_close (tree.malloc p t) h = omega arith
call_close (tree.malloc_ints p n q) h = omega arith
call_close (tree.postfix p a xs) h = omega arith
call_close (tree.unary p o a) h = no_true h
call_close (tree.cast p t a) h = no_true h
call_close (tree.chain p l a xs) h = no_true h
call_close (tree.conditional p c a b) h = no_true h

-- no primary expression begins with `++` or `--`
stepless : (c : Class) → class_primary c ≡ true → found_then (class_next c) step_of ≡ None
stepless (a_mark punctuators.OpenParenthesis) h = refl
stepless (a_mark p) h = no_true h
stepless (a_word k) h = refl
stepless a_name h = refl
stepless a_number h = refl
stepless a_character h = refl

no_step_first : (x : ExprTree) (ts rest : List Token) → expr x ts ≡ Some rest → rank x ≤ 1 → next_step ts ≡ None
unfolding next_step
no_step_first x ts rest h low = let b = expr_begins x ts rest h in rw b.front.next_is (stepless b.class (b.close low))

-- from the parts that are read to the whole
assigned_read : (e f : Parser ExprTree) (a b : ExprTree) (o : AssignmentOperator) (q : Place) (ts us vs rest : List Token) → next_step ts ≡ None → f ts ≡ ok a us → next_assignment us ≡ Some o → is_left_side a ≡ true → mark_at Real (assignment_mark o) us ≡ ok q vs → e vs ≡ ok b rest
    → simple_at e f ts ≡ ok (simples.Assignment a o q b) rest
unfolding simple_at behind_at assigned_at
assigned_read e f a b o q ts us vs rest h1 h2 h3 h4 h5 h6 = rw (h1, h2, h3, h4, h5, h6) refl

stepped_after_read : (e f : Parser ExprTree) (a : ExprTree) (o : StepOperator) (q : Place) (ts us rest : List Token) → next_step ts ≡ None → f ts ≡ ok a us → next_assignment us ≡ None → next_step us ≡ Some o → is_left_side a ≡ true → mark_at Real (step_mark o) us ≡ ok q rest
    → simple_at e f ts ≡ ok (simples.StepAfter a o q) rest
unfolding simple_at behind_at step_after_at
stepped_after_read e f a o q ts us rest h1 h2 h3 h4 h5 h6 = rw (h1, h2, h3, h4, h5, h6) refl

stepped_before_read : (e f : Parser ExprTree) (a : ExprTree) (o : StepOperator) (q : Place) (ts us rest : List Token) → next_step ts ≡ Some o → mark_at Real (step_mark o) ts ≡ ok q us → f us ≡ ok a rest → is_left_side a ≡ true → simple_at e f ts ≡ ok (simples.StepBefore q o a) rest
unfolding simple_at step_before_at
stepped_before_read e f a o q ts us rest h1 h2 h3 h4 = rw (h1, h2, h3, h4) refl

called_read : (e f : Parser ExprTree) (a : ExprTree) (ts rest : List Token) → next_step ts ≡ None → f ts ≡ ok a rest → next_assignment rest ≡ None → next_step rest ≡ None → is_call a ≡ true → simple_at e f ts ≡ ok (simples.Call a) rest
unfolding simple_at behind_at called_at
called_read e f a ts rest h1 h2 h3 h4 h5 = rw (h1, h2, h3, h4, h5) refl

assignment_found : (o : AssignmentOperator) (ts : List Token) → Front Real (a_mark (assignment_mark o)) ts → next_assignment ts ≡ Some o
unfolding next_assignment
assignment_found o ts f = rw f.next_is (assignment_back o)

step_found : (o : StepOperator) (ts : List Token) → Front Real (a_mark (step_mark o)) ts → next_step ts ≡ Some o
unfolding next_step
step_found o ts f = rw f.next_is (step_back o)

no_assignment_found : (o : StepOperator) (ts : List Token) → Front Real (a_mark (step_mark o)) ts → next_assignment ts ≡ None
unfolding next_assignment
no_assignment_found o ts f = rw f.next_is (step_assigns_not o)

pub simple_full : (e f : Parser ExprTree) (d : ℕ) → Full 1 9 d e → Full 0 1 d f → (x : Simple) (ts rest : List Token) → simple x ts ≡ Some rest → simple_nesting x ≤ d → Closed rest → simple_at e f ts ≡ ok x rest
simple_full e f d he hf (simples.Assignment a o q b) ts rest h deep end =
    let c = gone (provided (is_left_side a) ts) h in
    let w = met _ ts c.0 c.1 in
    let x = gone (expr a c.0) c.2 in
    let y = gone (at q x.0) x.2 in
    let m = gone (mark Real (assignment_mark o) y.0) y.2 in
    let front = behind q y.1 (mark_front Real (assignment_mark o) y.0 m.0 m.1) in
    let low = left_close a w.0 in
    let walk : expr a ts ≡ Some x.0 = subst (λ us. expr a us ≡ Some x.0) (sym w.1) x.1 in
    let one : f ts ≡ ok a x.0 = hf a ts x.0 walk (omega (arith, deep)) low (front_looser 1 _ x.0 front (assignment_hold o)) in
    let two : e m.0 ≡ ok b rest = he b m.0 rest m.2 (omega (arith, deep)) (at_most b) end.looser in
    assigned_read e f a b o q ts x.0 m.0 rest (no_step_first a ts x.0 walk low) one (assignment_found o x.0 front) w.0 (mark_here Real _ q x.0 y.0 m.0 y.1 m.1) two
simple_full e f d he hf (simples.StepAfter a o q) ts rest h deep end =
    let c = gone (provided (is_left_side a) ts) h in
    let w = met _ ts c.0 c.1 in
    let x = gone (expr a c.0) c.2 in
    let y = gone (at q x.0) x.2 in
    let front = behind q y.1 (mark_front Real (step_mark o) y.0 rest y.2) in
    let low = left_close a w.0 in
    let walk : expr a ts ≡ Some x.0 = subst (λ us. expr a us ≡ Some x.0) (sym w.1) x.1 in
    let one : f ts ≡ ok a x.0 = hf a ts x.0 walk (omega (arith, deep)) low (front_looser 1 _ x.0 front (step_hold o)) in
    stepped_after_read e f a o q ts x.0 rest (no_step_first a ts x.0 walk low) one (no_assignment_found o x.0 front) (step_found o x.0 front) w.0 (mark_here Real _ q x.0 y.0 rest y.1 y.2)
simple_full e f d he hf (simples.StepBefore q o a) ts rest h deep end =
    let y = gone (at q ts) h in
    let m = gone (mark Real (step_mark o) y.0) y.2 in
    let c = gone (provided (is_left_side a) m.0) m.2 in
    let w = met _ m.0 c.0 c.1 in
    let front = behind q y.1 (mark_front Real (step_mark o) y.0 m.0 m.1) in
    let walk : expr a m.0 ≡ Some rest = subst (λ us. expr a us ≡ Some rest) (sym w.1) c.2 in
    let one : f m.0 ≡ ok a rest = hf a m.0 rest walk (omega (arith, deep)) (left_close a w.0) (omega (arith, end.looser)) in
    stepped_before_read e f a o q ts m.0 rest (step_found o ts front) (mark_here Real _ q ts y.0 m.0 y.1 m.1) one w.0
simple_full e f d he hf (simples.Call a) ts rest h deep end =
    let c = gone (provided (is_call a) ts) h in
    let w = met _ ts c.0 c.1 in
    let low = call_close a w.0 in
    let walk : expr a ts ≡ Some rest = subst (λ us. expr a us ≡ Some rest) (sym w.1) c.2 in
    let one : f ts ≡ ok a rest = hf a ts rest walk (omega (arith, deep)) low (omega (arith, end.looser)) in
    called_read e f a ts rest (no_step_first a ts rest walk low) one end.no_assignment end.no_step w.0

-- a type in front is seen as a declaration
pub declaration_seen : (t : CType) (ts rest : List Token) → ctype Real t ts ≡ Some rest → sees_declaration ts ≡ true
unfolding sees_declaration
declaration_seen t ts rest h = seen (ctype_begins Real t ts rest h)
  where
    seen : Typed Real ts rest → (head_has (is_type_word Real) ts || (head_has (is_name Real) ts && head_has (is_mark Real punctuators.Star) (after ts))) ≡ true
    seen (by_word k f c) = rw (type_word_of Real _ ts f, c) refl
    seen (by_name mid t u f s one two) =
        let inside : after ts ≡ mid = ap after one in
        rw (type_word_of Real _ ts f, f.names_are, inside, s.marks_are punctuators.Star) refl

neither : (ts : List Token) → head_has (is_type_word Real) ts ≡ false → (head_has (is_name Real) ts && head_has (is_mark Real punctuators.Star) (after ts)) ≡ false → sees_declaration ts ≡ false
unfolding sees_declaration
neither ts h k = rw (h, k) refl

-- what holds together closely begins no declaration, where no `*` stands behind it
close_undeclared : (x : ExprTree) (ts rest : List Token) → expr x ts ≡ Some rest → rank x ≤ 1 → head_has (is_mark Real punctuators.Star) rest ≡ false → sees_declaration ts ≡ false
close_undeclared x ts rest h low f = neither ts (no_type x ts rest h) (unstarred x ts rest h low f)

step_starless : (o : StepOperator) → class_mark (a_mark (step_mark o)) punctuators.Star ≡ false
step_starless steps.Increment = refl
step_starless steps.Decrement = refl

assignment_starless : (o : AssignmentOperator) → class_mark (a_mark (assignment_mark o)) punctuators.Star ≡ false
assignment_starless assignments.Becomes = refl
assignment_starless assignments.PlusBecomes = refl
assignment_starless assignments.MinusBecomes = refl
assignment_starless assignments.TimesBecomes = refl
assignment_starless assignments.DivideBecomes = refl
assignment_starless assignments.RemainderBecomes = refl

-- no assignment and no call is seen as a declaration
pub no_declaration : (x : Simple) (ts rest : List Token) → simple x ts ≡ Some rest → Closed rest → sees_declaration ts ≡ false
no_declaration (simples.Assignment a o q b) ts rest h end =
    let c = gone (provided (is_left_side a) ts) h in
    let w = met _ ts c.0 c.1 in
    let x = gone (expr a c.0) c.2 in
    let y = gone (at q x.0) x.2 in
    let m = gone (mark Real (assignment_mark o) y.0) y.2 in
    let front = behind q y.1 (mark_front Real (assignment_mark o) y.0 m.0 m.1) in
    let walk : expr a ts ≡ Some x.0 = subst (λ us. expr a us ≡ Some x.0) (sym w.1) x.1 in
    close_undeclared a ts x.0 walk (left_close a w.0) (front.marks_are punctuators.Star ∙ assignment_starless o)
no_declaration (simples.StepAfter a o q) ts rest h end =
    let c = gone (provided (is_left_side a) ts) h in
    let w = met _ ts c.0 c.1 in
    let x = gone (expr a c.0) c.2 in
    let y = gone (at q x.0) x.2 in
    let front = behind q y.1 (mark_front Real (step_mark o) y.0 rest y.2) in
    let walk : expr a ts ≡ Some x.0 = subst (λ us. expr a us ≡ Some x.0) (sym w.1) x.1 in
    close_undeclared a ts x.0 walk (left_close a w.0) (front.marks_are punctuators.Star ∙ step_starless o)
no_declaration (simples.StepBefore q o a) ts rest h end =
    let y = gone (at q ts) h in
    let m = gone (mark Real (step_mark o) y.0) y.2 in
    let front = behind q y.1 (mark_front Real (step_mark o) y.0 m.0 m.1) in
    neither ts (type_word_of Real _ ts front) (rw front.names_are refl)
no_declaration (simples.Call a) ts rest h end =
    let c = gone (provided (is_call a) ts) h in
    let w = met _ ts c.0 c.1 in
    let walk : expr a ts ≡ Some rest = subst (λ us. expr a us ≡ Some rest) (sym w.1) c.2 in
    close_undeclared a ts rest walk (call_close a w.0) (no_star rest (omega (arith, end.looser)))

first_declared_full : (e : Parser ExprTree) (d : ℕ) → Full 1 9 d e → (t : CType) (n : Name) (x : ExprTree) (ts rest : List Token) → first (firsts.Declaration t n x) ts ≡ Some rest → nesting x + 1 ≤ d → Looser 9 rest → first_declaration_at e ts ≡ ok (firsts.Declaration t n x) rest
unfolding first_declaration_at
first_declared_full e d he t n x ts rest h deep lo =
    let g = gone (ctype Real t ts) h in
    let k = gone (name Real n g.0) g.2 in
    let both_ : (ctype Real t ⨾ name Real n) ts ≡ Some k.0 = goes (name Real n) g.1 k.1 in
    rw (declared_full t n ts k.0 both_, value_full e d he x k.0 rest k.2 deep lo) refl

pub first_full : (e f : Parser ExprTree) (d : ℕ) → Full 1 9 d e → Full 0 1 d f → (x : First) (ts rest : List Token) → first x ts ≡ Some rest → first_nesting x ≤ d → Closed rest → first_at e f ts ≡ ok x rest
unfolding first_at
first_full e f d he hf (firsts.Declaration t n x) ts rest h deep end =
    let g = gone (ctype Real t ts) h in
    rw (declaration_seen t ts g.0 g.1) (first_declared_full e d he t n x ts rest h deep end.looser)
first_full e f d he hf (firsts.Simple x) ts rest h deep end = rw (no_declaration x ts rest h end, simple_full e f d he hf x ts rest h deep end) refl

-- two trees that are read from the same tokens are one
pub one_read : {A : Type 0} (p : Parser A) (x y : A) (ts rest : List Token) → p ts ≡ ok x rest → p ts ≡ ok y rest → x ≡ y
one_read p x y ts rest h k = (ok_pair x y rest rest (sym h ∙ k)).0

pub one_simple : (x y : Simple) (ts rest : List Token) → simple x ts ≡ Some rest → simple y ts ≡ Some rest → Closed rest → x ≡ y
one_simple x y ts rest h k end =
    one_read (simple_at (expr_at (simple_nesting x + simple_nesting y)) (postfix_at (simple_nesting x + simple_nesting y))) x y ts rest
    (simple_full _ _ (simple_nesting x + simple_nesting y) (expr_full _) (postfix_full _) x ts rest h (omega arith) end)
    (simple_full _ _ (simple_nesting x + simple_nesting y) (expr_full _) (postfix_full _) y ts rest k (omega arith) end)
