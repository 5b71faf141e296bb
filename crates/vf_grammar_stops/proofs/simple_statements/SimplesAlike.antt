-- Assignments, calls and declarations stop alike on tokens that are alike.
use Rattle.std.proofs.Common.{◌≡◌, ℕ, suc, ◌+◌, ◌≤◌, ◌++◌, Bool, true, false, ◌||◌, List, [], ◌∷◌, length, Option, Some, None, refl, sym, subst, ap, ◌∙◌, length-append, arith}
use Rattle.std.specs.Prelude.{if◌then◌else◌}
use Rattle.vf_lexer.specs.declared.punctuator.Punctuator.TheVariants as punctuators
use Rattle.vf_lexer.specs.declared.token.Token.{Token}
use Rattle.vf_syntax.specs.declared.side.Side.TheVariants.{Real}
use Rattle.vf_syntax.specs.declared.operator.AssignmentOperator.{AssignmentOperator}
use Rattle.vf_syntax.specs.declared.operator.StepOperator.{StepOperator}
use Rattle.vf_syntax.specs.declared.simple.Simple.TheVariants as simples
use Rattle.vf_syntax.specs.declared.simple.First.TheVariants as firsts
use Rattle.vf_syntax.specs.ExprTree.{ExprTree}
use Rattle.vf_syntax.specs.ExprTree as tree
use Rattle.vf_syntax.specs.Walks.{head_has, is_mark, is_name}
use Rattle.vf_syntax.specs.Written.{assignment_mark, step_mark}
use Rattle.vf_syntax.specs.Statements.{is_call, is_left_side}
use Rattle.vf_cursor.specs.Parsing.{Parser, ok, ◌>>=◌, name_at}
use Rattle.vf_cursor.specs.Types.{is_type_word, next_assignment, next_step, ctype_at}
use Rattle.vf_parse_expression.specs.Operands.{after, posted}
use Rattle.vf_parse_expression.specs.Parsers.{expr_at, factor_at, parts_at, post_at}
use Rattle.vf_parse_expression.proofs.Sound.{expr_sound}
use Rattle.vf_parse_simple.specs.Simples.{sees_declaration, declared_at, value_at, optional_value_at, assigned_at, step_after_at, step_before_at, called_at, stepped_by, behind_by, behind_at, simple_by, simple_at, first_declaration_at, first_at}
use Rattle.vf_grammar_stops.specs.types.Stops.{first}
use Rattle.vf_grammar_stops.proofs.types.Local.{LikeAt, Does, then_like, done_like, fail_like, mark_like, name_like, choice_like, first_front, first_has}
use Rattle.vf_grammar_stops.proofs.types.TypesAlike.{ctype_like}
use Rattle.vf_grammar_stops.proofs.expressions.Heads.{found_like, fixed_like, assignment_hangs, step_hangs}
use Rattle.vf_grammar_stops.proofs.expressions.Beyond.{Beyond, bounded, further, beyond_bind, seen_like}
use Rattle.vf_grammar_stops.proofs.expressions.PrimaryAlike.{parts_like}
use Rattle.vf_grammar_stops.proofs.expressions.Casts.{name_seen, front_1, and_same}
use Rattle.vf_grammar_stops.proofs.expressions.Reached.{form_name, type_of_form}
use Rattle.vf_grammar_stops.proofs.expressions.ExprAlike.{named_post, expr_like}

pub declared_like : {b : Bool} → Does b declared_at declared_at
unfolding declared_at
declared_like = then_like (ctype_like Real) (λ t. then_like (name_like Real) (λ n. done_like (t, n)))

pub value_like : {b : Bool} {e g : Parser ExprTree} → Does b e g → Does b (value_at e) (value_at g)
unfolding value_at
value_like he = then_like (mark_like Real punctuators.Becomes) (λ m. he)

pub optional_value_like : {b : Bool} {e g : Parser ExprTree} → Does b e g → Does b (optional_value_at e) (optional_value_at g)
unfolding optional_value_at
optional_value_like he = choice_like (is_mark Real punctuators.Becomes) (then_like (value_like he) (λ x. done_like (Some x))) (done_like None)

assigned_like : {b : Bool} {e g : Parser ExprTree} → Does b e g → (a : ExprTree) (o : AssignmentOperator) → Does b (assigned_at e a o) (assigned_at g a o)
unfolding assigned_at
assigned_like he a o = fixed_like (is_left_side a) (then_like (mark_like Real (assignment_mark o)) (λ m. then_like he (λ x. done_like (simples.Assignment a o m x)))) fail_like

step_after_like : {b : Bool} (a : ExprTree) (o : StepOperator) → Does b (step_after_at a o) (step_after_at a o)
unfolding step_after_at
step_after_like a o = fixed_like (is_left_side a) (then_like (mark_like Real (step_mark o)) (λ m. done_like (simples.StepAfter a o m))) fail_like

step_before_like : {b : Bool} {f h : Parser ExprTree} → Does b f h → (o : StepOperator) → Does b (step_before_at f o) (step_before_at h o)
unfolding step_before_at
step_before_like hf o = then_like (mark_like Real (step_mark o)) (λ m. then_like hf (λ a. fixed_like (is_left_side a) (done_like (simples.StepBefore m o a)) fail_like))

called_like : {b : Bool} (a : ExprTree) → Does b (called_at a) (called_at a)
unfolding called_at
called_like a = fixed_like (is_call a) (done_like (simples.Call a)) fail_like

stepped_like : {b : Bool} (a : ExprTree) (o : Option StepOperator) → Does b (stepped_by a o) (stepped_by a o)
stepped_like a None = called_like a
stepped_like a (Some o) = step_after_like a o

behind_by_like : {b : Bool} {e g : Parser ExprTree} → Does b e g → (a : ExprTree) (o : Option AssignmentOperator) → Does b (behind_by e a o) (behind_by g a o)
behind_by_like he a None = found_like next_step step_hangs (stepped_by a) (stepped_by a) (λ o. stepped_like a o)
behind_by_like he a (Some o) = assigned_like he a o

behind_like : {b : Bool} {e g : Parser ExprTree} → Does b e g → (a : ExprTree) → Does b (behind_at e a) (behind_at g a)
unfolding behind_at
behind_like {e = e} {g = g} he a = found_like next_assignment assignment_hangs (behind_by e a) (behind_by g a) (λ o. behind_by_like he a o)

simple_by_like : {b : Bool} {e g f h : Parser ExprTree} → Does b e g → Does b f h → (o : Option StepOperator) → Does b (simple_by e f o) (simple_by g h o)
simple_by_like he hf None = then_like hf (λ a. behind_like he a)
simple_by_like he hf (Some o) = step_before_like hf o

pub simple_like : {b : Bool} {e g f h : Parser ExprTree} → Does b e g → Does b f h → Does b (simple_at e f) (simple_at g h)
unfolding simple_at
simple_like {e = e} {g = g} {f = f} {h = h} he hf = found_like next_step step_hangs (simple_by e f) (simple_by g h) (λ o. simple_by_like he hf o)

pub first_declaration_like : {b : Bool} {e g : Parser ExprTree} → Does b e g → Does b (first_declaration_at e) (first_declaration_at g)
unfolding first_declaration_at
first_declaration_like he = then_like declared_like (λ d. then_like (value_like he) (λ x. done_like (firsts.Declaration d.0 d.1 x)))

-- a look for a declaration goes past one token only where that is a name
declaration_same : (used rest us : List Token) → (head_has (is_name Real) (used ++ rest) ≡ true → 1 ≤ length used) → first us ≡ first rest → sees_declaration (used ++ us) ≡ sees_declaration (used ++ rest)
unfolding sees_declaration
declaration_same used rest us e h =
    let front = first_front used us rest h in
    let word = first_has (is_type_word Real) (used ++ us) (used ++ rest) front in
    let name = and_same _ _ _ _ (first_has (is_name Real) (used ++ us) (used ++ rest) front) (λ n. first_has (is_mark Real punctuators.Star) (after (used ++ us)) (after (used ++ rest)) (front_1 used us rest h (e n))) in
    λ i. word i || name i

pub declaration_told : (ts used rest us : List Token) → ts ≡ used ++ rest → (head_has (is_name Real) ts ≡ true → length rest + 1 ≤ length ts) → first us ≡ first rest → sees_declaration (used ++ us) ≡ sees_declaration ts
declaration_told ts used rest us e n h =
    let size = length-append used rest in
    let enough = subst (λ vs. head_has (is_name Real) vs ≡ true → length rest + 1 ≤ length vs) e n in
    declaration_same used rest us (λ named. omega (arith, enough named, size)) h ∙ ap sees_declaration (sym e)

-- from a name on, a type gets past it
pub type_name : (ts : List Token) → head_has (is_name Real) ts ≡ true → Beyond 1 (ctype_at Real ts) (length ts)
type_name [] h = absurd cc
type_name (t ∷ ts) h = type_of_form 1 t ts (form_name t ts h)

pub declared_name : (ts : List Token) → head_has (is_name Real) ts ≡ true → Beyond 1 (declared_at ts) (length ts)
unfolding declared_at
declared_name ts h =
    beyond_bind 1 (length ts) (ctype_at Real ts) (λ t us. name_at Real us >>= λ n. ok (t, n.0) n.1) (type_name ts h) (λ t. bounded (then_like (name_like Real) (λ n. done_like (t, n))))

first_declaration_name : {e g : Parser ExprTree} → Does false e g → (ts : List Token) → head_has (is_name Real) ts ≡ true → Beyond 1 (first_declaration_at e ts) (length ts)
unfolding first_declaration_at
first_declaration_name {e = e} he ts h =
    beyond_bind 1 (length ts) (declared_at ts) (λ d us. value_at e us >>= λ x. ok (firsts.Declaration d.0 d.1 x.0) x.1) (declared_name ts h)
    (λ d. bounded (then_like (value_like he) (λ x. done_like (firsts.Declaration d.0 d.1 x))))

-- from a name on, a parser gets past it
abbrev pub Named : {A : Type 0} → Parser A → Type 0
Named f = (ts : List Token) → head_has (is_name Real) ts ≡ true → Beyond 1 (f ts) (length ts)

pub post_named : (d : ℕ) → Named (post_at (expr_at d) (factor_at d))
post_named d [] h = absurd cc
post_named d (t ∷ ts) h =
    rw (named_post (expr_at d) (factor_at d) t ts h)
    (beyond_bind 1 (suc (length ts)) (parts_at (expr_at d) ts) (λ xs. ok (posted t.place (tree.name_ t.place t.text) xs))
    (further 0 1 (length ts) (suc (length ts)) (parts_at (expr_at d) ts) (omega arith) ((bounded (parts_like d (expr_like d d (omega arith)) (expr_sound d))).bound ts))
    (λ xs. bounded (done_like (posted t.place (tree.name_ t.place t.text) xs))))

-- no `++` and no `--` is a name
unstepped : (t : Token) (ts : List Token) → is_name Real t ≡ true → next_step (t ∷ ts) ≡ None
unfolding next_step
unstepped t ts h = rw ((name_seen t ts h).next_is) refl

pub simple_name : {e g : Parser ExprTree} (f : Parser ExprTree) → Does false e g → Named f → (ts : List Token) → head_has (is_name Real) ts ≡ true → Beyond 1 (simple_at e f ts) (length ts)
unfolding simple_at
simple_name f he hf [] h = absurd cc
simple_name {e = e} f he hf (t ∷ ts) h =
    rw (unstepped t ts h) (beyond_bind 1 (suc (length ts)) (f (t ∷ ts)) (behind_at e) (hf (t ∷ ts) h) (λ a. bounded (behind_like he a)))

first_simple_name : {e g : Parser ExprTree} (f : Parser ExprTree) → Does false e g → Named f → (ts : List Token) → head_has (is_name Real) ts ≡ true → Beyond 1 (simple_at e f ts >>= λ x. ok (firsts.Simple x.0) x.1) (length ts)
first_simple_name {e = e} f he hf ts h = beyond_bind 1 (length ts) (simple_at e f ts) (λ x. ok (firsts.Simple x)) (simple_name f he hf ts h) (λ x. bounded (done_like (firsts.Simple x)))

by_look : {e g f h : Parser ExprTree} → Does false e g → Does false f h → Named f → (ts : List Token) (w : Bool) → sees_declaration ts ≡ w
    → LikeAt false (first_at g h) ts (if w then first_declaration_at e ts else (simple_at e f ts >>= λ x. ok (firsts.Simple x.0) x.1))
unfolding first_at
by_look {e = e} {g = g} {f = f} {h = h} he hf named ts true seen =
    seen_like (first_declaration_at g) (first_at g h) ts (first_declaration_at e ts)
    (λ used rest us parts far same. rw (declaration_told ts used rest us parts (λ n. far 1 (length ts) (first_declaration_name he ts n)) same ∙ seen) refl) ((first_declaration_like he).run ts)
by_look {e = e} {g = g} {f = f} {h = h} he hf named ts false seen =
    let same_read : Does false (λ us. simple_at e f us >>= λ x. ok (firsts.Simple x.0) x.1) (λ us. simple_at g h us >>= λ x. ok (firsts.Simple x.0) x.1) = then_like (simple_like he hf) (λ x. done_like (firsts.Simple x)) in
    seen_like (λ us. simple_at g h us >>= λ x. ok (firsts.Simple x.0) x.1) (first_at g h) ts (simple_at e f ts >>= λ x. ok (firsts.Simple x.0) x.1)
    (λ used rest us parts far same. rw (declaration_told ts used rest us parts (λ n. far 1 (length ts) (first_simple_name f he named ts n)) same ∙ seen) refl) (same_read.run ts)

pub first_like : {e g f h : Parser ExprTree} → Does false e g → Does false f h → Named f → Does false (first_at e f) (first_at g h)
unfolding first_at
first_like he hf named = record { run = λ ts. by_look he hf named ts (sees_declaration ts) refl }
