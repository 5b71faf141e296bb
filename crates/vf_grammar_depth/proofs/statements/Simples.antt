-- Assignments, calls and declarations that may nest deeper are read past each token that was too deep.
use Rattle.std.proofs.Common.{ℕ, Option, Some, None}
use Rattle.vf_lexer.specs.declared.punctuator.Punctuator.TheVariants as punctuators
use Rattle.vf_syntax.specs.declared.side.Side.TheVariants.{Real}
use Rattle.vf_syntax.specs.declared.operator.AssignmentOperator.{AssignmentOperator}
use Rattle.vf_syntax.specs.declared.operator.StepOperator.{StepOperator}
use Rattle.vf_syntax.specs.declared.simple.Simple.TheVariants as simples
use Rattle.vf_syntax.specs.declared.simple.First.TheVariants as firsts
use Rattle.vf_syntax.specs.ExprTree.{ExprTree}
use Rattle.vf_syntax.specs.Walks.{is_mark}
use Rattle.vf_syntax.specs.Written.{assignment_mark, step_mark}
use Rattle.vf_syntax.specs.Statements.{is_call, is_left_side}
use Rattle.vf_cursor.specs.Parsing.{Parser}
use Rattle.vf_cursor.specs.Types.{next_assignment, next_step}
use Rattle.vf_parse_simple.specs.Simples.{sees_declaration, declared_at, value_at, optional_value_at, assigned_at, step_after_at, step_before_at, called_at, stepped_by, behind_by, behind_at, simple_by, simple_at, first_declaration_at, first_at}
use Rattle.vf_grammar_depth.proofs.expressions.Deeper.{Deeper, then_deep, done_deep, fail_deep, mark_deep, name_deep, found_deep, choice_deep, head_deep, fixed_deep}
use Rattle.vf_grammar_depth.proofs.expressions.Types.{ctype_deep}

pub declared_deep : {j : ℕ} → Deeper j declared_at declared_at
unfolding declared_at
declared_deep = then_deep (ctype_deep Real) (λ t. then_deep (name_deep Real) (λ n. done_deep (t, n)))

pub value_deep : {j : ℕ} {e g : Parser ExprTree} → Deeper j e g → Deeper j (value_at e) (value_at g)
unfolding value_at
value_deep he = then_deep (mark_deep Real punctuators.Becomes) (λ m. he)

pub optional_value_deep : {j : ℕ} {e g : Parser ExprTree} → Deeper j e g → Deeper j (optional_value_at e) (optional_value_at g)
unfolding optional_value_at
optional_value_deep he = head_deep (is_mark Real punctuators.Becomes) (then_deep (value_deep he) (λ x. done_deep (Some x))) (done_deep None)

assigned_deep : {j : ℕ} {e g : Parser ExprTree} → Deeper j e g → (a : ExprTree) (o : AssignmentOperator) → Deeper j (assigned_at e a o) (assigned_at g a o)
unfolding assigned_at
assigned_deep he a o = fixed_deep (is_left_side a) (then_deep (mark_deep Real (assignment_mark o)) (λ m. then_deep he (λ x. done_deep (simples.Assignment a o m x)))) fail_deep

step_after_deep : {j : ℕ} (a : ExprTree) (o : StepOperator) → Deeper j (step_after_at a o) (step_after_at a o)
unfolding step_after_at
step_after_deep a o = fixed_deep (is_left_side a) (then_deep (mark_deep Real (step_mark o)) (λ m. done_deep (simples.StepAfter a o m))) fail_deep

step_before_deep : {j : ℕ} {f h : Parser ExprTree} → Deeper j f h → (o : StepOperator) → Deeper j (step_before_at f o) (step_before_at h o)
unfolding step_before_at
step_before_deep hf o = then_deep (mark_deep Real (step_mark o)) (λ m. then_deep hf (λ a. fixed_deep (is_left_side a) (done_deep (simples.StepBefore m o a)) fail_deep))

called_deep : {j : ℕ} (a : ExprTree) → Deeper j (called_at a) (called_at a)
unfolding called_at
called_deep a = fixed_deep (is_call a) (done_deep (simples.Call a)) fail_deep

stepped_deep : {j : ℕ} (a : ExprTree) (o : Option StepOperator) → Deeper j (stepped_by a o) (stepped_by a o)
stepped_deep a None = called_deep a
stepped_deep a (Some o) = step_after_deep a o

behind_by_deep : {j : ℕ} {e g : Parser ExprTree} → Deeper j e g → (a : ExprTree) (o : Option AssignmentOperator) → Deeper j (behind_by e a o) (behind_by g a o)
behind_by_deep he a None = found_deep next_step (stepped_by a) (stepped_by a) (λ o. stepped_deep a o)
behind_by_deep he a (Some o) = assigned_deep he a o

pub behind_deep : {j : ℕ} {e g : Parser ExprTree} → Deeper j e g → (a : ExprTree) → Deeper j (behind_at e a) (behind_at g a)
unfolding behind_at
behind_deep {e = e} {g = g} he a = found_deep next_assignment (behind_by e a) (behind_by g a) (λ o. behind_by_deep he a o)

simple_by_deep : {j : ℕ} {e g f h : Parser ExprTree} → Deeper j e g → Deeper j f h → (o : Option StepOperator) → Deeper j (simple_by e f o) (simple_by g h o)
simple_by_deep he hf None = then_deep hf (λ a. behind_deep he a)
simple_by_deep he hf (Some o) = step_before_deep hf o

pub simple_deep : {j : ℕ} {e g f h : Parser ExprTree} → Deeper j e g → Deeper j f h → Deeper j (simple_at e f) (simple_at g h)
unfolding simple_at
simple_deep {e = e} {g = g} {f = f} {h = h} he hf = found_deep next_step (simple_by e f) (simple_by g h) (λ o. simple_by_deep he hf o)

pub first_declaration_deep : {j : ℕ} {e g : Parser ExprTree} → Deeper j e g → Deeper j (first_declaration_at e) (first_declaration_at g)
unfolding first_declaration_at
first_declaration_deep he = then_deep declared_deep (λ d. then_deep (value_deep he) (λ x. done_deep (firsts.Declaration d.0 d.1 x)))

pub first_deep : {j : ℕ} {e g f h : Parser ExprTree} → Deeper j e g → Deeper j f h → Deeper j (first_at e f) (first_at g h)
unfolding first_at
first_deep he hf = choice_deep sees_declaration (first_declaration_deep he) (then_deep (simple_deep he hf) (λ x. done_deep (firsts.Simple x)))
