-- Assignments and calls that are typed become the same where C text sees the same.
use Rattle.std.proofs.Common.{◌≡◌, ℕ, Bool, true, false, if◌then◌else◌, Some, None, Result, Ok, Err, refl, subst}
use Rattle.vf_base.specs.declared.int_type.IntType.TheVariants as integers
use Rattle.vf_base.specs.declared.place.Place.{Place}
use Rattle.vf_base.specs.declared.refusal.Refusal.{Refusal}
use Rattle.vf_base.specs.declared.rule.Rule.TheVariants as rules
use Rattle.vf_declared.specs.declared.ctype.CType.{CType}
use Rattle.vf_declared.specs.declared.ctype.CType.TheVariants as types
use Rattle.vf_declared.specs.declared.scope.Scope.{Scope}
use Rattle.vf_syntax.specs.declared.operator.AssignmentOperator.{AssignmentOperator}
use Rattle.vf_syntax.specs.declared.operator.AssignmentOperator.TheVariants as assignments
use Rattle.vf_syntax.specs.declared.operator.BinaryOperator.{BinaryOperator}
use Rattle.vf_syntax.specs.declared.operator.StepOperator.{StepOperator}
use Rattle.vf_syntax.specs.declared.simple.Simple.{Simple}
use Rattle.vf_syntax.specs.declared.simple.Simple.TheVariants as simples
use Rattle.vf_syntax.specs.ExprTree.{ExprTree}
use Rattle.vf_typing.specs.declared.operand.Operand.{Operand}
use Rattle.vf_typing.specs.Operands.{operand, used}
use Rattle.vf_typing.specs.Refusals.{refused}
use Rattle.vf_typing.specs.Simple.{assigned as assigned_refused, assignment_refusal, changed_refusal, is_target, refusal_of, refused_simple, step_refusal, takes_target, target, target_if, value_refusal}
use Rattle.vf_typing.specs.Types.{result_type}
use Rattle.vf_typing.specs.Typed.{typed}
use Rattle.vf_steps.specs.declared.action.FieldNumber.{FieldNumber}
use Rattle.vf_steps.specs.Tree.{ValueTree}
use Rattle.vf_steps.specs.Tree as steps
use Rattle.vf_lower.specs.Lowering.{does}
use Rattle.vf_lower.specs.Settings.{Kind, kind, place_of}
use Rattle.vf_lower.specs.Conversions.{adapted}
use Rattle.vf_lower.specs.Operands.{Access, Left, Outcome, as_value, joined, left, left_passed, passed, value_into}
use Rattle.vf_lower.specs.Operands as outcomes
use Rattle.vf_lower.specs.Expressions.{value_as}
use Rattle.vf_lower.specs.Simple.{assigned, becomes, becomes_at, becomes_element, becomes_field, becomes_local, changed, changes, changes_at, changes_element, changes_field, changes_local, goes_into, one as one_at, operator_in, outcome_as, put, put_local, put_result, simple, step_operator, stepped, unused}
use Rattle.vf_erasure_laws.proofs.erased.Alike.{Alike, Is, alike_does, alike_on, alike_taken}
use Rattle.vf_erasure_laws.proofs.erased.Parts.{SameKind, Stands, adapted_alike, alike_if, alike_same, as_value_alike, into_alike, joined_alike, kinds, left_passed_alike, one, passed_alike, two, value_into_alike}
use Rattle.vf_erasure_laws.proofs.erased.Expressions.{Is_ok, of_assigned, of_used, outcome_alike}

-- what is left of an expression as a value that passes for one of a type
outcome_as_alike : (x : Stands) (t : CType) (e : ExprTree) → SameKind x e → (o : Outcome) → Alike Is (outcome_as (one x) t e o) (outcome_as (two x) t e o)
outcome_as_alike x t e s o = alike_on
    (subst (λ (k : Kind). Alike Is (as_value (one x) (kind (one x) e).ctype (place_of e) o) (as_value (two x) k.ctype (place_of e) o)) s (as_value_alike x (kind (one x) e).ctype (place_of e) o))
    (λ v. subst (λ (k : Kind). Alike Is (adapted x.statement t (kind (one x) e) v (place_of e)) (adapted x.statement t k v (place_of e))) s (adapted_alike x.statement t (kind (one x) e) v (place_of e)))

put_result_alike : (x : Stands) (k : ℕ) (t : CType) (e : ExprTree) → SameKind x e → (a : Access) → Alike Is (put_result (one x) k t e a) (put_result (two x) k t e a)
put_result_alike x k t e s a = subst (λ (d : Kind). Alike Is (put_result (one x) k t e a) (if goes_into t d.ctype then does x.statement (outcomes.into k a) else value_into (two x) k (outcome_as (two x) t e (outcomes.awaits a)))) s
    (alike_if (goes_into t (kind (one x) e).ctype) (into_alike x.statement k a) (value_into_alike x k (outcome_as_alike x t e s (outcomes.awaits a))))

put_alike : (x : Stands) (k : ℕ) (t : CType) (e : ExprTree) → SameKind x e → (o : Outcome) → Alike Is (put (one x) k t e o) (put (two x) k t e o)
put_alike x k t e s (outcomes.is v) = value_into_alike x k (outcome_as_alike x t e s (outcomes.is v))
put_alike x k t e s (outcomes.holds y) = value_into_alike x k (outcome_as_alike x t e s (outcomes.holds y))
put_alike x k t e s (outcomes.awaits a) = put_result_alike x k t e s a
put_alike x k t e s outcomes.nothing = value_into_alike x k (outcome_as_alike x t e s outcomes.nothing)

pub put_local_alike : (x : Stands) (k : ℕ) (t : CType) (e : ExprTree) (o : Operand) → typed x.scope e ≡ Ok o → Alike Is (put_local (one x) k t e) (put_local (two x) k t e)
put_local_alike x k t e o h = alike_on (outcome_alike x e o h) (put_alike x k t e (kinds x e o h))

pub value_as_alike : (x : Stands) (t : CType) (e : ExprTree) (o : Operand) → typed x.scope e ≡ Ok o → Alike Is (value_as (one x) t e) (value_as (two x) t e)
value_as_alike x t e o h = passed_alike x t e (kinds x e o h) (outcome_alike x e o h)

-- assignments
becomes_local_alike : (x : Stands) (t : CType) (v : ValueTree) (e : ExprTree) (o : Operand) → typed x.scope e ≡ Ok o → Alike Is (becomes_local (one x) t v e) (becomes_local (two x) t v e)
becomes_local_alike x t (steps.read k p) e o h = put_local_alike x k t e o h
becomes_local_alike x t (steps.number n) e o h = alike_same tt
becomes_local_alike x t (steps.truth b) e o h = alike_same tt
becomes_local_alike x t steps.null e o h = alike_same tt
becomes_local_alike x t (steps.function f) e o h = alike_same tt
becomes_local_alike x t (steps.negate i v p) e o h = alike_same tt
becomes_local_alike x t (steps.arithmetic u i v w p) e o h = alike_same tt
becomes_local_alike x t (steps.convert i j v p) e o h = alike_same tt

becomes_field_alike : (x : Stands) (t : CType) (v : ValueTree) (f : FieldNumber) (q : Place) (e : ExprTree) (o : Operand) → typed x.scope e ≡ Ok o → Alike Is (becomes_field (one x) t v f q e) (becomes_field (two x) t v f q e)
becomes_field_alike x t v f q e o h = alike_on (value_as_alike x t e o h) (λ w. alike_does x.statement (steps.store v f w q) (λ b h. refl))

becomes_element_alike : (x : Stands) (t : CType) (v i : ValueTree) (q : Place) (e : ExprTree) (o : Operand) → typed x.scope e ≡ Ok o → Alike Is (becomes_element (one x) t v i q e) (becomes_element (two x) t v i q e)
becomes_element_alike x t v i q e o h = alike_on (value_as_alike x t e o h) (λ w. alike_does x.statement (steps.store_at v i w q) (λ b h. refl))

becomes_at_alike : (x : Stands) (t : CType) (a : Access) (e : ExprTree) (o : Operand) → typed x.scope e ≡ Ok o → Alike Is (becomes_at (one x) t a e) (becomes_at (two x) t a e)
becomes_at_alike x t (outcomes.load v f q) e o h = becomes_field_alike x t v f q e o h
becomes_at_alike x t (outcomes.load_at v i q) e o h = becomes_element_alike x t v i q e o h
becomes_at_alike x t (outcomes.allocate n) e o h = alike_same tt
becomes_at_alike x t (outcomes.allocate_ints v q) e o h = alike_same tt
becomes_at_alike x t (outcomes.call f vs q) e o h = alike_same tt
becomes_at_alike x t (outcomes.call_pointer v u vs q) e o h = alike_same tt

becomes_alike : (x : Stands) (t : CType) (m : Outcome) (e : ExprTree) (o : Operand) → typed x.scope e ≡ Ok o → Alike Is (becomes (one x) t m e) (becomes (two x) t m e)
becomes_alike x t (outcomes.is v) e o h = becomes_local_alike x t v e o h
becomes_alike x t (outcomes.awaits a) e o h = becomes_at_alike x t a e o h
becomes_alike x t (outcomes.holds y) e o h = alike_same tt
becomes_alike x t outcomes.nothing e o h = alike_same tt

-- changes
changed_alike : (x : Stands) (t : CType) (p : Place) (v : ValueTree) (u : BinaryOperator) (q : Place) (e : ExprTree) (o : Operand) → typed x.scope e ≡ Ok o → Alike Is (changed (one x) t p v u q e) (changed (two x) t p v u q e)
changed_alike x t p v u q e o h = alike_on (joined_alike x p (left (outcomes.is v) t) q u e (kinds x e o h) (outcome_alike x e o h))
    (λ r. subst (λ (d : Kind). Alike Is (left_passed (one x) p t (left r (result_type u t (kind (one x) e).ctype))) (left_passed (two x) p t (left r (result_type u t d.ctype)))) (kinds x e o h) (left_passed_alike x p t (left r (result_type u t (kind (one x) e).ctype))))

changes_local_alike : (x : Stands) (t : CType) (p : Place) (v : ValueTree) (u : BinaryOperator) (q : Place) (e : ExprTree) (o : Operand) → typed x.scope e ≡ Ok o → Alike Is (changes_local (one x) t p v u q e) (changes_local (two x) t p v u q e)
changes_local_alike x t p (steps.read k r) u q e o h = value_into_alike x k (changed_alike x t p (steps.read k r) u q e o h)
changes_local_alike x t p (steps.number n) u q e o h = alike_same tt
changes_local_alike x t p (steps.truth b) u q e o h = alike_same tt
changes_local_alike x t p steps.null u q e o h = alike_same tt
changes_local_alike x t p (steps.function f) u q e o h = alike_same tt
changes_local_alike x t p (steps.negate i v r) u q e o h = alike_same tt
changes_local_alike x t p (steps.arithmetic a i v w r) u q e o h = alike_same tt
changes_local_alike x t p (steps.convert i j v r) u q e o h = alike_same tt

changes_field_alike : (x : Stands) (t : CType) (p : Place) (v : ValueTree) (f : FieldNumber) (a : Place) (u : BinaryOperator) (q : Place) (e : ExprTree) (o : Operand) → typed x.scope e ≡ Ok o → Alike Is (changes_field (one x) t p v f a u q e) (changes_field (two x) t p v f a u q e)
changes_field_alike x t p v f a u q e o h = alike_on (alike_taken t) (λ k. alike_on (alike_does x.statement (steps.load k v f a) (λ b h. refl)) (λ z. alike_on (changed_alike x t p (steps.read k p) u q e o h) (λ w. alike_does x.statement (steps.store v f w a) (λ b h. refl))))

changes_element_alike : (x : Stands) (t : CType) (p : Place) (v i : ValueTree) (a : Place) (u : BinaryOperator) (q : Place) (e : ExprTree) (o : Operand) → typed x.scope e ≡ Ok o → Alike Is (changes_element (one x) t p v i a u q e) (changes_element (two x) t p v i a u q e)
changes_element_alike x t p v i a u q e o h = alike_on (alike_taken t) (λ k. alike_on (alike_does x.statement (steps.load_at k v i a) (λ b h. refl)) (λ z. alike_on (changed_alike x t p (steps.read k p) u q e o h) (λ w. alike_does x.statement (steps.store_at v i w a) (λ b h. refl))))

changes_at_alike : (x : Stands) (t : CType) (p : Place) (a : Access) (u : BinaryOperator) (q : Place) (e : ExprTree) (o : Operand) → typed x.scope e ≡ Ok o → Alike Is (changes_at (one x) t p a u q e) (changes_at (two x) t p a u q e)
changes_at_alike x t p (outcomes.load v f a) u q e o h = changes_field_alike x t p v f a u q e o h
changes_at_alike x t p (outcomes.load_at v i a) u q e o h = changes_element_alike x t p v i a u q e o h
changes_at_alike x t p (outcomes.allocate n) u q e o h = alike_same tt
changes_at_alike x t p (outcomes.allocate_ints v a) u q e o h = alike_same tt
changes_at_alike x t p (outcomes.call f vs a) u q e o h = alike_same tt
changes_at_alike x t p (outcomes.call_pointer v s vs a) u q e o h = alike_same tt

changes_alike : (x : Stands) (t : CType) (p : Place) (m : Outcome) (u : BinaryOperator) (q : Place) (e : ExprTree) (o : Operand) → typed x.scope e ≡ Ok o → Alike Is (changes (one x) t p m u q e) (changes (two x) t p m u q e)
changes_alike x t p (outcomes.is v) u q e o h = changes_local_alike x t p v u q e o h
changes_alike x t p (outcomes.awaits a) u q e o h = changes_at_alike x t p a u q e o h
changes_alike x t p (outcomes.holds y) u q e o h = alike_same tt
changes_alike x t p outcomes.nothing u q e o h = alike_same tt

assigned_alike : (x : Stands) (l : ExprTree) (a : AssignmentOperator) (q : Place) (e : ExprTree) (o : Operand) → SameKind x l → typed x.scope e ≡ Ok o → (m : Outcome) → Alike Is (assigned (one x) l a q e m) (assigned (two x) l a q e m)
assigned_alike x l assignments.Becomes q e o s h m = subst (λ (d : Kind). Alike Is (becomes (one x) (kind (one x) l).ctype m e) (becomes (two x) d.ctype m e)) s (becomes_alike x (kind (one x) l).ctype m e o h)
assigned_alike x l assignments.PlusBecomes q e o s h m = subst (λ (d : Kind). Alike Is (changes (one x) (kind (one x) l).ctype (place_of l) m (operator_in assignments.PlusBecomes) q e) (changes (two x) d.ctype (place_of l) m (operator_in assignments.PlusBecomes) q e)) s (changes_alike x (kind (one x) l).ctype (place_of l) m (operator_in assignments.PlusBecomes) q e o h)
assigned_alike x l assignments.MinusBecomes q e o s h m = subst (λ (d : Kind). Alike Is (changes (one x) (kind (one x) l).ctype (place_of l) m (operator_in assignments.MinusBecomes) q e) (changes (two x) d.ctype (place_of l) m (operator_in assignments.MinusBecomes) q e)) s (changes_alike x (kind (one x) l).ctype (place_of l) m (operator_in assignments.MinusBecomes) q e o h)
assigned_alike x l assignments.TimesBecomes q e o s h m = subst (λ (d : Kind). Alike Is (changes (one x) (kind (one x) l).ctype (place_of l) m (operator_in assignments.TimesBecomes) q e) (changes (two x) d.ctype (place_of l) m (operator_in assignments.TimesBecomes) q e)) s (changes_alike x (kind (one x) l).ctype (place_of l) m (operator_in assignments.TimesBecomes) q e o h)
assigned_alike x l assignments.DivideBecomes q e o s h m = subst (λ (d : Kind). Alike Is (changes (one x) (kind (one x) l).ctype (place_of l) m (operator_in assignments.DivideBecomes) q e) (changes (two x) d.ctype (place_of l) m (operator_in assignments.DivideBecomes) q e)) s (changes_alike x (kind (one x) l).ctype (place_of l) m (operator_in assignments.DivideBecomes) q e o h)
assigned_alike x l assignments.RemainderBecomes q e o s h m = subst (λ (d : Kind). Alike Is (changes (one x) (kind (one x) l).ctype (place_of l) m (operator_in assignments.RemainderBecomes) q e) (changes (two x) d.ctype (place_of l) m (operator_in assignments.RemainderBecomes) q e)) s (changes_alike x (kind (one x) l).ctype (place_of l) m (operator_in assignments.RemainderBecomes) q e o h)

stepped_alike : (x : Stands) (l : ExprTree) (a : StepOperator) (q : Place) (o : Operand) → typed x.scope l ≡ Ok o → Alike Is (stepped (one x) l a q) (stepped (two x) l a q)
stepped_alike x l a q o h = alike_on (outcome_alike x l o h)
    (λ m. subst (λ (d : Kind). Alike Is (changes (one x) (kind (one x) l).ctype (place_of l) m (step_operator a) q (one_at (place_of l))) (changes (two x) d.ctype (place_of l) m (step_operator a) q (one_at (place_of l)))) (kinds x l o h)
    (changes_alike x (kind (one x) l).ctype (place_of l) m (step_operator a) q (one_at (place_of l)) (operand (place_of l) (types.Integer integers.Int) false) refl))

unused_alike : (x : Stands) (t : CType) (m : Outcome) → Alike Is (unused (one x) t m) (unused (two x) t m)
unused_alike x t (outcomes.is v) = alike_same tt
unused_alike x t (outcomes.holds y) = alike_same tt
unused_alike x t (outcomes.awaits a) = alike_on (alike_taken t) (λ k. into_alike x.statement k a)
unused_alike x t outcomes.nothing = alike_same tt

-- what has no refusal has a type
of_target_if : {o : Operand} (b : Bool) (r : Result Operand Refusal) → target_if b r ≡ Ok o → Is_ok r
of_target_if b (Ok a) h = (a, refl)
of_target_if b (Err x) h = absurd cc

of_target : (s : Scope) (l : ExprTree) (o : Operand) → target s l ≡ Ok o → Is_ok (typed s l)
of_target s l o h = let k = of_target_if (is_target s l) (used (typed s l)) h in of_used (typed s l) k.1

of_value : (a : AssignmentOperator) (t : CType) (r : Result Operand Refusal) → value_refusal a t r ≡ None → Is_ok r
of_value a t (Ok o) h = (o, refl)
of_value a t (Err x) h = absurd cc

of_changed : (a : AssignmentOperator) (l : Operand) (r : Result Operand Refusal) → changed_refusal a l r ≡ None → Is_ok r
of_changed a l r h = by_test (takes_target a l.ctype) h
  where
    by_test : (b : Bool) → (if b then value_refusal a l.ctype r else Some (refused rules.Typing l.place)) ≡ None → Is_ok {A = Operand} r
    by_test true h = of_value a l.ctype r h
    by_test false h = absurd cc

of_assignment : (s : Scope) (a : AssignmentOperator) (l : Operand) (r : Result Operand Refusal) → assignment_refusal s a l r ≡ None → Is_ok r
of_assignment s assignments.Becomes l r h = of_assigned s l.ctype r h
of_assignment s assignments.PlusBecomes l r h = of_changed assignments.PlusBecomes l r h
of_assignment s assignments.MinusBecomes l r h = of_changed assignments.MinusBecomes l r h
of_assignment s assignments.TimesBecomes l r h = of_changed assignments.TimesBecomes l r h
of_assignment s assignments.DivideBecomes l r h = of_changed assignments.DivideBecomes l r h
of_assignment s assignments.RemainderBecomes l r h = of_changed assignments.RemainderBecomes l r h

record BothOk (a b : Result Operand Refusal) : Type 0 where
  first : Is_ok a
  second : Is_ok b

of_both : (s : Scope) (a : AssignmentOperator) (l r : Result Operand Refusal) → assigned_refused s a l r ≡ None → BothOk l r
of_both s a (Ok l) r h = record { first = (l, refl); second = of_assignment s a l r h }
of_both s a (Err x) r h = absurd cc

of_step : (a : StepOperator) (r : Result Operand Refusal) → step_refusal a r ≡ None → Is_ok r
of_step a (Ok o) h = (o, refl)
of_step a (Err x) h = absurd cc

pub of_refusal : (r : Result Operand Refusal) → refusal_of r ≡ None → Is_ok r
of_refusal (Ok o) h = (o, refl)
of_refusal (Err x) h = absurd cc

-- an assignment or a call
pub simple_alike : (x : Stands) (s : Simple) → refused_simple x.scope s ≡ None → Alike Is (simple (one x) s) (simple (two x) s)
simple_alike x (simples.Assignment l a q e) h =
    let k = of_both x.scope a (target x.scope l) (typed x.scope e) h in
    let t = of_target x.scope l k.first.0 k.first.1 in
    alike_on (outcome_alike x l t.0 t.1) (assigned_alike x l a q e k.second.0 (kinds x l t.0 t.1) k.second.1)
simple_alike x (simples.StepAfter l a q) h =
    let k = of_step a (target x.scope l) h in
    let t = of_target x.scope l k.0 k.1 in
    stepped_alike x l a q t.0 t.1
simple_alike x (simples.StepBefore q a l) h =
    let k = of_step a (target x.scope l) h in
    let t = of_target x.scope l k.0 k.1 in
    stepped_alike x l a q t.0 t.1
simple_alike x (simples.Call e) h =
    let k = of_refusal (typed x.scope e) h in
    alike_on (outcome_alike x e k.0 k.1) (λ m. subst (λ (d : Kind). Alike Is (unused (one x) (kind (one x) e).ctype m) (unused (two x) d.ctype m)) (kinds x e k.0 k.1) (unused_alike x (kind (one x) e).ctype m))
