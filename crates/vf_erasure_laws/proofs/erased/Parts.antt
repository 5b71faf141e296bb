-- Expressions become the same where C text sees the same.
use Rattle.std.proofs.Common.{◌≡◌, ℕ, Bool, true, false, if◌then◌else◌, List, [], ◌∷◌, length, Option, Some, None, Result, Ok, Err, refl, sym, ap, subst, ◌∙◌, arith}
use Rattle.std.specs.Str.{bytes_eq}
use Rattle.vf_base.specs.declared.int_type.IntType.{IntType}
use Rattle.vf_base.specs.declared.int_type.IntType.TheVariants as integers
use Rattle.vf_base.specs.declared.place.Place.{Place}
use Rattle.vf_base.specs.declared.refusal.Refusal.{Refusal}
use Rattle.vf_declared.specs.declared.ctype.CType.{CType}
use Rattle.vf_declared.specs.declared.ctype.CType.TheVariants as types
use Rattle.vf_declared.specs.declared.declaration.Meaning.{Meaning}
use Rattle.vf_declared.specs.declared.declaration.Meaning.TheVariants as meanings
use Rattle.vf_declared.specs.declared.declaration.Signature.{Signature}
use Rattle.vf_ctypes.specs.Types.{promoted}
use Rattle.vf_declared.specs.declared.locals.Local.{Local}
use Rattle.vf_declared.specs.declared.locals.Local.TheVariants as locals
use Rattle.vf_declared.specs.declared.locals.Locals.{Locals}
use Rattle.vf_declared.specs.declared.scope.Scope.{Scope}
use Rattle.vf_declared.specs.Changes.{IsAligned}
use Rattle.vf_declared.specs.Scopes.{at_name, declaration_of, local_of}
use Rattle.vf_syntax.specs.declared.operator.BinaryOperator.{BinaryOperator}
use Rattle.vf_syntax.specs.declared.operator.BinaryOperator.TheVariants as operators
use Rattle.vf_syntax.specs.declared.operator.UnaryOperator.{UnaryOperator}
use Rattle.vf_syntax.specs.declared.operator.UnaryOperator.TheVariants as unaries
use Rattle.vf_syntax.specs.declared.written.Name.{Name}
use Rattle.vf_syntax.specs.ExprTree.{ExprTree, ExprTrees, no_expr, more_expr, LinkTree, LinkTrees, no_link, more_link, PostfixTree, PostfixTrees, no_postfix, more_postfix}
use Rattle.vf_syntax.specs.ExprTree as tree
use Rattle.vf_typing.specs.declared.operand.Operand.{Operand}
use Rattle.vf_typing.specs.Names.{declared_type, local_type, name_type}
use Rattle.vf_typing.specs.Parts.{called}
use Rattle.vf_typing.specs.Typed.{named as name_typed, typed}
use Rattle.vf_typing.specs.Types.{is_int_pointer, is_void, result_type}
use Rattle.vf_steps.specs.Tree.{ActionTree, NodeTree, ValueTree}
use Rattle.vf_steps.specs.Tree as steps
use Rattle.vf_lower.specs.Lowering.{Lowering, gives, ◌⨾◌, does}
use Rattle.vf_lower.specs.Settings.{Kind, Setting, declared_value, integer_in, kind, kind_in, local_number, named, named_value, place_of, structure_in, tag_number, or_nought}
use Rattle.vf_lower.specs.Branches.{Test, test}
use Rattle.vf_lower.specs.Conversions.{adapted, as_truth, converted, is_bool, to_integer}
use Rattle.vf_lower.specs.Operands.{Access, Left, Outcome, arithmetic, as_test, as_value, both, choice, compared, compared_type, into, joined, left, left_passed, left_value, one_of, passed, pointer_sum, sum, tested, truth_into, truth_of, value_into, valued}
use Rattle.vf_lower.specs.Operands as outcomes
use Rattle.vf_lower.specs.Expressions.{call_of, called_with, free_step, freed, negative, or_void, part_type, prefixed, result_of, void_call}
use Rattle.vf_functions.specs.Erased.{kept_action}
use Rattle.vf_erasure_laws.proofs.seen.Leading.{Finds, expr_leads, led}
use Rattle.vf_erasure_laws.proofs.seen.Lookups.{at_standing, standing}
use Rattle.vf_erasure_laws.proofs.seen.Same.{Names, called_same, field_same, tag_same, with_names}
use Rattle.vf_erasure_laws.proofs.erased.Alike.{Alike, Is, alike_does, alike_either, alike_gives, alike_on, alike_selected, alike_taken}

-- two places where a text stands among the same locals, of which both see the C names that a scope has
pub record Stands : Type 0 where
  pub scope : Scope
  pub first : Names
  pub second : Names
  pub finds : Finds scope first
  pub found : Finds scope second
  pub locals : first.locals ≡ second.locals
  pub aligned : IsAligned first.locals
  pub numbers : List ℕ
  pub beside : length first.locals.names ≡ length numbers
  pub statement : Place

abbrev pub one : Stands → Setting
one x = record { scope = with_names x.scope x.first; numbers = x.numbers; statement = x.statement }

abbrev pub two : Stands → Setting
two x = record { scope = with_names x.scope x.second; numbers = x.numbers; statement = x.statement }

-- both ways of a test
pub alike_if : {A B : Type 0} {R : A → B → Type 0} {m n : Lowering A} {k l : Lowering B} (b : Bool) → Alike R m k → Alike R n l → Alike R (if b then m else n) (if b then k else l)
alike_if true h k = h
alike_if false h k = k

pub alike_same : {A : Type 0} (a : A) → Alike Is (gives a) (gives a)
alike_same a = alike_gives a a refl

-- what is kept
into_kept : (k : ℕ) (a : Access) → (before behind : List NodeTree) → kept_action before (into k a) behind ≡ Some (into k a)
into_kept k (outcomes.load v f p) b h = refl
into_kept k (outcomes.load_at v i p) b h = refl
into_kept k (outcomes.allocate n) b h = refl
into_kept k (outcomes.allocate_ints v p) b h = refl
into_kept k (outcomes.call f vs p) b h = refl
into_kept k (outcomes.call_pointer v t vs p) b h = refl

pub into_alike : (p : Place) (k : ℕ) (a : Access) → Alike Is (does p (into k a)) (does p (into k a))
into_alike p k a = alike_does p (into k a) (into_kept k a)

-- conversions
pub truth_alike : (s : Place) (t : CType) (v : ValueTree) (p : Place) → Alike Is (as_truth s t v p) (as_truth s t v p)
truth_alike s (types.Integer integers.Bool) v p = alike_same v
truth_alike s (types.Integer integers.Char) v p = alike_selected _ _ _ _ _ _
truth_alike s (types.Integer integers.UChar) v p = alike_selected _ _ _ _ _ _
truth_alike s (types.Integer integers.Short) v p = alike_selected _ _ _ _ _ _
truth_alike s (types.Integer integers.UShort) v p = alike_selected _ _ _ _ _ _
truth_alike s (types.Integer integers.Int) v p = alike_selected _ _ _ _ _ _
truth_alike s (types.Integer integers.UInt) v p = alike_selected _ _ _ _ _ _
truth_alike s (types.Integer integers.Long) v p = alike_selected _ _ _ _ _ _
truth_alike s (types.Integer integers.ULong) v p = alike_selected _ _ _ _ _ _
truth_alike s (types.Integer integers.LongLong) v p = alike_selected _ _ _ _ _ _
truth_alike s (types.Integer integers.ULongLong) v p = alike_selected _ _ _ _ _ _
truth_alike s types.Void v p = alike_selected _ _ _ _ _ _
truth_alike s types.VoidPointer v p = alike_selected _ _ _ _ _ _
truth_alike s types.IntPointer v p = alike_selected _ _ _ _ _ _
truth_alike s (types.StructPointer n) v p = alike_selected _ _ _ _ _ _
truth_alike s (types.FunctionPointer n) v p = alike_selected _ _ _ _ _ _
truth_alike s (types.Function f) v p = alike_selected _ _ _ _ _ _

converted_alike : (s : Place) (i j : IntType) (v : ValueTree) (p : Place) → Alike Is (converted s i j v p) (converted s i j v p)
converted_alike s i j v p = alike_if (is_bool j) (truth_alike s (types.Integer i) v p) (alike_if (is_bool i) (alike_selected _ _ _ _ _ _) (alike_same _))

integer_alike : (s : Place) (j : IntType) (t : CType) (v : ValueTree) (p : Place) → Alike Is (to_integer s j t v p) (to_integer s j t v p)
integer_alike s j types.Void v p = alike_same v
integer_alike s j (types.Integer i) v p = converted_alike s i j v p
integer_alike s j types.VoidPointer v p = alike_same v
integer_alike s j types.IntPointer v p = alike_same v
integer_alike s j (types.StructPointer n) v p = alike_same v
integer_alike s j (types.FunctionPointer n) v p = alike_same v
integer_alike s j (types.Function f) v p = alike_same v

pub adapted_alike : (s : Place) (t : CType) (k : Kind) (v : ValueTree) (p : Place) → Alike Is (adapted s t k v p) (adapted s t k v p)
adapted_alike s types.Void k v p = alike_same _
adapted_alike s (types.Integer i) k v p = integer_alike s i k.ctype v p
adapted_alike s types.VoidPointer k v p = alike_same _
adapted_alike s types.IntPointer k v p = alike_same _
adapted_alike s (types.StructPointer n) k v p = alike_same _
adapted_alike s (types.FunctionPointer n) k v p = alike_same _
adapted_alike s (types.Function f) k v p = alike_same _

-- what is left of an expression
pub as_value_alike : (x : Stands) (t : CType) (q : Place) (o : Outcome) → Alike Is (as_value (one x) t q o) (as_value (two x) t q o)
as_value_alike x t q (outcomes.is v) = alike_same v
as_value_alike x t q (outcomes.holds y) = alike_selected _ _ _ _ _ _
as_value_alike x t q (outcomes.awaits a) = alike_on (alike_taken t) (λ k. alike_on (into_alike x.statement k a) (λ u. alike_same _))
as_value_alike x t q outcomes.nothing = alike_same _

as_test_alike : (x : Stands) (t : CType) (q : Place) (o : Outcome) → Alike Is (as_test (one x) t q o) (as_test (two x) t q o)
as_test_alike x t q (outcomes.is v) = alike_on (as_value_alike x t q (outcomes.is v)) (λ v. alike_same _)
as_test_alike x t q (outcomes.holds y) = alike_same y
as_test_alike x t q (outcomes.awaits a) = alike_on (as_value_alike x t q (outcomes.awaits a)) (λ v. alike_same _)
as_test_alike x t q outcomes.nothing = alike_on (as_value_alike x t q outcomes.nothing) (λ v. alike_same _)

-- an expression is of one kind in both
abbrev pub SameKind : Stands → ExprTree → Type 0
SameKind x e = kind (one x) e ≡ kind (two x) e

pub kinds : (x : Stands) (e : ExprTree) (o : Operand) → typed x.scope e ≡ Ok o → SameKind x e
kinds x e o h = ap kind_in (led (expr_leads x.scope x.first x.finds e) h) ∙ sym (ap kind_in (led (expr_leads x.scope x.second x.found e) h))

pub valued_alike : (x : Stands) (e : ExprTree) {m k : Lowering Outcome} → SameKind x e → Alike Is m k → Alike Is (valued (one x) e m) (valued (two x) e k)
valued_alike x e s h = alike_on h (λ o. subst (λ (t : Kind). Alike Is (as_value (one x) (kind (one x) e).ctype (place_of e) o) (as_value (two x) t.ctype (place_of e) o)) s (as_value_alike x (kind (one x) e).ctype (place_of e) o))

pub tested_alike : (x : Stands) (e : ExprTree) {m k : Lowering Outcome} → SameKind x e → Alike Is m k → Alike Is (tested (one x) e m) (tested (two x) e k)
tested_alike x e s h = alike_on h (λ o. subst (λ (t : Kind). Alike Is (as_test (one x) (kind (one x) e).ctype (place_of e) o) (as_test (two x) t.ctype (place_of e) o)) s (as_test_alike x (kind (one x) e).ctype (place_of e) o))

pub passed_alike : (x : Stands) (t : CType) (e : ExprTree) {m k : Lowering Outcome} → SameKind x e → Alike Is m k → Alike Is (passed (one x) t e m) (passed (two x) t e k)
passed_alike x t e s h = alike_on (valued_alike x e s h) (λ v. subst (λ (k : Kind). Alike Is (adapted x.statement t (kind (one x) e) v (place_of e)) (adapted x.statement t k v (place_of e))) s (adapted_alike x.statement t (kind (one x) e) v (place_of e)))

truth_of_alike : (x : Stands) (e : ExprTree) {m k : Lowering Outcome} → SameKind x e → Alike Is m k → Alike Is (truth_of (one x) e m) (truth_of (two x) e k)
truth_of_alike x e s h = alike_on (valued_alike x e s h) (λ v. subst (λ (k : Kind). Alike Is (as_truth x.statement (kind (one x) e).ctype v (place_of e)) (as_truth x.statement k.ctype v (place_of e))) s (truth_alike x.statement (kind (one x) e).ctype v (place_of e)))

pub left_value_alike : (x : Stands) (p : Place) (l : Left) → Alike Is (left_value (one x) p l) (left_value (two x) p l)
left_value_alike x p l = as_value_alike x l.kind.ctype p l.outcome

pub left_passed_alike : (x : Stands) (p : Place) (t : CType) (l : Left) → Alike Is (left_passed (one x) p t l) (left_passed (two x) p t l)
left_passed_alike x p t l = alike_on (left_value_alike x p l) (λ v. adapted_alike x.statement t l.kind v p)

pub value_into_alike : (x : Stands) (k : ℕ) {m n : Lowering ValueTree} → Alike Is m n → Alike Is (value_into (one x) k m) (value_into (two x) k n)
value_into_alike x k h = alike_on h (λ v. alike_does x.statement (steps.set k v) (λ b h. refl))

-- operators
arithmetic_alike : (x : Stands) (p : Place) (l : Left) (q : Place) (o : BinaryOperator) (b : ExprTree) {m k : Lowering Outcome} → SameKind x b → Alike Is m k → Alike Is (arithmetic (one x) p l q o b m) (arithmetic (two x) p l q o b k)
arithmetic_alike x p l q o b {m} {k} s h = subst (λ (d : Kind). Alike Is (arithmetic (one x) p l q o b m) (left_passed (two x) p (result_type o l.kind.ctype d.ctype) l ⨾ (λ v. passed (two x) (result_type o l.kind.ctype d.ctype) b k ⨾ (λ w. gives (outcomes.is (steps.arithmetic (outcomes.arithmetic_operator o) (integer_in (result_type o l.kind.ctype d.ctype)) v w q)))))) s
    (alike_on (left_passed_alike x p (result_type o l.kind.ctype (kind (one x) b).ctype) l) (λ v. alike_on (passed_alike x (result_type o l.kind.ctype (kind (one x) b).ctype) b s h) (λ w. alike_same _)))

pointer_sum_alike : (x : Stands) (p : Place) (l : Left) (q : Place) (b : ExprTree) {m k : Lowering Outcome} → SameKind x b → Alike Is m k → Alike Is (pointer_sum (one x) p l q b m) (pointer_sum (two x) p l q b k)
pointer_sum_alike x p l q b s h = alike_on (left_value_alike x p l) (λ v. alike_on (valued_alike x b s h) (λ i. alike_on (alike_taken types.IntPointer) (λ k. alike_on (alike_does x.statement (steps.offset k v i q) (λ b h. refl)) (λ u. alike_same _))))

sum_alike : (x : Stands) (p : Place) (l : Left) (q : Place) (o : BinaryOperator) (b : ExprTree) {m k : Lowering Outcome} → SameKind x b → Alike Is m k → Alike Is (sum (one x) p l q o b m) (sum (two x) p l q o b k)
sum_alike x p l q o b s h = alike_if (is_int_pointer l.kind.ctype) (pointer_sum_alike x p l q b s h) (arithmetic_alike x p l q o b s h)

compared_alike : (x : Stands) (p : Place) (l : Left) (o : BinaryOperator) (b : ExprTree) {m k : Lowering Outcome} → SameKind x b → Alike Is m k → Alike Is (compared (one x) p l o b m) (compared (two x) p l o b k)
compared_alike x p l o b {m} {k} s h = subst (λ (d : Kind). Alike Is (compared (one x) p l o b m) (left_passed (two x) p (compared_type l.kind.ctype d.ctype) l ⨾ (λ v. passed (two x) (compared_type d.ctype l.kind.ctype) b k ⨾ (λ w. gives (outcomes.holds (test (outcomes.comparison_of o) v w)))))) s
    (alike_on (left_passed_alike x p (compared_type l.kind.ctype (kind (one x) b).ctype) l) (λ v. alike_on (passed_alike x (compared_type (kind (one x) b).ctype l.kind.ctype) b s h) (λ w. alike_same _)))

truth_into_alike : (x : Stands) (k : ℕ) (e : ExprTree) {m n : Lowering Outcome} → SameKind x e → Alike Is m n → Alike Is (truth_into (one x) k e m) (truth_into (two x) k e n)
truth_into_alike x k e s h = value_into_alike x k (truth_of_alike x e s h)

pub set_alike : (p : Place) (k : ℕ) (v : ValueTree) → Alike Is (does p (steps.set k v)) (does p (steps.set k v))
set_alike p k v = alike_does p (steps.set k v) (λ b h. refl)

both_alike : (x : Stands) (p : Place) (l : Left) (b : ExprTree) {m k : Lowering Outcome} → SameKind x b → Alike Is m k → Alike Is (both (one x) p l b m) (both (two x) p l b k)
both_alike x p l b s h = alike_on (as_test_alike x l.kind.ctype p l.outcome) (λ y. alike_on (alike_taken (types.Integer integers.Bool)) (λ k. alike_on (alike_either x.statement y (truth_into_alike x k b s h) (set_alike x.statement k (steps.truth false))) (λ u. alike_same _)))

one_of_alike : (x : Stands) (p : Place) (l : Left) (b : ExprTree) {m k : Lowering Outcome} → SameKind x b → Alike Is m k → Alike Is (one_of (one x) p l b m) (one_of (two x) p l b k)
one_of_alike x p l b s h = alike_on (as_test_alike x l.kind.ctype p l.outcome) (λ y. alike_on (alike_taken (types.Integer integers.Bool)) (λ k. alike_on (alike_either x.statement y (set_alike x.statement k (steps.truth true)) (truth_into_alike x k b s h)) (λ u. alike_same _)))

pub joined_alike : (x : Stands) (p : Place) (l : Left) (q : Place) (o : BinaryOperator) (b : ExprTree) {m k : Lowering Outcome} → SameKind x b → Alike Is m k → Alike Is (joined (one x) p l q o b m) (joined (two x) p l q o b k)
joined_alike x p l q operators.Times b s h = sum_alike x p l q operators.Times b s h
joined_alike x p l q operators.Divide b s h = sum_alike x p l q operators.Divide b s h
joined_alike x p l q operators.Remainder b s h = sum_alike x p l q operators.Remainder b s h
joined_alike x p l q operators.Plus b s h = sum_alike x p l q operators.Plus b s h
joined_alike x p l q operators.Minus b s h = sum_alike x p l q operators.Minus b s h
joined_alike x p l q operators.Less b s h = compared_alike x p l operators.Less b s h
joined_alike x p l q operators.LessOrEqual b s h = compared_alike x p l operators.LessOrEqual b s h
joined_alike x p l q operators.Greater b s h = compared_alike x p l operators.Greater b s h
joined_alike x p l q operators.GreaterOrEqual b s h = compared_alike x p l operators.GreaterOrEqual b s h
joined_alike x p l q operators.Equal b s h = compared_alike x p l operators.Equal b s h
joined_alike x p l q operators.NotEqual b s h = compared_alike x p l operators.NotEqual b s h
joined_alike x p l q operators.And b s h = both_alike x p l b s h
joined_alike x p l q operators.Or b s h = one_of_alike x p l b s h

pub choice_alike : (x : Stands) (p : Place) (t : CType) (y : Test) {a b c d : Lowering ValueTree} → Alike Is a b → Alike Is c d → Alike Is (choice (one x) p t y a c) (choice (two x) p t y b d)
choice_alike x p t y h k = alike_on (alike_taken t) (λ n. alike_on (alike_either x.statement y (value_into_alike x n h) (value_into_alike x n k)) (λ u. alike_same _))

-- operators in front
negative_alike : (x : Stands) (p : Place) (a : ExprTree) {m k : Lowering Outcome} → SameKind x a → Alike Is m k → Alike Is (negative (one x) p a m) (negative (two x) p a k)
negative_alike x p a {m} {k} s h = subst (λ (d : Kind). Alike Is (negative (one x) p a m) (passed (two x) (types.Integer (promoted (integer_in d.ctype))) a k ⨾ (λ v. gives (outcomes.is (steps.negate (promoted (integer_in d.ctype)) v p))))) s
    (alike_on (passed_alike x (types.Integer (promoted (integer_in (kind (one x) a).ctype))) a s h) (λ v. alike_same _))

pub prefixed_alike : (x : Stands) (p : Place) (o : UnaryOperator) (a : ExprTree) {m k : Lowering Outcome} → SameKind x a → Alike Is m k → Alike Is (prefixed (one x) p o a m) (prefixed (two x) p o a k)
prefixed_alike x p unaries.Minus a s h = negative_alike x p a s h
prefixed_alike x p unaries.Not a s h = alike_on (tested_alike x a s h) (λ y. alike_same _)

-- calls and reads
free_kept : (t : CType) (v : ValueTree) (q : Place) → (before behind : List NodeTree) → kept_action before (free_step t v q) behind ≡ Some (free_step t v q)
free_kept types.Void v q b h = refl
free_kept (types.Integer i) v q b h = refl
free_kept types.VoidPointer v q b h = refl
free_kept types.IntPointer v q b h = refl
free_kept (types.StructPointer n) v q b h = refl
free_kept (types.FunctionPointer n) v q b h = refl
free_kept (types.Function f) v q b h = refl

pub freed_alike : (x : Stands) (q : Place) (b : ExprTree) {m k : Lowering Outcome} → SameKind x b → Alike Is m k → Alike Is (freed (one x) q b m) (freed (two x) q b k)
freed_alike x q b s h = alike_on (valued_alike x b s h) (λ v. subst (λ (d : Kind). Alike Is (does x.statement (free_step (kind (one x) b).ctype v q) ⨾ (λ u. gives outcomes.nothing)) (does x.statement (free_step d.ctype v q) ⨾ (λ u. gives outcomes.nothing))) s
    (alike_on (alike_does x.statement (free_step (kind (one x) b).ctype v q) (free_kept (kind (one x) b).ctype v q)) (λ u. alike_same _)))

void_kept : (t : CType) (v : ValueTree) (vs : List ValueTree) (p : Place) → (before behind : List NodeTree) → kept_action before (void_call t v vs p) behind ≡ Some (void_call t v vs p)
void_kept types.Void v vs p b h = refl
void_kept (types.Integer i) v vs p b h = refl
void_kept types.VoidPointer v vs p b h = refl
void_kept types.IntPointer v vs p b h = refl
void_kept (types.StructPointer n) v vs p b h = refl
void_kept (types.FunctionPointer n) v vs p b h = refl
void_kept (types.Function f) v vs p b h = refl

pub both_called : (x : Stands) (t : CType) → called (one x).scope t ≡ called (two x).scope t
both_called x t = called_same x.scope x.first t ∙ sym (called_same x.scope x.second t)

pub called_alike : (x : Stands) (p : Place) (t : CType) (v : ValueTree) (vs : List ValueTree) → Alike Is (called_with (one x) p t v vs) (called_with (two x) p t v vs)
called_alike x p t v vs = subst (λ (g : Option Signature). Alike Is (called_with (one x) p t v vs) (if is_void (result_of g) then (does x.statement (void_call t v vs p) ⨾ (λ u. gives outcomes.nothing)) else gives (outcomes.awaits (call_of t v vs p)))) (both_called x t)
    (alike_if (is_void (result_of (called (one x).scope t))) (alike_on (alike_does x.statement (void_call t v vs p) (void_kept t v vs p)) (λ u. alike_same _)) (alike_same _))

pub part_types : (x : Stands) (t : CType) (y : PostfixTree) → part_type (one x) t y ≡ part_type (two x) t y
part_types x t (tree.field_ q g) = ap or_void (field_same x.scope x.first (structure_in t) g.text g.place.file ∙ sym (field_same x.scope x.second (structure_in t) g.text g.place.file))
part_types x t (tree.index_ q a) = refl
part_types x t (tree.call_ q ys) = ap result_of (both_called x t)

pub tags : (x : Stands) (g : Name) → tag_number (one x) g ≡ tag_number (two x) g
tags x g = ap or_nought (tag_same x.scope x.first g.text g.place.file ∙ sym (tag_same x.scope x.second g.text g.place.file))

-- names
numbered : {A B : Type 0} (ys : List (List ℕ)) (ls : List A) (ns : List B) (y : List ℕ) (a : A) → length ys ≡ length ns → standing ys ls y ≡ Some a → (n : B) × (standing ys ns y ≡ Some n)
numbered [] ls ns y a e h = absurd cc
numbered (z ∷ ys) [] ns y a e h = absurd cc
numbered (z ∷ ys) (l ∷ ls) [] y a e h = absurd cc
numbered {A} {B} (z ∷ ys) (l ∷ ls) (n ∷ ns) y a e h = by_test (bytes_eq y z) h (let same : length ys ≡ length ns = omega (arith, e) in numbered ys ls ns y a same)
  where
    by_test : (b : Bool) → (if b then Some l else standing ys ls y) ≡ Some a → (standing ys ls y ≡ Some a → (m : B) × (standing ys ns y ≡ Some m)) → (m : B) × ((if b then Some n else standing ys ns y) ≡ Some m)
    by_test true h f = (n, refl)
    by_test false h f = f h

unnumbered : {A B : Type 0} (ys : List (List ℕ)) (ls : List A) (ns : List B) (y : List ℕ) → length ys ≡ length ls → standing ys ls y ≡ None → standing ys ns y ≡ None
unnumbered [] ls ns y e h = refl
unnumbered (z ∷ ys) [] ns y e h = absurd cc
unnumbered (z ∷ ys) (l ∷ ls) [] y e h = refl
unnumbered (z ∷ ys) (l ∷ ls) (n ∷ ns) y e h = by_test (bytes_eq y z) h (let same : length ys ≡ length ls = omega (arith, e) in unnumbered ys ls ns y same)
  where
    by_test : (b : Bool) → (if b then Some l else standing ys ls y) ≡ None → (standing ys ls y ≡ None → standing ys ns y ≡ None) → (if b then Some n else standing ys ns y) ≡ None
    by_test true h f = absurd cc
    by_test false h f = f h

-- a local that a scope has has a number in both
with_number : (x : Stands) (q : Place) (y : List ℕ) (n : ℕ) → local_number (one x) y ≡ Some n → named (one x) q y ≡ named (two x) q y
with_number x q y n e = ap (named_value (one x) q y) e ∙ sym (ap (named_value (two x) q y) (sym (ap (λ (l : Locals). at_name l.names x.numbers y) x.locals) ∙ e))

no_number : (x : Stands) (q : Place) (y : List ℕ) (k : ℕ) → local_number (one x) y ≡ None → declaration_of x.scope y q.file ≡ Some (meanings.Function k) → named (one x) q y ≡ named (two x) q y
no_number x q y k e h =
    ap (named_value (one x) q y) e ∙ ap declared_value (x.finds.declared y q.file (meanings.Function k) refl h)
    ∙ sym (ap (named_value (two x) q y) (sym (ap (λ (l : Locals). at_name l.names x.numbers y) x.locals) ∙ e) ∙ ap declared_value (x.found.declared y q.file (meanings.Function k) refl h))

local_named : (x : Stands) (q : Place) (y : List ℕ) (t : CType) → local_of x.scope y ≡ Some (locals.Real t) → named (one x) q y ≡ named (two x) q y
local_named x q y t e =
    let there = numbered x.first.locals.names x.first.locals.meanings x.numbers y (locals.Real t) x.beside (sym (at_standing x.first.locals.names x.first.locals.meanings y) ∙ x.finds.local y t e) in
    with_number x q y there.0 (at_standing x.first.locals.names x.numbers y ∙ there.1)

no_local_number : (x : Stands) (y : List ℕ) → local_of x.scope y ≡ None → local_number (one x) y ≡ None
no_local_number x y e = at_standing x.first.locals.names x.numbers y ∙ unnumbered x.first.locals.names x.first.locals.meanings x.numbers y x.aligned (sym (at_standing x.first.locals.names x.first.locals.meanings y) ∙ x.finds.no_local y e)

global_named : (x : Stands) (q : Place) (y : List ℕ) (o : CType) (m : Option Meaning) → local_of x.scope y ≡ None → declaration_of x.scope y q.file ≡ m → declared_type x.scope q y m ≡ Ok o → named (one x) q y ≡ named (two x) q y
global_named x q y o None n e h = absurd cc
global_named x q y o (Some (meanings.Function k)) n e h = no_number x q y k (no_local_number x y n) e
global_named x q y o (Some (meanings.FunctionType k)) n e h = absurd cc
global_named x q y o (Some (meanings.Ghost k)) n e h = absurd cc

named_by : (x : Stands) (q : Place) (y : List ℕ) (o : CType) (l : Option Local) → local_of x.scope y ≡ l → local_type x.scope q y l ≡ Ok o → named (one x) q y ≡ named (two x) q y
named_by x q y o None e h = global_named x q y o (declaration_of x.scope y q.file) e refl h
named_by x q y o (Some (locals.Real t)) e h = local_named x q y t e
named_by x q y o (Some (locals.Ghost g)) e h = absurd cc

of_name : (p : Place) {o : Operand} (r : Result CType Refusal) → name_typed p r ≡ Ok o → (t : CType) × (r ≡ Ok t)
of_name p (Ok t) e = (t, refl)
of_name p (Err x) e = absurd cc

pub names_same : (x : Stands) (q : Place) (y : List ℕ) (o : Operand) → typed x.scope (tree.name_ q y) ≡ Ok o → named (one x) q y ≡ named (two x) q y
names_same x q y o h = let t = of_name q (name_type x.scope q y) h in named_by x q y t.0 (local_of x.scope y) refl t.1
