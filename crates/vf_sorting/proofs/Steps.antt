-- Answers step by step: what is answered for the parts of an expression tells the answer for the whole.
use Rattle.std.proofs.Common.{◌≡◌, ℕ, ◌+◌, ◌≤◌, Bool, true, false, List, length, Some, None, Result, Ok, Err, IsTrue, ◌↔◌, refl, sym, ◌∙◌, ap, subst, arith}
use Rattle.vf_base.specs.declared.int_type.IntType.{IntType}
use Rattle.vf_base.specs.declared.place.Place.{Place}
use Rattle.vf_base.specs.declared.refusal.Refusal.{Refusal}
use Rattle.vf_base.specs.declared.refusal.RuleFault.{RuleFault}
use Rattle.vf_base.specs.declared.refusal.RuleFault.TheVariants as faults
use Rattle.vf_base.specs.declared.rule.Rule.TheVariants as rules
use Rattle.vf_sorts.specs.Sorts.{Sort}
use Rattle.vf_sorts.specs.Unknowns.{AreBelow, IsBelow, Known, instance}
use Rattle.vf_sorts.specs.Unifying.{AreApart, Equates}
use Rattle.vf_declared.specs.declared.scope.Scope.{Scope}
use Rattle.vf_syntax.specs.declared.operator.BinaryOperator.{BinaryOperator}
use Rattle.vf_syntax.specs.declared.operator.BinaryOperator.TheVariants as operators
use Rattle.vf_syntax.specs.declared.operator.UnaryOperator.{UnaryOperator}
use Rattle.vf_syntax.specs.declared.operator.UnaryOperator.TheVariants as unaries
use Rattle.vf_syntax.specs.GhostExprTree.{GhostExprTree, GhostExprTrees, GhostLinkTree, GhostLinkTrees}
use Rattle.vf_syntax.specs.GhostExprTree as tree
use Rattle.vf_sorting.specs.declared.context.Context.{Context}
use Rattle.vf_sorting.specs.declared.scheme.Scheme.{Scheme}
use Rattle.vf_sorting.specs.Answers.{Answers, Tells, IsApart, AreChecked, IsChecked, IsEquated, IsLinked, IsMet, IsSorted}
use Rattle.vf_sorting.specs.HasSort as has
use Rattle.vf_sorting.specs.IsRefused as refuses
use Rattle.vf_sorting.specs.Kinds.{bool_sort, int_sort, pointer_sort, with_fresh}
use Rattle.vf_sorting.specs.Operators.{operand_sort, prefix_sort, result_sort}
use Rattle.vf_sorting.specs.Refusals.{refused}
use Rattle.vf_sorting.specs.Schemes.{name_scheme}
use Rattle.vf_sorting.specs.Scopes.{IsSchemeBelow}
use Rattle.vf_sorting.proofs.Below.{below_more, fresh_length, instance_below}

-- a fault that tells one thing tells what follows from it
pub told : (Q R : Refusal → Type 0) (e : RuleFault) → ((r : Refusal) → Q r → R r) → Tells Q e → Tells R e
told Q R (faults.Refused r) f a = f r a
told Q R faults.Memory f a = tt

is_told : (R : Refusal → Type 0) (e : RuleFault) (r : Refusal) → e ≡ faults.Refused r → R r → Tells R e
is_told R e r q h = subst (Tells R) (sym q) h

memory_on : {B : Type 0} (T : B → Type 0) (R : Refusal → Type 0) (res : Result B RuleFault) → res ≡ Err faults.Memory → Answers T R res
memory_on T R res q = subst (Answers T R) (sym q) tt

-- want of memory says nothing
pub sorted_memory : {s : Scope} {c : Context} {k k' : Known} {e : GhostExprTree} {res : Result Sort RuleFault} → res ≡ Err faults.Memory → IsSorted s c k e res k'
sorted_memory q = record { answers = memory_on _ _ _ q }

pub checked_memory : {A : Type 0} {s : Scope} {c : Context} {k k' : Known} {w : Sort} {p : Place} {e : GhostExprTree} {res : Result A RuleFault} → res ≡ Err faults.Memory → IsChecked s c k w p e res k'
checked_memory q = record { answers = memory_on _ _ _ q }

pub passed_memory : {A : Type 0} {s : Scope} {c : Context} {k k' : Known} {first n : ℕ} {ts : List Sort} {xs : GhostExprTrees} {res : Result A RuleFault} → res ≡ Err faults.Memory → AreChecked s c k first n ts xs res k'
passed_memory q = record { answers = memory_on _ _ _ q }

pub met_memory : {s : Scope} {c : Context} {k k' : Known} {z : Bool} {t : Sort} {e : GhostExprTree} {res : Result Sort RuleFault} → res ≡ Err faults.Memory → IsMet s c k z t e res k'
met_memory q = record { answers = memory_on _ _ _ q }

pub linked_memory : {s : Scope} {c : Context} {k k' : Known} {z : Bool} {p : Place} {t : Sort} {x : GhostLinkTree} {res : Result Sort RuleFault} → res ≡ Err faults.Memory → IsLinked s c k z p t x res k'
linked_memory q = record { answers = memory_on _ _ _ q }

pub equated_memory : {A : Type 0} {k k' : Known} {t u : Sort} {p : Place} {res : Result A RuleFault} → res ≡ Err faults.Memory → IsEquated k t u p res k'
equated_memory q = record { answers = memory_on _ _ _ q }

-- ---- sorts at later states
pub sorted_below : {s : Scope} {c : Context} {k k' : Known} {e : GhostExprTree} {t : Sort} → IsSorted s c k e (Ok t) k' → IsBelow (length k') t
sorted_below a = a.answers.1

pub sorted_keeps : {s : Scope} {c : Context} {k k' : Known} {e : GhostExprTree} {t : Sort} (u : Sort) → IsSorted s c k e (Ok t) k' → IsBelow (length k) u → IsBelow (length k') u
sorted_keeps u a b = below_more _ _ a.answers.0 u b

pub checked_keeps : {s : Scope} {c : Context} {k k' : Known} {w : Sort} {p : Place} {e : GhostExprTree} (u : Sort) → IsChecked {A = Unit {0}} s c k w p e (Ok tt) k' → IsBelow (length k) u → IsBelow (length k') u
checked_keeps u a b = below_more _ _ a.answers.0 u b

pub linked_below : {s : Scope} {c : Context} {k k' : Known} {z : Bool} {p : Place} {t u : Sort} {x : GhostLinkTree} → IsLinked s c k z p t x (Ok u) k' → IsBelow (length k') u
linked_below a = a.answers.1

pub bool_below : (n : ℕ) (t : Sort) → t ≡ bool_sort → IsBelow n t
bool_below n t e = subst (IsBelow n) (sym e) tt

pub int_below : (n : ℕ) (t : Sort) → t ≡ int_sort → IsBelow n t
int_below n t e = subst (IsBelow n) (sym e) tt

pub prefix_is : (n : ℕ) (o : UnaryOperator) → IsBelow n (prefix_sort o)
prefix_is n unaries.Minus = tt
prefix_is n unaries.Not = tt

pub prefix_below : (n : ℕ) (o : UnaryOperator) (t : Sort) → t ≡ prefix_sort o → IsBelow n t
prefix_below n o t e = subst (IsBelow n) (sym e) (prefix_is n o)

operand_is : (n : ℕ) (o : BinaryOperator) → IsBelow n (operand_sort o)
operand_is n operators.Times = tt
operand_is n operators.Divide = tt
operand_is n operators.Remainder = tt
operand_is n operators.Plus = tt
operand_is n operators.Minus = tt
operand_is n operators.Less = tt
operand_is n operators.LessOrEqual = tt
operand_is n operators.Greater = tt
operand_is n operators.GreaterOrEqual = tt
operand_is n operators.Equal = tt
operand_is n operators.NotEqual = tt
operand_is n operators.And = tt
operand_is n operators.Or = tt

pub operand_below : (n : ℕ) (o : BinaryOperator) (t : Sort) → t ≡ operand_sort o → IsBelow n t
operand_below n o t e = subst (IsBelow n) (sym e) (operand_is n o)

pub result_is : (n : ℕ) (o : BinaryOperator) → IsBelow n (result_sort o)
result_is n operators.Times = tt
result_is n operators.Divide = tt
result_is n operators.Remainder = tt
result_is n operators.Plus = tt
result_is n operators.Minus = tt
result_is n operators.Less = tt
result_is n operators.LessOrEqual = tt
result_is n operators.Greater = tt
result_is n operators.GreaterOrEqual = tt
result_is n operators.Equal = tt
result_is n operators.NotEqual = tt
result_is n operators.And = tt
result_is n operators.Or = tt

-- ---- making equal
pub equated_ok : {k k' : Known} {t u : Sort} {p : Place} → Equates k t u k' → IsEquated {A = Unit {0}} k t u p (Ok tt) k'
equated_ok e = record { answers = e }

pub equated_apart : {k k' : Known} {t u : Sort} {p : Place} {e : RuleFault} → e ≡ faults.Refused (refused rules.Typing p) → AreApart k t u → IsEquated {A = Unit {0}} k t u p (Err e) k'
equated_apart {k = k} {t = t} {u = u} {p = p} q a = record { answers = is_told (IsApart k t u p) _ _ q (a, refl) }

-- ---- a sort that has been found
pub found : {s : Scope} {c : Context} {k k' : Known} {e : GhostExprTree} {t : Sort} (u : Sort) → t ≡ u → length k ≤ length k' → IsBelow (length k') u → has.HasSort s c k e u k' → IsSorted s c k e (Ok t) k'
found {s = s} {c = c} {k = k} {k' = k'} {e = e} u q l b h = subst (λ (t : Sort). IsSorted s c k e (Ok t) k') (sym q) (record { answers = (l, b, h) })

pub no_sort : {s : Scope} {c : Context} {k k' : Known} {e : GhostExprTree} {x : RuleFault} (r : Refusal) → x ≡ faults.Refused r → refuses.IsRefused s c k e r → IsSorted s c k e (Err x) k'
no_sort {s = s} {c = c} {k = k} {e = e} r q h = record { answers = is_told (refuses.IsRefused s c k e) _ r q h }

-- ---- words
pub number_sorted : {s : Scope} {c : Context} {k : Known} {p : Place} {n : ℕ} {i : IntType} {t : Sort} → t ≡ int_sort → IsSorted s c k (tree.number p n i) (Ok t) k
number_sorted q = found int_sort q (omega arith) tt has.number

pub true_sorted : {s : Scope} {c : Context} {k : Known} {p : Place} {t : Sort} → t ≡ bool_sort → IsSorted s c k (tree.true_ p) (Ok t) k
true_sorted q = found bool_sort q (omega arith) tt has.truth

pub false_sorted : {s : Scope} {c : Context} {k : Known} {p : Place} {t : Sort} → t ≡ bool_sort → IsSorted s c k (tree.false_ p) (Ok t) k
false_sorted q = found bool_sort q (omega arith) tt has.falsehood

pub result_sorted : {s : Scope} {c : Context} {k : Known} {p : Place} {t u : Sort} {y : Bool} → c.result ≡ Some u → (IsTrue y ↔ IsBelow (length k) u) → y ≡ true → t ≡ u → IsSorted s c k (tree.result p) (Ok t) k
result_sorted r b y q = found _ q (omega arith) (b.0 y) (has.result r (b.0 y))

pub stray_result : {s : Scope} {c : Context} {k : Known} {p : Place} {u : Sort} {y : Bool} {e : RuleFault} → c.result ≡ Some u → (IsTrue y ↔ IsBelow (length k) u) → y ≡ false → e ≡ faults.Refused (refused rules.Typing p) → IsSorted s c k (tree.result p) (Err e) k
stray_result r b y q = no_sort _ q (refuses.stray_result r (λ h. let yes_is = b.1 h in absurd cc))

pub no_result : {s : Scope} {c : Context} {k : Known} {p : Place} {e : RuleFault} → e ≡ faults.Refused (refused rules.Name p) → c.result ≡ None → IsSorted s c k (tree.result p) (Err e) k
no_result q n = no_sort _ q (refuses.no_result n)

pub this_sorted : {s : Scope} {c : Context} {k : Known} {p : Place} {t : Sort} → c.has_this ≡ true → t ≡ pointer_sort → IsSorted s c k (tree.this_ p) (Ok t) k
this_sorted h q = found pointer_sort q (omega arith) tt (has.this_ h)

pub no_this : {s : Scope} {c : Context} {k : Known} {p : Place} {e : RuleFault} → e ≡ faults.Refused (refused rules.Name p) → c.has_this ≡ false → IsSorted s c k (tree.this_ p) (Err e) k
no_this q n = no_sort _ q (refuses.no_this n)

pub thread_sorted : {s : Scope} {c : Context} {k : Known} {p : Place} {t : Sort} → c.has_thread ≡ true → t ≡ int_sort → IsSorted s c k (tree.current_thread p) (Ok t) k
thread_sorted h q = found int_sort q (omega arith) tt (has.thread h)

pub no_thread : {s : Scope} {c : Context} {k : Known} {p : Place} {e : RuleFault} → e ≡ faults.Refused (refused rules.Name p) → c.has_thread ≡ false → IsSorted s c k (tree.current_thread p) (Err e) k
no_thread q n = no_sort _ q (refuses.no_thread n)

-- ---- names
pub fails : {s : Scope} {c : Context} {k k' : Known} {x : GhostExprTree} {res : Result Sort RuleFault} (Q : Refusal → Type 0) (e : RuleFault) → ((r : Refusal) → Q r → refuses.IsRefused s c k x r) → Tells Q e → res ≡ Err e → IsSorted s c k x res k'
fails {s = s} {c = c} {k = k} {k' = k'} {x = x} Q e f a q = subst (λ (y : Result Sort RuleFault). IsSorted s c k x y k') (sym q) (record { answers = told Q (refuses.IsRefused s c k x) e f a })

pub name_refused : {s : Scope} {c : Context} {k k' : Known} {p : Place} {x : List ℕ} {res : Result Sort RuleFault} (e : RuleFault) → Tells (λ r. name_scheme s p x ≡ Err r) e → res ≡ Err e → IsSorted s c k (tree.name_ p x) res k'
name_refused e a q = fails _ e (λ r h. refuses.no_value h) a q

-- an instance of what is declared, with the unknown sorts that stand for its type parameters
pub instance_within : (k k' : Known) (first n : ℕ) (t u : Sort) → first ≡ length k → first + n ≤ length k' → IsBelow (length k) u → t ≡ instance first n u → IsBelow (length k') t
instance_within k k' first n t u f l b q = subst (IsBelow (length k')) (sym q) (below_more (first + n) (length k') l _ (instance_below (length k) first n (omega (arith, f)) u b))

pub name_sorted : {s : Scope} {c : Context} {k k' : Known} {p : Place} {x : List ℕ} {g : Scheme} {first : ℕ} {t : Sort} {y : Bool} → name_scheme s p x ≡ Ok g → (IsTrue y ↔ IsSchemeBelow (length k) g) → y ≡ true → first ≡ length k → k' ≡ with_fresh k g.parameters → t ≡ instance first g.parameters g.result → IsSorted s c k (tree.name_ p x) (Ok t) k'
name_sorted {s = s} {c = c} {k = k} {k' = k'} {p = p} {x = x} {g = g} {first = first} {t = t} n w y f q e =
    let long : length k' ≡ length k + g.parameters = ap length q ∙ fresh_length k g.parameters in
    let is : t ≡ instance (length k) g.parameters g.result = e ∙ ap (λ (m : ℕ). instance m g.parameters g.result) f in
    let b : IsBelow (length k') t = instance_within k k' first g.parameters t g.result f (omega (arith, long, f)) (w.0 y).1 e in
    record { answers = (omega (arith, long), b, subst (λ (j : Known). has.HasSort s c k (tree.name_ p x) t j) (sym q) (subst (λ (u : Sort). has.HasSort s c k (tree.name_ p x) u (with_fresh k g.parameters)) (sym is) (has.name_ n (w.0 y)))) }

pub stray_name : {s : Scope} {c : Context} {k : Known} {p : Place} {x : List ℕ} {g : Scheme} {y : Bool} {e : RuleFault} → name_scheme s p x ≡ Ok g → (IsTrue y ↔ IsSchemeBelow (length k) g) → y ≡ false → e ≡ faults.Refused (refused rules.Typing p) → IsSorted s c k (tree.name_ p x) (Err e) k
stray_name n w y q = no_sort _ q (refuses.stray_name n (λ h. let yes_is = w.1 h in absurd cc))

-- a scheme's sorts are tested one after the other
pub scheme_told : (n : ℕ) (g : Scheme) (x y : Bool) → (IsTrue x ↔ AreBelow n g.arguments) → x ≡ true → (IsTrue y ↔ IsBelow n g.result) → IsTrue y ↔ IsSchemeBelow n g
scheme_told n g x y a t b = (λ h. (a.0 t, b.0 h), λ h. b.1 h.1)

pub scheme_not_told : (n : ℕ) (g : Scheme) (x : Bool) → (IsTrue x ↔ AreBelow n g.arguments) → x ≡ false → IsTrue false ↔ IsSchemeBelow n g
scheme_not_told n g x a t = (λ h. absurd cc, λ h. let yes_is = a.1 h.0 in absurd cc)
