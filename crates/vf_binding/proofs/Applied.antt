-- Answers for applications that are whole parts.
use Rattle.std.proofs.Common.{◌≡◌, ◌≢◌, ℕ, Bool, true, false, List, length, Result, Ok, Err, IsTrue, ◌↔◌, refl, sym, ◌∙◌, subst}
use Rattle.vf_base.specs.declared.refusal.RuleFault.{RuleFault}
use Rattle.vf_base.specs.declared.refusal.RuleFault.TheVariants as faults
use Rattle.vf_base.specs.declared.rule.Rule.TheVariants as rules
use Rattle.vf_sorts.specs.Sorts.{Sort}
use Rattle.vf_sorts.specs.Unknowns.{Known}
use Rattle.vf_declared.specs.declared.scope.Scope.{Scope}
use Rattle.vf_syntax.specs.declared.pattern.Pattern.{Pattern}
use Rattle.vf_syntax.specs.declared.written.Name.{Name}
use Rattle.vf_syntax.specs.Assertions.{are_value_patterns}
use Rattle.vf_syntax.specs.GhostExprTree.{ghost_expr_list}
use Rattle.vf_sorting.specs.declared.context.Context.{Context}
use Rattle.vf_sorting.specs.declared.scheme.Scheme.{Scheme}
use Rattle.vf_sorting.specs.Answers.{AreChecked, IsChecked, IsEquated, IsSorted}
use Rattle.vf_sorting.specs.Kinds.{bool_sort, with_fresh}
use Rattle.vf_sorting.specs.Refusals.{refused}
use Rattle.vf_sorting.specs.Schemes.{application_scheme, names_predicate}
use Rattle.vf_sorting.specs.Scopes.{IsSchemeBelow}
use Rattle.vf_sorting.proofs.Checks.{apart_fails, sort_fails, wanted_passes}
use Rattle.vf_sorting.proofs.Wholes as wholes
use Rattle.vf_binding.specs.Chunks.{application_of, values_of}
use Rattle.vf_binding.proofs.Lists.{values_length}

pub count_fails : {s : Scope} {c : Context} {k : Known} {n : Name} {g : Scheme} {y b : Bool} {e : RuleFault} (xs : List Pattern) → are_value_patterns xs ≡ true → y ≡ names_predicate s k n.text → y ≡ false → application_scheme s c.own n.place n.text ≡ Ok g → (IsTrue b ↔ IsSchemeBelow (length k) g) → b ≡ true → length g.arguments ≢ length xs → e ≡ faults.Refused (refused rules.Typing n.place) → IsSorted s c k (application_of n xs) (Err e) k
count_fails xs v p y a w b l q = wholes.count_fails (values_of xs) p y a w b (λ m. l (m ∙ values_length xs v)) q

pub arguments_fail : {s : Scope} {c : Context} {k j k' : Known} {n : Name} {g : Scheme} {y b : Bool} {first : ℕ} {res : Result Sort RuleFault} (xs : List Pattern) (e : RuleFault) → are_value_patterns xs ≡ true → y ≡ names_predicate s k n.text → y ≡ false → application_scheme s c.own n.place n.text ≡ Ok g → (IsTrue b ↔ IsSchemeBelow (length k) g) → b ≡ true → length g.arguments ≡ length xs → first ≡ length k → j ≡ with_fresh k g.parameters → AreChecked {A = Unit {0}} s c j first g.parameters g.arguments (ghost_expr_list (values_of xs)) (Err e) k' → res ≡ Err e → IsSorted s c k (application_of n xs) res k'
arguments_fail xs e v p y a w b l f q i o = wholes.arguments_fail (values_of xs) e p y a w b (l ∙ sym (values_length xs v)) f q i o

pub truth_fails : {s : Scope} {c : Context} {k k' : Known} {n : Name} {res : Result (Unit {0}) RuleFault} (xs : List Pattern) (e : RuleFault) → IsSorted s c k (application_of n xs) (Err e) k' → res ≡ Err e → IsChecked s c k bool_sort n.place (application_of n xs) res k'
truth_fails xs e i q = sort_fails e refl i q

pub truth_other : {s : Scope} {c : Context} {k k₁ k' : Known} {n : Name} {t w : Sort} {res : Result (Unit {0}) RuleFault} (xs : List Pattern) (e : RuleFault) → IsSorted s c k (application_of n xs) (Ok t) k₁ → w ≡ bool_sort → IsEquated {A = Unit {0}} k₁ t w n.place (Err e) k' → res ≡ Err e → IsChecked s c k bool_sort n.place (application_of n xs) res k'
truth_other {k₁ = k₁} {k' = k'} {n = n} {t = t} xs e i w j q = apart_fails e refl refl refl refl i (subst (λ (u : Sort). IsEquated {A = Unit {0}} k₁ t u n.place (Err e) k') w j) q

pub truth_passes : {s : Scope} {c : Context} {k k₁ k' : Known} {n : Name} {t w : Sort} (xs : List Pattern) → IsSorted s c k (application_of n xs) (Ok t) k₁ → w ≡ bool_sort → IsEquated {A = Unit {0}} k₁ t w n.place (Ok tt) k' → IsChecked {A = Unit {0}} s c k bool_sort n.place (application_of n xs) (Ok tt) k'
truth_passes {k₁ = k₁} {k' = k'} {n = n} {t = t} xs i w j = wanted_passes refl refl refl refl i (subst (λ (u : Sort). IsEquated {A = Unit {0}} k₁ t u n.place (Ok tt) k') w j)
