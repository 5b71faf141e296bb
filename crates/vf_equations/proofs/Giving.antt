-- Answers for values and cases, from the answers for their parts.
use Rattle.std.proofs.Common.{◌≡◌, ℕ, ◌+◌, ◌≤◌, List, ◌∷◌, length, drop, map, Some, slice_get, Result, Ok, Err, sym, ◌∙◌, ap, subst}
use Rattle.vf_base.specs.declared.place.Place.{Place}
use Rattle.vf_base.specs.declared.refusal.RuleFault.{RuleFault}
use Rattle.vf_base.specs.declared.refusal.RuleFault.TheVariants as faults
use Rattle.vf_base.specs.declared.rule.Rule.TheVariants as rules
use Rattle.vf_sorts.specs.Sorts.{Sort}
use Rattle.vf_sorts.specs.Unknowns.{IsBelow, Known, instance}
use Rattle.vf_declared.specs.Changes.{first_locals}
use Rattle.vf_declared.specs.declared.locals.Locals.{Locals}
use Rattle.vf_declared.specs.declared.scope.Scope.{Scope}
use Rattle.vf_syntax.specs.declared.item.FixpointCase.{FixpointCase}
use Rattle.vf_syntax.specs.GhostExprTree.{GhostExprTree}
use Rattle.vf_sorting.specs.declared.context.Context.{Context}
use Rattle.vf_sorting.specs.Answers.{IsChecked}
use Rattle.vf_sorting.specs.Operators.{place_of}
use Rattle.vf_sorting.specs.Refusals.{refused}
use Rattle.vf_sorting.proofs.Lists.{left_at, left_end}
use Rattle.vf_sorting.proofs.Steps.{told}
use Rattle.vf_binding.specs.declared.bound.Bound.{Bound}
use Rattle.vf_binding.specs.Bound.{with_names}
use Rattle.vf_binding.proofs.Steps.{failing, refusing, wanting}
use Rattle.vf_asserting.specs.Answers.{IsCaseBound}
use Rattle.vf_asserting.specs.Cases.{NamesFail, case_arguments, names_or_none}
use Rattle.vf_asserting.specs.Leaving.{count, left}
use Rattle.vf_asserting.proofs.Wholes.{case_named, gone, sorts_are}
use Rattle.vf_equations.specs.Answers.{AreCases, IsCase, IsValue}
use Rattle.vf_equations.specs.Values as values

-- ---- values

pub value_stray : {s : Scope} {c : Context} {t : Sort} {k k' : Known} {d : GhostExprTree} {p : Place} {e : RuleFault} → (IsBelow (length k) t → ⊥) → p ≡ place_of d → e ≡ faults.Refused (refused rules.Typing p) → IsValue {A = Unit {0}} s c t k d (Err e) k'
value_stray b z q = record { answers = refusing _ _ _ (q ∙ ap (λ p. faults.Refused (refused rules.Typing p)) z) (values.ValueFails.stray b) }

pub value_checks : {s : Scope} {c : Context} {t : Sort} {k k' : Known} {d : GhostExprTree} (r : Result (Unit {0}) RuleFault) → IsBelow (length k) t → IsChecked {A = Unit {0}} s c k t (place_of d) d r k' → IsValue {A = Unit {0}} s c t k d r k'
value_checks (Ok u) b i = record { answers = values.ValuePasses.passes b i.answers.1 }
value_checks (Err e) b i = record { answers = told _ _ e (λ r h. values.ValueFails.fails b h) i.answers }

-- ---- cases

pub case_memory : {c : Context} {t : Sort} {m : ℕ} {s s' : Scope} {k k' : Known} {x : FixpointCase} {res : Result (Unit {0}) RuleFault} → res ≡ Err faults.Memory → IsCase c t m s k x res s' k'
case_memory q = record { answers = wanting _ _ q }

pub names_refused : {c : Context} {t : Sort} {m : ℕ} {s s' : Scope} {k k' : Known} {us ts : List Sort} {g : Place} {x : FixpointCase} {res : Result (Unit {0}) RuleFault} (e : RuleFault) → us ≡ case_arguments s x.pattern → ts ≡ map (instance 0 m) us → g ≡ x.pattern.constructor.place → IsCaseBound s (names_or_none x.pattern.names) ts g (Err e) → res ≡ Err e → IsCase c t m s k x res s' k'
names_refused {m = m} {s = s} {ts = ts} {x = x} e a t g i q =
    record { answers = failing _ _ _ e (λ r f. values.CaseFails.its_names (subst (λ (us : List Sort). NamesFail s (names_or_none x.pattern.names) us x.pattern.constructor.place r) (sorts_are s 0 m x.pattern a t) (subst (λ (p : Place). NamesFail s (names_or_none x.pattern.names) ts p r) g f))) i.answers q }

pub value_refused : {c : Context} {t : Sort} {m : ℕ} {s s₁ s' : Scope} {k k' : Known} {us ts : List Sort} {g : Place} {b : Bound} {x : FixpointCase} {res : Result (Unit {0}) RuleFault} (e : RuleFault) → us ≡ case_arguments s x.pattern → ts ≡ map (instance 0 m) us → IsCaseBound s (names_or_none x.pattern.names) ts g (Ok b) → s₁ ≡ with_names s b → IsValue {A = Unit {0}} s₁ c t k x.value (Err e) k' → res ≡ Err e → IsCase c t m s k x res s' k'
value_refused {c = c} {t = w} {m = m} {s = s} {k = k} {x = x} e a t i v j q =
    record { answers = failing _ _ _ e (λ r f. values.CaseFails.its_value (case_named s 0 m x.pattern a t i) (subst (λ (u : Scope). values.ValueFails u c w k x.value r) v f)) j.answers q }

pub case_gives : {c : Context} {t : Sort} {m : ℕ} {s s₁ : Scope} {k k' : Known} {us ts : List Sort} {g : Place} {b : Bound} {n : ℕ} {l : Locals} {x : FixpointCase} → us ≡ case_arguments s x.pattern → ts ≡ map (instance 0 m) us → IsCaseBound s (names_or_none x.pattern.names) ts g (Ok b) → s₁ ≡ with_names s b → IsValue {A = Unit {0}} s₁ c t k x.value (Ok tt) k' → n ≡ count s → l ≡ first_locals s₁.locals n → IsCase {A = Unit {0}} c t m s k x (Ok tt) (record s₁ { locals = l }) k'
case_gives {c = c} {t = w} {m = m} {s = s} {s₁ = s₁} {k = k} {k' = k'} {b = b} {x = x} a t i v j n l =
    record {
      answers = subst (λ (u : Scope). values.CaseGives c w m s k x u k') (sym (gone s s₁ n l ∙ ap (left (count s)) v))
          (values.CaseGives.a_case (case_named s 0 m x.pattern a t i) (subst (λ (u : Scope). values.ValuePasses u c w k x.value k') v j.answers));
    }

-- ---- cases one after the other

pub cases_end : {c : Context} {t : Sort} {m : ℕ} {s : Scope} {k : Known} (xs : List FixpointCase) (i : ℕ) → length xs ≤ i → AreCases {A = Unit {0}} c t m s k (drop i xs) (Ok tt) s k
cases_end {c = c} {t = t} {m = m} {s = s} {k = k} xs i l = subst (λ (ys : List FixpointCase). AreCases {A = Unit {0}} c t m s k ys (Ok tt) s k) (sym (left_end xs i l)) (record { answers = values.CasesGive.no_cases })

pub cases_halt : {c : Context} {t : Sort} {m : ℕ} {s s' : Scope} {k k' : Known} {x : FixpointCase} {res : Result (Unit {0}) RuleFault} (xs : List FixpointCase) (i : ℕ) (e : RuleFault) → slice_get xs i ≡ Some x → IsCase {A = Unit {0}} c t m s k x (Err e) s' k' → res ≡ Err e → AreCases c t m s k (drop i xs) res s' k'
cases_halt {c = c} {t = t} {m = m} {s = s} {s' = s'} {k = k} {k' = k'} {x = x} {res = res} xs i e h a q = subst (λ (ys : List FixpointCase). AreCases c t m s k ys res s' k') (sym (left_at xs i x h)) (record { answers = failing _ _ _ e (λ r f. values.AnyCaseFails.this_case f) a.answers q })

cases_on : {c : Context} {t : Sort} {m : ℕ} {s s₁ : Scope} {k k₁ : Known} {x : FixpointCase} {xs : List FixpointCase} → IsCase {A = Unit {0}} c t m s k x (Ok tt) s₁ k₁ → (r : Result (Unit {0}) RuleFault) (s' : Scope) (k' : Known) → AreCases c t m s₁ k₁ xs r s' k' → AreCases c t m s k (x ∷ xs) r s' k'
cases_on i (Ok v) s' k' j = record { answers = values.CasesGive.more_cases i.answers j.answers }
cases_on i (Err e) s' k' j = record { answers = told _ _ e (λ r h. values.AnyCaseFails.later_case i.answers h) j.answers }

pub cases_next : {c : Context} {t : Sort} {m : ℕ} {s s₁ s' : Scope} {k k₁ k' : Known} {x : FixpointCase} {r : Result (Unit {0}) RuleFault} (xs : List FixpointCase) (i : ℕ) → slice_get xs i ≡ Some x → IsCase {A = Unit {0}} c t m s k x (Ok tt) s₁ k₁ → AreCases c t m s₁ k₁ (drop (i + 1) xs) r s' k' → AreCases c t m s k (drop i xs) r s' k'
cases_next {c = c} {t = t} {m = m} {s = s} {s' = s'} {k = k} {k' = k'} {x = x} {r = r} xs i h a j = subst (λ (ys : List FixpointCase). AreCases c t m s k ys r s' k') (sym (left_at xs i x h)) (cases_on a r s' k' j)
