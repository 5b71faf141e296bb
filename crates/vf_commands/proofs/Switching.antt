-- Answers for what stands in front of the cases of a `switch`, from the answers for its parts.
use Rattle.std.proofs.Common.{◌≡◌, ℕ, ◌+◌, ◌≤◌, ◌<◌, ◌^◌, Bool, true, false, List, [], ◌∷◌, ◌++◌, length, drop, Option, Some, None, slice_get, Result, Ok, Err, sym, ◌∙◌, ap, subst, arith}
use Rattle.vf_base.specs.declared.place.Place.{Place}
use Rattle.vf_base.specs.declared.refusal.RuleFault.{RuleFault}
use Rattle.vf_base.specs.declared.refusal.RuleFault.TheVariants as faults
use Rattle.vf_base.specs.declared.rule.Rule.TheVariants as rules
use Rattle.vf_sorts.specs.Sorts.{Sort}
use Rattle.vf_sorts.specs.Unknowns.{Known, instance}
use Rattle.vf_sorts.specs.Unifying.{Equates}
use Rattle.vf_declared.specs.declared.scope.Scope.{Scope}
use Rattle.vf_syntax.specs.GhostExprTree.{GhostExprTree}
use Rattle.vf_syntax.specs.GhostCommandTree.{CommandCaseTree, CommandCaseTrees, command_case_list}
use Rattle.vf_sorting.specs.declared.context.Context.{Context}
use Rattle.vf_sorting.specs.Answers.{IsApart, IsEquated, IsSorted, Tells}
use Rattle.vf_sorting.specs.Kinds.{datatype_sort, resolved, with_fresh}
use Rattle.vf_sorting.specs.Operators.{place_of}
use Rattle.vf_sorting.specs.Refusals.{refused}
use Rattle.vf_sorting.proofs.Below.{fresh_length}
use Rattle.vf_sorting.proofs.Lists.{left_at, left_end}
use Rattle.vf_binding.proofs.Steps.{failing, refusing, wanting}
use Rattle.vf_asserting.specs.declared.switches.Switched.{Switched}
use Rattle.vf_asserting.specs.Cases.{case_number, datatype_in, with_number}
use Rattle.vf_asserting.specs.Switches.{parameters_of, unknown_datatype}
use Rattle.vf_asserting.proofs.Lists.{behind, behind_none, behind_one}
use Rattle.vf_asserting.proofs.Steps.{over, wanting_is}
use Rattle.vf_commands.specs.Switches as switched
use Rattle.vf_commands.specs.Switches.{are_cases, case_numbers, pattern_in}
use Rattle.vf_commands.specs.Answers.{IsSwitch}

-- ---- the constructors that cases are for
pub numbers_at : (s : Scope) (d : ℕ) (xs : List CommandCaseTree) (i : ℕ) (x : CommandCaseTree) (ns : List ℕ) (o : Option ℕ) → slice_get xs i ≡ Some x → case_number s d (pattern_in x) ≡ o → case_numbers s d (command_case_list xs) ≡ behind ns (case_numbers s d (command_case_list (drop i xs))) → case_numbers s d (command_case_list xs) ≡ behind ns (with_number o (case_numbers s d (command_case_list (drop (i + 1) xs))))
numbers_at s d xs i x ns o h e w =
    w ∙ ap (λ ys. behind ns (case_numbers s d (command_case_list ys))) (left_at xs i x h)
    ∙ ap (λ (o : Option ℕ). behind ns (with_number o (case_numbers s d (command_case_list (drop (i + 1) xs))))) e

pub numbers_on : (s : Scope) (d : ℕ) (xs : List CommandCaseTree) (i : ℕ) (x : CommandCaseTree) (ns ms : List ℕ) (n : ℕ) → slice_get xs i ≡ Some x → case_number s d (pattern_in x) ≡ Some n → ms ≡ ns ++ n ∷ [] → case_numbers s d (command_case_list xs) ≡ behind ns (case_numbers s d (command_case_list (drop i xs))) → case_numbers s d (command_case_list xs) ≡ behind ms (case_numbers s d (command_case_list (drop (i + 1) xs)))
numbers_on s d xs i x ns ms n h e q w =
    numbers_at s d xs i x ns (Some n) h e w
    ∙ behind_one ns n (case_numbers s d (command_case_list (drop (i + 1) xs)))
    ∙ ap (λ vs. behind vs (case_numbers s d (command_case_list (drop (i + 1) xs)))) (sym q)

pub numbers_stop : (s : Scope) (d : ℕ) (xs : List CommandCaseTree) (i : ℕ) (x : CommandCaseTree) (ns : List ℕ) → slice_get xs i ≡ Some x → case_number s d (pattern_in x) ≡ None → case_numbers s d (command_case_list xs) ≡ behind ns (case_numbers s d (command_case_list (drop i xs))) → None ≡ case_numbers s d (command_case_list xs)
numbers_stop s d xs i x ns h e w = sym (numbers_at s d xs i x ns None h e w)

pub numbers_end : (s : Scope) (d : ℕ) (xs : List CommandCaseTree) (i : ℕ) (ns : List ℕ) → length xs ≤ i → case_numbers s d (command_case_list xs) ≡ behind ns (case_numbers s d (command_case_list (drop i xs))) → Some ns ≡ case_numbers s d (command_case_list xs)
numbers_end s d xs i ns l w = sym (w ∙ ap (λ ys. behind ns (case_numbers s d (command_case_list ys))) (left_end xs i l) ∙ ap Some (behind_none ns))

-- ---- what stands in front of cases
pub switch_memory : {s : Scope} {c : Context} {k k' : Known} {e : GhostExprTree} {cs : CommandCaseTrees} {res : Result Switched RuleFault} → res ≡ Err faults.Memory → IsSwitch s c k e cs res k'
switch_memory q = record { answers = wanting _ _ q }

pub switch_fails : {s : Scope} {c : Context} {k k' : Known} {x : GhostExprTree} {cs : CommandCaseTrees} {res : Result Switched RuleFault} (e : RuleFault) → IsSorted s c k x (Err e) k' → res ≡ Err e → IsSwitch s c k x cs res k'
switch_fails e i q = record { answers = failing _ _ _ e (λ r h. switched.switched h) i.answers q }

pub switch_plain : {s : Scope} {c : Context} {k k₁ k' : Known} {x : GhostExprTree} {cs : CommandCaseTrees} {t u : Sort} {o : Option ℕ} {p : Place} {e : RuleFault} → IsSorted s c k x (Ok t) k₁ → u ≡ resolved k₁ t → o ≡ datatype_in u → o ≡ None → p ≡ place_of x → e ≡ faults.Refused (refused rules.Typing p) → IsSwitch s c k x cs (Err e) k'
switch_plain {k₁ = k₁} i v w y z q = record { answers = refusing _ _ _ (q ∙ ap (λ p. faults.Refused (refused rules.Typing p)) z) (switched.no_datatype i.answers.2 (over k₁ _ v w y)) }

pub switch_other : {s : Scope} {c : Context} {k k₁ k' : Known} {x : GhostExprTree} {cs : CommandCaseTrees} {t u : Sort} {o : Option ℕ} {d : ℕ} {p : Place} {y : Bool} {e : RuleFault} → IsSorted s c k x (Ok t) k₁ → u ≡ resolved k₁ t → o ≡ datatype_in u → o ≡ Some d → y ≡ are_cases s d cs → y ≡ false → p ≡ place_of x → e ≡ faults.Refused (refused rules.Typing p) → IsSwitch s c k x cs (Err e) k'
switch_other {k₁ = k₁} i v w y l m z q = record { answers = refusing _ _ _ (q ∙ ap (λ p. faults.Refused (refused rules.Typing p)) z) (switched.other_cases i.answers.2 (over k₁ _ v w y) (sym l ∙ m)) }

pub switch_apart : {s : Scope} {c : Context} {k k₁ j k' : Known} {x : GhostExprTree} {cs : CommandCaseTrees} {t u w v : Sort} {o : Option ℕ} {d n first : ℕ} {p : Place} {y : Bool} {res : Result Switched RuleFault} (e : RuleFault) → IsSorted s c k x (Ok t) k₁ → u ≡ resolved k₁ t → o ≡ datatype_in u → o ≡ Some d → y ≡ are_cases s d cs → y ≡ true → n ≡ parameters_of s d → w ≡ datatype_sort d n → first ≡ length k₁ → j ≡ with_fresh k₁ n → v ≡ instance first n w → p ≡ place_of x → IsEquated {A = Unit {0}} j t v p (Err e) k' → res ≡ Err e → IsSwitch s c k x cs res k'
switch_apart {s = s} {c = c} {k = k} {k₁ = k₁} {j = j} {k' = k'} {x = x} {cs = cs} {t = t} {w = w} {v = v} {d = d} {n = n} {first = first} {p = p} e i q a b l m g h f r o z y res =
    record {
      answers = failing _ _ (IsApart (with_fresh k₁ (parameters_of s d)) t (unknown_datatype s (length k₁) d) (place_of x)) e (λ r h. subst (switched.SwitchFails s c k x cs) (sym h.1) (switched.other_sorts i.answers.2 (over k₁ _ q a b) (sym l ∙ m) h.0))
          (subst (λ (g : Place). Tells (IsApart (with_fresh k₁ (parameters_of s d)) t (unknown_datatype s (length k₁) d) g) e) z
          (subst (λ (v : Sort). Tells (IsApart (with_fresh k₁ (parameters_of s d)) t v p) e) (wanting_is s k₁ n d first w v g f h o)
          (subst (λ (j : Known). Tells (IsApart j t v p) e) (r ∙ ap (with_fresh k₁) g) y.answers))) res;
    }

pub switch_passes : {s : Scope} {c : Context} {k k₁ j k' : Known} {x : GhostExprTree} {cs : CommandCaseTrees} {t u w v : Sort} {o : Option ℕ} {d n first : ℕ} {p : Place} {y : Bool} → IsSorted s c k x (Ok t) k₁ → u ≡ resolved k₁ t → o ≡ datatype_in u → o ≡ Some d → y ≡ are_cases s d cs → y ≡ true → n ≡ parameters_of s d → w ≡ datatype_sort d n → first ≡ length k₁ → j ≡ with_fresh k₁ n → first + n < 2 ^ 64 → v ≡ instance first n w → IsEquated {A = Unit {0}} j t v p (Ok tt) k' → IsSwitch s c k x cs (Ok (record { first = first; count = n })) k'
switch_passes {s = s} {c = c} {k = k} {k₁ = k₁} {j = j} {k' = k'} {x = x} {cs = cs} {t = t} {w = w} {v = v} {d = d} {n = n} {first = first} i q a b l m g h f r z o y =
    let long : length j ≡ length k₁ + n = ap length r ∙ fresh_length k₁ n in
    let e = y.answers.long in let le = i.answers.0 in
    record {
      answers = (
        z,
        (
          omega (arith, long, e, le),
          subst (λ (m : ℕ). switched.Switches s c k x cs m n k') (sym f)
              (subst (λ (m : ℕ). switched.Switches s c k x cs (length k₁) m k') (sym g)
              (switched.switches i.answers.2 (over k₁ _ q a b) (sym l ∙ m)
              (subst (λ (v : Sort). Equates (with_fresh k₁ (parameters_of s d)) t v k') (wanting_is s k₁ n d first w v g f h o)
              (subst (λ (j : Known). Equates j t v k') (r ∙ ap (with_fresh k₁) g) y.answers)))),
        ),
      );
    }
