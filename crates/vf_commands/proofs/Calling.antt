-- Answers for calls from the answers for their arguments.
use Rattle.std.proofs.Common.{◌≡◌, ◌≢◌, ℕ, ◌+◌, ◌≤◌, Bool, true, false, List, [], ◌∷◌, ◌++◌, length, take, map, Some, slice_get, Result, Ok, Err, IsTrue, ◌↔◌, refl, sym, ◌∙◌, ap, subst, arith}
use Rattle.std.specs.Prelude.{nat_eq}
use Rattle.std.proofs.lemmas.Bool.Decides.{nat_tests}
use Rattle.vf_base.specs.declared.place.Place.{Place}
use Rattle.vf_base.specs.declared.refusal.RuleFault.{RuleFault}
use Rattle.vf_base.specs.declared.refusal.RuleFault.TheVariants as faults
use Rattle.vf_base.specs.declared.rule.Rule.TheVariants as rules
use Rattle.vf_sorts.specs.Sorts.{Sort}
use Rattle.vf_sorts.specs.Unknowns.{AreBelow, IsBelow, Known, instance}
use Rattle.vf_declared.specs.declared.ctype.CType.{CType}
use Rattle.vf_declared.specs.declared.scope.Scope.{Scope}
use Rattle.vf_syntax.specs.GhostExprTree.{GhostExprTree, GhostExprTrees, ghost_expr_list}
use Rattle.vf_sorting.specs.declared.context.Context.{Context}
use Rattle.vf_sorting.specs.Answers.{AreChecked, Tells}
use Rattle.vf_sorting.specs.HasSort.{ArePassed}
use Rattle.vf_sorting.specs.IsRefused.{AnyFails}
use Rattle.vf_sorting.specs.Kinds.{int_sort, with_fresh}
use Rattle.vf_sorting.specs.Operators.{count}
use Rattle.vf_sorting.specs.Refusals.{refused}
use Rattle.vf_sorting.specs.Schemes.{names_predicate, sort_of_type}
use Rattle.vf_sorting.proofs.Below.{fresh_length}
use Rattle.vf_sorting.proofs.Steps as steps
use Rattle.vf_sorting.proofs.Wholes as wholes
use Rattle.vf_binding.proofs.Lists.{put_all, put_more}
use Rattle.vf_binding.proofs.Steps.{failing, refusing, wanting}
use Rattle.vf_commands.specs.declared.callee.Callee.{Callee}
use Rattle.vf_commands.specs.Calls as calls
use Rattle.vf_commands.specs.Calls.{callee_of}
use Rattle.vf_commands.specs.Answers.{IsCalled}

-- ---- the sorts of types
pub types_more : (now next : List Sort) (xs : List CType) (i : ℕ) (x : CType) (t : Sort) → slice_get xs i ≡ Some x → t ≡ sort_of_type x → now ≡ map sort_of_type (take i xs) → next ≡ now ++ t ∷ [] → next ≡ map sort_of_type (take (i + 1) xs)
types_more now next xs i x t h e q p = put_more sort_of_type [] now next xs i x h q (p ∙ ap (λ (v : Sort). now ++ v ∷ []) e)

pub types_all : (now : List Sort) (xs : List CType) (i : ℕ) → length xs ≤ i → now ≡ map sort_of_type (take i xs) → now ≡ map sort_of_type xs
types_all now xs i l q = put_all sort_of_type [] now xs i l q

-- ---- arguments
pub passed_memory : {s : Scope} {c : Context} {k k' : Known} {first n : ℕ} {ts : List Sort} {xs : GhostExprTrees} {res : Result (Unit {0}) RuleFault} → res ≡ Err faults.Memory → AreChecked s c k first n ts xs res k'
passed_memory q = steps.passed_memory q

pub argument_below : (k : Known) (first : ℕ) (g : Callee) (i : ℕ) (t w : Sort) → AreBelow first g.arguments → slice_get g.arguments i ≡ Some t → w ≡ instance first g.parameters t → first + g.parameters ≤ length k → IsBelow (length k) w
argument_below k first g i t w b e q l = wholes.argument_below k first (record { parameters = g.parameters; arguments = g.arguments; «result» = int_sort }) i t w (b, tt) e q l

-- ---- calls
-- as many arguments as a list has expressions
counted : (xs : List GhostExprTree) → count (ghost_expr_list xs) ≡ length xs
counted [] = refl
counted (x ∷ xs) = let r = counted xs in omega (arith, r)

same_count : (n : ℕ) (xs : List GhostExprTree) → n ≡ length xs → nat_eq n (count (ghost_expr_list xs)) ≡ true
same_count n xs q = let r = counted xs in let same : n ≡ count (ghost_expr_list xs) = q ∙ sym r in grind (arith, nat_tests)

other_count : (n : ℕ) (xs : List GhostExprTree) → n ≢ length xs → nat_eq n (count (ghost_expr_list xs)) ≡ false
other_count n xs q = let r = counted xs in let other : n ≢ count (ghost_expr_list xs) = (λ e. q (e ∙ r)) in grind (arith, nat_tests)

pub call_memory : {s : Scope} {c : Context} {k k' : Known} {p : Place} {f : List ℕ} {xs : GhostExprTrees} {res : Result (Unit {0}) RuleFault} → res ≡ Err faults.Memory → IsCalled s c k p f xs res k'
call_memory q = record { answers = wanting _ _ q }

pub local_called : {s : Scope} {c : Context} {k : Known} {p : Place} {f : List ℕ} {xs : GhostExprTrees} {y : Bool} {e : RuleFault} → y ≡ names_predicate s k f → y ≡ true → e ≡ faults.Refused (refused rules.Typing p) → IsCalled {A = Unit {0}} s c k p f xs (Err e) k
local_called n y q = record { answers = refusing _ _ _ q (calls.called_local (sym n ∙ y)) }

pub callee_fails : {s : Scope} {c : Context} {k k' : Known} {p : Place} {f : List ℕ} {xs : GhostExprTrees} {y : Bool} {res : Result (Unit {0}) RuleFault} (e : RuleFault) → y ≡ names_predicate s k f → y ≡ false → Tells (λ r. callee_of s c.own p f ≡ Err r) e → res ≡ Err e → IsCalled s c k p f xs res k'
callee_fails e n y a q = record { answers = failing _ _ _ e (λ r h. calls.no_lemma (sym n ∙ y) h) a q }

pub call_stray : {s : Scope} {c : Context} {k : Known} {p : Place} {f : List ℕ} {xs : GhostExprTrees} {g : Callee} {y b : Bool} {e : RuleFault} → y ≡ names_predicate s k f → y ≡ false → callee_of s c.own p f ≡ Ok g → (IsTrue b ↔ AreBelow (length k) g.arguments) → b ≡ false → e ≡ faults.Refused (refused rules.Typing p) → IsCalled {A = Unit {0}} s c k p f xs (Err e) k
call_stray n y a w b q = record { answers = refusing _ _ _ q (calls.stray (sym n ∙ y) a (λ h. let yes_is = w.1 h in absurd cc)) }

pub count_fails : {s : Scope} {c : Context} {k : Known} {p : Place} {f : List ℕ} {g : Callee} {y b : Bool} {e : RuleFault} (xs : List GhostExprTree) → y ≡ names_predicate s k f → y ≡ false → callee_of s c.own p f ≡ Ok g → (IsTrue b ↔ AreBelow (length k) g.arguments) → b ≡ true → length g.arguments ≢ length xs → e ≡ faults.Refused (refused rules.Typing p) → IsCalled {A = Unit {0}} s c k p f (ghost_expr_list xs) (Err e) k
count_fails {g = g} xs n y a w b l q = record { answers = refusing _ _ _ q (calls.other_count (sym n ∙ y) a (w.0 b) (other_count (length g.arguments) xs l)) }

pub arguments_fail : {s : Scope} {c : Context} {k j k' : Known} {p : Place} {f : List ℕ} {g : Callee} {y b : Bool} {first : ℕ} {res : Result (Unit {0}) RuleFault} (xs : List GhostExprTree) (e : RuleFault) → y ≡ names_predicate s k f → y ≡ false → callee_of s c.own p f ≡ Ok g → (IsTrue b ↔ AreBelow (length k) g.arguments) → b ≡ true → length g.arguments ≡ length xs → first ≡ length k → j ≡ with_fresh k g.parameters → AreChecked {A = Unit {0}} s c j first g.parameters g.arguments (ghost_expr_list xs) (Err e) k' → res ≡ Err e → IsCalled s c k p f (ghost_expr_list xs) res k'
arguments_fail {s = s} {c = c} {k = k} {g = g} {first = first} xs e n y a v b l f q i w =
    record { answers = failing _ _ _ e (λ r h. calls.argument (sym n ∙ y) a (v.0 b) (same_count (length g.arguments) xs l) (subst (λ (m : ℕ). AnyFails s c (with_fresh k g.parameters) m g.parameters g.arguments (ghost_expr_list xs) r) f (subst (λ (u : Known). AnyFails s c u first g.parameters g.arguments (ghost_expr_list xs) r) q h))) i.answers w }

pub call_passes : {s : Scope} {c : Context} {k j k' : Known} {p : Place} {f : List ℕ} {xs : GhostExprTrees} {g : Callee} {y b : Bool} {first : ℕ} → y ≡ names_predicate s k f → y ≡ false → callee_of s c.own p f ≡ Ok g → (IsTrue b ↔ AreBelow (length k) g.arguments) → b ≡ true → first ≡ length k → j ≡ with_fresh k g.parameters → AreChecked {A = Unit {0}} s c j first g.parameters g.arguments xs (Ok tt) k' → IsCalled {A = Unit {0}} s c k p f xs (Ok tt) k'
call_passes {s = s} {c = c} {k = k} {j = j} {k' = k'} {xs = xs} {g = g} {first = first} n y a w b m q i =
    let long : length j ≡ length k + g.parameters = ap length q ∙ fresh_length k g.parameters in
    let le = i.answers.0 in
    record { answers = (omega (arith, long, le), calls.calls (sym n ∙ y) a (w.0 b) (subst (λ (u : ℕ). ArePassed s c (with_fresh k g.parameters) u g.parameters g.arguments xs k') m (subst (λ (u : Known). ArePassed s c u first g.parameters g.arguments xs k') q i.answers.1))) }

pub callee_below : (k : Known) (g : Callee) (first : ℕ) (b : Bool) → (IsTrue b ↔ AreBelow (length k) g.arguments) → b ≡ true → first ≡ length k → AreBelow first g.arguments
callee_below k g first b w h q = subst (λ (m : ℕ). AreBelow m g.arguments) (sym q) (w.0 h)
