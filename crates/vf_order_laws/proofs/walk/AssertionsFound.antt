-- What the functions of assertions find is what their rules give.
use Rattle.std.proofs.Common.{◌≡◌, refl, sym, ◌∙◌, ap, subst, ℕ, zero, suc, ◌+◌, ◌≤◌, Bool, true, false, List, [], ◌∷◌, length, nat_eq, Option, Some, None, arith, append-nil}
use Rattle.vf_base.specs.declared.place.Place.{Place}
use Rattle.vf_base.specs.declared.refusal.Refusal.{Refusal}
use Rattle.vf_base.specs.declared.rule.Rule.TheVariants as rules
use Rattle.vf_sorts.specs.Sorts.{Sort}
use Rattle.vf_sorts.specs.Unknowns.{IsBelow, IsResolved, Known}
use Rattle.vf_sorts.specs.Unifying.{AreApart, Equates}
use Rattle.vf_sorts.proofs.Learning.{resolved_more}
use Rattle.vf_declared.specs.declared.scope.Scope.{Scope}
use Rattle.vf_syntax.specs.declared.written.Name.{Name}
use Rattle.vf_syntax.specs.GhostExprTree.{GhostExprTree}
use Rattle.vf_syntax.specs.AssertionTree.{PartTree, PartTrees, no_part, more_part, AssertionCaseTree, AssertionCaseTrees, no_assertion_case, more_assertion_case}
use Rattle.vf_syntax.specs.AssertionTree as tree
use Rattle.vf_sorting.specs.declared.context.Context.{Context}
use Rattle.vf_sorting.specs.HasSort.{HasSort}
use Rattle.vf_sorting.specs.IsRefused.{IsRefused}
use Rattle.vf_sorting.specs.Kinds.{bool_sort, datatype_sort, resolved, with_fresh}
use Rattle.vf_sorting.specs.Operators.{place_of}
use Rattle.vf_sorting.specs.Refusals.{refused}
use Rattle.vf_sorting.proofs.Below.{below_more, fresh_length, fresh_more, instance_below}
use Rattle.vf_binding.specs.declared.bound.Bound.{Bound}
use Rattle.vf_binding.specs.Bound.{name_refusal, no_names, with_bound, with_names}
use Rattle.vf_asserting.specs.Leaving.{count}
use Rattle.vf_asserting.specs.Cases.{are_cases, datatype_in, names_or_none}
use Rattle.vf_asserting.specs.Cases as cases
use Rattle.vf_asserting.specs.Gives as gives
use Rattle.vf_asserting.specs.IsRefused as fails
use Rattle.vf_asserting.specs.Switches.{case_sorts, parameters_of, unknown_datatype}
use Rattle.vf_asserting.specs.Switches as switches
use Rattle.vf_asserting.proofs.Steps.{parameters_below}
use Rattle.vf_order_laws.specs.walk.Following.{after}
use Rattle.vf_order_laws.specs.walk.Assertions.{by_datatype, case_names, case_of, cases_of, leaving, names_of, part_of, parts_of, switch_of}
use Rattle.vf_order_laws.proofs.walk.Finding.{Found, found, stopped, Grows, found_after, found_as, found_unless, found_where, grows_on, stays}
use Rattle.vf_order_laws.proofs.walk.SortsFound.{made_found, pass_found, sort_found}
use Rattle.vf_order_laws.proofs.walk.PartsFound.{cell_found, chunk_found, other_told, same_told}

-- ---- the names of cases
names_found : (s : Scope) (b : Bound) (ns : List Name) (ts : List Sort) → length ns ≡ length ts → Found (cases.NamesBind s b ns ts) (cases.AnyNameFails s b ns ts) (names_of s b ns ts)
names_found s b [] [] m = found cases.none_bind
names_found s b [] (t ∷ ts) m = absurd (omega (arith, m))
names_found s b (n ∷ ns) [] m = absurd (omega (arith, m))
names_found s b (n ∷ ns) (t ∷ ts) m =
    found_after {P = λ u. name_refusal s b n ≡ None} {R = λ y. name_refusal s b n ≡ Some y} (found_unless _ (name_refusal s b n) (λ e. e) (λ y e. e))
    (λ u e. found_as (λ b' h. cases.one_binds e h) (λ y h. cases.later_name e h) (names_found s (with_bound b n.text t) ns ts (omega (arith, m))))
    (λ y e. cases.this_name e)

pub case_names_found : (s : Scope) (ns : List Name) (ts : List Sort) (g : Place) → Found (cases.NamesBind s no_names ns ts) (cases.NamesFail s ns ts g) (case_names s ns ts g)
case_names_found s ns ts g =
    found_where (nat_eq (length ns) (length ts))
    (λ e. found_as (λ b h. h) (λ y h. cases.one_of_them (same_told _ _ e) h) (names_found s no_names ns ts (same_told _ _ e)))
    (λ e. stopped (cases.other_count (other_told _ _ e)))

-- ---- unknown sorts that are added
pub fresh_resolved : (k : Known) (n : ℕ) → IsResolved k → IsResolved (with_fresh k n)
fresh_resolved k zero r = subst IsResolved (sym (append-nil k)) r
fresh_resolved k (suc n) r = resolved_more (with_fresh k n) (with_fresh k (suc n)) (ap (with_fresh k) (let q : suc n ≡ n + 1 = omega arith in q) ∙ sym (fresh_more k n)) (fresh_resolved k n r)

pub fresh_below : (k : Known) (n : ℕ) (t : Sort) → IsBelow (length k) t → IsBelow (length (with_fresh k n)) t
fresh_below k n t b = let long = fresh_length k n in below_more (length k) (length (with_fresh k n)) (omega (arith, long)) t b

pub datatype_below : (s : Scope) (k : Known) (d : ℕ) → IsBelow (length (with_fresh k (parameters_of s d))) (unknown_datatype s (length k) d)
datatype_below s k d = subst (λ (m : ℕ). IsBelow m (unknown_datatype s (length k) d)) (sym (fresh_length k (parameters_of s d))) (instance_below (length k) (length k) (parameters_of s d) (omega arith) (datatype_sort d (parameters_of s d)) (parameters_below (length k) (parameters_of s d)))

-- ---- what stands in front of cases
-- a sort may be switched over, of which this is the datatype, if it has one, where a test tells whether the cases are right for it
pub data MaySwitch (s : Scope) (are : ℕ → Bool) (t : Sort) (k : Known) (o : Option ℕ) : ℕ → ℕ → Known → Type 0 where
  may_switch : {k' : Known} {d : ℕ} → o ≡ Some d → are d ≡ true → Equates (with_fresh k (parameters_of s d)) t (unknown_datatype s (length k) d) k' → MaySwitch s are t k o (length k) (parameters_of s d) k'

-- a sort may not be switched over
pub data MayNotSwitch (s : Scope) (p : Place) (are : ℕ → Bool) (t : Sort) (k : Known) (o : Option ℕ) : Refusal → Type 0 where
  no_datatype : o ≡ None → MayNotSwitch s p are t k o (refused rules.Typing p)
  other_cases : {d : ℕ} → o ≡ Some d → are d ≡ false → MayNotSwitch s p are t k o (refused rules.Typing p)
  other_sorts : {d : ℕ} → o ≡ Some d → are d ≡ true → AreApart (with_fresh k (parameters_of s d)) t (unknown_datatype s (length k) d) → MayNotSwitch s p are t k o (refused rules.Typing p)

-- more is known then, and the unknown sorts that stand for type parameters are there
pub record Widens (k : Known) (w : ℕ × ℕ × Known) : Type 0 where
  pub grows : Grows k w.2
  pub wide : w.0 + w.1 ≤ length w.2

pub datatype_found : (s : Scope) (p : Place) (are : ℕ → Bool) (t : Sort) (k : Known) → IsResolved k → IsBelow (length k) t → (o : Option ℕ) → Found (λ w. MaySwitch s are t k o w.0 w.1 w.2 × Widens k w) (MayNotSwitch s p are t k o) (by_datatype s p are t k o)
datatype_found s p are t k r b None = stopped (no_datatype refl)
datatype_found s p are t k r b (Some d) =
    found_where (are d)
    (λ a. found_after (made_found (with_fresh k (parameters_of s d)) t (unknown_datatype s (length k) d) p (fresh_resolved k (parameters_of s d) r) (fresh_below k (parameters_of s d) t b) (datatype_below s k d))
    (λ k' h. found (may_switch refl a h.0, let long = fresh_length k (parameters_of s d) in let more = h.1.longer in record { grows = record { resolved = h.1.resolved; longer = omega (arith, long, more) }; wide = omega (arith, long, more) }))
    (λ y h. subst (MayNotSwitch s p are t k (Some d)) (sym h.1) (other_sorts refl a h.0)))
    (λ a. stopped (other_cases refl a))

-- an expression may be switched over, where a test tells whether the cases are right for its datatype
pub data Switches (s : Scope) (c : Context) (k : Known) (e : GhostExprTree) (are : ℕ → Bool) : ℕ → ℕ → Known → Type 0 where
  switches_over : {k₁ k' : Known} {t : Sort} {first n : ℕ} → HasSort s c k e t k₁ → MaySwitch s are t k₁ (datatype_in (resolved k₁ t)) first n k' → Switches s c k e are first n k'

-- an expression may not be switched over
pub data SwitchFails (s : Scope) (c : Context) (k : Known) (e : GhostExprTree) (are : ℕ → Bool) : Refusal → Type 0 where
  switched : {r : Refusal} → IsRefused s c k e r → SwitchFails s c k e are r
  not_over : {k₁ : Known} {t : Sort} {r : Refusal} → HasSort s c k e t k₁ → MayNotSwitch s (place_of e) are t k₁ (datatype_in (resolved k₁ t)) r → SwitchFails s c k e are r

pub switch_found : (s : Scope) (c : Context) (k : Known) (e : GhostExprTree) (are : ℕ → Bool) → IsResolved k → Found (λ w. Switches s c k e are w.0 w.1 w.2 × Widens k w) (SwitchFails s c k e are) (switch_of s c k e are)
switch_found s c k e are r =
    found_after (sort_found s c k r e)
    (λ v h. found_as (λ w g. (switches_over h.0 g.0, record { grows = grows_on h.1 g.1.grows; wide = g.1.wide })) (λ y g. not_over h.0 g) (datatype_found s (place_of e) are v.0 v.1 h.1.resolved h.2 (datatype_in (resolved v.1 v.0))))
    (λ y h. switched h)

-- the same by the rules of assertions
in_assertion : {s : Scope} {c : Context} {k k' : Known} {e : GhostExprTree} {cs : AssertionCaseTrees} {first n : ℕ} → Switches s c k e (λ d. are_cases s d cs) first n k' → switches.Switches s c k e cs first n k'
in_assertion (switches_over h (may_switch d a q)) = switches.switches h d a q

not_in_assertion : {s : Scope} {c : Context} {k : Known} {e : GhostExprTree} {cs : AssertionCaseTrees} {r : Refusal} → SwitchFails s c k e (λ d. are_cases s d cs) r → switches.SwitchFails s c k e cs r
not_in_assertion (switched h) = switches.switched h
not_in_assertion (not_over h (no_datatype d)) = switches.no_datatype h d
not_in_assertion (not_over h (other_cases d a)) = switches.other_cases h d a
not_in_assertion (not_over h (other_sorts d a q)) = switches.other_sorts h d a q

-- ---- assertions
in_branch : {c : Context} {s : Scope} {k : Known} {xs : PartTrees} → Found (λ v. gives.Gives c s k xs v.0 v.1 × Grows k v.1) (fails.AnyPartFails c s k xs) (parts_of c s k xs) → Found (λ v. gives.BranchGives c s k xs v.0 v.1 × Grows k v.1) (fails.AnyPartFails c s k xs) (after (leaving (count s)) (parts_of c s k xs))
in_branch h = found_after h (λ v g. found (gives.branch g.0, g.1)) (λ y g. g)

mutual
  part_found : (c : Context) (s : Scope) (k : Known) → IsResolved k → (x : PartTree) → Found (λ v. gives.PartGives c s k x v.0 v.1 × Grows k v.1) (fails.PartFails c s k x) (part_of c s k x)
  part_found c s k r (tree.conditional p e xs ys) =
      found_after (pass_found s c k bool_sort (place_of e) r tt e)
      (λ k₁ h. found_after (in_branch (parts_found c s k₁ h.1.resolved xs))
      (λ v a. found_as (λ w b. (gives.conditional h.0 a.0 b.0, grows_on h.1 (grows_on a.1 b.1))) (λ y b. fails.second_branch h.0 a.0 b) (in_branch (parts_found c v.0 v.1 a.1.resolved ys)))
      (λ y a. fails.first_branch h.0 a))
      (λ y h. fails.test h)
  part_found c s k r (tree.switch_ p e cs) =
      found_after (switch_found s c k e (λ d. are_cases s d cs) r)
      (λ w h. found_as (λ v a. (gives.switch_ (in_assertion h.0) a.0, grows_on h.1.grows a.1)) (λ y a. fails.a_case (in_assertion h.0) a) (cases_found c s w.0 w.1 w.2 h.1.grows.resolved cs))
      (λ y h. fails.switch_ (not_in_assertion h))
  part_found c s k r (tree.cell p h e f x) = found_after (cell_found s c k no_names h e f x r) (λ v a. found (gives.cell a.0, a.1)) (λ y a. fails.cell a)
  part_found c s k r (tree.chunk p h n xs ys) = found_after (chunk_found s c k no_names h n xs ys r) (λ v a. found (gives.chunk a.0, a.1)) (λ y a. fails.chunk a)
  part_found c s k r (tree.empty_ p) = found (gives.empty_, stays r)
  part_found c s k r (tree.pure p e) = found_after (pass_found s c k bool_sort (place_of e) r tt e) (λ k' h. found (gives.pure h.0, h.1)) (λ y h. fails.pure h)
  part_found c s k r (tree.group p xs) = found_as (λ v h. (gives.group h.0, h.1)) (λ y h. fails.group h) (parts_found c s k r xs)

  pub parts_found : (c : Context) (s : Scope) (k : Known) → IsResolved k → (xs : PartTrees) → Found (λ v. gives.Gives c s k xs v.0 v.1 × Grows k v.1) (fails.AnyPartFails c s k xs) (parts_of c s k xs)
  parts_found c s k r no_part = found (gives.no_parts, stays r)
  parts_found c s k r (more_part x xs) =
      found_after (part_found c s k r x)
      (λ v h. found_as (λ w g. (gives.more_parts h.0 g.0, grows_on h.1 g.1)) (λ y g. fails.later_part h.0 g) (parts_found c v.0 v.1 h.1.resolved xs))
      (λ y h. fails.this_part h)

  case_found : (c : Context) (s : Scope) (first n : ℕ) (k : Known) → IsResolved k → (x : AssertionCaseTree) → Found (λ v. gives.CaseGives c s first n k x v.0 v.1 × Grows k v.1) (fails.CaseFails c s first n k x) (case_of c s first n k x)
  case_found c s first n k r (tree.assertion_case p x xs) =
      found_after (case_names_found s (names_or_none x.names) (case_sorts s first n x) x.constructor.place)
      (λ b h. found_after (parts_found c (with_names s b) k r xs) (λ v g. found (gives.a_case h g.0, g.1)) (λ y g. fails.body h g))
      (λ y h. fails.name_ h)

  cases_found : (c : Context) (s : Scope) (first n : ℕ) (k : Known) → IsResolved k → (xs : AssertionCaseTrees) → Found (λ v. gives.CasesGive c s first n k xs v.0 v.1 × Grows k v.1) (fails.AnyCaseFails c s first n k xs) (cases_of c s first n k xs)
  cases_found c s first n k r no_assertion_case = found (gives.no_cases, stays r)
  cases_found c s first n k r (more_assertion_case x xs) =
      found_after (case_found c s first n k r x)
      (λ v h. found_as (λ w g. (gives.more_cases h.0 g.0, grows_on h.1 g.1)) (λ y g. fails.later_case h.0 g) (cases_found c v.0 first n v.1 h.1.resolved xs))
      (λ y h. fails.this_case h)
