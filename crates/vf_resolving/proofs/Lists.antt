-- Parts, branches, names and slots, one by one.
use Rattle.std.proofs.Common.{◌≡◌, ℕ, zero, suc, ◌+◌, List, [], ◌∷◌, ◌++◌, drop, Some, slice_get, refl, sym, ap, ◌∙◌, arith}
use Rattle.std.specs.Prelude.{Bool, if◌then◌else◌}
use Rattle.std.proofs.lemmas.Bool.{eq-eqb, ne_eqb}
use Rattle.vf_sorts.specs.Sorts.{Sort}
use Rattle.vf_syntax.specs.AssertionTree as written
use Rattle.vf_syntax.specs.AssertionTree.{assertion_case_list, part_list}
use Rattle.vf_sorting.proofs.Lists.{left_at}
use Rattle.vf_resolved.specs.AssertionTree.{BranchTree, PartTree}
use Rattle.vf_resolved.specs.declared.pattern.Slot.{Slot}
use Rattle.vf_resolved_parts.specs.Names.{slot_for}
use Rattle.vf_resolving.specs.Standings.{Around, Standing, known_sort, slots_for, with_name, with_sorts}
use Rattle.vf_resolving.specs.Assertions.{BranchResolved, BranchesResolved, PartResolved, PartsResolved, branch_in_front, case_resolved, cases_resolved, part_in_front, part_resolved, parts_resolved}
use Rattle.vf_resolving.specs.Cases.{place_among}
use Rattle.vf_resolving.specs.declared.cases.Switched.{Switched}

append_one : {A : Type 0} (xs ys : List A) (x : A) → (xs ++ x ∷ []) ++ ys ≡ xs ++ x ∷ ys
append_one [] ys x = refl
append_one (y ∷ xs) ys x = ap (λ zs. y ∷ zs) (append_one xs ys x)

-- ---- parts
-- parts in front of others
abbrev pub put_parts : List PartTree → PartsResolved → PartsResolved
put_parts xs r = record { parts = xs ++ r.parts; standing = r.standing }

one_part : (xs : List PartTree) (y : PartTree) (r : PartsResolved) → put_parts (xs ++ y ∷ []) r ≡ put_parts xs (record { parts = y ∷ r.parts; standing = r.standing })
one_part xs y r = λ i. record { parts = append_one xs r.parts y i; standing = r.standing }

-- one part more
pub more_parts : (a : Around) (s s' : Standing) (xs : List written.PartTree) (i : ℕ) (x : written.PartTree) (before : List PartTree) (y : PartTree) (w : PartsResolved)
    → slice_get xs i ≡ Some x → part_resolved a s x ≡ record { part = y; standing = s' }
    → put_parts before (parts_resolved a s (part_list (drop i xs))) ≡ w
    → put_parts (before ++ y ∷ []) (parts_resolved a s' (part_list (drop (i + 1) xs))) ≡ w
more_parts a s s' xs i x before y w e is h =
    one_part before y (parts_resolved a s' (part_list (drop (i + 1) xs)))
    ∙ sym (ap (λ (z : PartResolved). put_parts before (part_in_front z (parts_resolved a z.standing (part_list (drop (i + 1) xs))))) is)
    ∙ sym (ap (λ ys. put_parts before (parts_resolved a s (part_list ys))) (left_at xs i x e))
    ∙ h

-- ---- branches
-- branches in front of others
abbrev pub put_branches : List BranchTree → BranchesResolved → BranchesResolved
put_branches xs r = record { branches = xs ++ r.branches; standing = r.standing }

one_branch : (xs : List BranchTree) (y : BranchTree) (r : BranchesResolved) → put_branches (xs ++ y ∷ []) r ≡ put_branches xs (record { branches = y ∷ r.branches; standing = r.standing })
one_branch xs y r = λ i. record { branches = append_one xs r.branches y i; standing = r.standing }

-- one branch more
pub more_branches : (a : Around) (o : Switched) (s s' : Standing) (xs : List written.AssertionCaseTree) (i : ℕ) (x : written.AssertionCaseTree) (before : List BranchTree) (y : BranchTree) (w : BranchesResolved)
    → slice_get xs i ≡ Some x → case_resolved a o s x ≡ record { branch = y; standing = s' }
    → put_branches before (cases_resolved a o s (assertion_case_list (drop i xs))) ≡ w
    → put_branches (before ++ y ∷ []) (cases_resolved a o s' (assertion_case_list (drop (i + 1) xs))) ≡ w
more_branches a o s s' xs i x before y w e is h =
    one_branch before y (cases_resolved a o s' (assertion_case_list (drop (i + 1) xs)))
    ∙ sym (ap (λ (z : BranchResolved). put_branches before (branch_in_front z (cases_resolved a o z.standing (assertion_case_list (drop (i + 1) xs))))) is)
    ∙ sym (ap (λ ys. put_branches before (cases_resolved a o s (assertion_case_list ys))) (left_at xs i x e))
    ∙ h

-- ---- names
-- one name more
pub more_names : (a : Around) (s s' : Standing) (ts : List Sort) (i : ℕ) (t t' : Sort) (w : Standing)
    → slice_get ts i ≡ Some t → t' ≡ known_sort a t → s' ≡ with_name t' s
    → with_sorts a (drop i ts) s ≡ w → with_sorts a (drop (i + 1) ts) s' ≡ w
more_names a s s' ts i t t' w e is f h =
    ap (with_sorts a (drop (i + 1) ts)) (f ∙ ap (λ u. with_name u s) is) ∙ sym (ap (λ us. with_sorts a us s) (left_at ts i t e)) ∙ h

-- one slot more
pub more_slots : (a : Around) (n : ℕ) (ts : List Sort) (i : ℕ) (t t' : Sort) (before : List Slot) (k : ℕ) (w : List Slot)
    → slice_get ts i ≡ Some t → t' ≡ known_sort a t → k ≡ n + i
    → before ++ slots_for a (n + i) (drop i ts) ≡ w
    → (before ++ slot_for k t' ∷ []) ++ slots_for a (n + (i + 1)) (drop (i + 1) ts) ≡ w
more_slots a n ts i t t' before k w e is at h =
    let step : n + (i + 1) ≡ suc (n + i) = omega arith in
    ap (λ m. (before ++ slot_for k t' ∷ []) ++ slots_for a m (drop (i + 1) ts)) step
    ∙ ap (λ m. (before ++ slot_for m t' ∷ []) ++ slots_for a (suc (n + i)) (drop (i + 1) ts)) at
    ∙ ap (λ u. (before ++ slot_for (n + i) u ∷ []) ++ slots_for a (suc (n + i)) (drop (i + 1) ts)) is
    ∙ append_one before (slots_for a (suc (n + i)) (drop (i + 1) ts)) (slot_for (n + i) (known_sort a t))
    ∙ sym (ap (λ us. before ++ slots_for a (n + i) us) (left_at ts i t e))
    ∙ h

-- ---- places among numbers
-- the number stands here
pub place_here : (ms : List ℕ) (i m n : ℕ) → slice_get ms i ≡ Some m → m ≡ n → place_among ms n ≡ i + place_among (drop i ms) n → i ≡ place_among ms n
place_here ms i m n e q h =
    let none : i + 0 ≡ i = omega arith in
    sym (h ∙ ap (λ xs. i + place_among xs n) (left_at ms i m e) ∙ ap (λ (b : Bool). i + (if b then 0 else suc (place_among (drop (i + 1) ms) n))) (eq-eqb m n q) ∙ none)

-- the number stands behind or nowhere
pub place_on : (ms : List ℕ) (i m n : ℕ) → slice_get ms i ≡ Some m → (m ≡ n → ⊥) → place_among ms n ≡ i + place_among (drop i ms) n → place_among ms n ≡ (i + 1) + place_among (drop (i + 1) ms) n
place_on ms i m n e q h =
    let step : i + suc (place_among (drop (i + 1) ms) n) ≡ (i + 1) + place_among (drop (i + 1) ms) n = omega arith in
    h ∙ ap (λ xs. i + place_among xs n) (left_at ms i m e) ∙ ap (λ (b : Bool). i + (if b then 0 else suc (place_among (drop (i + 1) ms) n))) (ne_eqb m n q) ∙ step
