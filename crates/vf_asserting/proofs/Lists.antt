-- Lists that a loop goes over.
use Rattle.std.proofs.Common.{◌≡◌, ℕ, zero, suc, ◌+◌, ◌≤◌, ◌<◌, Bool, true, false, List, [], ◌∷◌, ◌++◌, length, take, drop, map, Option, Some, None, slice_get, refl, sym, ap, ◌∙◌, arith, append_assoc}
use Rattle.std.specs.Prelude.{◌&&◌, not}
use Rattle.vf_sorts.specs.Sorts.{Sort}
use Rattle.vf_sorts.specs.Unknowns.{instance}
use Rattle.vf_declared.specs.declared.scope.Scope.{Scope}
use Rattle.vf_declared.specs.Scopes.{has}
use Rattle.vf_declared.proofs.Loops as loops
use Rattle.vf_syntax.specs.AssertionTree.{PartTree, part_list, part_nodes, part_nodes_all, AssertionCaseTree, assertion_case_list, assertion_case_nodes, assertion_case_nodes_all}
use Rattle.vf_sorting.proofs.Lists.{left_at, left_end}
use Rattle.vf_binding.proofs.Lists.{put_all, put_more}
use Rattle.vf_asserting.specs.Cases.{are_distinct, case_number, case_numbers, pattern_in, with_number}

-- an item of a list has fewer nodes than the list
pub part_smaller : (xs : List PartTree) (i : ℕ) (x : PartTree) → slice_get xs i ≡ Some x → part_nodes x < part_nodes_all (part_list xs)
part_smaller [] i x h = absurd cc
part_smaller (y ∷ xs) zero x h = let e : y ≡ x = cc in rw (sym e) (omega arith)
part_smaller (y ∷ xs) (suc i) x h = let rest = part_smaller xs i x h in omega (arith, rest)

-- the same
pub case_smaller : (xs : List AssertionCaseTree) (i : ℕ) (x : AssertionCaseTree) → slice_get xs i ≡ Some x → assertion_case_nodes x < assertion_case_nodes_all (assertion_case_list xs)
case_smaller [] i x h = absurd cc
case_smaller (y ∷ xs) zero x h = let e : y ≡ x = cc in rw (sym e) (omega arith)
case_smaller (y ∷ xs) (suc i) x h = let rest = case_smaller xs i x h in omega (arith, rest)

-- ---- a number among some
pub has_end : (ns : List ℕ) (i n : ℕ) (whole : Bool) → length ns ≤ i → has (drop i ns) n ≡ whole → false ≡ whole
has_end ns i n whole l q = sym (ap (λ ms. has ms n) (left_end ns i l)) ∙ q

pub has_here : (ns : List ℕ) (i m n : ℕ) (whole : Bool) → slice_get ns i ≡ Some m → m ≡ n → has (drop i ns) n ≡ whole → true ≡ whole
has_here ns i m n whole h e q = sym (loops.has_here ns i m n h e) ∙ q

-- ---- numbers of which none stands twice
pub distinct_end : (ns : List ℕ) (i : ℕ) → length ns ≤ i → are_distinct ns ≡ are_distinct (drop i ns) → true ≡ are_distinct ns
distinct_end ns i l q = sym (q ∙ ap are_distinct (left_end ns i l))

distinct_at : (ns : List ℕ) (i n : ℕ) (y : Bool) → slice_get ns i ≡ Some n → y ≡ has (drop (i + 1) ns) n → are_distinct ns ≡ are_distinct (drop i ns) → are_distinct ns ≡ (not y && are_distinct (drop (i + 1) ns))
distinct_at ns i n y h v q = q ∙ ap are_distinct (left_at ns i n h) ∙ ap (λ (b : Bool). not b && are_distinct (drop (i + 1) ns)) (sym v)

pub distinct_stop : (ns : List ℕ) (i n : ℕ) (y : Bool) → slice_get ns i ≡ Some n → y ≡ has (drop (i + 1) ns) n → y ≡ true → are_distinct ns ≡ are_distinct (drop i ns) → false ≡ are_distinct ns
distinct_stop ns i n y h v t q = sym (distinct_at ns i n y h v q ∙ ap (λ (b : Bool). not b && are_distinct (drop (i + 1) ns)) t)

pub distinct_on : (ns : List ℕ) (i n : ℕ) (y : Bool) → slice_get ns i ≡ Some n → y ≡ has (drop (i + 1) ns) n → y ≡ false → are_distinct ns ≡ are_distinct (drop i ns) → are_distinct ns ≡ are_distinct (drop (i + 1) ns)
distinct_on ns i n y h v t q = distinct_at ns i n y h v q ∙ ap (λ (b : Bool). not b && are_distinct (drop (i + 1) ns)) t

-- ---- the constructors that cases are for
-- numbers behind others
abbrev pub behind : List ℕ → Option (List ℕ) → Option (List ℕ)
behind ns None = None
behind ns (Some ms) = Some (ns ++ ms)

pub behind_one : (ns : List ℕ) (n : ℕ) (r : Option (List ℕ)) → behind ns (with_number (Some n) r) ≡ behind (ns ++ n ∷ []) r
behind_one ns n None = refl
behind_one ns n (Some ms) = ap Some (sym (append_assoc ns (n ∷ []) ms))

pub behind_none : (ns : List ℕ) → ns ++ [] ≡ ns
behind_none [] = refl
behind_none (n ∷ ns) = ap (λ ms. n ∷ ms) (behind_none ns)

pub numbers_begin : (r : Option (List ℕ)) → r ≡ behind [] r
numbers_begin None = refl
numbers_begin (Some ns) = refl

pub numbers_at : (s : Scope) (d : ℕ) (xs : List AssertionCaseTree) (i : ℕ) (x : AssertionCaseTree) (ns : List ℕ) (o : Option ℕ) → slice_get xs i ≡ Some x → case_number s d (pattern_in x) ≡ o → case_numbers s d (assertion_case_list xs) ≡ behind ns (case_numbers s d (assertion_case_list (drop i xs))) → case_numbers s d (assertion_case_list xs) ≡ behind ns (with_number o (case_numbers s d (assertion_case_list (drop (i + 1) xs))))
numbers_at s d xs i x ns o h e w =
    w ∙ ap (λ ys. behind ns (case_numbers s d (assertion_case_list ys))) (left_at xs i x h)
    ∙ ap (λ (o : Option ℕ). behind ns (with_number o (case_numbers s d (assertion_case_list (drop (i + 1) xs))))) e

pub numbers_on : (s : Scope) (d : ℕ) (xs : List AssertionCaseTree) (i : ℕ) (x : AssertionCaseTree) (ns ms : List ℕ) (n : ℕ) → slice_get xs i ≡ Some x → case_number s d (pattern_in x) ≡ Some n → ms ≡ ns ++ n ∷ [] → case_numbers s d (assertion_case_list xs) ≡ behind ns (case_numbers s d (assertion_case_list (drop i xs))) → case_numbers s d (assertion_case_list xs) ≡ behind ms (case_numbers s d (assertion_case_list (drop (i + 1) xs)))
numbers_on s d xs i x ns ms n h e q w =
    numbers_at s d xs i x ns (Some n) h e w
    ∙ behind_one ns n (case_numbers s d (assertion_case_list (drop (i + 1) xs)))
    ∙ ap (λ vs. behind vs (case_numbers s d (assertion_case_list (drop (i + 1) xs)))) (sym q)

pub numbers_stop : (s : Scope) (d : ℕ) (xs : List AssertionCaseTree) (i : ℕ) (x : AssertionCaseTree) (ns : List ℕ) → slice_get xs i ≡ Some x → case_number s d (pattern_in x) ≡ None → case_numbers s d (assertion_case_list xs) ≡ behind ns (case_numbers s d (assertion_case_list (drop i xs))) → None ≡ case_numbers s d (assertion_case_list xs)
numbers_stop s d xs i x ns h e w = sym (numbers_at s d xs i x ns None h e w)

pub numbers_end : (s : Scope) (d : ℕ) (xs : List AssertionCaseTree) (i : ℕ) (ns : List ℕ) → length xs ≤ i → case_numbers s d (assertion_case_list xs) ≡ behind ns (case_numbers s d (assertion_case_list (drop i xs))) → Some ns ≡ case_numbers s d (assertion_case_list xs)
numbers_end s d xs i ns l w = sym (w ∙ ap (λ ys. behind ns (case_numbers s d (assertion_case_list ys))) (left_end xs i l) ∙ ap Some (behind_none ns))

-- ---- sorts at unknown sorts
pub instances_on : (first n : ℕ) (now next : List Sort) (ts : List Sort) (i : ℕ) (t u : Sort) → slice_get ts i ≡ Some t → u ≡ instance first n t → now ≡ map (instance first n) (take i ts) → next ≡ now ++ u ∷ [] → next ≡ map (instance first n) (take (i + 1) ts)
instances_on first n now next ts i t u h e q p = put_more (instance first n) [] now next ts i t h q (p ∙ ap (λ (v : Sort). now ++ v ∷ []) e)

pub instances_end : (first n : ℕ) (now : List Sort) (ts : List Sort) (i : ℕ) → length ts ≤ i → now ≡ map (instance first n) (take i ts) → now ≡ map (instance first n) ts
instances_end first n now ts i l q = put_all (instance first n) [] now ts i l q
