-- Sorts that are written one after the other.
use Rattle.std.proofs.Common.{◌≡◌, ◌≢◌, ℕ, zero, suc, ◌+◌, ◌<◌, ◌≤◌, List, [], ◌∷◌, ◌++◌, append_assoc, length, drop, Some, slice_get, Result, Ok, Err, refl, sym, ◌∙◌, ap, subst, arith}
use Rattle.vf_base.specs.declared.place.Place.{Place}
use Rattle.vf_base.specs.declared.refusal.Refusal.{Refusal}
use Rattle.vf_base.specs.declared.refusal.RuleFault.{RuleFault}
use Rattle.vf_base.specs.declared.rule.Rule.TheVariants as rules
use Rattle.vf_sorts.specs.declared.sort.Head.TheVariants as heads
use Rattle.vf_sorts.specs.Sorts.{Sort}
use Rattle.vf_sorts.specs.Unknowns.{leaf}
use Rattle.vf_declared.specs.declared.scope.Scope.{Scope}
use Rattle.vf_syntax.specs.SortTree.{SortTree, sort_list, sort_nodes, sort_nodes_all}
use Rattle.vf_sorting.specs.Answers.{Answers, Tells}
use Rattle.vf_sorting.specs.Refusals.{refused}
use Rattle.vf_sorting.specs.Spelling.{in_front, parameter_over, written_sort, written_sorts}
use Rattle.vf_sorting.proofs.Lists.{left_at, left_end}
use Rattle.vf_sorting.proofs.Steps.{told}

pub no_arguments : (p : Place) (i : ℕ) (xs : List SortTree) → length xs ≡ 0 → parameter_over p i (sort_list xs) ≡ Ok (leaf (heads.Parameter i))
no_arguments p i [] h = refl
no_arguments p i (x ∷ xs) h = absurd (omega (arith, h))

pub some_arguments : (p : Place) (i : ℕ) (xs : List SortTree) → length xs ≢ 0 → parameter_over p i (sort_list xs) ≡ Err (refused rules.Typing p)
some_arguments p i [] h = absurd (h refl)
some_arguments p i (x ∷ xs) h = refl

pub sort_smaller : (xs : List SortTree) (i : ℕ) (x : SortTree) → slice_get xs i ≡ Some x → sort_nodes x < sort_nodes_all (sort_list xs)
sort_smaller [] i x h = absurd cc
sort_smaller (y ∷ xs) zero x h = let e : y ≡ x = cc in rw (sym e) (omega arith)
sort_smaller (y ∷ xs) (suc i) x h = let rest = sort_smaller xs i x h in omega (arith, rest)

-- sorts behind others
abbrev pub behind : List Sort → Result (List Sort) Refusal → Result (List Sort) Refusal
behind ts (Err x) = Err x
behind ts (Ok us) = Ok (ts ++ us)

behind_one : (ts : List Sort) (t : Sort) (r : Result (List Sort) Refusal) → behind ts (in_front (Ok t) r) ≡ behind (ts ++ t ∷ []) r
behind_one ts t (Err x) = refl
behind_one ts t (Ok us) = ap Ok (sym (append_assoc ts (t ∷ []) us))

behind_none : (ts : List Sort) → ts ++ [] ≡ ts
behind_none [] = refl
behind_none (t ∷ ts) = ap (λ us. t ∷ us) (behind_none ts)

pub sorts_begin : (r : Result (List Sort) Refusal) → r ≡ behind [] r
sorts_begin (Ok ts) = refl
sorts_begin (Err x) = refl

pub sorts_on : (s : Scope) (ps : List (List ℕ)) (xs : List SortTree) (i : ℕ) (x : SortTree) (ts us : List Sort) (t : Sort) → slice_get xs i ≡ Some x → written_sort s ps x ≡ Ok t → us ≡ ts ++ t ∷ [] → written_sorts s ps (sort_list xs) ≡ behind ts (written_sorts s ps (sort_list (drop i xs))) → written_sorts s ps (sort_list xs) ≡ behind us (written_sorts s ps (sort_list (drop (i + 1) xs)))
sorts_on s ps xs i x ts us t h e q w =
    w ∙ ap (λ ys. behind ts (written_sorts s ps (sort_list ys))) (left_at xs i x h)
    ∙ ap (λ r. behind ts (in_front r (written_sorts s ps (sort_list (drop (i + 1) xs))))) e
    ∙ behind_one ts t (written_sorts s ps (sort_list (drop (i + 1) xs)))
    ∙ ap (λ vs. behind vs (written_sorts s ps (sort_list (drop (i + 1) xs)))) (sym q)

pub sorts_end : (s : Scope) (ps : List (List ℕ)) (xs : List SortTree) (i : ℕ) (ts : List Sort) → length xs ≤ i → written_sorts s ps (sort_list xs) ≡ behind ts (written_sorts s ps (sort_list (drop i xs))) → written_sorts s ps (sort_list xs) ≡ Ok ts
sorts_end s ps xs i ts l w = w ∙ ap (λ ys. behind ts (written_sorts s ps (sort_list ys))) (left_end xs i l) ∙ ap Ok (behind_none ts)

stopped : (s : Scope) (ps : List (List ℕ)) (xs : List SortTree) (i : ℕ) (x : SortTree) (ts : List Sort) (r : Refusal) → slice_get xs i ≡ Some x → written_sort s ps x ≡ Err r → written_sorts s ps (sort_list xs) ≡ behind ts (written_sorts s ps (sort_list (drop i xs))) → written_sorts s ps (sort_list xs) ≡ Err r
stopped s ps xs i x ts r h e w =
    w ∙ ap (λ ys. behind ts (written_sorts s ps (sort_list ys))) (left_at xs i x h)
    ∙ ap (λ q. behind ts (in_front q (written_sorts s ps (sort_list (drop (i + 1) xs))))) e

pub sorts_stop : (s : Scope) (ps : List (List ℕ)) (xs : List SortTree) (i : ℕ) (x : SortTree) (ts : List Sort) (e : RuleFault) (res : Result (List Sort) RuleFault) → slice_get xs i ≡ Some x → Tells (λ r. written_sort s ps x ≡ Err r) e → res ≡ Err e → written_sorts s ps (sort_list xs) ≡ behind ts (written_sorts s ps (sort_list (drop i xs)))
    → Answers {A = List Sort} (λ us. written_sorts s ps (sort_list xs) ≡ Ok us) (λ r. written_sorts s ps (sort_list xs) ≡ Err r) res
sorts_stop s ps xs i x ts e res h a q w =
    subst (Answers {A = List Sort} (λ us. written_sorts s ps (sort_list xs) ≡ Ok us) (λ r. written_sorts s ps (sort_list xs) ≡ Err r)) (sym q)
    (told (λ r. written_sort s ps x ≡ Err r) (λ r. written_sorts s ps (sort_list xs) ≡ Err r) e (λ r f. stopped s ps xs i x ts r h f w) a)
