-- Lists of terms as they grow.
use Rattle.std.proofs.Common.{◌≡◌, ◌≤◌, ◌<◌, ◌+◌, ℕ, zero, suc, Bool, true, false, cond, List, [], ◌∷◌, ◌++◌, length, map, drop, get_or, nat_lt, sym, ap, ◌∙◌, subst, arith}
use Rattle.std.proofs.lemmas.List.{length_push, at_drop_more}
use Rattle.vf_closure.specs.Terms.{Head, Term, Terms, term, no_terms, and_term}
use Rattle.vf_closure.specs.Literals.{Literal, compares}
use Rattle.vf_formula.specs.Rows.{row, size_of, size_of_row}
use Rattle.vf_question.specs.Numbered.{place, with_one, with_term, with_row, with_all, with_literals, IsGathered}

grown : (b : Bool) (t : Term) (ts : List Term) → length ts ≤ length (cond b ts (ts ++ t ∷ []))
grown true t ts = omega arith
grown false t ts = omega (arith, length_push ts t)

-- a list only grows
pub one_grows : (t : Term) (ts : List Term) → length ts ≤ length (with_one t ts)
one_grows t ts = grown (nat_lt (place t ts) (length ts)) t ts

mutual
  pub term_grows : (t : Term) (ts : List Term) → length ts ≤ length (with_term t ts)
  term_grows (term h ps) ts = omega (arith, row_grows ps ts, one_grows (term h ps) (with_row ps ts))

  pub row_grows : (ps : Terms) (ts : List Term) → length ts ≤ length (with_row ps ts)
  row_grows no_terms ts = omega arith
  row_grows (and_term p ps) ts = omega (arith, term_grows p ts, row_grows ps (with_term p ts))

below_most : (ps : List Term) (i : ℕ) (p : Term) → i < length ps → p ≡ get_or ps i p → size_of p < size_of_row (row ps)
below_most [] i p l e = absurd (omega arith)
below_most (q ∷ qs) zero p l e = omega (arith, ap size_of e)
below_most (q ∷ qs) (suc i) p l e = omega (arith, below_most qs i p (omega arith) e)

-- a part is smaller than its whole
pub part_smaller : (h : Head) (ps : List Term) (i : ℕ) (p : Term) → i < length ps → p ≡ get_or ps i p → size_of p < size_of (term h (row ps))
part_smaller h ps i p l e = omega (arith, below_most ps i p l e)

-- where a part makes the list too long, the whole does
pub too_many_parts : (most : ℕ) (h : Head) (ps : List Term) (ts now : List Term) (i : ℕ) (p t : Term)
    → t ≡ term h (row ps) → with_row (row (drop i ps)) now ≡ with_row (row ps) ts → i < length ps → p ≡ get_or ps i p → most < length (with_term p now) → most < length (with_term t ts)
too_many_parts most h ps ts now i p t e r l g m =
    let a = at_drop_more (λ qs. with_row (row qs) now) ps i p l in
    let b = row_grows (row (drop (i + 1) ps)) (with_term p now) in
    let f = one_grows (term h (row ps)) (with_row (row ps) ts) in
    let k : with_row (row (drop i ps)) now ≡ with_row (row (drop (i + 1) ps)) (with_term p now) = a ∙ ap (λ q. with_row (row (drop (i + 1) ps)) (with_term q now)) (sym g) in
    let n : most < length (with_term (term h (row ps)) ts) = omega (arith, ap length k, ap length r) in
    subst (λ (u : Term). most < length (with_term u ts)) (sym e) n

pub all_grow : (us ts : List Term) → length ts ≤ length (with_all us ts)
all_grow [] ts = omega arith
all_grow (u ∷ us) ts = omega (arith, term_grows u ts, all_grow us (with_term u ts))

pub literals_grow : (ls : List Literal) (ts : List Term) → length ts ≤ length (with_literals ls ts)
literals_grow [] ts = omega arith
literals_grow (l ∷ ls) ts = omega (arith, all_grow (compares l) ts, literals_grow ls (with_all (compares l) ts))

-- where a list was not gathered the wanted one is too long
pub too_long : (most : ℕ) (b : Bool) (wanted found : List Term) → IsGathered most b wanted found → b ≡ false → most < length wanted
too_long most true wanted found g e = cc
too_long most false wanted found g e = g

-- where one of two terms makes the list too long, both do
pub too_many_both : (most : ℕ) (a b : Term) (ts : List Term) → most < length (with_term a ts) → most < length (with_term b (with_term a ts))
too_many_both most a b ts h = omega (arith, term_grows b (with_term a ts))

-- where one literal makes it too long, all of them do
pub too_many_literals : {A : Type 0} (most : ℕ) (f : A → Literal) (xs : List A) (ts now : List Term) (i : ℕ) (x : A)
    → with_literals (map f (drop i xs)) now ≡ with_literals (map f xs) ts → i < length xs → x ≡ get_or xs i x → most < length (with_all (compares (f x)) now) → most < length (with_literals (map f xs) ts)
too_many_literals most f xs ts now i x r l g m =
    let a = at_drop_more (λ ys. with_literals (map f ys) now) xs i x l in
    let b = literals_grow (map f (drop (i + 1) xs)) (with_all (compares (f x)) now) in
    let k : with_literals (map f (drop i xs)) now ≡ with_literals (map f (drop (i + 1) xs)) (with_all (compares (f x)) now) = a ∙ ap (λ y. with_literals (map f (drop (i + 1) xs)) (with_all (compares (f y)) now)) (sym g) in
    omega (arith, ap length k, ap length r)
