-- Symbols and cases, one by one.
use Rattle.std.proofs.Common.{◌≡◌, ℕ, ◌+◌, ◌≤◌, List, [], ◌∷◌, ◌++◌, length, drop, Some, slice_get, refl, sym, ap, ◌∙◌}
use Rattle.std.proofs.Math.Numerals.{add-one}
use Rattle.vf_closure.specs.Terms.{Term}
use Rattle.vf_sorts.specs.Sorts.{Sort}
use Rattle.vf_sorts.specs.Unknowns.{Known}
use Rattle.vf_declared.specs.declared.locals.Local.{Local}
use Rattle.vf_declared.specs.declared.scope.Scope.{Scope}
use Rattle.vf_syntax.specs.declared.item.FixpointCase.{FixpointCase}
use Rattle.vf_sorting.specs.declared.context.Context.{Context}
use Rattle.vf_sorting.proofs.Lists.{left_at, left_end}
use Rattle.vf_definitions.specs.declared.fixpoint.Case.{Case}
use Rattle.vf_defining.specs.Symbols.{symbol_of, symbols_from}
use Rattle.vf_defining.specs.Bodies.{behind_case, case_of, case_read, cases_of}

append_one : {A : Type 0} (ts us : List A) (t : A) → (ts ++ t ∷ []) ++ us ≡ ts ++ t ∷ us
append_one [] us t = refl
append_one (u ∷ ts) us t = ap (λ vs. u ∷ vs) (append_one ts us t)

append_none : {A : Type 0} (ts : List A) → ts ++ [] ≡ ts
append_none [] = refl
append_none (t ∷ ts) = ap (λ us. t ∷ us) (append_none ts)

-- one symbol more
pub symbol_more : (k : Known) (all : List Term) (ls : List Local) (i : ℕ) (l : Local) (t : Term) (w : List Term) → slice_get ls i ≡ Some l → t ≡ symbol_of k i l → all ++ symbols_from k i (drop i ls) ≡ w → (all ++ t ∷ []) ++ symbols_from k (i + 1) (drop (i + 1) ls) ≡ w
symbol_more k all ls i l t w e f h =
    append_one all (symbols_from k (i + 1) (drop (i + 1) ls)) t
    ∙ ap (λ x. all ++ x ∷ symbols_from k (i + 1) (drop (i + 1) ls)) f
    ∙ ap (λ n. all ++ symbol_of k i l ∷ symbols_from k n (drop (i + 1) ls)) (add-one i)
    ∙ sym (ap (λ ms. all ++ symbols_from k i ms) (left_at ls i l e))
    ∙ h

-- all symbols
pub symbols_end : (k : Known) (all : List Term) (ls : List Local) (i : ℕ) (w : List Term) → length ls ≤ i → all ++ symbols_from k i (drop i ls) ≡ w → all ≡ w
symbols_end k all ls i w l h = sym (append_none all) ∙ sym (ap (λ ms. all ++ symbols_from k i ms) (left_end ls i l)) ∙ h

-- one case more
pub case_more : (c : Context) (k : Known) (paths : List (List ℕ)) (t : Sort) (m : ℕ) (s s' : Scope) (u : ℕ) (all : List Case) (xs : List FixpointCase) (i : ℕ) (x : FixpointCase) (y : Case) (n : ℕ) (w : List Case)
    → slice_get xs i ≡ Some x → y ≡ case_of c k paths t m s u x → n ≡ (case_read c k paths t m s u x).next → s' ≡ behind_case s m x.pattern
    → all ++ cases_of c k paths t m s u (drop i xs) ≡ w
    → (all ++ y ∷ []) ++ cases_of c k paths t m s' n (drop (i + 1) xs) ≡ w
case_more c k paths t m s s' u all xs i x y n w e f g d h =
    append_one all (cases_of c k paths t m s' n (drop (i + 1) xs)) y
    ∙ ap (λ z. all ++ z ∷ cases_of c k paths t m s' n (drop (i + 1) xs)) f
    ∙ ap (λ v. all ++ case_of c k paths t m s u x ∷ cases_of c k paths t m s' v (drop (i + 1) xs)) g
    ∙ ap (λ v. all ++ case_of c k paths t m s u x ∷ cases_of c k paths t m v (case_read c k paths t m s u x).next (drop (i + 1) xs)) d
    ∙ sym (ap (λ ys. all ++ cases_of c k paths t m s u ys) (left_at xs i x e))
    ∙ h

-- all cases
pub cases_end : (c : Context) (k : Known) (paths : List (List ℕ)) (t : Sort) (m : ℕ) (s : Scope) (u : ℕ) (all : List Case) (xs : List FixpointCase) (i : ℕ) (w : List Case) → length xs ≤ i → all ++ cases_of c k paths t m s u (drop i xs) ≡ w → all ≡ w
cases_end c k paths t m s u all xs i w l h = sym (append_none all) ∙ sym (ap (λ ys. all ++ cases_of c k paths t m s u ys) (left_end xs i l)) ∙ h
