-- Orders of numbers, names and rows.
use Rattle.std.proofs.Common.{◌≡◌, ℕ, zero, suc, ◌↔◌, List, [], ◌∷◌, drop, length, min, true, refl, ap, ap₂, ◌∙◌, arith}
use Rattle.std.specs.Prelude.{pos, map, IsTrue}
use Rattle.std.specs.declared.cmp.Ordering.{Ordering}
use Rattle.std.specs.declared.cmp.Ordering.TheVariants as order
use Rattle.std.specs.Ordering.{nat_cmp, int_cmp, ordering_then, is_eq}
use Rattle.std.specs.Cmp.Lexicographic.{slice_cmp}
use Rattle.std.proofs.lemmas.Bool.Decides.{nat_tests}
use Rattle.vf_closure.specs.Terms.{Term}
use Rattle.vf_normal.specs.Order.{compare, compare_rows}
use Rattle.vf_normal.proofs.Order.{order_total}
use Rattle.vf_formula.specs.Rows.{row}

-- natural numbers are ordered as whole numbers are
pub numbers_compared : (i j : ℕ) → int_cmp (pos i) (pos j) ≡ nat_cmp i j
numbers_compared i j = grind (arith, nat_tests)

pub names_compared : (xs ys : List ℕ) → slice_cmp int_cmp (map pos xs) (map pos ys) ≡ slice_cmp nat_cmp xs ys
names_compared [] [] = refl
names_compared [] (y ∷ ys) = refl
names_compared (x ∷ xs) [] = refl
names_compared (x ∷ xs) (y ∷ ys) = ap₂ ordering_then (numbers_compared x y) (names_compared xs ys)

one_more : (i j : ℕ) → nat_cmp i j ≡ nat_cmp (suc i) (suc j)
one_more i j = grind (arith, nat_tests)

none_before : (j : ℕ) → order.Less ≡ nat_cmp 0 (suc j)
none_before j = grind (arith, nat_tests)

none_behind : (i : ℕ) → order.Greater ≡ nat_cmp (suc i) 0
none_behind i = grind (arith, nat_tests)

-- where one of two rows has ended their lengths decide
pub rows_ended : (i : ℕ) (xs ys : List Term) → i ≡ min (length xs) (length ys) → compare_rows (row (drop i xs)) (row (drop i ys)) ≡ nat_cmp (length xs) (length ys)
rows_ended zero [] [] h = refl
rows_ended zero [] (y ∷ ys) h = none_before (length ys)
rows_ended zero (x ∷ xs) [] h = none_behind (length xs)
rows_ended zero (x ∷ xs) (y ∷ ys) h = absurd (omega arith)
rows_ended (suc i) [] ys h = absurd (omega arith)
rows_ended (suc i) (x ∷ xs) [] h = absurd (omega arith)
rows_ended (suc i) (x ∷ xs) (y ∷ ys) h = rows_ended i xs ys (omega arith) ∙ one_more (length xs) (length ys)

eq_told : (o : Ordering) → is_eq o ≡ true → o ≡ order.Equal
eq_told order.Less h = cc
eq_told order.Equal h = refl
eq_told order.Greater h = cc

-- terms are one where their order says so
pub compared_same : (t u : Term) → IsTrue (is_eq (compare t u)) ↔ (t ≡ u)
compared_same t u = (λ h. (order_total.1 t u).0 (eq_told (compare t u) h), λ e. ap is_eq ((order_total.1 t u).1 e))
