-- Loops over statements and parameters: what those that are left come to is what all of them come to.
use Rattle.std.proofs.Common.{◌≡◌, ℕ, zero, suc, ◌+◌, ◌<◌, ◌≤◌, List, [], ◌∷◌, length, drop, Some, None, slice_get, refl, sym, ap, ◌∙◌, arith}
use Rattle.vf_declared.specs.declared.ctype.CType.{CType}
use Rattle.vf_syntax.specs.declared.item.Typed.{Typed}
use Rattle.vf_syntax.specs.StmtTree.{StmtTree, stmt_list, stmt_nodes, stmt_nodes_all}
use Rattle.vf_walk.proofs.Lists.{left_at, left_none, left_end}
use Rattle.vf_functions.specs.Definitions.{parameter}
use Rattle.vf_local_numbers.specs.Counting.{Counting, counted, counted_all, declaring, parameters_counted}

-- an item of a list has fewer nodes than the list
pub stmt_smaller : (xs : List StmtTree) (i : ℕ) (x : StmtTree) → slice_get xs i ≡ Some x → stmt_nodes x < stmt_nodes_all (stmt_list xs)
stmt_smaller [] i x h = absurd cc
stmt_smaller (y ∷ xs) zero x h = let e : y ≡ x = cc in rw (sym e) (omega arith)
stmt_smaller (y ∷ xs) (suc i) x h = let rest = stmt_smaller xs i x h in omega (arith, rest)

-- one more statement
pub counted_more : (r : CType) (xs : List StmtTree) (i : ℕ) (x : StmtTree) (s u whole : Counting) → slice_get xs i ≡ Some x → u ≡ counted r x s → counted_all r (stmt_list (drop i xs)) s ≡ whole → counted_all r (stmt_list (drop (i + 1) xs)) u ≡ whole
counted_more r xs i x s u whole h step kept = ap (counted_all r (stmt_list (drop (i + 1) xs))) step ∙ sym (ap (λ ys. counted_all r (stmt_list ys) s) (left_at xs i x h)) ∙ kept

-- no statement stands at an index
pub counted_none : (r : CType) (xs : List StmtTree) (i : ℕ) (s whole : Counting) → slice_get xs i ≡ None → counted_all r (stmt_list (drop i xs)) s ≡ whole → s ≡ whole
counted_none r xs i s whole h kept = sym (ap (λ ys. counted_all r (stmt_list ys) s) (left_none xs i h)) ∙ kept

-- the list is done
pub counted_end : (r : CType) (xs : List StmtTree) (i : ℕ) (s whole : Counting) → length xs ≤ i → counted_all r (stmt_list (drop i xs)) s ≡ whole → s ≡ whole
counted_end r xs i s whole h kept = sym (ap (λ ys. counted_all r (stmt_list ys) s) (left_end xs i h)) ∙ kept

-- one more parameter
pub parameters_more : (xs : List Typed) (i : ℕ) (x : Typed) (s u whole : Counting) → slice_get xs i ≡ Some x → u ≡ declaring (parameter s.setting x) s → parameters_counted (drop i xs) s ≡ whole → parameters_counted (drop (i + 1) xs) u ≡ whole
parameters_more xs i x s u whole h step kept = ap (parameters_counted (drop (i + 1) xs)) step ∙ sym (ap (λ ys. parameters_counted ys s) (left_at xs i x h)) ∙ kept

-- no parameter stands at an index
pub parameters_none : (xs : List Typed) (i : ℕ) (s whole : Counting) → slice_get xs i ≡ None → parameters_counted (drop i xs) s ≡ whole → s ≡ whole
parameters_none xs i s whole h kept = sym (ap (λ ys. parameters_counted ys s) (left_none xs i h)) ∙ kept

-- the list is done
pub parameters_end : (xs : List Typed) (i : ℕ) (s whole : Counting) → length xs ≤ i → parameters_counted (drop i xs) s ≡ whole → s ≡ whole
parameters_end xs i s whole h kept = sym (ap (λ ys. parameters_counted ys s) (left_end xs i h)) ∙ kept
