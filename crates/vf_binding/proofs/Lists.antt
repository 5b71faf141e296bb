-- Lists that a loop goes over.
use Rattle.std.proofs.Common.{◌≡◌, ℕ, zero, suc, ◌+◌, ◌≤◌, Bool, true, false, List, [], ◌∷◌, ◌++◌, length, take, drop, map, Some, None, slice_get, refl, sym, ap, ◌∙◌, subst, arith, append_assoc}
use Rattle.std.specs.Prelude.{◌&&◌}
use Rattle.vf_sorts.specs.Sorts.{Sort, row}
use Rattle.vf_sorts.specs.Unknowns.{AreBelow, IsBelow}
use Rattle.vf_syntax.specs.declared.pattern.Pattern.{Pattern}
use Rattle.vf_syntax.specs.declared.pattern.Pattern.TheVariants as patterns
use Rattle.vf_syntax.specs.Assertions.{are_value_patterns, is_value_pattern}
use Rattle.vf_sorting.proofs.Below.{below_more}
use Rattle.vf_sorting.proofs.Lists.{left_at, left_end}
use Rattle.vf_binding.specs.Chunks.{sorts_of, value_of, values_of}

-- the items up to one, and this one
pub taken_more : {A : Type 0} (xs : List A) (i : ℕ) (x : A) → slice_get xs i ≡ Some x → take (i + 1) xs ≡ take i xs ++ x ∷ []
taken_more [] i x h = absurd cc
taken_more (y ∷ xs) zero x h = let e : y ≡ x = cc in rw e refl
taken_more (y ∷ xs) (suc i) x h = let step : suc i + 1 ≡ suc (i + 1) = omega arith in rw step (ap (λ ys. y ∷ ys) (taken_more xs i x h))

-- all items stand before the end
pub taken_all : {A : Type 0} (xs : List A) (i : ℕ) → length xs ≤ i → take i xs ≡ xs
taken_all [] zero h = refl
taken_all [] (suc i) h = refl
taken_all (y ∷ xs) zero h = absurd (omega arith)
taken_all (y ∷ xs) (suc i) h = ap (λ ys. y ∷ ys) (taken_all xs i (omega arith))

-- one item more at the end of what a loop has copied behind some items
pub joined_more : {A : Type 0} (ys now next xs : List A) (i : ℕ) (x : A) → slice_get xs i ≡ Some x → now ≡ ys ++ take i xs → next ≡ now ++ x ∷ [] → next ≡ ys ++ take (i + 1) xs
joined_more ys now next xs i x h q p = p ∙ ap (λ zs. zs ++ x ∷ []) q ∙ append_assoc ys (take i xs) (x ∷ []) ∙ ap (λ zs. ys ++ zs) (sym (taken_more xs i x h))

-- what a loop has copied behind some items when it is done
pub joined_all : {A : Type 0} (ys now xs : List A) (i : ℕ) → length xs ≤ i → now ≡ ys ++ take i xs → now ≡ ys ++ xs
joined_all ys now xs i l q = q ∙ ap (λ zs. ys ++ zs) (taken_all xs i l)

-- one item more at the end of what a loop has put behind some items
pub put_more : {A B : Type 0} (f : A → B) (ys now next : List B) (xs : List A) (i : ℕ) (x : A) → slice_get xs i ≡ Some x → now ≡ ys ++ map f (take i xs) → next ≡ now ++ f x ∷ [] → next ≡ ys ++ map f (take (i + 1) xs)
put_more f ys now next xs i x h q p = p ∙ ap (λ zs. zs ++ f x ∷ []) q ∙ append_assoc ys (map f (take i xs)) (f x ∷ []) ∙ ap (λ zs. ys ++ zs) (sym (mapped (take i xs)) ∙ ap (map f) (sym (taken_more xs i x h)))
  where
    mapped : (zs : List _) → map f (zs ++ x ∷ []) ≡ map f zs ++ f x ∷ []
    mapped [] = refl
    mapped (z ∷ zs) = ap (λ us. f z ∷ us) (mapped zs)

-- what a loop has put behind some items when it is done
pub put_all : {A B : Type 0} (f : A → B) (ys now : List B) (xs : List A) (i : ℕ) → length xs ≤ i → now ≡ ys ++ map f (take i xs) → now ≡ ys ++ map f xs
put_all f ys now xs i l q = q ∙ ap (λ zs. ys ++ map f zs) (taken_all xs i l)

-- each of some sorts has unknown sorts below a number
pub sort_at : (n : ℕ) (ts : List Sort) (i : ℕ) (t : Sort) → slice_get ts i ≡ Some t → AreBelow n ts → IsBelow n t
sort_at n [] i t e b = absurd cc
sort_at n (x ∷ ts) zero t e b = let q : x ≡ t = cc in subst (IsBelow n) q b.0
sort_at n (x ∷ ts) (suc i) t e b = sort_at n ts i t e b.1

-- below more where below less
pub all_below_more : (m n : ℕ) → m ≤ n → (ts : List Sort) → AreBelow m ts → AreBelow n ts
all_below_more m n l [] b = tt
all_below_more m n l (t ∷ ts) b = (below_more m n l t b.0, all_below_more m n l ts b.1)

-- whether the patterns that are left are expressions tells whether all are
pub values_end : (xs : List Pattern) (i : ℕ) → length xs ≤ i → are_value_patterns xs ≡ are_value_patterns (drop i xs) → true ≡ are_value_patterns xs
values_end xs i l q = sym (q ∙ ap are_value_patterns (left_end xs i l))

pub values_stop : (xs : List Pattern) (i : ℕ) (x : Pattern) (y : Bool) → slice_get xs i ≡ Some x → y ≡ is_value_pattern x → y ≡ false → are_value_patterns xs ≡ are_value_patterns (drop i xs) → false ≡ are_value_patterns xs
values_stop xs i x y h v n q = sym (q ∙ ap are_value_patterns (left_at xs i x h) ∙ ap (λ (b : Bool). b && are_value_patterns (drop (i + 1) xs)) (sym v ∙ n))

pub values_on : (xs : List Pattern) (i : ℕ) (x : Pattern) (y : Bool) → slice_get xs i ≡ Some x → y ≡ is_value_pattern x → y ≡ true → are_value_patterns xs ≡ are_value_patterns (drop i xs) → are_value_patterns xs ≡ are_value_patterns (drop (i + 1) xs)
values_on xs i x y h v n q = q ∙ ap are_value_patterns (left_at xs i x h) ∙ ap (λ (b : Bool). b && are_value_patterns (drop (i + 1) xs)) (sym v ∙ n)

-- as many expressions as patterns, where all are expressions
pub values_length : (xs : List Pattern) → are_value_patterns xs ≡ true → length (values_of xs) ≡ length xs
values_length [] h = refl
values_length (patterns.Is e ∷ xs) h = ap suc (values_length xs h)
values_length (patterns.Binds p n ∷ xs) h = absurd cc
values_length (patterns.Wild p ∷ xs) h = absurd cc

-- the expression that stands at an index, where all patterns are expressions
pub value_there : (xs : List Pattern) (i : ℕ) (x : Pattern) → are_value_patterns xs ≡ true → slice_get xs i ≡ Some x → value_of x ≡ slice_get (values_of xs) i
value_there [] i x h g = absurd cc
value_there (patterns.Is d ∷ xs) zero x h g = let e : patterns.Is d ≡ x = cc in subst (λ (y : Pattern). value_of y ≡ Some d) e refl
value_there (patterns.Is d ∷ xs) (suc i) x h g = value_there xs i x h g
value_there (patterns.Binds p n ∷ xs) i x h g = absurd cc
value_there (patterns.Wild p ∷ xs) i x h g = absurd cc

-- none stands behind the end
pub value_nowhere : (xs : List Pattern) (i : ℕ) → are_value_patterns xs ≡ true → slice_get xs i ≡ None → None ≡ slice_get (values_of xs) i
value_nowhere [] i h g = refl
value_nowhere (patterns.Is d ∷ xs) zero h g = absurd cc
value_nowhere (patterns.Is d ∷ xs) (suc i) h g = value_nowhere xs i h g
value_nowhere (patterns.Binds p n ∷ xs) i h g = absurd cc
value_nowhere (patterns.Wild p ∷ xs) i h g = absurd cc

-- sorts in a row and back
pub row_sorts : (ts : List Sort) → ts ≡ sorts_of (row ts)
row_sorts [] = refl
row_sorts (t ∷ ts) = ap (λ us. t ∷ us) (row_sorts ts)
