-- Lists of the first values of a function.
use Rattle.std.proofs.Common.{◌≡◌, ℕ, zero, suc, ◌+◌, ◌≤◌, List, [], ◌∷◌, ◌++◌, length, get_or, Option, slice_get, refl, ap, ◌∙◌, length-append, arith}
use Rattle.std.specs.Prelude.{unwrap_or}
use Rattle.std.proofs.lemmas.List.{get_or_append_left}
use Rattle.std.proofs.lemmas.Option.{unwrap_or-slice_get}
use Rattle.std.proofs.Math.Seq.{get_or-append_seam}
use borrow.Author.Count.{below_more}
use Rattle.vf_flow.specs.Tables.{Lists}

-- the empty list has none
pub lists_none : (f : ℕ → ℕ) (xs : List ℕ) → xs ≡ [] → Lists f xs
lists_none f xs is = record { each = λ i d h. let size : length xs ≡ 0 = ap length is in absurd (omega (arith, h, size)) }

-- a list with one value more
pub length_more : (xs now : List ℕ) (x : ℕ) → now ≡ xs ++ x ∷ [] → length now ≡ length xs + 1
length_more xs now x is = ap length is ∙ length-append xs (x ∷ [])

-- one value more
pub lists_more : (f : ℕ → ℕ) (xs now : List ℕ) (x : ℕ) → now ≡ xs ++ x ∷ [] → x ≡ f (length xs) → Lists f xs → Lists f now
lists_more f xs now x is value so =
    let size : length now ≡ length xs + 1 = length_more xs now x is in
    record {
      each = λ i d h. below_more (λ k. (e : ℕ) → get_or now k e ≡ f k) (length xs)
          (λ k less e. ap (λ ys. get_or ys k e) is ∙ get_or_append_left xs (x ∷ []) e k less ∙ so.each k e less)
          (λ e. ap (λ ys. get_or ys (length xs) e) is ∙ get_or-append_seam xs x [] e ∙ value)
          i (omega (arith, h, size)) d;
    }

-- with another number behind all, which the function has from there on, it has all values
pub lists_all : (f : ℕ → ℕ) (xs : List ℕ) (e : ℕ) → Lists f xs → ((i : ℕ) → length xs ≤ i → e ≡ f i) → (i : ℕ) → get_or xs i e ≡ f i
lists_all f [] e so past i = past i (omega arith)
lists_all f (x ∷ xs) e so past zero = so.each 0 e (omega arith)
lists_all f (x ∷ xs) e so past (suc i) = lists_all (λ k. f (suc k)) xs e (record { each = λ j d h. so.each (suc j) d (omega (arith, h)) }) (λ j h. past (suc j) (omega (arith, h))) i

-- behind the end of a list another number stands
pub none_behind : (xs : List ℕ) (i e : ℕ) → length xs ≤ i → get_or xs i e ≡ e
none_behind [] i e h = refl
none_behind (x ∷ xs) zero e h = absurd (omega arith)
none_behind (x ∷ xs) (suc i) e h = none_behind xs i e (omega (arith, h))

-- what is read at an index, where another number stands for none
pub read_or : (xs : List ℕ) (i d : ℕ) (o : Option ℕ) → o ≡ slice_get xs i → unwrap_or o d ≡ get_or xs i d
read_or xs i d o is = ap (λ p. unwrap_or p d) is ∙ unwrap_or-slice_get xs i d
