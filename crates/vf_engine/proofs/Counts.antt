-- How many numbers are taken, of some in a row.
use Rattle.std.proofs.Common.{◌≡◌, ℕ, zero, suc, ◌+◌, ◌-◌, ◌*◌, ◌/◌, ◌<◌, ◌≤◌, Bool, true, false, cond, List, [], ◌∷◌, Option, is_some, IsSome, refl, sym, ap, subst, ◌∙◌, ⊎_elim, arith}
use Rattle.std.proofs.Math.ListN.{get_or, set}
use Rattle.std.proofs.lemmas.List.{get_or-set_other}
use Rattle.std.proofs.lemmas.Bool.{false≢true, cases_Bool, cases_eq, cases_order, cases_lt}
use Rattle.vf_engine.specs.Taken.{AreTaken, AreCounted, taken_from}

one_most : (b : Bool) → cond b 1 0 ≤ 1
one_most true = omega arith
one_most false = omega arith

none_there : (b : Bool) → b ≡ false → cond b 1 0 ≤ 0
none_there true is = absurd (false≢true (sym is))
none_there false is = omega arith

one_there : (b : Bool) → b ≡ true → 1 ≤ cond b 1 0
one_there true is = omega arith
one_there false is = absurd (false≢true is)

one_less : (b c : Bool) → (b ≡ true → c ≡ true) → cond b 1 0 ≤ cond c 1 0
one_less false c h = omega arith
one_less true true h = omega arith
one_less true false h = absurd (false≢true (h refl))

next : {V : Type 0} (h : ℕ → Option V) (from n : ℕ) → taken_from h from (suc n) ≡ cond (is_some (h from)) 1 0 + taken_from h (suc from) n
unfolding taken_from
next h from n = refl

none : {V : Type 0} (h : ℕ → Option V) (from : ℕ) → taken_from h from 0 ≡ 0
unfolding taken_from
none h from = refl

-- no more are taken than there are
pub taken_most : {V : Type 0} (h : ℕ → Option V) (from n : ℕ) → taken_from h from n ≤ n
taken_most h from zero = let e = none h from in omega (arith, e)
taken_most h from (suc n) =
    let e = next h from n in
    let one = one_most (is_some (h from)) in
    let rest = taken_most h (suc from) n in
    omega (arith, e, one, rest)

-- where as many are taken as there are, each is
pub all_taken : {V : Type 0} (h : ℕ → Option V) (from n : ℕ) → n ≤ taken_from h from n → (k : ℕ) → from ≤ k → k < from + n → IsSome (h k)
all_taken h from zero many k low high = absurd (omega (arith, low, high))
all_taken h from (suc n) many k low high =
    let e = next h from n in
    let one = one_most (is_some (h from)) in
    let most = taken_most h (suc from) n in
    ⊎_elim
    (λ same. ⊎_elim
    (λ is. subst (λ j. IsSome (h j)) same is)
    (λ isnt. let zero_one = none_there (is_some (h from)) isnt in absurd (omega (arith, e, zero_one, most, many)))
    (cases_Bool (is_some (h from))))
    (λ other. all_taken h (suc from) n (omega (arith, e, one, many)) k (⊎_elim (λ less. omega arith) (λ more. absurd (omega (arith, more, low))) other) (omega (arith, high)))
    (cases_order from k)

-- where each that was taken still is, as many are taken
pub taken_more : {V : Type 0} (h g : ℕ → Option V) (from n : ℕ) → ((q : ℕ) → from ≤ q → q < from + n → IsSome (h q) → IsSome (g q)) → taken_from h from n ≤ taken_from g from n
taken_more h g from zero still = let e = none h from in omega (arith, e)
taken_more h g from (suc n) still =
    let e = next h from n in
    let f = next g from n in
    let one = one_less (is_some (h from)) (is_some (g from)) (still from (omega arith) (omega arith)) in
    let rest = taken_more h g (suc from) n (λ q low high. still q (omega (arith, low)) (omega (arith, high))) in
    omega (arith, e, f, one, rest)

-- the same, and one more is taken
pub taken_and_one : {V : Type 0} (h g : ℕ → Option V) (x from n : ℕ) → ((q : ℕ) → IsSome (h q) → IsSome (g q)) → is_some (h x) ≡ false → IsSome (g x)
    → from ≤ x → x < from + n → taken_from h from n + 1 ≤ taken_from g from n
taken_and_one h g x from zero still was is low high = absurd (omega (arith, low, high))
taken_and_one h g x from (suc n) still was is low high =
    let e = next h from n in
    let f = next g from n in
    let one = one_less (is_some (h from)) (is_some (g from)) (still from) in
    ⊎_elim
    (λ same.
    let before = none_there (is_some (h from)) (ap (λ j. is_some (h j)) same ∙ was) in
    let after = one_there (is_some (g from)) (ap (λ j. is_some (g j)) same ∙ is) in
    let rest = taken_more h g (suc from) n (λ q above below. still q) in
    omega (arith, e, f, before, after, rest))
    (λ other.
    let rest = taken_and_one h g x (suc from) n still was is (⊎_elim (λ less. omega arith) (λ more. absurd (omega (arith, more, low))) other) (omega (arith, high)) in
    omega (arith, e, f, one, rest))
    (cases_order from x)

-- where one is given back, at most one less is taken
pub taken_but_one : {V : Type 0} (h g : ℕ → Option V) (x from n : ℕ) → ((q : ℕ) → (q ≡ x → ⊥) → IsSome (h q) → IsSome (g q)) → taken_from h from n ≤ taken_from g from n + 1
taken_but_one h g x from zero still = let e = none h from in omega (arith, e)
taken_but_one h g x from (suc n) still =
    let e = next h from n in
    let f = next g from n in
    ⊎_elim
    (λ same.
    let one = one_most (is_some (h from)) in
    let rest = taken_more h g (suc from) n (λ q above below. still q (λ is. omega (arith, is, above, same))) in
    omega (arith, e, f, one, rest))
    (λ other.
    let one = one_less (is_some (h from)) (is_some (g from)) (still from other) in
    let rest = taken_but_one h g x (suc from) n still in
    omega (arith, e, f, one, rest))
    (cases_eq from x)

set_most : (xs : List ℕ) (i v : ℕ) → get_or (set xs i v) i 0 ≤ v
set_most [] i v = omega arith
set_most (x ∷ xs) zero v = omega arith
set_most (x ∷ xs) (suc i) v = set_most xs i v

-- the counts are right where each number that was taken still is
pub counted_still : {V : Type 0} (h g : ℕ → Option V) (counts : List ℕ) → ((q : ℕ) → IsSome (h q) → IsSome (g q)) → AreCounted h counts → AreCounted g counts
counted_still h g counts still right group =
    let most = taken_more h g (512 * group) 512 (λ q low high. still q) in
    let count = right group in
    omega (arith, most, count)

-- a number that is taken from now on is counted in its group
pub counted_more : {V : Type 0} (h g : ℕ → Option V) (counts : List ℕ) (x : ℕ) → ((q : ℕ) → IsSome (h q) → IsSome (g q)) → is_some (h x) ≡ false → IsSome (g x)
    → AreCounted h counts → AreCounted g (set counts (x / 512) (get_or counts (x / 512) 0 + 1))
counted_more h g counts x still was is right group =
    let v = get_or counts (x / 512) 0 + 1 in
    ⊎_elim
    (λ same.
    let here = set_most counts (x / 512) v in
    let one = taken_and_one h g x (512 * (x / 512)) 512 still was is (omega arith) (omega arith) in
    let count = right (x / 512) in
    subst (λ j. get_or (set counts (x / 512) v) j 0 ≤ taken_from g (512 * j) 512) (sym same) (omega (arith, here, one, count)))
    (λ other.
    let there = get_or-set_other counts (x / 512) group v 0 other in
    let count = counted_still h g counts still right group in
    omega (arith, there, count))
    (cases_eq group (x / 512))

-- a number that is free from now on is counted no more
pub counted_less : {V : Type 0} (h g : ℕ → Option V) (counts : List ℕ) (x : ℕ) → ((q : ℕ) → (q ≡ x → ⊥) → IsSome (h q) → IsSome (g q))
    → AreCounted h counts → AreCounted g (set counts (x / 512) (get_or counts (x / 512) 0 - 1))
counted_less h g counts x still right group =
    let v = get_or counts (x / 512) 0 - 1 in
    ⊎_elim
    (λ same.
    let here = set_most counts (x / 512) v in
    let one = taken_but_one h g x (512 * (x / 512)) 512 still in
    let count = right (x / 512) in
    subst (λ j. get_or (set counts (x / 512) v) j 0 ≤ taken_from g (512 * j) 512) (sym same) (omega (arith, here, one, count)))
    (λ other.
    let there = get_or-set_other counts (x / 512) group v 0 other in
    let most = taken_more h g (512 * group) 512 (λ q low high. still q (λ e. other (omega (arith, e, low, high)))) in
    let count = right group in
    omega (arith, there, most, count))
    (cases_eq group (x / 512))

-- a count is at most the size of a group
pub count_most : {V : Type 0} (h : ℕ → Option V) (counts : List ℕ) (group : ℕ) → AreCounted h counts → get_or counts group 0 ≤ 512
count_most h counts group right =
    let most = taken_most h (512 * group) 512 in
    let count = right group in
    omega (arith, most, count)

-- all numbers to the end of a group that is full are taken where all before it are
pub full_group : {V : Type 0} (h : ℕ → Option V) (counts : List ℕ) (group : ℕ) → AreCounted h counts → get_or counts group 0 ≡ 512 → AreTaken h (512 * group) → AreTaken h (512 * (group + 1))
full_group h counts group right full before k low high =
    ⊎_elim
    (λ less. before k low less)
    (λ more. let count = right group in all_taken h (512 * group) 512 (omega (arith, count, full)) k more (omega (arith, high)))
    (cases_lt k (512 * group))

-- where all are taken below a number, all are below a lesser one
pub taken_below : {V : Type 0} (h : ℕ → Option V) (a b : ℕ) → a ≤ b → AreTaken h b → AreTaken h a
taken_below h a b less taken k low high = taken k low (omega (arith, less, high))

-- and below the next one where that one is taken
pub taken_next : {V : Type 0} (h : ℕ → Option V) (n : ℕ) → IsSome (h n) → AreTaken h n → AreTaken h (n + 1)
taken_next h n here taken k low high =
    ⊎_elim
    (λ less. taken k low less)
    (λ more. let e : n ≡ k = omega (arith, more, high) in subst (λ j. IsSome (h j)) e here)
    (cases_lt k n)

-- no number is taken where all counts are 0
pub counted_none : {V : Type 0} (h : ℕ → Option V) (counts : List ℕ) → counts ≡ [] → AreCounted h counts
counted_none h counts is group = let none : get_or counts group 0 ≤ 0 = subst (λ xs. get_or xs group 0 ≤ 0) (sym is) (omega arith) in omega (arith, none)

-- counts that say the same are as right
pub counted_same : {V : Type 0} (h : ℕ → Option V) (counts new : List ℕ) → ((group : ℕ) → get_or new group 0 ≡ get_or counts group 0) → AreCounted h counts → AreCounted h new
counted_same h counts new same right group = let e = same group in let count = right group in omega (arith, e, count)
