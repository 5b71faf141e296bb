-- Where a unit's own table stands in the table of a program, and what the first units have.
use Rattle.std.proofs.Common.{◌≡◌, ℕ, zero, suc, ◌+◌, ◌<◌, ◌≤◌, List, [], ◌∷◌, ◌++◌, length, drop, take, map, Some, slice_get, refl, sym, ap, ◌∙◌, arith}
use Rattle.std.specs.List.{flat_map}
use Rattle.std.proofs.lemmas.List.{append-nil, append_assoc, drop-drop, drop_at, length-append, length-drop}
use Rattle.vf_tree.specs.Core.{Identity}
use Rattle.vf_program.specs.Indexes.{names_of}
use Rattle.vf_program.specs.Renaming.{StandsFrom}
use Rattle.vf_program.specs.declared.unit.PlainUnit.{PlainUnit}

-- what stands at an index in front of others
get_front : {A : Type 0} (xs ys : List A) (n : ℕ) → n < length xs → slice_get (xs ++ ys) n ≡ slice_get xs n
get_front [] ys n l = absurd (omega arith)
get_front (x ∷ xs) ys zero l = refl
get_front (x ∷ xs) ys (suc n) l = get_front xs ys n (omega arith)

-- what stands at an index of what is left
get_left : {A : Type 0} (xs : List A) (i n : ℕ) → slice_get (drop i xs) n ≡ slice_get xs (i + n)
get_left xs zero n = let e : n ≡ 0 + n = omega arith in ap (slice_get xs) e
get_left [] (suc i) n = refl
get_left (x ∷ xs) (suc i) n = let e : suc (i + n) ≡ suc i + n = omega arith in get_left xs i n ∙ ap (slice_get (x ∷ xs)) e

-- a table that what is left begins with
pub stands : (own rest all : List Identity) (first : ℕ) → drop first all ≡ own ++ rest → StandsFrom own all first
stands own rest all first e = λ n l. sym (get_left all first n) ∙ ap (λ xs. slice_get xs n) e ∙ get_front own rest n l

-- what is left behind it
pub left_behind : (own rest all : List Identity) (first : ℕ) → drop first all ≡ own ++ rest → drop (first + length own) all ≡ rest
left_behind own rest all first e = sym (drop-drop (length own) first all) ∙ ap (drop (length own)) e ∙ drop_at own rest (length own) refl

-- it ends within the whole
pub stays_within : (own rest all : List Identity) (first : ℕ) → drop first all ≡ own ++ rest → first ≤ length all → first + length own ≤ length all
stays_within own rest all first e l =
    let left = length-drop first all in
    let both = length-append own rest in
    let same : length (drop first all) ≡ length (own ++ rest) = ap length e in
    omega (arith, left, both, same, l)

-- what is left at a unit begins with it
left_at : {A : Type 0} (xs : List A) (i : ℕ) (x : A) → slice_get xs i ≡ Some x → drop i xs ≡ x ∷ drop (i + 1) xs
left_at [] i x h = absurd cc
left_at (y ∷ xs) zero x h = let e : y ≡ x = cc in rw e refl
left_at (y ∷ xs) (suc i) x h = let step : suc i + 1 ≡ suc (i + 1) = omega arith in rw step (left_at xs i x h)

-- the names of the units that are left begin with its names
pub names_left : (us : List PlainUnit) (i : ℕ) (u : PlainUnit) → slice_get us i ≡ Some u → names_of (drop i us) ≡ u.names ++ names_of (drop (i + 1) us)
names_left us i u h = ap names_of (left_at us i u h)

-- what one unit more has comes to what the first units have
pub one_unit_more : {A B : Type 0} (f : A → List B) (xs : List A) (i : ℕ) (x : A) → slice_get xs i ≡ Some x → flat_map f (take (i + 1) xs) ≡ flat_map f (take i xs) ++ f x
one_unit_more f [] i x h = absurd cc
one_unit_more f (y ∷ xs) zero x h = let e : y ≡ x = cc in append-nil (f y) ∙ ap f e
one_unit_more f (y ∷ xs) (suc i) x h =
    let step : suc i + 1 ≡ suc (i + 1) = omega arith in
    ap (λ n. flat_map f (take n (y ∷ xs))) step
    ∙ ap (λ l. f y ++ l) (one_unit_more f xs i x h)
    ∙ sym (append_assoc (f y) (flat_map f (take i xs)) (f x))

-- what all have, by what they are seen as
pub all_seen : {A B C : Type 0} (g : A → B) (f : B → List C) (xs : List A) → flat_map (λ x. f (g x)) xs ≡ flat_map f (map g xs)
all_seen g f [] = refl
all_seen g f (x ∷ xs) = ap (λ l. f (g x) ++ l) (all_seen g f xs)
