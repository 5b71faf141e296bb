-- Where texts are mentioned first.
use Rattle.std.proofs.Common.{◌≡◌, ◌⊎◌, ℕ, zero, suc, ◌+◌, ◌<◌, ◌≤◌, Bool, true, not, cond, List, [], ◌∷◌, ◌++◌, length, map, take, drop, get_or, refl, sym, ap, ◌∙◌, inl, inr, arith}
use Rattle.std.specs.Prelude.{Contains}
use Rattle.std.specs.List.{position_or_len}
use Rattle.std.specs.Str.{bytes_eq}
use Rattle.std.proofs.lemmas.List.{take-append-drop}
use Rattle.std.proofs.lemmas.List.Sums.{fails_before_first, passes_at_first}
use Rattle.std.proofs.lemmas.Slice.Eq.{bytes_eq-Decides}
use Rattle.vf_link.specs.Statements.{place}
use Rattle.vf_cycles.proofs.Lists.{here, there}
use Rattle.vf_link.proofs.Lists.{at_place}

same_passes : (t u : List ℕ) → u ≡ t → bytes_eq t u ≡ true
same_passes t u e = (bytes_eq-Decides t u).1 (sym e)

-- a text stands at no place before its own
pub none_before : (texts : List (List ℕ)) (t d : List ℕ) (k : ℕ) → k < place texts t → get_or texts k d ≡ t → ⊥
none_before texts t d k before is =
    let fails = fails_before_first (bytes_eq t) texts k d before in
    let passes = same_passes t (get_or texts k d) is in
    absurd cc

pub place_le : (texts : List (List ℕ)) (t d : List ℕ) (k : ℕ) → get_or texts k d ≡ t → place texts t ≤ k
place_le texts t d k is = by (le_or_lt k)
  where
    le_or_lt : (k : ℕ) → (place texts t ≤ k) ⊎ (k < place texts t)
    le_or_lt k = grind arith

    by : (place texts t ≤ k) ⊎ (k < place texts t) → place texts t ≤ k
    by (inl le) = le
    by (inr lt) = absurd (none_before texts t d k lt is)

pub place_within : (texts : List (List ℕ)) (t : List ℕ) → Contains texts t → place texts t < length texts
place_within texts t c = let le = place_le texts t [] c.0 (at_place texts t [] c) in let within = c.1 in omega arith

-- a text stands at its place
pub place_is : (texts : List (List ℕ)) (t d : List ℕ) → Contains texts t → get_or texts (place texts t) d ≡ t
place_is texts t d c = sym ((bytes_eq-Decides t (get_or texts (place texts t) d)).0 (passes_at_first (bytes_eq t) texts d (place_within texts t c)))

-- what stands in front has the same first place where more stands behind
first_in_front : (p : List ℕ → Bool) (xs ys : List (List ℕ)) (k : ℕ) (d : List ℕ) → k < length xs → p (get_or xs k d) ≡ true
    → position_or_len p (xs ++ ys) ≡ position_or_len p xs
first_in_front p [] ys k d within h = absurd (let none : ⊥ = omega arith in none)
first_in_front p (x ∷ xs) ys zero d within h = ap (λ b. cond (not b) (1 + position_or_len p (xs ++ ys)) 0) h ∙ sym (ap (λ b. cond (not b) (1 + position_or_len p xs) 0) h)
first_in_front p (x ∷ xs) ys (suc k) d within h = ap (λ n. cond (not (p x)) (1 + n) 0) (first_in_front p xs ys k d (omega arith) h)

place_in_front : (xs ys : List (List ℕ)) (t : List ℕ) → Contains xs t → place (xs ++ ys) t ≡ place xs t
place_in_front xs ys t c = first_in_front (bytes_eq t) xs ys c.0 [] c.1 (same_passes t (get_or xs c.0 []) (at_place xs t [] c))

same_maps : (f g : List ℕ → ℕ) (xs : List (List ℕ)) → ((x : List ℕ) → Contains xs x → f x ≡ g x) → map f xs ≡ map g xs
same_maps f g [] same = refl
same_maps f g (x ∷ xs) same = ap (λ n. n ∷ map f xs) (same x (here x xs)) ∙ ap (λ ns. g x ∷ ns) (same_maps f g xs (λ y c. same y (there x y xs c)))

-- the first places of the texts in front are their first places among these
pub places_in_front : (texts : List (List ℕ)) (count : ℕ) → map (place texts) (take count texts) ≡ map (place (take count texts)) (take count texts)
places_in_front texts count = same_maps (place texts) (place (take count texts)) (take count texts)
    (λ x c. ap (λ ts. place ts x) (sym (take-append-drop count texts)) ∙ place_in_front (take count texts) (drop count texts) x c)
