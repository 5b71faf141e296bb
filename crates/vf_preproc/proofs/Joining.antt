-- How the macros of a header join those of its includer one by one.
use Rattle.std.proofs.Common.{◌≡◌, ℕ, zero, suc, ◌+◌, arith, refl, ap, List, [], ◌∷◌, drop, slice_get, Some, None, Result, Ok}
use Rattle.vf_base.specs.declared.place.Place.{Place}
use Rattle.vf_lexer.specs.declared.token.Token.{Token}
use Rattle.vf_preproc.specs.declared.fault.ExpandFault.{ExpandFault}
use Rattle.vf_preproc.specs.declared.fault.ExpandFault.TheVariants as faults
use Rattle.vf_preproc.specs.Macros.{Table, body_of}
use Rattle.vf_preproc.specs.Directives.{◌>>=◌, Fault, defined}
use Rattle.vf_preproc.specs.Answers.{Fails}
use Rattle.vf_preproc.specs.UnitText.{joined}

-- a fault stays the same whatever was to come
pub Fails-then : {A B : Type 0} (e : ExpandFault) (r : Result A Fault) (f : A → Result B Fault) → Fails e r → Fails e (r >>= f)
Fails-then (faults.Refused x) r f h = (ap (λ q. q >>= f) h.0, h.1)
Fails-then faults.Missing r f h = absurd h
Fails-then faults.ReadFault r f h = absurd h
Fails-then faults.Memory r f h = tt

-- one more macro
pub joined_step : (hash : Place) (table : Table) (names : List (List ℕ)) (bodies : List (List Token)) (n : ℕ) (name : List ℕ) (tokens : List Token) → slice_get names n ≡ Some name → slice_get bodies n ≡ Some tokens
    → joined hash table (drop n names) (drop n bodies) ≡ (defined hash name tokens table (body_of table name) >>= λ t. joined hash t (drop (n + 1) names) (drop (n + 1) bodies))
joined_step hash table [] bodies n name tokens at there = absurd cc
joined_step hash table (x ∷ xs) [] n name tokens at there = absurd cc
joined_step hash table (x ∷ xs) (b ∷ bs) zero name tokens at there = let same : x ≡ name = cc in let alike : b ≡ tokens = cc in rw (same, alike) refl
joined_step hash table (x ∷ xs) (b ∷ bs) (suc n) name tokens at there = let more : suc n + 1 ≡ suc (n + 1) = omega arith in rw more (joined_step hash table xs bs n name tokens at there)

-- where there are no more tokens nothing more joins
pub joined_none : (hash : Place) (table : Table) (names : List (List ℕ)) (bodies : List (List Token)) (n : ℕ) → slice_get bodies n ≡ None → joined hash table (drop n names) (drop n bodies) ≡ Ok table
joined_none hash table [] bodies zero none = refl
joined_none hash table [] bodies (suc n) none = refl
joined_none hash table (x ∷ xs) [] zero none = refl
joined_none hash table (x ∷ xs) [] (suc n) none = nothing (drop n xs)
  where
    nothing : (ys : List (List ℕ)) → joined hash table ys [] ≡ Ok table
    nothing [] = refl
    nothing (y ∷ ys) = refl
joined_none hash table (x ∷ xs) (b ∷ bs) zero none = absurd cc
joined_none hash table (x ∷ xs) (b ∷ bs) (suc n) none = joined_none hash table xs bs n none
