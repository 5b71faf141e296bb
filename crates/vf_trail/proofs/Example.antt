-- A worked example: two facts on the root, and one on the first of them.
use Rattle.std.proofs.Common.{◌≡◌, ℕ, List, [], ◌∷◌, refl}
use Rattle.vf_trail.specs.Trail.{path_of}

abbrev three : List (ℕ × ℕ)
three = (0, 10) ∷ (1, 11) ∷ (0, 12) ∷ []

path_below : path_of three 2 ≡ 10 ∷ 11 ∷ []
unfolding path_of
path_below = refl

path_right : path_of three 3 ≡ 12 ∷ []
unfolding path_of
path_right = refl

path_absent : path_of three 4 ≡ []
unfolding path_of
path_absent = refl
