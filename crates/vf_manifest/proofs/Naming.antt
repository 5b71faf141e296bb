-- Paths and names that stand in one text.
use Rattle.std.proofs.Common.{◌≡◌, ℕ, ◌+◌, List, [], ◌∷◌, ◌++◌, length, take, drop, refl, ap, ◌∙◌, arith}
use Rattle.std.proofs.lemmas.List.{take_all, take-append-le}
use Rattle.vf_manifest.specs.Identities.{Identity}
use Rattle.vf_manifest.proofs.Cutting.{next}

pub front_at : (path : List ℕ) (c : ℕ) (name : List ℕ) → take (length path) (path ++ c ∷ name) ≡ path
front_at path c name = take-append-le (length path) path (c ∷ name) (omega arith) ∙ take_all (length path) path (omega arith)

pub behind_at : (path : List ℕ) (c : ℕ) (name : List ℕ) → drop (length path + 1) (path ++ c ∷ name) ≡ name
behind_at [] c name = refl
behind_at (x ∷ path) c name = ap (λ m. drop m (x ∷ (path ++ c ∷ name))) (next (length path)) ∙ behind_at path c name

-- the path and the name of a text
path_in : (text path name : List ℕ) → text ≡ path ++ 35 ∷ name → take (length path) text ≡ path
path_in text path name is = ap (take (length path)) is ∙ front_at path 35 name

name_in : (text path name : List ℕ) → text ≡ path ++ 35 ∷ name → drop (length path + 1) text ≡ name
name_in text path name is = ap (drop (length path + 1)) is ∙ behind_at path 35 name

pub named : (text path name : List ℕ) → text ≡ path ++ 35 ∷ name
    → ◌≡◌ {A = Identity} (record { path = take (length path) text; name = drop (length path + 1) text }) (record { path = path; name = name })
named text path name is =
    ap (λ p. record { path = p; name = drop (length path + 1) text }) (path_in text path name is) ∙ ap (λ n. record { path = path; name = n }) (name_in text path name is)
