-- Texts cut at a byte.
use Rattle.std.specs.Prelude.{ℕ, ◌==◌, Bool, false, List, [], ◌∷◌, Option, Some, None, if◌then◌else◌}

infixl 10 ◌>>=◌
abbrev pub ◌>>=◌ : {A B : Type 0} → Option A → (A → Option B) → Option B
None >>= f = None
(Some x) >>= f = f x

-- what stands before the first byte of this value, and what stands behind it
unfoldable pub cut : ℕ → List ℕ → Option (List ℕ × List ℕ)
cut c [] = None
cut c (b ∷ bs) = if b == c then Some ([], bs) else (cut c bs >>= λ p. Some (b ∷ p.0, p.1))

-- a fact of what is there
abbrev pub holds : {A : Type 0} → Option A → (A → Bool) → Bool
holds None test = false
holds (Some x) test = test x
