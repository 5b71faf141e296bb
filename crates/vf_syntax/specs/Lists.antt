-- Parts that may be absent, and parts that stand one after another.
use Rattle.std.specs.Prelude.{ℕ, max, List, [], ◌∷◌, Option, Some, None}
use Rattle.vf_lexer.specs.declared.punctuator.Punctuator.TheVariants.{Comma}
use Rattle.vf_syntax.specs.declared.side.Side.{Side}
use Rattle.vf_syntax.specs.Walks.{Walk, ◌⨾◌, nothing, mark}

-- a part that may be absent
abbrev pub optional : {A : Type 0} → (A → Walk) → Option A → Walk
optional w None = nothing
optional w (Some x) = w x

-- parts, one after another
abbrev pub each : {A : Type 0} → (A → Walk) → List A → Walk
each w [] = nothing
each w (x ∷ xs) = w x ⨾ each w xs

-- parts, each behind a comma
abbrev pub behind_commas : {A : Type 0} → Side → (A → Walk) → List A → Walk
behind_commas s w [] = nothing
behind_commas s w (x ∷ xs) = mark s Comma ⨾ w x ⨾ behind_commas s w xs

-- parts with commas between them
abbrev pub separated : {A : Type 0} → Side → (A → Walk) → List A → Walk
separated s w [] = nothing
separated s w (x ∷ xs) = w x ⨾ behind_commas s w xs

-- the greatest number of the items of a list
abbrev pub greatest : {A : Type 0} → (A → ℕ) → List A → ℕ
greatest f [] = 0
greatest f (x ∷ xs) = max (f x) (greatest f xs)

-- the number of a part, or 0 where it is absent
abbrev pub or_none : {A : Type 0} → (A → ℕ) → Option A → ℕ
or_none f None = 0
or_none f (Some x) = f x
