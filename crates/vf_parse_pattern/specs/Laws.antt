-- What is read where nothing nests.
use Rattle.std.specs.Prelude.{ℕ}

-- nothing in it nests
abbrev pub flat : {A : Type 0} → A → ℕ
flat x = 0
