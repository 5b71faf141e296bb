-- What changes where a local is declared, or gone.
use Rattle.std.specs.Prelude.{◌≡◌, ℕ, ◌+◌, List, [], ◌∷◌, ◌++◌, length, take, drop}
use Rattle.vf_declared.specs.declared.locals.Local.{Local}
use Rattle.vf_declared.specs.declared.locals.Locals.{Locals}

-- each name stands beside what it means
abbrev pub IsAligned : Locals → Type 0
IsAligned l = length l.names ≡ length l.meanings

-- some locals and one more
abbrev pub with_local : Locals → List ℕ → Local → Locals
with_local l name x = record { names = l.names ++ name ∷ []; meanings = l.meanings ++ x ∷ [] }

-- the first of some locals, as many as a count says
abbrev pub first_locals : Locals → ℕ → Locals
first_locals l n = record { names = take n l.names; meanings = take n l.meanings }

-- some locals without the one at an index
abbrev pub without_local : Locals → ℕ → Locals
without_local l n = record { names = take n l.names ++ drop (n + 1) l.names; meanings = take n l.meanings ++ drop (n + 1) l.meanings }
