-- Locals that are gone behind the branch in which they stand.
use Rattle.std.specs.Prelude.{ℕ, length}
use Rattle.vf_declared.specs.declared.scope.Scope.{Scope}
use Rattle.vf_declared.specs.Changes.{first_locals}

-- how many locals are visible
abbrev pub count : Scope → ℕ
count s = length s.locals.names

-- the first locals alone, as many as a number says: those declared since are gone
abbrev pub left : ℕ → Scope → Scope
left n s = record s { locals = first_locals s.locals n }
