-- The beginning of a unit.
use Rattle.std.specs.Prelude.{ℕ, false, []}
use Rattle.vf_declared.specs.declared.locals.Locals.{Locals}
use Rattle.vf_declared.specs.declared.scope.Scope.{Scope}

-- no locals
abbrev pub no_locals : Locals
no_locals = record { names = []; meanings = [] }

-- a unit of a file, in which nothing is declared and which includes nothing
abbrev pub empty : ℕ → Scope
empty file = record { file = file; headers = []; preludes = []; has_stdlib = false; has_arrays = false; locals = no_locals; names = []; declarations = []; predicates = []; predicate_files = []; predicate_sorts = []; tags = []; structures = []; functions = []; sides = []; function_types = []; ghosts = []; ghost_sides = []; datatypes = [] }
