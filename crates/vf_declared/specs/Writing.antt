-- What changes where something is declared at file level.
use Rattle.std.specs.Prelude.{ℕ, Bool, true, false, ◌||◌, if◌then◌else◌, List, [], ◌∷◌, ◌++◌, length, Option, Some, None, slice_get, slice_set}
use Rattle.vf_declared.specs.declared.declaration.Meaning.{Meaning}
use Rattle.vf_declared.specs.declared.declaration.Meaning.TheVariants as meanings
use Rattle.vf_declared.specs.declared.declaration.Declaration.{Declaration}
use Rattle.vf_declared.specs.declared.declaration.Signature.{Signature}
use Rattle.vf_declared.specs.declared.declaration.Sides.{Sides}
use Rattle.vf_declared.specs.declared.declaration.GhostDeclaration.{GhostDeclaration}
use Rattle.vf_declared.specs.declared.declaration.GhostSides.{GhostSides}
use Rattle.vf_declared.specs.declared.declaration.Structure.{Structure}
use Rattle.vf_declared.specs.declared.declaration.Fields.{Fields}
use Rattle.vf_declared.specs.declared.locals.Locals.{Locals}
use Rattle.vf_declared.specs.declared.scope.Scope.{Scope}
use Rattle.vf_declared.specs.Scopes.{has}

-- some files and one more, unless it is among them
abbrev pub with_file : List ℕ → ℕ → List ℕ
with_file files file = if has files file then files else files ++ file ∷ []

-- a list whose item at an index is changed, if there is one
abbrev pub changed_at : {A : Type 0} → (A → A) → List A → ℕ → Option A → List A
changed_at change xs n None = xs
changed_at change xs n (Some x) = slice_set xs n (change x)

-- the same
abbrev pub changed : {A : Type 0} → (A → A) → List A → ℕ → List A
changed change xs n = changed_at change xs n (slice_get xs n)

-- a scope with one more name of file level, declared in a file
abbrev pub with_name : Scope → List ℕ → Meaning → ℕ → Scope
with_name s name m file = record s { names = s.names ++ name ∷ []; declarations = s.declarations ++ (record { meaning = m; files = file ∷ [] }) ∷ [] }

-- a scope in which the name with a number is declared in a file too
abbrev pub with_name_again : Scope → ℕ → ℕ → Scope
with_name_again s n file = record s { declarations = changed (λ (d : Declaration). record d { files = with_file d.files file }) s.declarations n }

-- a scope with one more struct, declared in a file without its fields so far, and whether it is opaque there
abbrev pub with_struct : Scope → List ℕ → ℕ → Bool → Scope
with_struct s tag file opaque = record s { tags = s.tags ++ tag ∷ []; structures = s.structures ++ (record { files = file ∷ []; fields = None; is_opaque = opaque }) ∷ [] }

-- a scope in which the struct with a number is declared in a file too, and whether it is opaque there
abbrev pub with_struct_again : Scope → ℕ → ℕ → Bool → Scope
with_struct_again s n file opaque = record s { structures = changed (λ (x : Structure). record x { files = with_file x.files file; is_opaque = x.is_opaque || opaque }) s.structures n }

-- a scope in which the struct with a number has fields
abbrev pub with_fields : Scope → ℕ → Fields → Scope
with_fields s n fields = record s { structures = changed (λ (x : Structure). record x { fields = Some fields }) s.structures n }

-- a scope with one more function, declared in a file, of a signature, without a prototype or a body so far
abbrev pub with_function : Scope → List ℕ → ℕ → Signature → Scope
with_function s name file x = record (with_name s name (meanings.Function (length s.functions)) file) { functions = s.functions ++ x ∷ []; sides = s.sides ++ (record { prototype = None; is_defined = false }) ∷ [] }

-- a scope in which the function with a number has a prototype, behind which these locals are visible
abbrev pub with_prototype : Scope → ℕ → Locals → Scope
with_prototype s n l = record s { sides = changed (λ (x : Sides). record x { prototype = Some l }) s.sides n }

-- a scope in which the function with a number has a body
abbrev pub with_body : Scope → ℕ → Scope
with_body s n = record s { sides = changed (λ (x : Sides). record x { is_defined = true }) s.sides n }

-- a predicate, a lemma or a family of which there is neither a declaration without a body nor a body so far
abbrev pub no_ghost_sides : GhostSides
no_ghost_sides = record { prototype = None; is_defined = false; functions = [] }

-- a scope with one more thing that annotations declare
abbrev pub with_ghost : Scope → GhostDeclaration → Scope
with_ghost s g = record s { ghosts = s.ghosts ++ g ∷ []; ghost_sides = s.ghost_sides ++ no_ghost_sides ∷ [] }

-- a scope in which the predicate or lemma with a number is declared without a body, behind which these locals are visible
abbrev pub with_ghost_prototype : Scope → ℕ → Locals → Scope
with_ghost_prototype s n l = record s { ghost_sides = changed (λ (x : GhostSides). record x { prototype = Some l }) s.ghost_sides n }

-- a scope in which the predicate or lemma with a number has a body
abbrev pub with_ghost_body : Scope → ℕ → Scope
with_ghost_body s n = record s { ghost_sides = changed (λ (x : GhostSides). record x { is_defined = true }) s.ghost_sides n }

-- a scope in which the family with a number has a body for the function with a number
abbrev pub with_instance : Scope → ℕ → ℕ → Scope
with_instance s n f = record s { ghost_sides = changed (λ (x : GhostSides). record x { functions = x.functions ++ f ∷ [] }) s.ghost_sides n }
