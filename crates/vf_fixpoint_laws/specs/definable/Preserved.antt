-- When what is declared in one scope is so in another.
use Rattle.std.specs.Prelude.{◌≡◌, ℕ, List, Some}
use Rattle.vf_declared.specs.declared.declaration.Constructor.{Constructor}
use Rattle.vf_declared.specs.declared.declaration.GhostDeclaration.{GhostDeclaration}
use Rattle.vf_declared.specs.declared.declaration.GhostDeclaration.TheVariants as ghosts
use Rattle.vf_declared.specs.declared.declaration.Meaning.TheVariants as meanings
use Rattle.vf_declared.specs.declared.locals.Local.{Local}
use Rattle.vf_declared.specs.declared.scope.Scope.{Scope}
use Rattle.vf_declared.specs.Changes.{IsAligned}
use Rattle.vf_declared.specs.Scopes.{datatype_of, declaration_of, ghost_of, later_predicate, local_of}
use Rattle.vf_sorting.specs.Schemes.{sort_of_local}
use Rattle.vf_asserting.specs.Cases.{datatype_in}

-- the second scope has the locals of the first, each beside its name; each name that is such means the same in both from every file, as a predicate that stands later too; a function type of the first is one in the second; and what annotations declare by a number in the first they declare by it in the second, where the constructors in it are of the same datatypes
pub record Preserves (P : List ℕ → Type 0) (s t : Scope) : Type 0 where
  pub locals : t.locals ≡ s.locals
  pub aligned : IsAligned s.locals
  pub has_stdlib : t.has_stdlib ≡ s.has_stdlib
  pub names : (x : List ℕ) (from : ℕ) → P x → declaration_of t x from ≡ declaration_of s x from
  pub predicates : (x : List ℕ) (from : ℕ) → P x → later_predicate t x from ≡ later_predicate s x from
  pub function_types : (x : List ℕ) (from n : ℕ) → declaration_of s x from ≡ Some (meanings.FunctionType n) → declaration_of t x from ≡ Some (meanings.FunctionType n)
  pub annotations : (n : ℕ) (g : GhostDeclaration) → ghost_of s n ≡ Some g → ghost_of t n ≡ Some g
  pub constructors : (n : ℕ) (k : Constructor) → ghost_of s n ≡ Some (ghosts.Constructor k) → datatype_of t k.datatype ≡ datatype_of s k.datatype

-- a local of the first scope that has the sort of a datatype has that of the same datatype in the second
pub record PreservesDatatypes (s t : Scope) : Type 0 where
  pub same : (x : List ℕ) (l : Local) (d : ℕ) → local_of s x ≡ Some l → datatype_in (sort_of_local l) ≡ Some d → datatype_of t d ≡ datatype_of s d
