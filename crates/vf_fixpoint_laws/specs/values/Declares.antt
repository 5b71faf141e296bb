-- What is declared at file level, which identities are those of what annotations declare, and what may be built by them.
use Rattle.std.specs.Prelude.{◌≡◌, ℕ, List, Some}
use Rattle.vf_tree.specs.Core.{Identity}
use Rattle.vf_sorts.specs.Sorts.{Sort}
use Rattle.vf_declared.specs.declared.declaration.Constructor.{Constructor}
use Rattle.vf_declared.specs.declared.declaration.Declaration.{Declaration}
use Rattle.vf_declared.specs.declared.declaration.GhostDeclaration.{GhostDeclaration}
use Rattle.vf_declared.specs.declared.declaration.GhostDeclaration.TheVariants as ghosts
use Rattle.vf_declared.specs.declared.declaration.Meaning.TheVariants as meanings
use Rattle.vf_declared.specs.declared.declaration.PredicateConstructor.{PredicateConstructor}
use Rattle.vf_declared.specs.declared.scope.Scope.{Scope}
use Rattle.vf_declared.specs.Beginning.{no_locals}
use Rattle.vf_declared.specs.Scopes.{at_name, ghost_of, later_predicate}
use Rattle.vf_sorting.specs.declared.scheme.Scheme.{Scheme}
use Rattle.vf_sorting.specs.Kinds.{predicate_sort}
use Rattle.vf_sorting.specs.Schemes.{at_sort, constructor_scheme}
use Rattle.vf_terms.specs.Settings.{Setting}
use Rattle.vf_terms.specs.Named.{files_or_none, identity_of}

-- what is declared, and the paths of files by their numbers
pub record Declared : Type 0 where
  pub scope : Scope
  pub paths : List (List ℕ)

-- what is declared at file level in a setting, which is the same wherever locals alone differ
abbrev pub file_level : Setting → Declared
file_level s = record { scope = record s.scope { locals = no_locals }; paths = s.paths }

-- an identity is that of a name of file level which annotations declare as something
pub record Declares (d : Declared) (c : Identity) (g : GhostDeclaration) : Type 0 where
  pub name : List ℕ
  pub declaration : Declaration
  pub number : ℕ
  pub found : at_name d.scope.names d.scope.declarations name ≡ Some declaration
  pub means : declaration.meaning ≡ meanings.Ghost number
  pub stands : ghost_of d.scope number ≡ Some g
  pub is : c ≡ identity_of d.paths declaration.files name

-- terms of a datatype are built by an identity, which is that of a constructor that may be used so
pub data BuildsTerms (d : Declared) (c : Identity) : Scheme → Type 0 where
  constructed : {k : Constructor} → Declares d c (ghosts.Constructor k) → BuildsTerms d c (constructor_scheme d.scope k)

-- the predicates that a predicate constructor makes
abbrev pub made_scheme : PredicateConstructor → Scheme
made_scheme k = record { parameters = 0; arguments = k.first; result = predicate_sort k.second }

-- predicates are built by an identity, which is that of a predicate, of a predicate constructor or of a predicate that stands later in the unit, and may be used so
pub data BuildsPredicates (d : Declared) (c : Identity) : Scheme → Type 0 where
  declared : {ts : List Sort} → Declares d c (ghosts.Predicate ts) → BuildsPredicates d c (at_sort (predicate_sort ts))
  made : {k : PredicateConstructor} → Declares d c (ghosts.PredicateConstructor k) → BuildsPredicates d c (made_scheme k)
  later : {ts : List Sort} (x : List ℕ) (from : ℕ) → later_predicate d.scope x from ≡ Some ts → c ≡ identity_of d.paths (files_or_none (at_name d.scope.predicates d.scope.predicate_files x)) x → BuildsPredicates d c (at_sort (predicate_sort ts))

-- what is declared and may be built by the second is so by the first
pub record Covers (d e : Declared) : Type 0 where
  pub declares : (c : Identity) (g : GhostDeclaration) → Declares e c g → Declares d c g
  pub terms : (c : Identity) (x : Scheme) → BuildsTerms e c x → BuildsTerms d c x
  pub predicates : (c : Identity) (x : Scheme) → BuildsPredicates e c x → BuildsPredicates d c x
