-- What is declared up to a name is declared among all that is.
use Rattle.std.specs.Prelude.{◌≡◌, ℕ, List, Some, None}
use Rattle.vf_tree.specs.Core.{Identity}
use Rattle.vf_names.specs.Names.{number_of}
use Rattle.vf_sorts.specs.Sorts.{Sort}
use Rattle.vf_syntax.specs.declared.written.Name.{Name}
use Rattle.vf_declared.specs.declared.declaration.GhostDeclaration.TheVariants as ghosts
use Rattle.vf_declared.specs.declared.scope.Scope.{Scope}
use Rattle.vf_declared.specs.Scopes.{at_name, later_predicate}
use Rattle.vf_sorting.specs.declared.scheme.Scheme.{Scheme}
use Rattle.vf_terms.specs.Named.{files_or_none, identity_of}
use Rattle.vf_defining.specs.UpTo.{up_to}
use Rattle.vf_fixpoint_laws.specs.values.Declares.{BuildsPredicates, Covers, Declares}
use Rattle.vf_fixpoint_laws.specs.bodies.Bodies.{declared_at}

-- the predicates that may be built by what is declared up to a name may be so by all
abbrev pub PredicatesStay : Name → Scope → List (List ℕ) → Type 0
PredicatesStay n s paths = (c : Identity) (x : Scheme) → BuildsPredicates (declared_at (up_to n s) paths) c x → BuildsPredicates (declared_at s paths) c x

-- all that is declared covers what is so up to a name, where the predicates that may be built stay such
abbrev pub FrontsAreCovered : Type 0
FrontsAreCovered = (n : Name) (s : Scope) (paths : List (List ℕ)) → PredicatesStay n s paths → Covers (declared_at s paths) (declared_at (up_to n s) paths)

-- a predicate that stands later than a name, and whose own name is declared behind it, is declared over the sorts and in the files that were told of it
abbrev pub LaterAreDeclared : Name → Scope → List (List ℕ) → Type 0
LaterAreDeclared n s paths =
    (x : List ℕ) (from : ℕ) (ts : List Sort) (k : ℕ) → number_of (up_to n s).names x ≡ None → number_of s.names x ≡ Some k → later_predicate (up_to n s) x from ≡ Some ts
    → Declares (declared_at s paths) (identity_of paths (files_or_none (at_name s.predicates s.predicate_files x)) x) (ghosts.Predicate ts)

-- where they are, the predicates that may be built stay such
abbrev pub LaterPredicatesStay : Type 0
LaterPredicatesStay = (n : Name) (s : Scope) (paths : List (List ℕ)) → LaterAreDeclared n s paths → PredicatesStay n s paths
