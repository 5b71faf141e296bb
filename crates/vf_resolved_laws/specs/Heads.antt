-- What heads take and give: the sorts of the parts of a term, and of the whole.
use Rattle.std.specs.Prelude.{◌≡◌, ℕ, ℤ, Bool, List, [], ◌∷◌, Option, Some}
use Rattle.vf_tree.specs.Core.{ArithmeticOperator, Comparison, Equal, Identity, NotEqual}
use Rattle.vf_meaning.specs.Ghost.{Name}
use Rattle.vf_closure.specs.Terms.{Head, Kind}
use Rattle.vf_closure.specs.Terms as terms
use Rattle.vf_sorts.specs.declared.sort.Head.TheVariants as heads
use Rattle.vf_sorts.specs.Sorts.{Sort}
use Rattle.vf_sorts.specs.Unknowns.{leaf}
use Rattle.vf_declared.specs.declared.declaration.Constructor.{Constructor}
use Rattle.vf_declared.specs.declared.declaration.Declaration.{Declaration}
use Rattle.vf_declared.specs.declared.declaration.Fixpoint.{Fixpoint}
use Rattle.vf_declared.specs.declared.declaration.GhostDeclaration.{GhostDeclaration}
use Rattle.vf_declared.specs.declared.declaration.GhostDeclaration.TheVariants as ghosts
use Rattle.vf_declared.specs.declared.declaration.Meaning.{Meaning}
use Rattle.vf_declared.specs.declared.declaration.Meaning.TheVariants as meanings
use Rattle.vf_declared.specs.declared.declaration.PredicateConstructor.{PredicateConstructor}
use Rattle.vf_declared.specs.declared.scope.Scope.{Scope}
use Rattle.vf_declared.specs.Beginning.{no_locals}
use Rattle.vf_declared.specs.Scopes.{at_name, ghost_of, later_predicate}
use Rattle.vf_sorting.specs.declared.scheme.Scheme.{Scheme}
use Rattle.vf_sorting.specs.Kinds.{bool_sort, int_sort, pointer_sort, predicate_sort}
use Rattle.vf_sorting.specs.Schemes.{at_sort, constructor_scheme, test_scheme, used_parameters}
use Rattle.vf_terms.specs.Settings.{Setting}
use Rattle.vf_terms.specs.Named.{files_or_none, identity_of}

-- What is declared at file level, and the text of which declaration it is, by its number, if of any; the paths of files, by their numbers; and the sorts of names
pub record Vocabulary : Type 0 where
  pub scope : Scope
  pub own : Option ℕ
  pub paths : List (List ℕ)
  pub names : Name → Sort

-- that of a setting, where names have these sorts: it is the same wherever locals alone differ
abbrev pub vocabulary_of : Setting → (Name → Sort) → Vocabulary
vocabulary_of s names = record { scope = record s.scope { locals = no_locals }; own = s.context.own; paths = s.paths; names = names }

-- an identity is that of a name of file level, which has a meaning
pub record Means (d : Vocabulary) (c : Identity) (m : Meaning) : Type 0 where
  pub name : List ℕ
  pub declaration : Declaration
  pub found : at_name d.scope.names d.scope.declarations name ≡ Some declaration
  pub means : declaration.meaning ≡ m
  pub is : c ≡ identity_of d.paths declaration.files name

-- an identity is that of a name which annotations declare as something, by a number
pub record Declares (d : Vocabulary) (c : Identity) (n : ℕ) (g : GhostDeclaration) : Type 0 where
  pub named : Means d c (meanings.Ghost n)
  pub stands : ghost_of d.scope n ≡ Some g

-- a fixpoint that has a number, in its own text or in another
abbrev pub fixpoint_scheme : Option ℕ → ℕ → Fixpoint → Scheme
fixpoint_scheme own n f = record { parameters = used_parameters own n f.parameters; arguments = f.arguments; result = f.result }

-- a predicate constructor makes predicates
abbrev pub made_scheme : PredicateConstructor → Scheme
made_scheme k = record { parameters = 0; arguments = k.first; result = predicate_sort k.second }

-- two parts of a sort, and a whole of another
abbrev pub over_two : Sort → Sort → Scheme
over_two t u = record { parameters = 0; arguments = t ∷ t ∷ []; result = u }

-- `==` and `!=` take two parts of each sort, and every other comparison takes numbers
abbrev pub comparison_scheme : Comparison → Scheme
comparison_scheme Equal = record { parameters = 1; arguments = leaf (heads.Parameter 0) ∷ leaf (heads.Parameter 0) ∷ []; result = bool_sort }
comparison_scheme NotEqual = record { parameters = 1; arguments = leaf (heads.Parameter 0) ∷ leaf (heads.Parameter 0) ∷ []; result = bool_sort }
comparison_scheme o = over_two int_sort bool_sort

-- a choice takes a truth value and two parts of each sort
abbrev pub choice_scheme : Scheme
choice_scheme = record { parameters = 1; arguments = bool_sort ∷ leaf (heads.Parameter 0) ∷ leaf (heads.Parameter 0) ∷ []; result = leaf (heads.Parameter 0) }

-- a head takes parts of the sorts of a scheme, and gives a whole of its sort; no expression is read as a term with another head, but for symbols
pub data HeadTakes (d : Vocabulary) : Head → Scheme → Type 0 where
  number : {z : ℤ} → HeadTakes d (terms.Number z) (at_sort int_sort)
  truth : {b : Bool} → HeadTakes d (terms.Truth b) (at_sort bool_sort)
  null : HeadTakes d terms.Null (at_sort pointer_sort)
  function : {c : Identity} {n : ℕ} → Means d c (meanings.Function n) → HeadTakes d (terms.Function c) (at_sort pointer_sort)
  constructor : {c : Identity} {n : ℕ} {k : Constructor} → Declares d c n (ghosts.Constructor k) → HeadTakes d (terms.Constructor c) (constructor_scheme d.scope k)
  fixpoint : {k : Kind} {c : Identity} {n : ℕ} {f : Fixpoint} → Declares d c n (ghosts.Fixpoint f) → HeadTakes d (terms.Fixpoint k c) (fixpoint_scheme d.own n f)
  claims : {c : Identity} {n : ℕ} → Means d c (meanings.FunctionType n) → HeadTakes d (terms.Claims c) test_scheme
  predicate : {c : Identity} {n : ℕ} {ts : List Sort} → Declares d c n (ghosts.Predicate ts) → HeadTakes d (terms.Predicate c) (at_sort (predicate_sort ts))
  predicate_constructor : {c : Identity} {n : ℕ} {k : PredicateConstructor} → Declares d c n (ghosts.PredicateConstructor k) → HeadTakes d (terms.Predicate c) (made_scheme k)
  later_predicate_ : {c : Identity} {ts : List Sort} (x : List ℕ) (from : ℕ) → later_predicate d.scope x from ≡ Some ts → c ≡ identity_of d.paths (files_or_none (at_name d.scope.predicates d.scope.predicate_files x)) x
      → HeadTakes d (terms.Predicate c) (at_sort (predicate_sort ts))
  arithmetic : {o : ArithmeticOperator} → HeadTakes d (terms.Arithmetic o) (over_two int_sort int_sort)
  comparison : {o : Comparison} → HeadTakes d (terms.Compare o) (comparison_scheme o)
  not_ : HeadTakes d terms.Not (record { parameters = 0; arguments = bool_sort ∷ []; result = bool_sort })
  and_ : HeadTakes d terms.And (over_two bool_sort bool_sort)
  or_ : HeadTakes d terms.Or (over_two bool_sort bool_sort)
  choice : {k : Kind} → HeadTakes d (terms.Choose k) choice_scheme
  pointer_sum : HeadTakes d terms.PointerSum (record { parameters = 0; arguments = pointer_sort ∷ int_sort ∷ []; result = pointer_sort })
