-- What is declared behind a family, and in front of the bodies of predicate constructors and fixpoints, or the first refusal in the order of the text.
use Rattle.std.specs.Prelude.{ℕ, List, [], length, Result, Ok}
use Rattle.vf_base.specs.declared.refusal.Refusal.{Refusal}
use Rattle.vf_sorts.specs.Sorts.{Sort}
use Rattle.vf_declared.specs.declared.declaration.GhostDeclaration.TheVariants as ghosts
use Rattle.vf_declared.specs.declared.scope.Scope.{Scope}
use Rattle.vf_declared.specs.Changes.{first_locals}
use Rattle.vf_syntax.specs.declared.item.GhostParameter.{GhostParameter}
use Rattle.vf_syntax.specs.declared.written.Name.{Name}
use Rattle.vf_syntax.specs.SortTree.{SortTree}
use Rattle.vf_sorting.specs.Spelling.{written_sort}
use Rattle.vf_declared.specs.Writing.{with_ghost}
use Rattle.vf_datatypes.specs.Datatypes.{with_next}
use Rattle.vf_datatypes.specs.NewNames.{name_refusal}
use Rattle.vf_datatypes.specs.NewNames as names
use Rattle.vf_datatypes.specs.Walking.{behind, unless}
use Rattle.vf_heads.specs.Parameters.{Taken, named, none_taken, parameters_behind}

-- the first locals alone are left, as many as a count says
abbrev pub leaving : ℕ → Scope → Scope
leaving n s = record s { locals = first_locals s.locals n }

-- a family with an index of a sort, whose parameters were taken; they are gone behind it
abbrev pub with_family : ℕ → Sort → Taken → Result Scope Refusal
with_family n t k = Ok (with_ghost (leaving n k.scope) (ghosts.Family (record { index = t; arguments = k.sorts })))

-- the parameters of a family behind its index
abbrev pub behind_index : ℕ → Sort → List GhostParameter → Scope → Result Scope Refusal
behind_index n t gs s = behind (with_family n t) (parameters_behind [] gs (none_taken s))

-- the index of a family, and its parameters
abbrev pub indexed : GhostParameter → List GhostParameter → Scope → Sort → Result Scope Refusal
indexed i gs s t = behind (λ (k : Taken). behind_index (length s.locals.names) t gs k.scope) (named i.name (none_taken s) t)

-- a family: its name, its index, its parameters
abbrev pub family_behind : Name → GhostParameter → List GhostParameter → Scope → Result Scope Refusal
family_behind n i gs s = unless (name_refusal s n) (behind (indexed i gs (with_next s n)) (written_sort (with_next s n) [] i.sort))

-- a predicate constructor over parameters of some sorts, and then of these
abbrev pub with_predicate_constructor : List Sort → Taken → Result Scope Refusal
with_predicate_constructor ts k = Ok (with_ghost k.scope (ghosts.PredicateConstructor (record { first = ts; second = k.sorts })))

-- the second parameters of a predicate constructor, whose first ones were taken
abbrev pub second_behind : List GhostParameter → Taken → Result Scope Refusal
second_behind gs k = behind (with_predicate_constructor k.sorts) (parameters_behind [] gs (none_taken k.scope))

-- a predicate constructor in front of its body, where its parameters are locals: its name, and its first and second parameters
abbrev pub constructor_behind : Name → List GhostParameter → List GhostParameter → Scope → Result Scope Refusal
constructor_behind n fs gs s = unless (name_refusal s n) (behind (second_behind gs) (parameters_behind [] fs (none_taken (with_next s n))))

-- a fixpoint with so many type parameters and a result of a sort, whose parameters were taken
abbrev pub with_fixpoint : ℕ → Sort → Taken → Result Scope Refusal
with_fixpoint n t k = Ok (with_ghost k.scope (ghosts.Fixpoint (record { parameters = n; arguments = k.sorts; result = t })))

-- the name of a fixpoint whose result is of a sort, and its parameters
abbrev pub named_fixpoint : Name → List GhostParameter → Scope → List (List ℕ) → Sort → Result Scope Refusal
named_fixpoint n gs s ps t = unless (name_refusal s n) (behind (with_fixpoint (length ps) t) (parameters_behind ps gs (none_taken (with_next s n))))

-- the result of a fixpoint with these type parameters, its name and its parameters
abbrev pub given_fixpoint : SortTree → Name → List GhostParameter → Scope → List (List ℕ) → Result Scope Refusal
given_fixpoint r n gs s ps = behind (named_fixpoint n gs s ps) (written_sort s ps r)

-- a fixpoint in front of its body, where its parameters are locals: its type parameters, the sort of its result, its name and its parameters
abbrev pub fixpoint_behind : SortTree → Name → List Name → List GhostParameter → Scope → Result Scope Refusal
fixpoint_behind r n ns gs s = behind (given_fixpoint r n gs s) (names.parameters_behind s ns [])
