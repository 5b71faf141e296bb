-- What names mean in terms: locals have terms of their own, and what is declared has an identity.
use Rattle.std.specs.Prelude.{ℕ, pos, if◌then◌else◌, List, [], ◌∷◌, ◌++◌, drop, Option, Some, None, Result, Ok, Err, slice_get, codes}
use Rattle.vf_base.specs.declared.refusal.Refusal.{Refusal}
use Rattle.vf_tree.specs.Core.{Identity}
use Rattle.vf_names.specs.Names.{number_of}
use Rattle.vf_closure.specs.Terms.{Kind, Head, Function, Constructor, Fixpoint, Claims, Predicate, Term, term, no_terms, number}
use Rattle.vf_formula.specs.Rows.{row}
use Rattle.vf_declared.specs.declared.declaration.Meaning.{Meaning}
use Rattle.vf_declared.specs.declared.declaration.Meaning.TheVariants as meanings
use Rattle.vf_declared.specs.declared.declaration.Declaration.{Declaration}
use Rattle.vf_declared.specs.declared.declaration.GhostDeclaration.{GhostDeclaration}
use Rattle.vf_declared.specs.declared.declaration.GhostDeclaration.TheVariants as ghosts
use Rattle.vf_declared.specs.declared.scope.Scope.{Scope}
use Rattle.vf_declared.specs.Scopes.{at_name, is_visible, is_later_predicate, ghost_of}
use Rattle.vf_sorting.specs.declared.scheme.Scheme.{Scheme}
use Rattle.vf_sorting.specs.Kinds.{int_sort}
use Rattle.vf_sorting.specs.Schemes.{at_sort}
use Rattle.vf_terms.specs.Settings.{Setting}

-- the path of the first of some files
abbrev pub path_or_none : Option (List ℕ) → List ℕ
path_or_none None = []
path_or_none (Some path) = path

abbrev pub first_path : List (List ℕ) → List ℕ → List ℕ
first_path paths [] = []
first_path paths (f ∷ fs) = path_or_none (slice_get paths f)

-- the identity of a name that is declared in some files: the path of the first of them and the name
abbrev pub identity_of : List (List ℕ) → List ℕ → List ℕ → Identity
identity_of paths files x = first_path paths files ++ codes "#" ++ x

-- a declaration where it is seen from a file
abbrev pub seen_from : Scope → ℕ → Option Declaration → Option Declaration
seen_from s from None = None
seen_from s from (Some d) = if is_visible s from d.files then Some d else None

-- what declares a name, as it is seen from a file
abbrev pub declaration_seen : Scope → List ℕ → ℕ → Option Declaration
declaration_seen s x from = seen_from s from (at_name s.names s.declarations x)

-- the files in which something is declared, none where it is not
abbrev pub files_or_none : Option (List ℕ) → List ℕ
files_or_none None = []
files_or_none (Some files) = files

-- the head of what annotations declare, as a value: a constructor or a predicate
abbrev pub ghost_head : Identity → Option GhostDeclaration → Option Head
ghost_head i (Some (ghosts.Constructor k)) = Some (Constructor i)
ghost_head i (Some (ghosts.Predicate ts)) = Some (Predicate i)
ghost_head i d = None

-- the head of a predicate that stands later in the unit
abbrev pub later_head : Setting → List ℕ → ℕ → Option Head
later_head s x from =
    if is_later_predicate s.scope x from then Some (Predicate (identity_of s.paths (files_or_none (at_name s.scope.predicates s.scope.predicate_files x)) x)) else None

-- the head of a name that is declared in some files, by what it means, as a value: a function, a constructor or a predicate
abbrev pub meant_head : Setting → List ℕ → List ℕ → Meaning → Option Head
meant_head s x files (meanings.Function n) = Some (Function (identity_of s.paths files x))
meant_head s x files (meanings.FunctionType n) = None
meant_head s x files (meanings.Ghost n) = ghost_head (identity_of s.paths files x) (ghost_of s.scope n)

-- the head of what a declaration declares, as a value
abbrev pub declared_head : Setting → List ℕ → ℕ → Option Declaration → Option Head
declared_head s x from None = later_head s x from
declared_head s x from (Some d) = meant_head s x d.files d.meaning

-- a head without parts; where there is none, the number 0
abbrev pub term_of_head : Option Head → Term
term_of_head None = number (pos 0)
term_of_head (Some h) = term h no_terms

-- the term of a local; where there is none, the number 0
abbrev pub local_term : Option Term → Term
local_term None = number (pos 0)
local_term (Some t) = t

-- the term of a name in a file, where it is or is not a local: a local hides what is declared at file level
abbrev pub name_term : Setting → List ℕ → ℕ → Option ℕ → Term
name_term s x from None = term_of_head (declared_head s x from (declaration_seen s.scope x from))
name_term s x from (Some k) = local_term (slice_get s.locals k)

-- the term of a name in a file
abbrev pub term_of_name : Setting → List ℕ → ℕ → Term
term_of_name s x from = name_term s x from (number_of s.scope.locals.names x)

-- the head of what annotations declare, in front of arguments, with the kind of the whole: a constructor, a fixpoint or a predicate constructor
abbrev pub applied_ghost_head : Kind → Identity → Option GhostDeclaration → Option Head
applied_ghost_head k i (Some (ghosts.Constructor c)) = Some (Constructor i)
applied_ghost_head k i (Some (ghosts.Fixpoint f)) = Some (Fixpoint k i)
applied_ghost_head k i (Some (ghosts.PredicateConstructor c)) = Some (Predicate i)
applied_ghost_head k i d = None

-- `is_T`: the test whether a function claims the function type T, by what T means
abbrev pub test_by : Setting → List ℕ → List ℕ → Meaning → Option Head
test_by s x files (meanings.FunctionType n) = Some (Claims (identity_of s.paths files (drop 3 x)))
test_by s x files m = None

abbrev pub test_head : Setting → List ℕ → Option Declaration → Option Head
test_head s x None = None
test_head s x (Some d) = test_by s x d.files d.meaning

-- the head of a name in front of arguments, by what it means, the whole being of a kind
abbrev pub applied_by : Setting → Kind → List ℕ → List ℕ → Meaning → Option Head
applied_by s k x files (meanings.Ghost n) = applied_ghost_head k (identity_of s.paths files x) (ghost_of s.scope n)
applied_by s k x files m = None

-- the head of a name in front of arguments
abbrev pub applied_head : Setting → Kind → List ℕ → ℕ → Option Declaration → Option Head
applied_head s k x from None = test_head s x (declaration_seen s.scope (drop 3 x) from)
applied_head s k x from (Some d) = applied_by s k x d.files d.meaning

-- a head over arguments; where there is none, the number 0
abbrev pub applied_term : Option Head → List Term → Term
applied_term None ts = number (pos 0)
applied_term (Some h) ts = term h (row ts)

-- what a name may be used at; where it may not be used, at whole numbers
abbrev pub scheme_or_int : Result Scheme Refusal → Scheme
scheme_or_int (Ok g) = g
scheme_or_int (Err e) = at_sort int_sort
