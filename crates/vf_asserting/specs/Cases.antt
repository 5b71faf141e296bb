-- Cases of a `switch` over a value of a datatype.
use Rattle.std.specs.Prelude.{◌≡◌, ◌≢◌, ℕ, Bool, true, false, not, ◌&&◌, nat_eq, if◌then◌else◌, List, [], ◌∷◌, length, Option, Some, None}
use Rattle.vf_base.specs.declared.place.Place.{Place}
use Rattle.vf_base.specs.declared.refusal.Refusal.{Refusal}
use Rattle.vf_base.specs.declared.rule.Rule.TheVariants as rules
use Rattle.vf_sorts.specs.declared.sort.Head.TheVariants as heads
use Rattle.vf_sorts.specs.Sorts.{Sort, sort}
use Rattle.vf_declared.specs.declared.declaration.Datatype.{Datatype}
use Rattle.vf_declared.specs.declared.declaration.Meaning.{Meaning}
use Rattle.vf_declared.specs.declared.declaration.Meaning.TheVariants as meanings
use Rattle.vf_declared.specs.declared.declaration.GhostDeclaration.{GhostDeclaration}
use Rattle.vf_declared.specs.declared.declaration.GhostDeclaration.TheVariants as ghosts
use Rattle.vf_declared.specs.declared.scope.Scope.{Scope}
use Rattle.vf_declared.specs.Scopes.{datatype_of, declaration_of, ghost_of, has}
use Rattle.vf_syntax.specs.declared.pattern.CasePattern.{CasePattern}
use Rattle.vf_syntax.specs.declared.written.Name.{Name}
use Rattle.vf_syntax.specs.AssertionTree.{AssertionCaseTree, AssertionCaseTrees, no_assertion_case, more_assertion_case, assertion_case}
use Rattle.vf_sorting.specs.Refusals.{refused}
use Rattle.vf_binding.specs.declared.bound.Bound.{Bound}
use Rattle.vf_binding.specs.Bound.{name_refusal, no_names, with_bound}

-- the datatype of values of a sort, if it is a datatype's
abbrev pub datatype_in : Sort → Option ℕ
datatype_in (sort (heads.Datatype d) ts) = Some d
datatype_in t = None

-- the names of a case that may have none
abbrev pub names_or_none : Option (List Name) → List Name
names_or_none None = []
names_or_none (Some ns) = ns

-- the number of what a name of file level means, where annotations declare it
abbrev pub ghost_number : Option Meaning → Option ℕ
ghost_number (Some (meanings.Ghost n)) = Some n
ghost_number m = None

-- a declaration is a constructor of a datatype with so many arguments
abbrev pub takes : ℕ → ℕ → Option GhostDeclaration → Bool
takes d m (Some (ghosts.Constructor k)) = nat_eq k.datatype d && nat_eq (length k.arguments) m
takes d m x = false

-- the same of a declaration that has a number, which is given where it is so
abbrev pub taking : Scope → ℕ → ℕ → Option ℕ → Option ℕ
taking s d m None = None
taking s d m (Some n) = if takes d m (ghost_of s n) then Some n else None

-- the constructor of a datatype that a case is for, by its number: its name means it, and there are as many names as it has arguments
abbrev pub case_number : Scope → ℕ → CasePattern → Option ℕ
case_number s d x = taking s d (length (names_or_none x.names)) (ghost_number (declaration_of s x.constructor.text x.constructor.place.file))

-- one number more, where there are some
abbrev pub with_number : Option ℕ → Option (List ℕ) → Option (List ℕ)
with_number (Some n) (Some ns) = Some (n ∷ ns)
with_number n ns = None

-- what a case is for
abbrev pub pattern_in : AssertionCaseTree → CasePattern
pattern_in (assertion_case p x a) = x

-- the constructors that cases are for, where each is for one of the datatype
abbrev pub case_numbers : Scope → ℕ → AssertionCaseTrees → Option (List ℕ)
case_numbers s d no_assertion_case = Some []
case_numbers s d (more_assertion_case x cs) = with_number (case_number s d (pattern_in x)) (case_numbers s d cs)

-- no number stands twice
abbrev pub are_distinct : List ℕ → Bool
are_distinct [] = true
are_distinct (n ∷ ns) = not (has ns n) && are_distinct ns

-- how many constructors a datatype has that may be none
abbrev pub constructor_count : Option Datatype → ℕ
constructor_count None = 0
constructor_count (Some d) = length d.constructors

-- so many numbers, none of them twice
abbrev pub are_all : ℕ → Option (List ℕ) → Bool
are_all m None = false
are_all m (Some ns) = nat_eq (length ns) m && are_distinct ns

-- there is one case for each constructor of a datatype, and no other
abbrev pub are_cases : Scope → ℕ → AssertionCaseTrees → Bool
are_cases s d cs = are_all (constructor_count (datatype_of s d)) (case_numbers s d cs)

-- what a declaration takes, if it is a constructor
abbrev pub arguments_in : Option GhostDeclaration → List Sort
arguments_in (Some (ghosts.Constructor k)) = k.arguments
arguments_in x = []

-- the same of a declaration that has a number
abbrev pub arguments_at : Scope → Option ℕ → List Sort
arguments_at s None = []
arguments_at s (Some n) = arguments_in (ghost_of s n)

-- the sorts of the arguments of the constructor that a case names
abbrev pub case_arguments : Scope → CasePattern → List Sort
case_arguments s x = arguments_at s (ghost_number (declaration_of s x.constructor.text x.constructor.place.file))

-- the names of a case are bound at these sorts, from left to right
pub data NamesBind (s : Scope) : Bound → List Name → List Sort → Bound → Type 0 where
  none_bind : {b : Bound} → NamesBind s b [] [] b
  one_binds : {b b' : Bound} {n : Name} {ns : List Name} {t : Sort} {ts : List Sort} → name_refusal s b n ≡ None → NamesBind s (with_bound b n.text t) ns ts b' → NamesBind s b (n ∷ ns) (t ∷ ts) b'

-- the first of the names of a case that may not be bound
pub data AnyNameFails (s : Scope) : Bound → List Name → List Sort → Refusal → Type 0 where
  this_name : {b : Bound} {n : Name} {ns : List Name} {t : Sort} {ts : List Sort} {r : Refusal} → name_refusal s b n ≡ Some r → AnyNameFails s b (n ∷ ns) (t ∷ ts) r
  later_name : {b : Bound} {n : Name} {ns : List Name} {t : Sort} {ts : List Sort} {r : Refusal} → name_refusal s b n ≡ None → AnyNameFails s (with_bound b n.text t) ns ts r → AnyNameFails s b (n ∷ ns) (t ∷ ts) r

-- the names of a case whose constructor stands at a place are refused: there are others than it has arguments, or one may not be bound
pub data NamesFail (s : Scope) : List Name → List Sort → Place → Refusal → Type 0 where
  other_count : {ns : List Name} {ts : List Sort} {g : Place} → length ns ≢ length ts → NamesFail s ns ts g (refused rules.Typing g)
  one_of_them : {ns : List Name} {ts : List Sort} {g : Place} {r : Refusal} → length ns ≡ length ts → AnyNameFails s no_names ns ts r → NamesFail s ns ts g r
