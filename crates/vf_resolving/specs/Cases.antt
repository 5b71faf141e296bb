-- Cases of a `switch`, resolved: their constructors and names.
use Rattle.std.specs.Prelude.{ℕ, zero, suc, nat_eq, if◌then◌else◌, List, [], ◌∷◌, Option, Some, None, map}
use Rattle.vf_tree.specs.Core.{Identity}
use Rattle.vf_declared.specs.declared.declaration.Datatype.{Datatype}
use Rattle.vf_declared.specs.declared.declaration.Declaration.{Declaration}
use Rattle.vf_declared.specs.declared.scope.Scope.{Scope}
use Rattle.vf_declared.specs.Scopes.{datatype_of, declaration_of}
use Rattle.vf_syntax.specs.declared.pattern.CasePattern.{CasePattern}
use Rattle.vf_syntax.specs.declared.written.Name.{Name}
use Rattle.vf_sorting.specs.Schemes.{count_in}
use Rattle.vf_binding.specs.declared.bound.Bound.{Bound}
use Rattle.vf_asserting.specs.Cases.{datatype_in, ghost_number, names_or_none}
use Rattle.vf_asserting.specs.Switches.{case_sorts}
use Rattle.vf_terms.specs.Named.{declaration_seen, identity_of}
use Rattle.vf_terms.specs.declared.reading.Reading.{Reading}
use Rattle.vf_resolving.specs.declared.cases.Switched.{Switched}

-- the datatype that a number may be of, if there is one
abbrev pub datatype_at : Scope → Option ℕ → Option Datatype
datatype_at s None = None
datatype_at s (Some d) = datatype_of s d

-- what is switched over: the number of its datatype, and the unknown sorts that stand for type parameters in the cases, so many from a number on
abbrev pub switched : Scope → Reading → Switched
switched s x = record { datatype = datatype_in x.sort; first = x.next; count = count_in (datatype_at s (datatype_in x.sort)) }

-- the files in which something is declared
abbrev pub files_of : Option Declaration → List ℕ
files_of None = []
files_of (Some d) = d.files

-- the identity of the constructor that a case names
abbrev pub constructor_identity : Scope → List (List ℕ) → Name → Identity
constructor_identity s paths n = identity_of paths (files_of (declaration_seen s n.text n.place.file)) n.text

-- the place of a number among others, counted from 0; behind them, where it is none of them
abbrev pub place_among : List ℕ → ℕ → ℕ
place_among [] n = 0
place_among (m ∷ ms) n = if nat_eq m n then 0 else suc (place_among ms n)

-- the constructors of a datatype that may be none
abbrev pub constructors_in : Option Datatype → List ℕ
constructors_in None = []
constructors_in (Some d) = d.constructors

-- the place of a constructor that may be none
abbrev pub place_or_nought : List ℕ → Option ℕ → ℕ
place_or_nought ms None = 0
place_or_nought ms (Some n) = place_among ms n

-- the place of the constructor that a case names among those of the datatype
abbrev pub constructor_place : Scope → Option ℕ → Name → ℕ
constructor_place s d n = place_or_nought (constructors_in (datatype_at s d)) (ghost_number (declaration_of s n.text n.place.file))

-- the names of a case with the sorts of its constructor's arguments
abbrev pub case_names : Scope → Switched → CasePattern → Bound
case_names s w x = record { names = map (λ (n : Name). n.text) (names_or_none x.names); sorts = case_sorts s w.first w.count x }
