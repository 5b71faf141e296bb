-- Cases of fixpoints as terms.
use Rattle.std.specs.Prelude.{ℕ, List, [], ◌∷◌, Option, Some, None, length, map}
use Rattle.vf_tree.specs.Core.{Identity}
use Rattle.vf_names.specs.Names.{number_of}
use Rattle.vf_sorts.specs.Sorts.{Sort}
use Rattle.vf_sorts.specs.Unknowns.{Known}
use Rattle.vf_declared.specs.declared.declaration.Declaration.{Declaration}
use Rattle.vf_declared.specs.declared.scope.Scope.{Scope}
use Rattle.vf_syntax.specs.declared.item.FixpointCase.{FixpointCase}
use Rattle.vf_syntax.specs.declared.pattern.CasePattern.{CasePattern}
use Rattle.vf_syntax.specs.declared.written.Name.{Name}
use Rattle.vf_sorting.specs.declared.context.Context.{Context}
use Rattle.vf_binding.specs.declared.bound.Bound.{Bound}
use Rattle.vf_binding.specs.Bound.{with_names}
use Rattle.vf_asserting.specs.Cases.{names_or_none}
use Rattle.vf_asserting.specs.Switches.{case_sorts}
use Rattle.vf_asserting.specs.Leaving.{count, left}
use Rattle.vf_definitions.specs.declared.fixpoint.Case.{Case}
use Rattle.vf_terms.specs.Named.{identity_of, declaration_seen}
use Rattle.vf_terms.specs.declared.reading.Reading.{Reading}
use Rattle.vf_defining.specs.Symbols.{value_read}

-- the files in which something is declared
abbrev pub files_of : Option Declaration → List ℕ
files_of None = []
files_of (Some d) = d.files

-- the identity of what a name means where it stands
abbrev pub identity_at : Scope → List (List ℕ) → Name → Identity
identity_at s paths n = identity_of paths (files_of (declaration_seen s n.text n.place.file)) n.text

-- the names of a case with the sorts of its constructor's arguments, where unknown sorts from 0 on stand for so many type parameters
abbrev pub case_names : Scope → ℕ → CasePattern → Bound
case_names s m x = record { names = map (λ (n : Name). n.text) (names_or_none x.names); sorts = case_sorts s 0 m x }

-- what is declared in the value of a case
abbrev pub within_case : Scope → ℕ → CasePattern → Scope
within_case s m x = with_names s (case_names s m x)

-- the value of a case, read
abbrev pub case_read : Context → Known → List (List ℕ) → Sort → ℕ → Scope → ℕ → FixpointCase → Reading
case_read c k paths t m s u x = value_read (within_case s m x.pattern) c k paths t u x.value

-- a case as a term over the locals and, behind them, its names
abbrev pub case_of : Context → Known → List (List ℕ) → Sort → ℕ → Scope → ℕ → FixpointCase → Case
case_of c k paths t m s u x = record {
  constructor = identity_at s paths x.pattern.constructor;
  names = length (names_or_none x.pattern.names);
  «result» = (case_read c k paths t m s u x).term;
}

-- what is declared behind a case: its names are gone
abbrev pub behind_case : Scope → ℕ → CasePattern → Scope
behind_case s m x = left (count s) (within_case s m x)

-- cases as terms, from the first to the last
abbrev pub cases_of : Context → Known → List (List ℕ) → Sort → ℕ → Scope → ℕ → List FixpointCase → List Case
cases_of c k paths t m s u [] = []
cases_of c k paths t m s u (x ∷ xs) = case_of c k paths t m s u x ∷ cases_of c k paths t m (behind_case s m x.pattern) (case_read c k paths t m s u x).next xs

-- the place of a name among the locals; where it is none, the first
abbrev pub place_or_first : Option ℕ → ℕ
place_or_first None = 0
place_or_first (Some n) = n

abbrev pub place_among : Scope → Name → ℕ
place_among s n = place_or_first (number_of s.locals.names n.text)
