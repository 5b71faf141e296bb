-- What holds of the terms of expressions that have sorts. Each law is the contract of a public function with an empty body.
use Rattle.std.specs.Prelude.{◌≡◌, ℕ, false, List, length, map}
use Rattle.vf_base.specs.declared.place.Place.{Place}
use Rattle.vf_meaning.specs.Valuations.{Valuation}
use Rattle.vf_meaning.specs.GhostValues.{Interpretation}
use Rattle.vf_closure.specs.Terms.{Term}
use Rattle.vf_closure.specs.Values.{value, all_values}
use Rattle.vf_formula.specs.Rows.{row}
use Rattle.vf_sorts.specs.Sorts.{Sort}
use Rattle.vf_sorts.specs.Unknowns.{AgreesAsTold, Known, instance, settling}
use Rattle.vf_syntax.specs.GhostExprTree.{GhostExprTree, GhostExprTrees}
use Rattle.vf_sorting.specs.HasSort.{ArePassed, HasSort, Passes}
use Rattle.vf_sorting.specs.Kinds.{is_pointer}
use Rattle.vf_terms.specs.Settings.{Setting, settled}
use Rattle.vf_terms.specs.Readings.{read, read_all}
use Rattle.vf_terms.specs.declared.reading.Reading.{Reading}
use Rattle.vf_terms.specs.declared.reading.Row.{Row}
use Rattle.vf_fixpoint_laws.specs.values.Instances.{Instance, settled_at}
use Rattle.vf_fixpoint_laws.specs.values.Declares.{Covers, Declared, file_level}
use Rattle.vf_fixpoint_laws.specs.values.Worth.{HasValue, HaveValues, Sets, Tests, passing}
use Rattle.vf_fixpoint_laws.specs.values.Given.{FixpointsKeepSorts, GivesValues, TermKeepsSorts, TermsKeepSorts}

-- A reading follows the sorting of its expression, behind which so much is known: the unknown sorts that are not used yet have the same numbers, and the value of the term, where the fixpoints that it applies keep sorts there, is, by what is declared, of a sort as it is known in the end
pub record Follows (d : Declared) (s : Setting) (i : Interpretation) (v : Valuation) (sets : Sets) (g : Instance) (r : Reading) (t : Sort) (known : Known) : Type 0 where
  pub next : r.next ≡ length known
  pub has_value : TermKeepsSorts d i v sets r.term → HasValue d sets (value i v r.term) (settled_at s g t)

-- the same of arguments that are passed for sorts
pub record AllFollow (d : Declared) (s : Setting) (i : Interpretation) (v : Valuation) (sets : Sets) (g : Instance) (r : Row) (ts : List Sort) (known : Known) : Type 0 where
  pub next : r.next ≡ length known
  pub have_values : TermsKeepSorts d i v sets (row r.terms) → HaveValues d sets (all_values i v (row r.terms)) (map (settled_at s g) ts)

-- The readings of a setting follow sorting, where the sorts that are known in the end agree with what is known behind an expression: that of an expression that has a sort, of one that passes for a wanted sort, which is read as a pointer where that is one of pointers, and of arguments that pass for parameters
pub record ReadingsFollow (d : Declared) (s : Setting) (i : Interpretation) (v : Valuation) (sets : Sets) (g : Instance) : Type 0 where
  pub sorted : (known then_known : Known) (e : GhostExprTree) (t : Sort) → HasSort s.scope s.context known e t then_known → AgreesAsTold (settling s.known) then_known
      → Follows d s i v sets g (read s false (length known) e) t then_known
  pub passed : (known then_known : Known) (w : Sort) (q : Place) (e : GhostExprTree) → Passes s.scope s.context known w q e then_known → AgreesAsTold (settling s.known) then_known
      → Follows d s i v sets g (read s (is_pointer (settled s w)) (length known) e) w then_known
  pub all_passed : (known then_known : Known) (first n : ℕ) (ts : List Sort) (xs : GhostExprTrees) → ArePassed s.scope s.context known first n ts xs then_known → AgreesAsTold (settling s.known) then_known
      → AllFollow d s i v sets g (read_all s first n ts (length known) xs) (map (instance first n) ts) then_known

-- where what is declared covers what a setting declares at file level, and the terms that stand in the setting have values of their sorts, readings follow sorting, whatever sorts stand for the type parameters of the text, and whatever sets of values for those in these
abbrev pub ReadingsFollowIn : Sets → Type 0
ReadingsFollowIn sets = (d : Declared) (s : Setting) (i : Interpretation) (v : Valuation) (g : Instance) → Covers d (file_level s) → GivesValues d s i v sets g → ReadingsFollow d s i v sets g

-- the same for all sets that are told by tests
abbrev pub ReadingsFollowSorting : Type 0
ReadingsFollowSorting = (tests : Tests) → ReadingsFollowIn (passing tests)

-- the same for all sets
abbrev pub ReadingsFollowInSets : Type 1
ReadingsFollowInSets = (sets : Sets) → ReadingsFollowIn sets

-- where fixpoints keep sorts, each term does
abbrev pub TermsKeepAll : Type 0
TermsKeepAll = (d : Declared) (i : Interpretation) (v : Valuation) (tests : Tests) → FixpointsKeepSorts d i (passing tests) → (x : Term) → TermKeepsSorts d i v (passing tests) x

-- where what is declared covers what a setting declares at file level, the terms that stand in the setting have values of their sorts and fixpoints keep sorts, an expression that has a sort is read as a term with a value of that sort, and one that passes for a sort as a term with a value of that one
abbrev pub ValuesHaveSorts : Type 0
ValuesHaveSorts =
    (d : Declared) (s : Setting) (i : Interpretation) (v : Valuation) (tests : Tests) (g : Instance) → Covers d (file_level s) → GivesValues d s i v (passing tests) g → FixpointsKeepSorts d i (passing tests)
    → (known then_known : Known) (e : GhostExprTree) → AgreesAsTold (settling s.known) then_known
    → ((t : Sort) → HasSort s.scope s.context known e t then_known → HasValue d (passing tests) (value i v (read s false (length known) e).term) (settled_at s g t))
    × ((w : Sort) (q : Place) → Passes s.scope s.context known w q e then_known → HasValue d (passing tests) (value i v (read s (is_pointer (settled s w)) (length known) e).term) (settled_at s g w))
