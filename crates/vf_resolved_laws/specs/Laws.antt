-- What is resolved has the sorts that sorting gave. Each law is the contract of a public function with an empty body.
use Rattle.std.specs.Prelude.{◌≡◌, ℕ, false, List, length, map, Option}
use Rattle.vf_base.specs.declared.place.Place.{Place}
use Rattle.vf_meaning.specs.Ghost.{Name}
use Rattle.vf_formula.specs.Rows.{row}
use Rattle.vf_sorts.specs.Sorts.{Sort}
use Rattle.vf_sorts.specs.Unknowns.{AgreesAsTold, Known, instance, settling}
use Rattle.vf_syntax.specs.declared.pattern.Pattern.{Pattern}
use Rattle.vf_syntax.specs.declared.pattern.Share.{Share}
use Rattle.vf_syntax.specs.declared.written.Name as written
use Rattle.vf_syntax.specs.GhostExprTree.{GhostExprTree, GhostExprTrees}
use Rattle.vf_sorting.specs.HasSort.{ArePassed, HasSort, Passes}
use Rattle.vf_sorting.specs.Kinds.{bool_sort, is_pointer}
use Rattle.vf_declared.specs.declared.scope.Scope.{Scope}
use Rattle.vf_syntax.specs.AssertionTree.{PartTrees}
use Rattle.vf_asserting.specs.Gives.{Gives}
use Rattle.vf_resolved.specs.AssertionTree.{part_list}
use Rattle.vf_resolving.specs.Assertions.{PartsResolved, parts_resolved}
use Rattle.vf_resolving.specs.Standings.{Around, Standing}
use Rattle.vf_binding.specs.declared.bound.Bound.{Bound}
use Rattle.vf_binding.specs.Chunks.{CellBinds, ChunkBinds}
use Rattle.vf_binding.specs.Patterns.{AllBind, Binds, HeadsPass}
use Rattle.vf_binding.specs.Shares.{SharePasses}
use Rattle.vf_terms.specs.Settings.{Setting, settled}
use Rattle.vf_terms.specs.Readings.{read, read_all}
use Rattle.vf_terms.specs.declared.reading.Reading.{Reading}
use Rattle.vf_terms.specs.declared.reading.Row.{Row}
use Rattle.vf_resolved.specs.Apart.{as_term}
use Rattle.vf_resolved_parts.specs.Truths.{truth}
use Rattle.vf_resolved_parts.specs.declared.truth_reading.TruthReading.{TruthReading}
use Rattle.vf_resolved_parts.specs.declared.progress.Progress.{Progress}
use Rattle.vf_resolved_parts.specs.Patterns.{ArgumentsRead, PatternRead, PatternsRead, arguments_read, pattern_read, patterns_read}
use Rattle.vf_resolved_parts.specs.Parts.{PartRead, cell_read, chunk_read}
use Rattle.vf_resolved_parts.specs.Shares.{ShareRead, share_read}
use Rattle.vf_resolved_laws.specs.Assertions.{AreDecided, ArePartsLevelled, NumbersHaveSorts, Stands}
use Rattle.vf_resolved_laws.specs.Given.{GivesSorts}
use Rattle.vf_resolved_laws.specs.Heads.{Vocabulary, vocabulary_of}
use Rattle.vf_resolved_laws.specs.Levels.{IsLevelled}
use Rattle.vf_resolved_laws.specs.Parts.{ChunkIsDecided, LaterHaveSorts, PartHasSorts, PartsHaveSorts}
use Rattle.vf_resolved_laws.specs.Patterns.{AllHaveSorts, ArgumentHasSort, NamesHaveSorts, PatternHasSort, ShareHasSort}
use Rattle.vf_resolved_laws.specs.Terms.{TermHasSort, TermsHaveSorts}

-- what a part binds, and the first number of unknown sorts that is not used behind what is known
abbrev pub progress_at : Bound → Known → Progress
progress_at b known = record { bound = b; next = length known }

-- A reading follows the sorting of its expression, behind which so much is known: the unknown sorts that are not used yet have the same numbers, and the term has a sort as it is known in the end
pub record Follows (d : Vocabulary) (s : Setting) (r : Reading) (t : Sort) (known : Known) : Type 0 where
  pub next : r.next ≡ length known
  pub has_sort : TermHasSort d r.term (settled s t)

-- the same of arguments that are passed for sorts
pub record AllFollow (d : Vocabulary) (s : Setting) (r : Row) (ts : List Sort) (known : Known) : Type 0 where
  pub next : r.next ≡ length known
  pub have_sorts : TermsHaveSorts d (row r.terms) (map (settled s) ts)

-- The readings of a setting follow sorting, where the sorts that are known in the end agree with what is known behind an expression: that of an expression that has a sort, of one that passes for a wanted sort, which is read as a pointer where that is one of pointers, and of arguments that pass for parameters
pub record ReadingsFollow (d : Vocabulary) (s : Setting) : Type 0 where
  pub sorted : (known then_known : Known) (e : GhostExprTree) (t : Sort) → HasSort s.scope s.context known e t then_known → AgreesAsTold (settling s.known) then_known → Follows d s (read s false (length known) e) t then_known
  pub passed : (known then_known : Known) (w : Sort) (q : Place) (e : GhostExprTree) → Passes s.scope s.context known w q e then_known → AgreesAsTold (settling s.known) then_known
      → Follows d s (read s (is_pointer (settled s w)) (length known) e) w then_known
  pub all_passed : (known then_known : Known) (first n : ℕ) (ts : List Sort) (xs : GhostExprTrees) → ArePassed s.scope s.context known first n ts xs then_known → AgreesAsTold (settling s.known) then_known
      → AllFollow d s (read_all s first n ts (length known) xs) (map (instance first n) ts) then_known

-- where the terms that stand in a setting have their sorts, by whichever sorts names have, an expression is read as a term of the sort that sorting gave it
abbrev pub ExpressionsKeepSorts : Type 0
ExpressionsKeepSorts = (s : Setting) (names : Name → Sort) → GivesSorts (vocabulary_of s names) s → ReadingsFollow (vocabulary_of s names) s

-- A pattern that is resolved behind so many names follows its sorting, behind which so much is known and these names are bound in the part: it stands for values of the sort, where these have the sorts at which they are bound
pub record PatternFollows (d : Vocabulary) (s : Setting) (m : ℕ) (r : PatternRead) (t : Sort) (known : Known) (b : Bound) : Type 0 where
  pub progress : r.progress ≡ progress_at b known
  pub has_sort : NamesHaveSorts d s m b → PatternHasSort d r.pattern (settled s t)

-- the same of patterns, one for each of these sorts
pub record PatternsFollow (d : Vocabulary) (s : Setting) (m : ℕ) (r : PatternsRead) (ts : List Sort) (known : Known) (b : Bound) : Type 0 where
  pub progress : r.progress ≡ progress_at b known
  pub have_sorts : NamesHaveSorts d s m b → AllHaveSorts (PatternHasSort d) r.patterns (map (settled s) ts)

-- the same of values, which bind nothing
pub record ValuesFollow (d : Vocabulary) (s : Setting) (r : ArgumentsRead) (ts : List Sort) (known : Known) : Type 0 where
  pub next : r.next ≡ length known
  pub have_sorts : AllHaveSorts (ArgumentHasSort d) r.arguments (map (settled s) ts)

-- the same of a share
pub record ShareFollows (d : Vocabulary) (s : Setting) (m : ℕ) (r : ShareRead) (known : Known) (b : Bound) : Type 0 where
  pub progress : r.progress ≡ progress_at b known
  pub has_sort : NamesHaveSorts d s m b → ShareHasSort d r.share

-- Patterns, values and shares of a part that stands behind so many names follow sorting
pub record PartsFollow (d : Vocabulary) (s : Setting) (m : ℕ) : Type 0 where
  pub binds : (known then_known : Known) (b then_bound : Bound) (t : Sort) (x : Pattern) → Binds s.scope s.context known b t x then_known then_bound → AgreesAsTold (settling s.known) then_known
      → PatternFollows d s m (pattern_read s m t (progress_at b known) x) t then_known then_bound
  pub all_bind : (known then_known : Known) (b then_bound : Bound) (ts : List Sort) (xs : List Pattern) → AllBind s.scope s.context known b ts xs then_known then_bound → AgreesAsTold (settling s.known) then_known
      → PatternsFollow d s m (patterns_read s m ts (progress_at b known) xs) ts then_known then_bound
  pub heads_pass : (known then_known : Known) (ts : List Sort) (xs : List Pattern) → HeadsPass s.scope s.context known ts xs then_known → AgreesAsTold (settling s.known) then_known → ValuesFollow d s (arguments_read s ts (length known) xs) ts then_known
  pub shares : (known then_known : Known) (b then_bound : Bound) (h : Option Share) → SharePasses s.scope s.context known b h then_known then_bound → AgreesAsTold (settling s.known) then_known
      → ShareFollows d s m (share_read s m (progress_at b known) h) then_known then_bound

-- where the terms that stand in a setting have their sorts, patterns, values and shares are resolved as such of the sorts that sorting gave them
abbrev pub PatternsKeepSorts : Type 0
PatternsKeepSorts = (s : Setting) (names : Name → Sort) (m : ℕ) → GivesSorts (vocabulary_of s names) s → PartsFollow (vocabulary_of s names) s m

-- A truth value whose connectives and comparisons are told apart follows its expression, which passes for a truth value: it is the term that the expression is read as, of the sort of truth values
pub record TruthFollows (d : Vocabulary) (x : TruthReading) (r : Reading) : Type 0 where
  pub same : as_term x.truth ≡ r.term
  pub next : x.next ≡ r.next
  pub has_sort : TermHasSort d (as_term x.truth) bool_sort

-- so it does wherever the terms that stand in a setting have their sorts, and operators stand on their levels
abbrev pub TruthsAreRead : Type 0
TruthsAreRead =
    (s : Setting) (names : Name → Sort) → GivesSorts (vocabulary_of s names) s → (known then_known : Known) (q : Place) (e : GhostExprTree) → Passes s.scope s.context known bool_sort q e then_known → AgreesAsTold (settling s.known) then_known → IsLevelled e
    → TruthFollows (vocabulary_of s names) (truth s (length known) e) (read s false (length known) e)

-- A part that is resolved behind so many names follows its sorting, behind which so much is known and these names are bound: it has the sorts that it takes, where these have the sorts at which they are bound
pub record PartFollows (d : Vocabulary) (s : Setting) (m : ℕ) (r : PartRead) (known : Known) (b : Bound) : Type 0 where
  pub progress : r.progress ≡ progress_at b known
  pub has_sorts : NamesHaveSorts d s m b → PartHasSorts d r.part

-- where the terms that stand in a setting have their sorts, so has each cell
abbrev pub CellsKeepSorts : Type 0
CellsKeepSorts =
    (s : Setting) (names : Name → Sort) (m : ℕ) → GivesSorts (vocabulary_of s names) s → (known then_known : Known) (b then_bound : Bound) (p : Place) (h : Option Share) (e : GhostExprTree) (f : written.Name) (x : Pattern)
    → CellBinds s.scope s.context known b h e f x then_known then_bound → AgreesAsTold (settling s.known) then_known
    → PartFollows (vocabulary_of s names) s m (cell_read s m (progress_at b known) p h e f x) then_known then_bound

-- and so has each chunk, where it is known in front of its arguments what a local takes that stands before them
abbrev pub ChunksKeepSorts : Type 0
ChunksKeepSorts =
    (s : Setting) (names : Name → Sort) (m : ℕ) → GivesSorts (vocabulary_of s names) s → LaterHaveSorts s.scope → (known then_known : Known) (b then_bound : Bound) (p : Place) (h : Option Share) (n : written.Name) (xs : List Pattern) (ys : Option (List Pattern))
    → (binds : ChunkBinds s.scope s.context known b h n xs ys then_known then_bound) → ChunkIsDecided s.known binds → AgreesAsTold (settling s.known) then_known
    → PartFollows (vocabulary_of s names) s m (chunk_read s m (progress_at b known) p h n xs ys) then_known then_bound

-- Where the names of an assertion have the sorts that they are numbered with, operators stand on their levels and what locals take is known wherever they stand in front of the parentheses of a chunk, each part is resolved as one that has the sorts that it takes; and what is declared and numbered behind it is what sorting has there
pub record AssertionFollows (d : Vocabulary) (a : Around) (x : PartsResolved) (s : Scope) (known : Known) : Type 0 where
  pub have_sorts : PartsHaveSorts d (part_list x.parts)
  pub stands : Stands d a x.standing s known

abbrev pub AssertionsKeepSorts : Type 0
AssertionsKeepSorts =
    (d : Vocabulary) (a : Around) (x : Standing) (s then_s : Scope) (known then_known : Known) (xs : PartTrees) → Stands d a x s known → LaterHaveSorts d.scope → (gives : Gives a.context s known xs then_s then_known)
    → AgreesAsTold (settling a.known) then_known → AreDecided a.known gives → ArePartsLevelled xs → NumbersHaveSorts d (parts_resolved a x xs).standing.sorts → AssertionFollows d a (parts_resolved a x xs) then_s then_known
