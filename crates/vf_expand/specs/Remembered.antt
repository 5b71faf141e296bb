-- What the files of a walk remember of the headers that they have joined.
use Rattle.std.specs.Prelude.{◌≡◌, ◌<◌, ◌≤◌, ℕ, List, [], ◌∷◌, length, reverse, slice_get, Option, Some, None}
use Rattle.std.specs.BTreeMap.{BTreeMap, get_by}
use Rattle.std.specs.Ordering.{nat_cmp}
use Rattle.vf_preproc.specs.declared.join.Join.{Join}
use Rattle.vf_preproc.specs.UnitText.{Header, Scope, Unit_so_far}
use Rattle.vf_preproc.specs.Joins.{AreBelow, IsEven, IsJoined, Grows}
use Rattle.vf_preproc.specs.Scopes.{scope_of}
use Rattle.vf_preproc.specs.Units.{unit_of}
use Rattle.vf_expand.specs.declared.frames.Waiting.{Waiting}
use Rattle.vf_expand.specs.declared.state.Walk.{Walk}
use Rattle.vf_expand.specs.declared.state.Next.{Next}
use Rattle.vf_expand.specs.declared.state.Next.TheVariants as nexts

-- what is remembered of the header with a number
abbrev pub join_at : BTreeMap ℕ Join → ℕ → Option Join
join_at joins n = get_by (λ k. nat_cmp n k) joins

-- the header of a file that was begun, where it is complete
abbrev pub header_in : Option (Option Header) → Option Header
header_in (Some header) = header
header_in None = None

-- the header with a number among the files that were begun, where it is complete
abbrev pub complete_at : Unit_so_far → ℕ → Option Header
complete_at unit number = header_in (slice_get unit.complete number)

-- each file that was begun has its names, and each header that is complete consists of files that were begun
pub record IsNamed (unit : Unit_so_far) : Type 0 where
  pub named : length unit.names ≡ length unit.paths
  pub begun : (n : ℕ) (header : Header) → slice_get unit.complete n ≡ Some (Some header) → AreBelow (length unit.paths) header.files

-- a file remembers a header: it was begun among the first, so many of them, and has joined the file if it is complete
pub record IsRemembered (bound : ℕ) (names : List (List (List ℕ))) (complete : List (Option Header)) (n : ℕ) (join : Join) (scope : Scope) : Type 0 where
  pub below : n < bound
  pub few : join.known ≤ length scope.macros.names
  pub joined : (header : Header) → slice_get complete n ≡ Some (Some header) → IsJoined join names header scope

-- all that a file remembers is so, and it consists of such headers and itself
pub record Remembers (bound : ℕ) (names : List (List (List ℕ))) (complete : List (Option Header)) (joins : BTreeMap ℕ Join) (scope : Scope) : Type 0 where
  pub even : IsEven scope.macros
  pub files : AreBelow bound scope.files
  pub each : (n : ℕ) (join : Join) → join_at joins n ≡ Some join → IsRemembered bound names complete n join scope

-- and so for the files that wait, innermost first: each remembers headers that were begun before the one for which it waits
abbrev pub AllRemember : ℕ → List (List (List ℕ)) → List (Option Header) → List Waiting → Type 0
AllRemember bound names complete [] = Unit {0}
AllRemember bound names complete (w ∷ ws) = (w.number < bound) × Remembers w.number names complete w.file.joins (scope_of w.file.scope) × AllRemember w.number names complete ws

-- and for all files of a walk
pub record WalkRemembers (walk : Walk) : Type 0 where
  pub named : IsNamed (unit_of walk.unit)
  pub current : Remembers (length walk.unit.paths) walk.unit.names (unit_of walk.unit).complete walk.current.joins (scope_of walk.current.scope)
  pub stack : AllRemember (length walk.unit.paths) walk.unit.names (unit_of walk.unit).complete (reverse walk.stack.items)

-- and for all files of a walk that goes on
abbrev pub NextRemembers : Next → Type 0
NextRemembers (nexts.Goes walk) = WalkRemembers walk
NextRemembers (nexts.Ends unit) = Unit {0}

-- a line begins no file and completes none, and its own file grows and consists of what it did
pub record Keeps (unit : Unit_so_far) (scope : Scope) (after : Unit_so_far) (new : Scope) : Type 0 where
  pub paths : after.paths ≡ unit.paths
  pub names : after.names ≡ unit.names
  pub complete : after.complete ≡ unit.complete
  pub grows : Grows scope new
  pub files : new.files ≡ scope.files
