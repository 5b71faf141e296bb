-- What is read and written at an index of a row of int cells, and what its numbers and its length are where it is split or joined, as terms. Each law is the contract of a public function with an empty body.
use Rattle.std.specs.Prelude.{◌≡◌, ℕ, ℤ, pos, List, [], ◌∷◌, Contains, slice_get, slice_set, Option, Some, codes}
use Rattle.vf_tree.specs.Core.{Identity, Add, Subtract, Equal, LessEqual}
use Rattle.vf_model.specs.Values.{Value}
use Rattle.vf_model.specs.Values as values
use Rattle.vf_meaning.specs.Ghost.{Integers, Numbered, GhostExpression, no_expressions, and_expression, Number, Apply, Arithmetic, Compare, Choose, FixpointTree, Switches}
use Rattle.vf_meaning.specs.Valuations.{Valuation}
use Rattle.vf_meaning.specs.Assertions.{Environment}
use Rattle.vf_meaning.specs.Chunks.{Just, RowMeets}
use Rattle.vf_meaning.specs.Structural.{AreOrdered}
use Rattle.vf_rules.specs.Terms.{Term}
use Rattle.vf_rules.specs.States.{Fact, Holds, OfSort, SymbolicChunk, SymbolicState, value_in, Shows}
use Rattle.vf_rules.specs.Take.{Removes}
use Rattle.vf_rules.specs.Mutexes.{name}
use Rattle.vf_rules.specs.Arrays.{row_head, IsItem, IsListSet, IsListOfOne, IsNil, IsRest, IsTotal, IsListSplit, IsListJoined}
use Rattle.vf_safety.specs.ArrayLaws.{numbers, nil, cons, cases_of, take_name, drop_name, append_name, apply, one_less, take_fixpoint, drop_fixpoint, append_fixpoint, DeclaresLists}

-- ---- the fixpoints
-- the identity of the fixpoint that gives the number at an index of a list
abbrev pub nth_name : Identity
nth_name = codes "<vf_arrays.h>#ints_nth"

-- the identity of the fixpoint that gives a list with another number at an index
abbrev pub set_name : Identity
set_name = codes "<vf_arrays.h>#ints_set"

-- `i == 0`, where a fixpoint's second parameter is i
abbrev pub is_here : GhostExpression
is_here = Compare Equal (name 1) (Number (pos 0))

-- a fixpoint at three arguments
abbrev pub apply_three : Identity → GhostExpression → GhostExpression → GhostExpression → GhostExpression
apply_three f first second third = Apply f (and_expression first (and_expression second (and_expression third no_expressions)))

-- `fixpoint int ints_nth(ints_list xs, int i)`: at nil it is 0, and at cons(h, t) it is h where i == 0, and else ints_nth(t, i - 1)
abbrev pub nth_fixpoint : FixpointTree
nth_fixpoint = record { identity = nth_name; parameters = numbers ∷ Integers ∷ []; result = Integers; body = Switches 0 (cases_of (Number (pos 0)) (Choose is_here (name 2) (apply nth_name (name 3) one_less))) }

-- what `ints_set` is at cons(h, t), which have the names 3 and 4: cons(v, t) where i == 0, and else cons(h, ints_set(t, i - 1, v))
abbrev pub set_behind : GhostExpression
set_behind = Choose is_here (cons (name 2) (name 4)) (cons (name 3) (apply_three set_name (name 4) one_less (name 2)))

-- `fixpoint ints_list ints_set(ints_list xs, int i, int v)`: at nil it is nil, and at cons(h, t) as above
abbrev pub set_fixpoint : FixpointTree
set_fixpoint = record {
  identity = set_name;
  parameters = numbers ∷ Integers ∷ Integers ∷ [];
  result = numbers;
  body = Switches 0 (
      record { constructor = codes "<vf_arrays.h>#ints_nil"; names = []; result = nil }
      ∷ record { constructor = codes "<vf_arrays.h>#ints_cons"; names = Numbered 3 ∷ Numbered 4 ∷ []; result = set_behind }
      ∷ []);
}

-- an environment has both fixpoints, and each of its fixpoints stands before those that it names
pub record DeclaresElements (e : Environment) : Type 0 where
  pub ordered : AreOrdered e.fixpoints
  pub reads : Contains e.fixpoints nth_fixpoint
  pub sets : Contains e.fixpoints set_fixpoint

-- ---- reads and writes at an index
-- on every path the number at an index of a list is what `ints_nth` gives, so that a read at the index of a row has that value
abbrev pub ItemsAreNth : Type 0
ItemsAreNth = (e : Environment) → DeclaresElements e → (path : List Fact) (list index : Term) → IsItem e path list index (apply nth_name list index)

-- on every path a list with a number set at an index is what `ints_set` gives, so that a write at the index of a row leaves it
abbrev pub WrittenListsAreSet : Type 0
WrittenListsAreSet = (e : Environment) → DeclaresElements e → (path : List Fact) (list index item : Term) → IsListSet e path list index item (apply_three set_name list index item)

-- on every path the list of just one number is cons of it and nil, so that a write to a row of one cell leaves it
abbrev pub OneItemIsAList : Type 0
OneItemIsAList = (e : Environment) (path : List Fact) (item : Term) → IsListOfOne e path item (cons item nil)

-- in cells of which a list is known, as those of `ints(p, n, list)` are, the one at an index holds what `ints_nth` gives
abbrev pub CellsHoldNth : Type 0
CellsHoldNth =
    (e : Environment) → DeclaresElements e → (v : Valuation) (list index : Term) (cells : List (Option Value)) (k : ℕ) (held : Option Value) → RowMeets (Just (value_in e v list)) cells → value_in e v index ≡ values.Number (pos k) → slice_get cells k ≡ Some held
    → held ≡ Some (value_in e v (apply nth_name list index))

-- and with a number in the cell at an index they are those of what `ints_set` gives
abbrev pub WrittenCellsAreSet : Type 0
WrittenCellsAreSet =
    (e : Environment) → DeclaresElements e → (v : Valuation) (list index item : Term) (cells : List (Option Value)) (k : ℕ) (z : ℤ) → RowMeets (Just (value_in e v list)) cells → value_in e v index ≡ values.Number (pos k) → value_in e v item ≡ values.Number z
    → RowMeets (Just (value_in e v (apply_three set_name list index item))) (slice_set cells k (Some (values.Number z)))

-- ---- rows that are made, split and joined
-- on every path nil has no numbers
abbrev pub NilIsEmpty : Type 0
NilIsEmpty = (e : Environment) (path : List Fact) → IsNil e path nil

-- on every path a list is split into what `ints_take` and `ints_drop` give
abbrev pub ListsAreCut : Type 0
ListsAreCut = (e : Environment) → DeclaresLists e → (path : List Fact) (list count : Term) → IsListSplit e path list count (apply take_name list count) (apply drop_name list count)

-- on every path the numbers of two lists are what `ints_append` gives
abbrev pub ListsAreAppended : Type 0
ListsAreAppended = (e : Environment) → DeclaresLists e → (path : List Fact) (first second : Term) → IsListJoined e path first second (apply append_name first second)

-- on every path the difference of two lengths is how many cells are left
abbrev pub LengthsAreLess : Type 0
LengthsAreLess = (e : Environment) (path : List Fact) (long first : Term) → IsRest e path long first (Arithmetic Subtract long first)

-- on every path the sum of two lengths is how many cells there are
abbrev pub LengthsAreMore : Type 0
LengthsAreMore = (e : Environment) (path : List Fact) (first second : Term) → IsTotal e path first second (Arithmetic Add first second)

-- a state with a row of int cells shows that its length is a number, and that it is not negative
abbrev pub RowsShowLengths : Type 0
RowsShowLengths =
    (e : Environment) (st : SymbolicState) (u long : Term) (content : Option Term) (c : SymbolicChunk) (others : List SymbolicChunk) → Removes c st.chunks others → c.head ≡ row_head → c.arguments ≡ Some u ∷ Some long ∷ content ∷ []
    → Shows e st (OfSort long Integers) × Shows e st (Holds (Compare LessEqual (Number (pos 0)) long))

-- the five fixpoints on lists are in order
abbrev pub ElementsAreInOrder : Type 0
ElementsAreInOrder = AreOrdered (nth_fixpoint ∷ set_fixpoint ∷ take_fixpoint ∷ drop_fixpoint ∷ append_fixpoint ∷ [])
