-- What the lemmas on rows of int cells do with parts of memory: each part that satisfies a lemma's precondition satisfies its postcondition. Each law is the contract of a public function with an empty body.
use Rattle.std.specs.Prelude.{◌≡◌, ℕ, pos, true, List, [], ◌∷◌, Contains, None, codes}
use Rattle.vf_tree.specs.Core.{Identity, Add, Subtract, LessEqual, ProgramTree}
use Rattle.vf_model.specs.Values.{Dyadic}
use Rattle.vf_model.specs.Values as values
use Rattle.vf_meaning.specs.Fractions.{whole}
use Rattle.vf_meaning.specs.Ghost.{Sort, Integers, Pointers, Fractions, Datatype, none, Numbered, GhostExpression, no_expressions, and_expression, Number, Truth, Construct, Apply, Arithmetic, PointerSum, Compare, Choose, CaseTree, FixpointTree, Switches}
use Rattle.vf_meaning.specs.Valuations.{Valuation}
use Rattle.vf_meaning.specs.GhostValues.{value_of, interpreted}
use Rattle.vf_meaning.specs.Assertions.{ShareTree, Times, Taken, PatternTree, Is, Names, Wild, Named, Assertion, Pure, Both, Chunk, ContractTree, Environment}
use Rattle.vf_meaning.specs.Sorts.{AreOfSorts}
use Rattle.vf_meaning.specs.Structural.{AreOrdered}
use Rattle.vf_meaning.specs.Parts.{Part}
use Rattle.vf_meaning.specs.Satisfaction.{Satisfies}
use Rattle.vf_rules.specs.Lemmas.{LemmaTree, LemmaHolds}
use Rattle.vf_rules.specs.Mutexes.{full, name}

-- ---- lists of numbers
-- the sort of lists of numbers
abbrev pub numbers : Sort
numbers = Datatype (codes "<vf_arrays.h>#ints_list") none

-- the list without numbers
abbrev pub nil : GhostExpression
nil = Construct (codes "<vf_arrays.h>#ints_nil") no_expressions

-- a list of a first number and the others
abbrev pub cons : GhostExpression → GhostExpression → GhostExpression
cons first others = Construct (codes "<vf_arrays.h>#ints_cons") (and_expression first (and_expression others no_expressions))

-- the cases of a fixpoint on lists: what it returns at the list without numbers, and at one whose first number and others have the names 2 and 3
abbrev pub cases_of : GhostExpression → GhostExpression → List CaseTree
cases_of at_nil at_cons =
    record { constructor = codes "<vf_arrays.h>#ints_nil"; names = []; result = at_nil }
    ∷ record { constructor = codes "<vf_arrays.h>#ints_cons"; names = Numbered 2 ∷ Numbered 3 ∷ []; result = at_cons }
    ∷ []

-- the identity of the fixpoint that gives the first numbers of a list
abbrev pub take_name : Identity
take_name = codes "<vf_arrays.h>#ints_take"

-- the identity of the fixpoint that gives those behind them
abbrev pub drop_name : Identity
drop_name = codes "<vf_arrays.h>#ints_drop"

-- the identity of the fixpoint that gives the numbers of two lists
abbrev pub append_name : Identity
append_name = codes "<vf_arrays.h>#ints_append"

-- a fixpoint at two arguments
abbrev pub apply : Identity → GhostExpression → GhostExpression → GhostExpression
apply f first second = Apply f (and_expression first (and_expression second no_expressions))

-- `k <= 0`, where a fixpoint's second parameter is k
abbrev pub is_done : GhostExpression
is_done = Compare LessEqual (name 1) (Number (pos 0))

-- `k - 1`
abbrev pub one_less : GhostExpression
one_less = Arithmetic Subtract (name 1) (Number (pos 1))

-- `fixpoint ints_list ints_take(ints_list xs, int k)`: at nil it is nil, and at cons(h, t) it is nil where k <= 0, and else cons(h, ints_take(t, k - 1))
abbrev pub take_fixpoint : FixpointTree
take_fixpoint = record { identity = take_name; parameters = numbers ∷ Integers ∷ []; result = numbers; body = Switches 0 (cases_of nil (Choose is_done nil (cons (name 2) (apply take_name (name 3) one_less)))) }

-- `fixpoint ints_list ints_drop(ints_list xs, int k)`: at nil it is nil, and at cons(h, t) it is all of that where k <= 0, and else ints_drop(t, k - 1)
abbrev pub drop_fixpoint : FixpointTree
drop_fixpoint = record { identity = drop_name; parameters = numbers ∷ Integers ∷ []; result = numbers; body = Switches 0 (cases_of nil (Choose is_done (cons (name 2) (name 3)) (apply drop_name (name 3) one_less))) }

-- `fixpoint ints_list ints_append(ints_list xs, ints_list ys)`: at nil it is ys, and at cons(h, t) it is cons(h, ints_append(t, ys))
abbrev pub append_fixpoint : FixpointTree
append_fixpoint = record { identity = append_name; parameters = numbers ∷ numbers ∷ []; result = numbers; body = Switches 0 (cases_of (name 1) (cons (name 2) (apply append_name (name 3) (name 1)))) }

-- an environment has the three fixpoints on lists, and each of its fixpoints stands before those that it names
pub record DeclaresLists (e : Environment) : Type 0 where
  pub ordered : AreOrdered e.fixpoints
  pub takes : Contains e.fixpoints take_fixpoint
  pub drops : Contains e.fixpoints drop_fixpoint
  pub appends : Contains e.fixpoints append_fixpoint

-- ---- the contracts of the lemmas
-- `[share]ints(p, n, content)`
abbrev pub row : ShareTree → GhostExpression → PatternTree → PatternTree → Assertion
row share pointer many content = Chunk share (Named (codes "<vf_arrays.h>#ints")) (Is pointer ∷ many ∷ content ∷ [])

-- the share `[?f]`, where f has the number 2
abbrev pub any_share : ShareTree
any_share = Taken (Numbered 2)

-- the share `[f]` of the same name
abbrev pub that_share : ShareTree
that_share = Times whole (Numbered 2 ∷ [])

-- `p + k`, where the parameters are p and k
abbrev pub pointer_behind : GhostExpression
pointer_behind = PointerSum (name 0) (name 1)

-- `[?f]ints(p, ?n, content) &*& 0 <= k &*& k <= n`
abbrev pub row_to_split : PatternTree → Assertion
row_to_split content = Both (row any_share (name 0) (Names (Numbered 3)) content) (Both (Pure (Compare LessEqual (Number (pos 0)) (name 1))) (Pure (Compare LessEqual (name 1) (name 3))))

-- `[f]ints(p, k, first) &*& [f]ints(p + k, n - k, second)`
abbrev pub rows_of_split : PatternTree → PatternTree → Assertion
rows_of_split first second = Both (row that_share (name 0) (Is (name 1)) first) (row that_share pointer_behind (Is (Arithmetic Subtract (name 3) (name 1))) second)

-- `[?f]ints(p, k, first) &*& [f]ints(p + k, ?m, second)`, where m has a number
abbrev pub rows_to_join : ℕ → PatternTree → PatternTree → Assertion
rows_to_join m first second = Both (row any_share (name 0) (Is (name 1)) first) (row that_share pointer_behind (Names (Numbered m)) second)

-- `[f]ints(p, k + m, content)`
abbrev pub row_of_join : ℕ → PatternTree → Assertion
row_of_join m content = row that_share (name 0) (Is (Arithmetic Add (name 1) (name m))) content

-- `lemma void ints_none(int *p); requires true; ensures ints(p, 0, ints_nil);`
abbrev pub none_contract : ContractTree
none_contract = record { sorts = Pointers ∷ []; parameters = 1; result = None; requires_this = Pure (Truth true); ensures_this = row full (name 0) (Is (Number (pos 0))) (Is nil) }

-- `lemma void ints_split(int *p, int k); requires [?f]ints(p, ?n, ?vs) &*& 0 <= k &*& k <= n; ensures [f]ints(p, k, ints_take(vs, k)) &*& [f]ints(p + k, n - k, ints_drop(vs, k));`
abbrev pub split_contract : ContractTree
split_contract = record {
  sorts = Pointers ∷ Integers ∷ Fractions ∷ Integers ∷ numbers ∷ [];
  parameters = 2;
  result = None;
  requires_this = row_to_split (Names (Numbered 4));
  ensures_this = rows_of_split (Is (apply take_name (name 4) (name 1))) (Is (apply drop_name (name 4) (name 1)));
}

-- `lemma void ints_split_raw(int *p, int k); requires [?f]ints(p, ?n, _) &*& 0 <= k &*& k <= n; ensures [f]ints(p, k, _) &*& [f]ints(p + k, n - k, _);`
abbrev pub raw_split_contract : ContractTree
raw_split_contract = record { sorts = Pointers ∷ Integers ∷ Fractions ∷ Integers ∷ []; parameters = 2; result = None; requires_this = row_to_split Wild; ensures_this = rows_of_split Wild Wild }

-- `lemma void ints_join(int *p, int k); requires [?f]ints(p, k, ?a) &*& [f]ints(p + k, ?m, ?b); ensures [f]ints(p, k + m, ints_append(a, b));`
abbrev pub join_contract : ContractTree
join_contract = record {
  sorts = Pointers ∷ Integers ∷ Fractions ∷ numbers ∷ Integers ∷ numbers ∷ [];
  parameters = 2;
  result = None;
  requires_this = rows_to_join 4 (Names (Numbered 3)) (Names (Numbered 5));
  ensures_this = row_of_join 4 (Is (apply append_name (name 3) (name 5)));
}

-- `lemma void ints_join_raw(int *p, int k); requires [?f]ints(p, k, _) &*& [f]ints(p + k, ?m, _); ensures [f]ints(p, k + m, _);`
abbrev pub raw_join_contract : ContractTree
raw_join_contract = record { sorts = Pointers ∷ Integers ∷ Fractions ∷ Integers ∷ []; parameters = 2; result = None; requires_this = rows_to_join 3 Wild Wild; ensures_this = row_of_join 3 Wild }

-- ---- the laws
-- a contract changes nothing: each part that satisfies its precondition satisfies its postcondition too, under the same values of names
abbrev pub ChangesNothing : Environment → ContractTree → Type 0
ChangesNothing e k = (v : Valuation) (p : Part) → AreOfSorts e v k.sorts → Satisfies e whole k.requires_this v p → Satisfies e whole k.ensures_this v p

-- no memory is a row of no cells, at any pointer
abbrev pub NoCellsAreARow : Type 0
NoCellsAreARow = (e : Environment) → ChangesNothing e none_contract

-- a part that is a row of numbers is also its first cells, so many, with the first numbers, beside the cells behind them, with the others
abbrev pub RowsAreSplit : Type 0
RowsAreSplit = (e : Environment) → DeclaresLists e → ChangesNothing e split_contract

-- and so of a row in which cells may hold no number
abbrev pub RawRowsAreSplit : Type 0
RawRowsAreSplit = (e : Environment) → ChangesNothing e raw_split_contract

-- a part that is two rows of numbers of one share, the second behind the first, is one row of the numbers of both
abbrev pub RowsAreJoined : Type 0
RowsAreJoined = (e : Environment) → DeclaresLists e → ChangesNothing e join_contract

-- and so of rows in which cells may hold no number
abbrev pub RawRowsAreJoined : Type 0
RawRowsAreJoined = (e : Environment) → ChangesNothing e raw_join_contract

-- a part that is a row tells that the row's length is a number that is not negative
abbrev pub RowsHaveLengths : Type 0
RowsHaveLengths =
    (e : Environment) (s : Dyadic) (share : ShareTree) (pointer many : GhostExpression) (content : PatternTree) (v : Valuation) (p : Part) → Satisfies e s (row share pointer (Is many) content) v p
    → (n : ℕ) × (value_of (interpreted e.claims e.fixpoints) v many ≡ values.Number (pos n))

-- a lemma whose contract changes nothing holds: it gives all of the part that it is called with, and leaks nothing
abbrev pub UnchangingLemmasHold : Type 0
UnchangingLemmasHold = (e : Environment) (prog : ProgramTree) (lemma : LemmaTree) → ChangesNothing e lemma.contract → LemmaHolds e prog lemma

-- the three fixpoints on lists alone are in order
abbrev pub ListsAreInOrder : Type 0
ListsAreInOrder = AreOrdered (take_fixpoint ∷ drop_fixpoint ∷ append_fixpoint ∷ [])
