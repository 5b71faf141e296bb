-- What it is that the rules give just what a walk gives.
use Rattle.std.specs.Prelude.{◌≡◌, ◌↔◌, ℕ, List, length, Some, None, Result, Ok, Err}
use Rattle.vf_base.specs.declared.place.Place.{Place}
use Rattle.vf_base.specs.declared.refusal.Refusal.{Refusal}
use Rattle.vf_sorts.specs.Sorts.{Sort}
use Rattle.vf_sorts.specs.Unknowns.{IsBelow, IsResolved, Known}
use Rattle.vf_declared.specs.declared.ctype.CType.{CType}
use Rattle.vf_declared.specs.declared.scope.Scope.{Scope}
use Rattle.vf_syntax.specs.declared.contract.Contract.{Contract}
use Rattle.vf_syntax.specs.declared.contract.Invariant.{Invariant}
use Rattle.vf_syntax.specs.declared.item.GhostItem.{GhostItem}
use Rattle.vf_syntax.specs.declared.item.Item.{Item}
use Rattle.vf_syntax.specs.AssertionTree.{PartTrees}
use Rattle.vf_syntax.specs.GhostCommandTree.{GhostCommandTree}
use Rattle.vf_syntax.specs.GhostExprTree.{GhostExprTree}
use Rattle.vf_syntax.specs.StmtTree.{StmtTrees}
use Rattle.vf_sorting.specs.declared.context.Context.{Context}
use Rattle.vf_sorting.specs.HasSort.{HasSort, Passes}
use Rattle.vf_sorting.specs.IsRefused.{Fails, IsRefused}
use Rattle.vf_asserting.specs.Gives.{Gives}
use Rattle.vf_asserting.specs.IsRefused.{AnyPartFails}
use Rattle.vf_datatypes.specs.declared.stated.Stated.{Stated}
use Rattle.vf_walk.specs.declared.annotations.Owner.{Owner}
use Rattle.vf_walk.specs.Meanings.{Meanings}
use Rattle.vf_walk.specs.Statements.{WalksStmts}
use Rattle.vf_annotations.specs.Forms.{meanings}
use Rattle.vf_resolve.specs.declared.files.Files.{Files}
use Rattle.vf_resolve.specs.Units.{ItemsCome}
use Rattle.vf_phases.specs.Phases.{IsRefusedInPhases, PassesPhases}
use Rattle.vf_order_laws.specs.walk.Sorts.{passed, sort_of}
use Rattle.vf_order_laws.specs.walk.Assertions.{parts_of}
use Rattle.vf_order_laws.specs.walk.Walks.{Walks, walks_of}
use Rattle.vf_order_laws.specs.walk.Statements.{stmts_of}
use Rattle.vf_order_laws.specs.walk.Units.{first_refusal, phased, unit_of}

-- rules give just what a walk gives: that, and nothing else
pub record AreWalked {A : Type 0} (P : Result A Refusal → Type 0) (walked : Result A Refusal) : Type 0 where
  pub found : P walked
  pub comes : (w : Result A Refusal) → P w → walked ≡ w

-- an expression comes to a sort that it has with what is known then, or to a refusal
pub data SortComes (s : Scope) (c : Context) (k : Known) (e : GhostExprTree) : Result (Sort × Known) Refusal → Type 0 where
  has : {t : Sort} {k' : Known} → HasSort s c k e t k' → SortComes s c k e (Ok (t, k'))
  refused : {r : Refusal} → IsRefused s c k e r → SortComes s c k e (Err r)

-- an expression of which a sort is wanted comes to what is known where it passes, or to how it fails to
pub data PassComes (s : Scope) (c : Context) (k : Known) (w : Sort) (q : Place) (e : GhostExprTree) : Result Known Refusal → Type 0 where
  passes : {k' : Known} → Passes s c k w q e k' → PassComes s c k w q e (Ok k')
  fails : {r : Refusal} → Fails s c k w q e r → PassComes s c k w q e (Err r)

-- an assertion comes to what it declares with what is known then, or to a refusal
pub data AssertionComes (c : Context) (s : Scope) (k : Known) (xs : PartTrees) : Result (Scope × Known) Refusal → Type 0 where
  gives : {s' : Scope} {k' : Known} → Gives c s k xs s' k' → AssertionComes c s k xs (Ok (s', k'))
  refused : {r : Refusal} → AnyPartFails c s k xs r → AssertionComes c s k xs (Err r)

-- a unit passes the phases of names, of fixpoints and of order with what it declares, or is refused in the first of them that refuses it
pub data PhasesCome (f : Files) (xs : List Item) : Result Scope Refusal → Type 0 where
  pass : {s : Scope} → PassesPhases f xs s → PhasesCome f xs (Ok s)
  refused : {r : Refusal} → IsRefusedInPhases f xs r → PhasesCome f xs (Err r)

-- the rules of sorts give what the walk over an expression gives, wherever what is known of unknown sorts is in order
abbrev pub SortsAreWalked : Type 0
SortsAreWalked = (s : Scope) (c : Context) (k : Known) (e : GhostExprTree) → IsResolved k → AreWalked (SortComes s c k e) (sort_of s c k e)

-- the same where a sort is wanted of it whose unknown sorts are there
abbrev pub PassesAreWalked : Type 0
PassesAreWalked = (s : Scope) (c : Context) (k : Known) (w : Sort) (q : Place) (e : GhostExprTree) → IsResolved k → IsBelow (length k) w → AreWalked (PassComes s c k w q e) (passed s c k w q e)

-- the rules of assertions give what the walk over their parts gives
abbrev pub AssertionsAreWalked : Type 0
AssertionsAreWalked = (c : Context) (s : Scope) (k : Known) (xs : PartTrees) → IsResolved k → AreWalked (AssertionComes c s k xs) (parts_of c s k xs)

-- what annotations may come to is what walks over them give, wherever they stand
pub record AnnotationsAreWalked (m : Meanings) (f : Walks) : Type 0 where
  pub contract : (o : Owner) (c : Contract) (s : Scope) → AreWalked (m.contract o c s) (f.contract o c s)
  pub invariant : (file : ℕ) (i : Invariant) (s : Scope) → AreWalked (m.invariant file i s) (f.invariant file i s)
  pub command : (c : GhostCommandTree) (s : Scope) → AreWalked (m.command c s) (f.command c s)
  pub item : (i : GhostItem) (s : Scope) → AreWalked (m.item i s) (f.item i s)
  pub takes : m.takes ≡ f.takes

-- the rules of annotations give what the walks over them give, whichever datatypes stand in their unit
abbrev pub FormsAreWalked : Type 0
FormsAreWalked = (d : Stated) → AnnotationsAreWalked (meanings d) (walks_of d)

-- the rules of statements give what the walk over them gives, in functions that give a type
abbrev pub StatementsAreWalked : Type 0
StatementsAreWalked = (d : Stated) (t : CType) (xs : StmtTrees) (s : Scope) → AreWalked (WalksStmts (meanings d) t xs s) (stmts_of (walks_of d) t xs s)

-- the rules of items give what the walk over a unit gives
abbrev pub UnitsAreWalked : Type 0
UnitsAreWalked = (xs : List Item) (s : Scope) → AreWalked (ItemsCome xs s) (unit_of xs s)

-- the rules of the phases give what the walk through them gives
abbrev pub PhasesAreWalked : Type 0
PhasesAreWalked = (f : Files) (xs : List Item) → AreWalked (PhasesCome f xs) (phased f xs)

-- a unit is refused just as the walk first refuses it, passes its phases with what the walk declares, and passes them at all just where the walk refuses nothing
pub record RefusalsAreFirst (f : Files) (xs : List Item) : Type 0 where
  pub refused : (r : Refusal) → IsRefusedInPhases f xs r ↔ (first_refusal f xs ≡ Some r)
  pub passes : (s : Scope) → PassesPhases f xs s ↔ (phased f xs ≡ Ok s)
  pub accepted : ((s : Scope) × PassesPhases f xs s) ↔ (first_refusal f xs ≡ None)

-- so it is of every unit
abbrev pub RefusalsComeFirst : Type 0
RefusalsComeFirst = (f : Files) (xs : List Item) → RefusalsAreFirst f xs
