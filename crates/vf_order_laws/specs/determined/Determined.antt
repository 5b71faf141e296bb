-- What comes to one thing at most.
use Rattle.std.specs.Prelude.{◌≡◌, List, Result}
use Rattle.vf_base.specs.declared.refusal.Refusal.{Refusal}
use Rattle.vf_sorts.specs.Sorts.{Sort}
use Rattle.vf_sorts.specs.Unknowns.{Known}
use Rattle.vf_declared.specs.declared.scope.Scope.{Scope}
use Rattle.vf_syntax.specs.declared.item.Item.{Item}
use Rattle.vf_syntax.specs.AssertionTree.{PartTrees}
use Rattle.vf_syntax.specs.GhostExprTree.{GhostExprTree}
use Rattle.vf_sorting.specs.declared.context.Context.{Context}
use Rattle.vf_datatypes.specs.declared.stated.Stated.{Stated}
use Rattle.vf_walk.specs.Agreeing.{AreDetermined}
use Rattle.vf_walk.specs.Walking.{Walked}
use Rattle.vf_annotations.specs.Forms.{meanings}
use Rattle.vf_resolve.specs.declared.files.Files.{Files}
use Rattle.vf_resolve.specs.Units.{ItemsCome}
use Rattle.vf_order_laws.specs.walk.Agreeing.{AssertionComes, PhasesCome, SortComes}

-- an expression has one sort at most, with one that is known then, or is refused in one way
abbrev pub SortsAreDetermined : Type 0
SortsAreDetermined = (s : Scope) (c : Context) (k : Known) (e : GhostExprTree) (v w : Result (Sort × Known) Refusal) → SortComes s c k e v → SortComes s c k e w → v ≡ w

-- an assertion declares one thing at most, or is refused in one way
abbrev pub AssertionsAreDetermined : Type 0
AssertionsAreDetermined = (c : Context) (s : Scope) (k : Known) (xs : PartTrees) (v w : Result (Scope × Known) Refusal) → AssertionComes c s k xs v → AssertionComes c s k xs w → v ≡ w

-- each annotation comes to one thing at most, whichever datatypes stand in its unit
abbrev pub AnnotationsAreDetermined : Type 0
AnnotationsAreDetermined = (d : Stated) → AreDetermined (meanings d)

-- a unit declares one thing at most, or is refused in one way
abbrev pub UnitsAreDetermined : Type 0
UnitsAreDetermined = (xs : List Item) (s : Scope) (v w : Walked) → ItemsCome xs s v → ItemsCome xs s w → v ≡ w

-- a unit comes through these phases in one way at most
abbrev pub PhasesAreDetermined : Type 0
PhasesAreDetermined = (f : Files) (xs : List Item) (v w : Result Scope Refusal) → PhasesCome f xs v → PhasesCome f xs w → v ≡ w
