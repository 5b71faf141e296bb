-- Classes and bounds that hold the closure of some facts, at the end of a path and at the beginning of each of its levels.
use Rattle.std.specs.Prelude.{◌≡◌, ℕ, ◌<◌, ◌≤◌, ◌^◌, ◌++◌, Bool, IsTrue, List, [], ◌∷◌, length, map, take, All}
use Rattle.vf_table.specs.declared.node.Node.{Node}
use Rattle.vf_table.specs.Tables.{PartsAreBelow}
use Rattle.vf_growing.specs.declared.journal.Step as merging
use Rattle.vf_growing.specs.Steps.{Growth, terms_of, merges_of}
use Rattle.vf_arith.specs.declared.bounds.Edge.{Edge}
use Rattle.vf_arith.specs.declared.bounds.Step as bounding
use Rattle.vf_arith.specs.Paths.{HasNegativeCycle, Network}
use Rattle.vf_arith.specs.Steps.{points_of, bounds_of}
use Rattle.vf_refute.specs.declared.steps.Fact.{Fact}
use Rattle.vf_ground.specs.Held.{AreSound, AreComplete, IsFine, HasSmallNumber, Clash}
use Rattle.vf_combination.specs.Exchanged.{IsOnward, HasClash}
use Rattle.vf_combination.specs.Combined.{Begun}
use Rattle.vf_combination.specs.declared.level.Level.{Level}

-- classes and bounds hold the closure of the facts, up to a negative cycle, and whether two terms clash is known
pub record IsSettled (nodes : List Node) (facts : List Fact) (merged : List (ℕ × ℕ)) (edges : List Edge) (clashed : Bool) : Type 0 where
  pub sound : AreSound nodes facts merged edges
  pub complete : (HasNegativeCycle edges → ⊥) → AreComplete nodes facts merged edges
  pub clash_is : IsTrue clashed → HasClash nodes merged
  pub clashes_seen : (HasNegativeCycle edges → ⊥) → (x y : ℕ) → x < length nodes → y < length nodes → Clash nodes merged x y → IsTrue clashed
  pub fine : All (IsFine nodes) facts
  pub parts : PartsAreBelow nodes (length nodes)
  pub small : All HasSmallNumber nodes
  pub few : length nodes ≤ 2 ^ 24

-- terms, facts, and the steps of classes and bounds
pub record State : Type 0 where
  pub nodes : List Node
  pub facts : List Fact
  pub class_steps : List merging.Step
  pub bound_steps : List bounding.Step

-- those of a path
abbrev pub state : Growth → Network → List Fact → State
state c b facts = record { nodes = c.nodes; facts = facts; class_steps = c.steps; bound_steps = b.steps }

-- nothing was taken back
pub record IsLater (s s' : State) : Type 0 where
  pub nodes : IsOnward s.nodes s'.nodes
  pub facts : IsOnward s.facts s'.facts
  pub class_steps : IsOnward s.class_steps s'.class_steps
  pub bound_steps : IsOnward s.bound_steps s'.bound_steps

-- a level began where there was this
pub record IsBeginning (l : Level) (s : State) : Type 0 where
  pub settled : IsSettled s.nodes s.facts (merges_of s.class_steps) (bounds_of s.bound_steps) l.clashed
  pub class_steps : l.class_steps ≡ length s.class_steps
  pub bound_steps : l.bound_steps ≡ length s.bound_steps
  pub facts : l.facts ≡ length s.facts
  pub terms : l.terms ≡ length s.nodes
  pub classes : terms_of s.class_steps ≡ length s.nodes
  pub bounds : points_of s.bound_steps ≡ length s.nodes

-- levels that began one after the other, and nothing of what there was then was taken back
pub data AreLevels : List Level → State → Type 0 where
  no_levels : {s : State} → AreLevels [] s
  level_above : {levels : List Level} {s s' : State} (l : Level) → AreLevels levels s → IsBeginning l s → IsLater s s' → AreLevels (levels ++ l ∷ []) s'

-- what there was at the beginning of each level
abbrev pub begun_of : List Level → List Node → List Fact → List Begun
begun_of levels nodes facts = map (λ l. record { nodes = take l.terms nodes; facts = take l.facts facts }) levels

-- classes, bounds and levels of a path
pub record IsPath (c : Growth) (b : Network) (facts : List Fact) (clashed : Bool) (raised : List Level) : Type 0 where
  pub size : b.size ≡ length c.nodes
  pub settled : IsSettled c.nodes facts c.merged b.edges clashed
  pub levels : AreLevels raised (state c b facts)
