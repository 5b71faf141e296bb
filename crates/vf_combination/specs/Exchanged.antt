-- What classes, bounds and marks keep while they exchange equalities and bounds.
use Rattle.std.specs.Prelude.{◌≡◌, ℕ, ◌+◌, ◌<◌, ◌++◌, pos, Bool, true, IsTrue, IsFalse, List, [], ◌∷◌, length, Contains, slice_index_or}
use Rattle.vf_table.specs.declared.node.Node.{Node}
use Rattle.vf_congruence.specs.Congruence.{Congruent, WereMerged}
use Rattle.vf_growing.specs.declared.journal.Step.TheVariants.{Term}
use Rattle.vf_growing.specs.Steps.{Growth, terms_of, merges_of}
use Rattle.vf_arith.specs.declared.bounds.Edge.{Edge}
use Rattle.vf_arith.specs.declared.journal.Saved.{Saved}
use Rattle.vf_arith.specs.Paths.{Network, HasNegativeCycle}
use Rattle.vf_arith.specs.Steps.{points_of, bounds_of}
use Rattle.vf_ground.specs.Held.{IsNear, Agree, Clash, HaveGrown}

-- a list goes on from another one
pub record IsOnward {X : Type 0} (before after : List X) : Type 0 where
  pub more : List X
  pub is : after ≡ before ++ more

-- the classes are those of their steps
pub record AreOfSteps (c : Growth) : Type 0 where
  pub terms : length c.nodes ≡ terms_of c.steps
  pub merged : c.merged ≡ merges_of c.steps

-- the bounds are those of their steps
pub record AreBoundsOfSteps (b : Network) : Type 0 where
  pub points : b.size ≡ points_of b.steps
  pub edges : b.edges ≡ bounds_of b.steps

-- pairs were merged, and no terms added
pub record HaveClassesGoneOn (c c' : Growth) : Type 0 where
  pub of_steps : AreOfSteps c'
  pub nodes : c'.nodes ≡ c.nodes
  pub steps : IsOnward c.steps c'.steps

-- bounds were added, and no points
pub record HaveBoundsGoneOn (b b' : Network) : Type 0 where
  pub of_steps : AreBoundsOfSteps b'
  pub size : b'.size ≡ b.size
  pub steps : IsOnward b.steps b'.steps

-- classes and bounds are those of their steps, over the same terms
pub record AreFitting (c : Growth) (b : Network) : Type 0 where
  pub classes : AreOfSteps c
  pub bounds : AreBoundsOfSteps b
  pub size : b.size ≡ length c.nodes

-- pairs were merged and bounds added, and no terms
pub record HaveGoneOn (c : Growth) (b : Network) (c' : Growth) (b' : Network) : Type 0 where
  pub classes : HaveClassesGoneOn c c'
  pub bounds : HaveBoundsGoneOn b b'

-- a term is not marked
abbrev pub IsUnmarked : List Bool → ℕ → Type 0
IsUnmarked marks x = IsFalse (slice_index_or marks x true)

-- terms that are not marked are equal only where they were
pub record OnlyMarkedMeet (c : Growth) (m : List Bool) (c' : Growth) (m' : List Bool) : Type 0 where
  pub marked : (x : ℕ) → IsUnmarked m' x → IsUnmarked m x
  pub meet : (x y : ℕ) → IsUnmarked m' x → IsUnmarked m' y → Congruent c'.nodes (WereMerged c'.merged) x y → Congruent c.nodes (WereMerged c.merged) x y

-- the points of a distance are within 0 both ways
pub record IsSqueezed (b : Network) (s : Saved) : Type 0 where
  pub left : s.x < b.size
  pub right : s.y < b.size
  pub up : IsNear b.edges s.x s.y (pos 0)
  pub down : IsNear b.edges s.y s.x (pos 0)

-- terms that are not marked are within 0 both ways only where they were
pub record OnlyMarkedNear (b : Network) (m : List Bool) (b' : Network) (m' : List Bool) : Type 0 where
  pub marked : (x : ℕ) → IsUnmarked m' x → IsUnmarked m x
  pub kept : (e : Edge) → Contains b.edges e → Contains b'.edges e
  pub near : (HasNegativeCycle b'.edges → ⊥) → (x y : ℕ) → IsUnmarked m' x → IsUnmarked m' y → IsNear b'.edges x y (pos 0) → IsNear b'.edges y x (pos 0) → IsNear b.edges x y (pos 0)

-- classes and bounds agree at two terms, and that these clash, if they do, is known
pub record AreQuiet (c : Growth) (b : Network) (clashed : Bool) (x y : ℕ) : Type 0 where
  pub agree : Agree c.nodes c.merged b.edges x y
  pub clash : Clash c.nodes c.merged x y → IsTrue clashed

-- they agree at each two terms
abbrev pub AllQuiet : Growth → Network → Bool → Type 0
AllQuiet c b clashed = (x y : ℕ) → x < length c.nodes → y < length c.nodes → AreQuiet c b clashed x y

-- they agree at each two terms that are not marked
abbrev pub QuietElsewhere : Growth → Network → Bool → List Bool → Type 0
QuietElsewhere c b clashed m = (x y : ℕ) → IsUnmarked m x → IsUnmarked m y → AreQuiet c b clashed x y

-- two terms are in one class and their heads clash
pub record HasClash (nodes : List Node) (merged : List (ℕ × ℕ)) : Type 0 where
  pub left : ℕ
  pub right : ℕ
  pub clash : Clash nodes merged left right

-- classes and bounds grew by what follows, and only a clash came to be known
pub record HaveFollowed (c : Growth) (b : Network) (clashed : Bool) (c' : Growth) (b' : Network) (clashed' : Bool) : Type 0 where
  pub grown : HaveGrown c.nodes c.merged b.edges c'.merged b'.edges
  pub known : IsTrue clashed → IsTrue clashed'
  pub clash : (IsTrue clashed → HasClash c.nodes c.merged) → IsTrue clashed' → HasClash c'.nodes c'.merged

-- two terms that are not marked still agree where they did
pub record HaveMarked (c : Growth) (b : Network) (clashed : Bool) (m : List Bool) (c' : Growth) (b' : Network) (clashed' : Bool) (m' : List Bool) : Type 0 where
  pub marked : (x : ℕ) → IsUnmarked m' x → IsUnmarked m x
  pub quiet : (HasNegativeCycle b'.edges → ⊥) → (x y : ℕ) → IsUnmarked m' x → IsUnmarked m' y → AreQuiet c b clashed x y → AreQuiet c' b' clashed' x y

-- where something was given, the weight fell, and else nothing changed
pub record HaveFallen (given : Bool) (c : Growth) (b : Network) (c' : Growth) (b' : Network) : Type 0 where
  pub same : IsFalse given → (c' ≡ c) × (b' ≡ b)
  pub falls : IsTrue given → (HasNegativeCycle b'.edges → ⊥) → c'.weight + b'.weight < c.weight + b.weight

-- a term is the last step of the classes, and before it classes and bounds agreed at each two terms
pub record IsNew (c : Growth) (b : Network) (clashed : Bool) (term : ℕ) : Type 0 where
  pub before : Growth
  pub node : Node
  pub of_steps : AreOfSteps before
  pub nodes : c.nodes ≡ before.nodes ++ node ∷ []
  pub steps : c.steps ≡ before.steps ++ Term ∷ []
  pub merged : c.merged ≡ before.merged
  pub number : term ≡ length before.nodes
  pub quiet : (HasNegativeCycle b.edges → ⊥) → AllQuiet before b clashed

-- classes and bounds are again as they were
pub record AreBack (c : Growth) (b : Network) (c' : Growth) (b' : Network) : Type 0 where
  pub nodes : c'.nodes ≡ c.nodes
  pub merged : c'.merged ≡ c.merged
  pub class_steps : c'.steps ≡ c.steps
  pub size : b'.size ≡ b.size
  pub edges : b'.edges ≡ b.edges
  pub bound_steps : b'.steps ≡ b.steps

-- classes and bounds went on, terms and all
pub record AreOnward (c : Growth) (b : Network) (c' : Growth) (b' : Network) : Type 0 where
  pub nodes : IsOnward c.nodes c'.nodes
  pub class_steps : IsOnward c.steps c'.steps
  pub bound_steps : IsOnward b.steps b'.steps
