-- Where the path of a prover stands on a trail.
use Rattle.std.specs.Prelude.{◌≡◌, ℕ, ◌+◌, ◌-◌, ◌<◌, ◌≤◌, List, [], ◌∷◌, ◌++◌, length, map, Some, option_map, slice_get, slice_index, take}
use Rattle.std.specs.List.{AllZip}
use Rattle.vf_trail.specs.declared.node.Node.{Node}
use Rattle.vf_trail.specs.Trail.{path_of}
use Rattle.vf_closure.specs.Closure.{Unfoldings}
use Rattle.vf_formula.specs.declared.literal.Literal as declared
use Rattle.vf_definitions.specs.declared.fixpoint.Fixpoint.{Fixpoint}
use Rattle.vf_definitions.specs.Unfolded.{unfoldings_of}
use Rattle.vf_question.specs.Numbered.{terms_of}
use Rattle.vf_question.specs.declared.numbering.TheConstants.{MOST_TERMS}
use Rattle.vf_unfolding.specs.Rounds.{AreEnough}
use Rattle.vf_unfolding.specs.Walked.{Stand, Walked}
use Rattle.vf_asking.specs.Journal.{path_to}
use Rattle.vf_prover.specs.Held.{last_definitions}

-- the root and some nodes, by their numbers
abbrev pub from_root : List Node → List ℕ
from_root nodes = 0 ∷ map (λ n. n.number) nodes

-- a node hangs on another one: its path is that one's, and its own fact
pub record IsChild (facts : List (ℕ × declared.Literal)) (parent node : ℕ) : Type 0 where
  pub positive : 0 < node
  pub there : node ≤ length facts
  pub path : (fact : declared.Literal) → option_map (λ row. row.1) (slice_get facts (node - 1)) ≡ Some fact → path_of facts node ≡ path_of facts parent ++ fact ∷ []

-- nodes lead from the root to a node, each hanging on the one before
pub record LeadTo (facts : List (ℕ × declared.Literal)) (nodes : List Node) (node : ℕ) : Type 0 where
  pub linked : (k : ℕ) → k < length nodes → IsChild facts (slice_index (from_root nodes) k) (slice_index (from_root nodes) (k + 1))
  pub ends : slice_index (from_root nodes) (length nodes) ≡ node

-- a path stands at a node: it has the facts of the node's path, and enough was unfolded for them
pub record IsStandAt (u : Unfoldings) (rows : List (ℕ × declared.Literal)) (node : ℕ) (stand : Stand) : Type 0 where
  pub there : node ≤ length rows
  pub facts : stand.facts ≡ path_to rows node
  pub enough : AreEnough u stand.facts stand.made

-- the stands of a path, the first first
abbrev pub stands : Walked → List Stand
stands w = w.levels ++ w.now ∷ []

-- a path stood at the root and at each of some nodes in turn, and stands at the last
abbrev pub IsAlong : Unfoldings → List (ℕ × declared.Literal) → List Node → Walked → Type 0
IsAlong u facts nodes w = AllZip (IsStandAt u facts) (from_root nodes) (stands w)

-- a path has come to a node of a line, and to its end where the facts have no more terms than a question may have
pub record HasCome (line nodes : List Node) (w : Walked) : Type 0 where
  pub passed : ℕ
  pub within : passed ≤ length line
  pub front : nodes ≡ take passed line
  pub ends : length (terms_of w.now.facts) ≤ MOST_TERMS → nodes ≡ line

-- the path that is kept, if there is one, stands along some nodes; where there is none there are no nodes
abbrev pub StandBy : Unfoldings → List (ℕ × declared.Literal) → List Walked → List Node → Type 0
StandBy u facts [] nodes = nodes ≡ []
StandBy u facts (w ∷ []) nodes = IsAlong u facts nodes w
StandBy u facts (w ∷ v ∷ vs) nodes = ⊥

-- what a prover keeps beside its journal: a path unfolded by the definitions of the unit begun last, and the nodes that it stands along
abbrev pub IsStanding : List (List Fixpoint) → List (ℕ × declared.Literal) → List Walked → List Node → Type 0
IsStanding units facts paths nodes = StandBy (unfoldings_of (last_definitions units)) facts paths nodes
