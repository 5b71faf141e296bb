-- Steps in which terms and equalities came about, and what there is after some of them.
use Rattle.std.specs.Prelude.{◌≡◌, ℕ, ◌+◌, ◌-◌, List, [], ◌∷◌, length, take, Some, slice_get}
use Rattle.vf_table.specs.declared.node.Node.{Node}
use Rattle.vf_log.specs.Copies.{IsCopy}
use Rattle.vf_growing.specs.declared.journal.Step.{Step}
use Rattle.vf_growing.specs.declared.journal.Step.TheVariants.{Term, Merge}

-- how many terms came about
abbrev pub terms_of : List Step → ℕ
terms_of [] = 0
terms_of (Term ∷ steps) = 1 + terms_of steps
terms_of (Merge a b ∷ steps) = terms_of steps

-- the pairs that were made equal, in order
abbrev pub merges_of : List Step → List (ℕ × ℕ)
merges_of [] = []
merges_of (Term ∷ steps) = merges_of steps
merges_of (Merge a b ∷ steps) = (a, b) ∷ merges_of steps

-- all steps but the last
abbrev pub all_but_last : List Step → List Step
all_but_last steps = take (length steps - 1) steps

-- a term of the table has the head and the parts of a node
pub record IsTermOf (nodes : List Node) (term : ℕ) (node : Node) : Type 0 where
  pub kept : Node
  pub found : slice_get nodes term ≡ Some kept
  pub same : IsCopy kept node

-- What a contract sees of classes that grow: the table of terms, the pairs that were merged in order, both in the order in which they came, and a number that falls wherever two classes become one
pub record Growth : Type 0 where
  pub nodes : List Node
  pub merged : List (ℕ × ℕ)
  pub steps : List Step
  pub weight : ℕ
