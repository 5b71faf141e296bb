-- Tables of the same terms.
use Rattle.std.specs.Prelude.{◌≡◌, ℕ, List, length, Some, slice_get}
use Rattle.vf_table.specs.declared.node.Node.{Node}

-- the second node has the head and the parts of the first
pub record IsCopy (node copy : Node) : Type 0 where
  pub head : copy.head ≡ node.head
  pub parts : copy.parts.items ≡ node.parts.items

-- each term of the first table is one of the second, with the same number
pub record HaveSameTerms (nodes copies : List Node) : Type 0 where
  pub long : length copies ≡ length nodes
  pub each : (a : ℕ) (node : Node) → slice_get nodes a ≡ Some node → (copy : Node) × (slice_get copies a ≡ Some copy) × IsCopy node copy
