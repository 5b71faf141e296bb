-- How many nodes are kept in front of each node of a body.
use Rattle.std.specs.Prelude.{ℕ, suc, Bool, if◌then◌else◌, List, [], ◌∷◌}
use Rattle.vf_steps.specs.Tree.{NodeTree}
use Rattle.vf_functions.specs.Erased.{is_kept}

-- one more where a node is kept
abbrev pub counted : ℕ → Bool → ℕ
counted k b = if b then suc k else k

-- how many nodes are kept in front of each of some nodes and behind the last, behind so many others that are
abbrev pub counts_behind : ℕ → List NodeTree → List ℕ
counts_behind k [] = k ∷ []
counts_behind k (n ∷ ns) = k ∷ counts_behind (counted k (is_kept n.action)) ns

-- how many nodes are kept in front of each node of a body, and how many of all
abbrev pub counts_of : List NodeTree → List ℕ
counts_of ns = counts_behind 0 ns
