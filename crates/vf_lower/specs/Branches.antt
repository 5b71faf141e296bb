-- Tests, and the two ways that go on behind a test.
use Rattle.std.specs.Prelude.{ℕ, ◌+◌, Bool, false, not, if◌then◌else◌, ◌∷◌, ◌++◌, length}
use Rattle.vf_core.specs.declared.words.Comparison.{Comparison}
use Rattle.vf_base.specs.declared.place.Place.{Place}
use Rattle.vf_declared.specs.declared.ctype.CType.{CType}
use Rattle.vf_steps.specs.Tree.{ValueTree, ActionTree, NodeTree}
use Rattle.vf_steps.specs.Tree as steps
use Rattle.vf_lower.specs.Lowering.{Lowering, gives, ◌⨾◌, does, taken}

-- a comparison of two values, or the opposite of it
pub record Test : Type 0 where
  pub comparison : Comparison
  pub first : ValueTree
  pub second : ValueTree
  pub is_opposite : Bool

-- a comparison as it stands
abbrev pub test : Comparison → ValueTree → ValueTree → Test
test o v w = record { comparison = o; first = v; second = w; is_opposite = false }

-- the opposite of a test (C11 6.5.3.3)
abbrev pub opposite : Test → Test
opposite x = record x { is_opposite = not x.is_opposite }

-- the step that goes on where a test holds, and else skips so many nodes
abbrev pub if_step : Test → ℕ → ActionTree
if_step x n = if x.is_opposite then steps.if_ x.comparison x.first x.second n 0 else steps.if_ x.comparison x.first x.second 0 n

-- a node in the statement at a place
abbrev pub node : Place → ActionTree → NodeTree
node p a = record { statement = p; action = a }

-- in the statement at a place one part where a test holds, behind which the other is skipped, and the other where it does not
unfoldable pub either : {A B : Type 0} → Place → Test → Lowering A → Lowering B → Lowering (Unit {0})
either p x m k n =
    let first = m n in
    let second = k (n + length first.locals) in
    record {
      left = tt;
      nodes = node p (if_step x (length first.nodes + 1)) ∷ first.nodes ++ node p (steps.jump (length second.nodes)) ∷ second.nodes;
      locals = first.locals ++ second.locals;
    }

-- one of two values is put into a local of a type, and is read there at a place
abbrev pub selected : Place → Test → CType → ValueTree → ValueTree → Place → Lowering ValueTree
selected s x t v w p = taken t ⨾ λ k. either s x (does s (steps.set k v)) (does s (steps.set k w)) ⨾ λ u. gives (steps.read k p)
