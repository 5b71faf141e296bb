-- Lowering in general: what part of a text becomes, one part after another.
use Rattle.std.specs.Prelude.{ℕ, ◌+◌, List, [], ◌∷◌, ◌++◌, length}
use Rattle.vf_base.specs.declared.place.Place.{Place}
use Rattle.vf_declared.specs.declared.ctype.CType.{CType}
use Rattle.vf_steps.specs.Tree.{ActionTree, NodeTree}

-- what a part of a text becomes: what is left of it, the nodes that it does, and the types of the locals that it takes
pub record Lowered (A : Type 0) : Type 0 where
  pub left : A
  pub nodes : List NodeTree
  pub locals : List CType

-- what a part of a text becomes, from the number of the next local on
abbrev pub Lowering : Type 0 → Type 0
Lowering A = ℕ → Lowered A

-- nothing is done, and this is left
unfoldable pub gives : {A : Type 0} → A → Lowering A
gives a n = record { left = a; nodes = []; locals = [] }

infixr 10 ◌⨾◌
-- one part, and then another, which depends on what is left of the first
unfoldable pub ◌⨾◌ : {A B : Type 0} → Lowering A → (A → Lowering B) → Lowering B
(m ⨾ f) n =
    let first = m n in
    let second = f first.left (n + length first.locals) in
    record { left = second.left; nodes = first.nodes ++ second.nodes; locals = first.locals ++ second.locals }

-- one node in the statement at a place
unfoldable pub does : Place → ActionTree → Lowering (Unit {0})
does p a n = record { left = tt; nodes = (record { statement = p; action = a }) ∷ []; locals = [] }

-- a local of a type that no other part takes: its number
unfoldable pub taken : CType → Lowering ℕ
taken t n = record { left = n; nodes = []; locals = t ∷ [] }
