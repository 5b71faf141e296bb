-- The terms of a question as a table, in which a term is a number.
use Rattle.std.specs.Prelude.{◌≡◌, ◌≢◌, ℕ, ◌<◌, ℤ, List, length, All, Some, slice_get, slice_index}
use Rattle.vf_table.specs.declared.node.Head.{Head}
use Rattle.vf_table.specs.declared.node.Head.TheVariants.{Number, Truth, Null, Function, Constructor, Plus, Integer, Other}
use Rattle.vf_table.specs.declared.node.Node.{Node}

-- the parts of each term are terms of the table too, whose numbers are below n
abbrev pub PartsAreBelow : List Node → ℕ → Type 0
PartsAreBelow nodes n = All (λ node. All (λ part. part < n) node.parts.items) nodes

-- equal terms with this head have equal parts: it is a constructor's
abbrev pub IsInjective : Head → Type 0
IsInjective (Constructor c) = Unit {0}
IsInjective (Number z) = ⊥
IsInjective (Truth b) = ⊥
IsInjective Null = ⊥
IsInjective (Function g) = ⊥
IsInjective Plus = ⊥
IsInjective (Integer h) = ⊥
IsInjective (Other h) = ⊥

-- the terms with this head have numbers for their values
abbrev pub IsOfIntegers : Head → Type 0
IsOfIntegers (Number z) = Unit {0}
IsOfIntegers Plus = Unit {0}
IsOfIntegers (Integer h) = Unit {0}
IsOfIntegers (Truth b) = ⊥
IsOfIntegers Null = ⊥
IsOfIntegers (Function g) = ⊥
IsOfIntegers (Constructor c) = ⊥
IsOfIntegers (Other h) = ⊥

-- a term of the table that is an integer term
abbrev pub IsInteger : List Node → ℕ → Type 0
IsInteger nodes x = (n : Node) × (slice_get nodes x ≡ Some n) × IsOfIntegers n.head

-- a term of the table that is the number c
abbrev pub IsNumber : List Node → ℕ → ℤ → Type 0
IsNumber nodes x c = (n : Node) × (slice_get nodes x ≡ Some n) × (n.head ≡ Number c)

-- a term of the table that is the sum of q and the number c
pub record IsPlus (nodes : List Node) (a q : ℕ) (c : ℤ) : Type 0 where
  pub node : Node
  pub found : slice_get nodes a ≡ Some node
  pub head : node.head ≡ Plus
  pub two : length node.parts.items ≡ 2
  pub part : slice_index node.parts.items 0 ≡ q
  pub number : IsNumber nodes (slice_index node.parts.items 1) c

-- two heads that no two equal terms have: different constructors, numbers, truth values or functions, and null beside a function
abbrev pub AreClashing : Head → Head → Type 0
AreClashing (Constructor c) (Constructor d) = c ≢ d
AreClashing (Number a) (Number b) = a ≢ b
AreClashing (Truth a) (Truth b) = a ≢ b
AreClashing (Function g) (Function h) = g ≢ h
AreClashing Null (Function g) = Unit {0}
AreClashing _ _ = ⊥

-- two terms of the table whose heads clash
abbrev pub HaveClashingHeads : List Node → ℕ → ℕ → Type 0
HaveClashingHeads nodes x y = (m : Node) × (n : Node) × (slice_get nodes x ≡ Some m) × (slice_get nodes y ≡ Some n) × AreClashing m.head n.head
