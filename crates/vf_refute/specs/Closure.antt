-- The closure of facts over a table of terms, and its conflicts. Fixpoints are not unfolded here: what they are unfolded to comes as facts.
use Rattle.std.specs.Prelude.{◌≡◌, ℕ, ◌<◌, ℤ, pos, negsuc, neg_ℤ, ◌+ℤ◌, ◌≤ℤ◌, List, length, Contains, Some, slice_get, slice_index}
use Rattle.vf_table.specs.declared.node.Node.{Node}
use Rattle.vf_table.specs.Tables.{IsInjective, IsInteger, IsNumber, IsPlus, HaveClashingHeads}
use Rattle.vf_refute.specs.declared.steps.Fact.{Fact}
use Rattle.vf_refute.specs.declared.steps.Fact.TheVariants.{Equal, NotEqual, AtMost, Difference, NotDifference, False}

mutual
  -- the equalities: those given; reflexive, symmetric and transitive; terms of one head with equal parts; parts of equal terms of one constructor; and integer terms with bound 0 both ways
  pub data Same (nodes : List Node) (facts : List Fact) : ℕ → ℕ → Type 0 where
    given : {a b : ℕ} → Contains facts (Equal a b) → Same nodes facts a b
    same_self : {a : ℕ} → Same nodes facts a a
    same_back : {a b : ℕ} → Same nodes facts a b → Same nodes facts b a
    same_through : {a b c : ℕ} → Same nodes facts a b → Same nodes facts b c → Same nodes facts a c
    congruent : {a b : ℕ} {m n : Node} → slice_get nodes a ≡ Some m → slice_get nodes b ≡ Some n → m.head ≡ n.head → length m.parts.items ≡ length n.parts.items → ((i : ℕ) → i < length m.parts.items → Same nodes facts (slice_index m.parts.items i) (slice_index n.parts.items i)) → Same nodes facts a b
    injective : {a b : ℕ} {m n : Node} {i : ℕ} → slice_get nodes a ≡ Some m → slice_get nodes b ≡ Some n → IsInjective m.head → m.head ≡ n.head → length m.parts.items ≡ length n.parts.items → i < length m.parts.items → Same nodes facts a b → Same nodes facts (slice_index m.parts.items i) (slice_index n.parts.items i)
    squeezed : {x y : ℕ} → IsInteger nodes x → IsInteger nodes y → Bound nodes facts x y (pos 0) → Bound nodes facts y x (pos 0) → Same nodes facts x y

  -- the bounds x - y <= c: those given, a difference as two; 0 between an integer term and itself; weaker ones; chains; a sum q + c differs from q by exactly c, and a number k from 0 by exactly k; and equal integer terms have bound 0
  pub data Bound (nodes : List Node) (facts : List Fact) : ℕ → ℕ → ℤ → Type 0 where
    most : {x y : ℕ} {c : ℤ} → Contains facts (AtMost x y c) → Bound nodes facts x y c
    difference_up : {x y : ℕ} {c : ℤ} → Contains facts (Difference x y c) → Bound nodes facts x y c
    difference_down : {x y : ℕ} {c : ℤ} → Contains facts (Difference x y c) → Bound nodes facts y x (neg_ℤ c)
    still : {x : ℕ} → IsInteger nodes x → Bound nodes facts x x (pos 0)
    weaker : {x y : ℕ} {c d : ℤ} → c ≤ℤ d → Bound nodes facts x y c → Bound nodes facts x y d
    chain : {x y z : ℕ} {c d : ℤ} → Bound nodes facts x y c → Bound nodes facts y z d → Bound nodes facts x z (c +ℤ d)
    sum_up : {a q : ℕ} {c : ℤ} → IsPlus nodes a q c → Bound nodes facts a q c
    sum_down : {a q : ℕ} {c : ℤ} → IsPlus nodes a q c → Bound nodes facts q a (neg_ℤ c)
    number_up : {a o : ℕ} {c : ℤ} → IsNumber nodes a c → IsNumber nodes o (pos 0) → Bound nodes facts a o c
    number_down : {a o : ℕ} {c : ℤ} → IsNumber nodes a c → IsNumber nodes o (pos 0) → Bound nodes facts o a (neg_ℤ c)
    level : {x y : ℕ} → IsInteger nodes x → IsInteger nodes y → Same nodes facts x y → Bound nodes facts x y (pos 0)

-- what cannot be: a term below itself; two equal terms whose heads clash; an equality beside its negation; a difference beside its negation; `false`
pub data Conflict (nodes : List Node) (facts : List Fact) : Type 0 where
  below_itself : {x : ℕ} → Bound nodes facts x x (negsuc 0) → Conflict nodes facts
  clash : {a b : ℕ} → HaveClashingHeads nodes a b → Same nodes facts a b → Conflict nodes facts
  denied_equality : {a b : ℕ} → Contains facts (NotEqual a b) → Same nodes facts a b → Conflict nodes facts
  denied_difference : {x y : ℕ} {c : ℤ} → Contains facts (NotDifference x y c) → Bound nodes facts x y c → Bound nodes facts y x (neg_ℤ c) → Conflict nodes facts
  falsehood : Contains facts False → Conflict nodes facts
