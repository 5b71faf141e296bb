-- A table of terms read as terms, and the two closures.
use Rattle.std.specs.Prelude.{◌≡◌, ◌↔◌, ℕ, zero, ◌<◌, ℤ, Bool, List, [], ◌∷◌, map, length, Contains, Some, slice_get}
use Rattle.vf_tree.specs.Core.{Identity}
use Rattle.vf_table.specs.declared.node.Head.{Head}
use Rattle.vf_table.specs.declared.node.Head.TheVariants as heads
use Rattle.vf_table.specs.declared.node.Node.{Node}
use Rattle.vf_table.specs.Tables.{PartsAreBelow}
use Rattle.vf_refute.specs.declared.steps.Fact.{Fact}
use Rattle.vf_refute.specs.declared.steps.Fact.TheVariants as facts_
use Rattle.vf_refute.specs.Closure as table
use Rattle.vf_closure.specs.Terms as terms
use Rattle.vf_closure.specs.Terms.{Integer, Other, Term, Terms, term, no_terms, and_term, kind_of}
use Rattle.vf_closure.specs.Literals.{Literal, Equal, NotEqual, AtMost, Difference, NotDifference, False}
use Rattle.vf_closure.specs.Closure.{no_unfoldings, Arises, Same, Conflict}

-- a head of which the closure knows nothing but its kind
abbrev pub IsOpaque : terms.Head → Type 0
IsOpaque (terms.Number z) = ⊥
IsOpaque (terms.Truth b) = ⊥
IsOpaque terms.Null = ⊥
IsOpaque (terms.Function g) = ⊥
IsOpaque (terms.Constructor c) = ⊥
IsOpaque terms.Plus = ⊥
IsOpaque _ = Unit {0}

-- a head of the table stands for a head of terms
pub data StandsFor : Head → terms.Head → Type 0 where
  a_number : {z : ℤ} → StandsFor (heads.Number z) (terms.Number z)
  a_truth : {b : Bool} → StandsFor (heads.Truth b) (terms.Truth b)
  a_null : StandsFor heads.Null terms.Null
  a_function : {n : ℕ} {g : Identity} → StandsFor (heads.Function n) (terms.Function g)
  a_constructor : {n : ℕ} {c : Identity} → StandsFor (heads.Constructor n) (terms.Constructor c)
  a_plus : StandsFor heads.Plus terms.Plus
  an_integer : {n : ℕ} {h : terms.Head} → kind_of h ≡ Integer → IsOpaque h → StandsFor (heads.Integer n) h
  another : {n : ℕ} {h : terms.Head} → kind_of h ≡ Other → IsOpaque h → StandsFor (heads.Other n) h

-- the terms of several numbers, in a row
abbrev pub in_row : (ℕ → Term) → List ℕ → Terms
in_row tree [] = no_terms
in_row tree (x ∷ xs) = and_term (tree x) (in_row tree xs)

-- Each term of a table is the head that its node's head stands for, over the terms of its parts; different heads stand for different ones, and numbers have no parts
pub record IsReading (nodes : List Node) (meant : Head → terms.Head) (tree : ℕ → Term) : Type 0 where
  pub whole : (a : ℕ) (m : Node) → slice_get nodes a ≡ Some m → tree a ≡ term (meant m.head) (in_row tree m.parts.items)
  pub stands : (a : ℕ) (m : Node) → slice_get nodes a ≡ Some m → StandsFor m.head (meant m.head)
  pub one : (a b : ℕ) (m n : Node) → slice_get nodes a ≡ Some m → slice_get nodes b ≡ Some n → meant m.head ≡ meant n.head → m.head ≡ n.head
  pub leaf : (a : ℕ) (m : Node) (z : ℤ) → slice_get nodes a ≡ Some m → m.head ≡ heads.Number z → m.parts.items ≡ []
  pub parts : PartsAreBelow nodes (length nodes)

-- a fact over the table as a literal
abbrev pub literal : (ℕ → Term) → Fact → Literal
literal tree (facts_.Equal a b) = Equal (tree a) (tree b)
literal tree (facts_.NotEqual a b) = NotEqual (tree a) (tree b)
literal tree (facts_.AtMost x y c) = AtMost (tree x) (tree y) c
literal tree (facts_.Difference x y c) = Difference (tree x) (tree y) c
literal tree (facts_.NotDifference x y c) = NotDifference (tree x) (tree y) c
literal tree facts_.False = False

-- the table has each term that arises once, and no other
pub record IsTableOf (nodes : List Node) (tree : ℕ → Term) (facts : List Literal) : Type 0 where
  pub arises : (a : ℕ) → a < length nodes → Arises no_unfoldings facts zero (tree a)
  pub has : (d : ℕ) (t : Term) → Arises no_unfoldings facts d t → (a : ℕ) × (a < length nodes) × (tree a ≡ t)
  pub once : (a b : ℕ) → a < length nodes → b < length nodes → tree a ≡ tree b → a ≡ b

-- a fact is between terms of the table
abbrev pub IsInside : ℕ → Fact → Type 0
IsInside n (facts_.Equal a b) = (a < n) × (b < n)
IsInside n (facts_.NotEqual a b) = (a < n) × (b < n)
IsInside n (facts_.AtMost x y c) = (x < n) × (y < n)
IsInside n (facts_.Difference x y c) = (x < n) × (y < n)
IsInside n (facts_.NotDifference x y c) = (x < n) × (y < n)
IsInside n facts_.False = Unit {0}

-- where a table is read as the terms that arise of facts, its closure has a conflict exactly where that of the facts has one, no fixpoint being unfolded
abbrev pub ClosuresAgree : Type 0
ClosuresAgree =
    (nodes : List Node) (meant : Head → terms.Head) (tree : ℕ → Term) (facts : List Fact)
    → IsReading nodes meant tree → IsTableOf nodes tree (map (literal tree) facts) → ((l : Fact) → Contains facts l → IsInside (length nodes) l)
    → table.Conflict nodes facts ↔ Conflict no_unfoldings (map (literal tree) facts)

-- under the same conditions two terms of the table are equal in its closure exactly where they are equal in that of the facts
abbrev pub EqualTermsAgree : Type 0
EqualTermsAgree =
    (nodes : List Node) (meant : Head → terms.Head) (tree : ℕ → Term) (facts : List Fact)
    → IsReading nodes meant tree → IsTableOf nodes tree (map (literal tree) facts) → ((l : Fact) → Contains facts l → IsInside (length nodes) l)
    → (a b : ℕ) → a < length nodes → b < length nodes → table.Same nodes facts a b ↔ Same no_unfoldings (map (literal tree) facts) (tree a) (tree b)
