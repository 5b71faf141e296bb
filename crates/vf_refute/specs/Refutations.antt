-- What each step of a refutation derives, and which lists of steps are refutations.
use Rattle.std.specs.Prelude.{◌≡◌, ℕ, ◌<◌, ◌^◌, ◌⊎◌, ℤ, pos, neg_ℤ, ◌+ℤ◌, ◌≤ℤ◌, ◌<ℤ◌, List, [], ◌∷◌, ◌++◌, length, Contains, Option, Some, None, slice_get, slice_index}
use Rattle.vf_table.specs.declared.node.Node.{Node}
use Rattle.vf_table.specs.Tables.{IsInjective, IsInteger, IsNumber, IsPlus, HaveClashingHeads}
use Rattle.vf_refute.specs.declared.steps.Fact.{Fact}
use Rattle.vf_refute.specs.declared.steps.Fact.TheVariants as facts_
use Rattle.vf_refute.specs.declared.steps.Derived.{Derived}
use Rattle.vf_refute.specs.declared.steps.Derived.TheVariants.{AreEqual, AreWithin, HaveDifference}
use Rattle.vf_refute.specs.declared.steps.Step.{Step}
use Rattle.vf_refute.specs.declared.steps.Step.TheVariants as steps_

-- a number is within plus and minus m
pub record IsWithin (m : ℕ) (z : ℤ) : Type 0 where
  pub low : neg_ℤ (pos m) ≤ℤ z
  pub high : z ≤ℤ pos m

-- the number of what a step derived is within plus and minus 2^126
abbrev pub IsWithinLimit : Derived → Type 0
IsWithinLimit (AreEqual x y) = Unit {0}
IsWithinLimit (AreWithin x y c) = IsWithin (2 ^ 126) c
IsWithinLimit (HaveDifference x y c) = IsWithin (2 ^ 126) c

-- the step of a number derived d
abbrev pub HasDerived : List Derived → ℕ → Derived → Type 0
HasDerived known a d = slice_get known a ≡ Some d

-- what a fact derives: an equality, a bound or a difference itself, and a negation nothing
abbrev pub Gives : Fact → Derived → Type 0
Gives (facts_.Equal a b) d = d ≡ AreEqual a b
Gives (facts_.NotEqual a b) d = ⊥
Gives (facts_.AtMost x y c) d = d ≡ AreWithin x y c
Gives (facts_.Difference x y c) d = d ≡ HaveDifference x y c
Gives (facts_.NotDifference x y c) d = ⊥
Gives facts_.False d = ⊥

-- a fact of the question
pub record IsOfFact (facts : List Fact) (i : ℕ) (d : Derived) : Type 0 where
  pub fact : Fact
  pub found : slice_get facts i ≡ Some fact
  pub gives : Gives fact d

-- symmetry: x = y gives y = x
pub record IsSymmetric (known : List Derived) (a : ℕ) (d : Derived) : Type 0 where
  pub left : ℕ
  pub right : ℕ
  pub equal : HasDerived known a (AreEqual left right)
  pub is : d ≡ AreEqual right left

-- transitivity: x = y and y = z give x = z
pub record IsTransitive (known : List Derived) (a b : ℕ) (d : Derived) : Type 0 where
  pub left : ℕ
  pub middle : ℕ
  pub right : ℕ
  pub first : HasDerived known a (AreEqual left middle)
  pub second : HasDerived known b (AreEqual middle right)
  pub is : d ≡ AreEqual left right

-- the terms of two lists are equal, place by place, by the steps that stand at the places
pub record ArePairwiseEqual (known : List Derived) (xs ys steps : List ℕ) : Type 0 where
  pub long : length ys ≡ length xs
  pub steps_long : length steps ≡ length xs
  pub each : (i : ℕ) → i < length xs → HasDerived known (slice_index steps i) (AreEqual (slice_index xs i) (slice_index ys i))

-- congruence: terms of one head with equal parts are equal
pub record IsCongruent (nodes : List Node) (known : List Derived) (a b : ℕ) (steps : List ℕ) (d : Derived) : Type 0 where
  pub left : Node
  pub right : Node
  pub found_left : slice_get nodes a ≡ Some left
  pub found_right : slice_get nodes b ≡ Some right
  pub head : left.head ≡ right.head
  pub parts : ArePairwiseEqual known left.parts.items right.parts.items steps
  pub is : d ≡ AreEqual a b

-- p and q are the parts at place i of x and y, which have one constructor
pub record AreParts (nodes : List Node) (x y i p q : ℕ) : Type 0 where
  pub left : Node
  pub right : Node
  pub found_left : slice_get nodes x ≡ Some left
  pub found_right : slice_get nodes y ≡ Some right
  pub injective : IsInjective left.head
  pub head : left.head ≡ right.head
  pub long : length left.parts.items ≡ length right.parts.items
  pub within : i < length left.parts.items
  pub first : p ≡ slice_index left.parts.items i
  pub second : q ≡ slice_index right.parts.items i

-- injectivity: equal terms of one constructor have equal parts
pub record IsOfPart (nodes : List Node) (known : List Derived) (a i : ℕ) (d : Derived) : Type 0 where
  pub x : ℕ
  pub y : ℕ
  pub p : ℕ
  pub q : ℕ
  pub equal : HasDerived known a (AreEqual x y)
  pub parts : AreParts nodes x y i p q
  pub is : d ≡ AreEqual p q

-- a less q is c: a is the sum q + c, or the number c and q the zero that is named
abbrev pub IsOffset : List Node → ℕ → ℕ → ℕ → ℤ → Type 0
IsOffset nodes a origin q c = IsPlus nodes a q c ⊎ ((q ≡ origin) × IsNumber nodes a c × IsNumber nodes origin (pos 0))

-- the bound of a sum or a number from above
pub record IsAbove (nodes : List Node) (a origin : ℕ) (d : Derived) : Type 0 where
  pub other : ℕ
  pub by : ℤ
  pub offset : IsOffset nodes a origin other by
  pub is : d ≡ AreWithin a other by

-- the bound of a sum or a number from below
pub record IsBelow (nodes : List Node) (a origin : ℕ) (d : Derived) : Type 0 where
  pub other : ℕ
  pub by : ℤ
  pub offset : IsOffset nodes a origin other by
  pub is : d ≡ AreWithin other a (neg_ℤ by)

-- x less y is c by what a step derived: two integer terms are equal and c is 0, or it is their difference
abbrev pub IsLevel : List Node → List Derived → ℕ → ℕ → ℕ → ℤ → Type 0
IsLevel nodes known a x y c = (HasDerived known a (AreEqual x y) × IsInteger nodes x × IsInteger nodes y × (c ≡ pos 0)) ⊎ HasDerived known a (HaveDifference x y c)

-- the bound of an equality or a difference from above
pub record IsLevelAbove (nodes : List Node) (known : List Derived) (a : ℕ) (d : Derived) : Type 0 where
  pub x : ℕ
  pub y : ℕ
  pub by : ℤ
  pub level : IsLevel nodes known a x y by
  pub is : d ≡ AreWithin x y by

-- the bound of an equality or a difference from below
pub record IsLevelBelow (nodes : List Node) (known : List Derived) (a : ℕ) (d : Derived) : Type 0 where
  pub x : ℕ
  pub y : ℕ
  pub by : ℤ
  pub level : IsLevel nodes known a x y by
  pub is : d ≡ AreWithin y x (neg_ℤ by)

-- a chain of two bounds: x - y <= c and y - z <= e give x - z <= c + e
pub record IsChain (known : List Derived) (a b : ℕ) (d : Derived) : Type 0 where
  pub x : ℕ
  pub y : ℕ
  pub z : ℕ
  pub c : ℤ
  pub e : ℤ
  pub first : HasDerived known a (AreWithin x y c)
  pub second : HasDerived known b (AreWithin y z e)
  pub is : d ≡ AreWithin x z (c +ℤ e)

-- two bounds 0: integer terms that are within 0 both ways are equal
pub record IsSqueezed (nodes : List Node) (known : List Derived) (a b : ℕ) (d : Derived) : Type 0 where
  pub x : ℕ
  pub y : ℕ
  pub first : HasDerived known a (AreWithin x y (pos 0))
  pub second : HasDerived known b (AreWithin y x (pos 0))
  pub left : IsInteger nodes x
  pub right : IsInteger nodes y
  pub is : d ≡ AreEqual x y

-- what a step derives from the question and from what earlier steps derived; a last step derives nothing
abbrev pub Derives : List Node → List Fact → List Derived → Step → Derived → Type 0
Derives nodes facts known (steps_.Fact i) d = IsOfFact facts i d
Derives nodes facts known (steps_.Reflexive t) d = d ≡ AreEqual t t
Derives nodes facts known (steps_.Symmetric a) d = IsSymmetric known a d
Derives nodes facts known (steps_.Transitive a b) d = IsTransitive known a b d
Derives nodes facts known (steps_.Congruent a b steps) d = IsCongruent nodes known a b steps.numbers.items d
Derives nodes facts known (steps_.Part a i) d = IsOfPart nodes known a i d
Derives nodes facts known (steps_.Above a origin) d = IsAbove nodes a origin d
Derives nodes facts known (steps_.Below a origin) d = IsBelow nodes a origin d
Derives nodes facts known (steps_.LevelAbove a) d = IsLevelAbove nodes known a d
Derives nodes facts known (steps_.LevelBelow a) d = IsLevelBelow nodes known a d
Derives nodes facts known (steps_.Chain a b) d = IsChain known a b d
Derives nodes facts known (steps_.Squeezed a b) d = IsSqueezed nodes known a b d
Derives nodes facts known (steps_.Conflict a) d = ⊥
Derives nodes facts known (steps_.DeniedDifference a b) d = ⊥
Derives nodes facts known (steps_.Falsehood i) d = ⊥

-- what cannot be: two equal terms whose heads clash or of which a fact says that they are not equal, and a term below itself
abbrev pub CannotBe : List Node → List Fact → Derived → Type 0
CannotBe nodes facts (AreEqual x y) = HaveClashingHeads nodes x y ⊎ Contains facts (facts_.NotEqual x y)
CannotBe nodes facts (AreWithin x y c) = (x ≡ y) × (c <ℤ pos 0)
CannotBe nodes facts (HaveDifference x y c) = ⊥

-- a step derived what cannot be
pub record IsImpossible (nodes : List Node) (facts : List Fact) (known : List Derived) (a : ℕ) : Type 0 where
  pub derived : Derived
  pub has : HasDerived known a derived
  pub cannot : CannotBe nodes facts derived

-- two steps bound a difference both ways by a number that a fact denies it to be
pub record IsDenied (facts : List Fact) (known : List Derived) (a b : ℕ) : Type 0 where
  pub x : ℕ
  pub y : ℕ
  pub c : ℤ
  pub above : HasDerived known a (AreWithin x y c)
  pub below : HasDerived known b (AreWithin y x (neg_ℤ c))
  pub denied : Contains facts (facts_.NotDifference x y c)

-- the step is a last one and names a conflict
abbrev pub IsConflict : List Node → List Fact → List Derived → Step → Type 0
IsConflict nodes facts known (steps_.Conflict a) = IsImpossible nodes facts known a
IsConflict nodes facts known (steps_.DeniedDifference a b) = IsDenied facts known a b
IsConflict nodes facts known (steps_.Falsehood i) = slice_get facts i ≡ Some facts_.False
IsConflict nodes facts known (steps_.Fact i) = ⊥
IsConflict nodes facts known (steps_.Reflexive t) = ⊥
IsConflict nodes facts known (steps_.Symmetric a) = ⊥
IsConflict nodes facts known (steps_.Transitive a b) = ⊥
IsConflict nodes facts known (steps_.Congruent a b steps) = ⊥
IsConflict nodes facts known (steps_.Part a i) = ⊥
IsConflict nodes facts known (steps_.Above a origin) = ⊥
IsConflict nodes facts known (steps_.Below a origin) = ⊥
IsConflict nodes facts known (steps_.LevelAbove a) = ⊥
IsConflict nodes facts known (steps_.LevelBelow a) = ⊥
IsConflict nodes facts known (steps_.Chain a b) = ⊥
IsConflict nodes facts known (steps_.Squeezed a b) = ⊥

-- steps that go on from what is known: each but the last derives something within the limit, which is known from then on, and the last names a conflict
abbrev pub Refute : List Node → List Fact → List Derived → List Step → Type 0
Refute nodes facts known [] = ⊥
Refute nodes facts known (last ∷ []) = IsConflict nodes facts known last
Refute nodes facts known (step ∷ next ∷ more) = (d : Derived) × Derives nodes facts known step d × IsWithinLimit d × Refute nodes facts (known ++ d ∷ []) (next ∷ more)

-- steps that go on from nothing to a conflict
abbrev pub IsRefutation : List Node → List Fact → List Step → Type 0
IsRefutation nodes facts steps = Refute nodes facts [] steps

-- what a check of one step tells: what it derives within the limit, and none exactly where there is no such thing
abbrev pub IsAnswer : (Derived → Type 0) → Option Derived → Type 0
IsAnswer derives None = (d : Derived) → derives d → IsWithinLimit d → ⊥
IsAnswer derives (Some d) = derives d × IsWithinLimit d
