-- What the classes and bounds of a question hold, and when that is its closure.
use Rattle.std.specs.Prelude.{◌≡◌, ℕ, ◌<◌, ◌^◌, ℤ, pos, neg_ℤ, ◌≤ℤ◌, List, length, Contains}
use Rattle.vf_table.specs.declared.node.Head.TheVariants.{Number}
use Rattle.vf_table.specs.declared.node.Node.{Node}
use Rattle.vf_table.specs.Tables.{IsInteger, IsNumber, IsPlus, HaveClashingHeads}
use Rattle.vf_congruence.specs.Congruence.{Congruent, WereMerged}
use Rattle.vf_arith.specs.declared.bounds.Edge.{Edge}
use Rattle.vf_arith.specs.Paths.{Path, IsSmall}
use Rattle.vf_refute.specs.declared.steps.Fact.{Fact}
use Rattle.vf_refute.specs.declared.steps.Fact.TheVariants as facts_
use Rattle.vf_refute.specs.Closure.{Same, Bound}
use Rattle.vf_ground.specs.declared.exchange.Lack.{Lack}
use Rattle.vf_ground.specs.declared.exchange.Lack.TheVariants.{Nothing, OfBound, OfEquality}

-- a path from x to y whose weight is at most c
pub record IsNear (edges : List Edge) (x y : ℕ) (c : ℤ) : Type 0 where
  pub total : ℤ
  pub path : Path edges x y total
  pub under : total ≤ℤ c

-- the edge of the bound x - y <= c
abbrev pub edge : ℕ → ℕ → ℤ → Edge
edge x y c = record { from = x; to = y; most = c }

-- the two bounds of the difference c
pub record HasBoth (edges : List Edge) (x y : ℕ) (c : ℤ) : Type 0 where
  pub up : Contains edges (edge x y c)
  pub down : Contains edges (edge y x (neg_ℤ c))

-- classes and bounds have what a fact gives them
abbrev pub HasFact : List (ℕ × ℕ) → List Edge → Fact → Type 0
HasFact merged edges (facts_.Equal a b) = WereMerged merged a b
HasFact merged edges (facts_.NotEqual a b) = Unit {0}
HasFact merged edges (facts_.AtMost x y c) = Contains edges (edge x y c)
HasFact merged edges (facts_.Difference x y c) = HasBoth edges x y c
HasFact merged edges (facts_.NotDifference x y c) = Unit {0}
HasFact merged edges facts_.False = Unit {0}

-- the bounds have what a term gives them: those to its part, if it is a sum, and those to every 0, if it is a number
pub record HasTerm (nodes : List Node) (edges : List Edge) (a : ℕ) : Type 0 where
  pub sum : (q : ℕ) (c : ℤ) → IsPlus nodes a q c → HasBoth edges a q c
  pub number : (c : ℤ) (o : ℕ) → IsNumber nodes a c → IsNumber nodes o (pos 0) → HasBoth edges a o c

-- classes and bounds agree at two integer terms: in one class they are within 0, and within 0 both ways they are in one class
pub record Agree (nodes : List Node) (merged : List (ℕ × ℕ)) (edges : List Edge) (x y : ℕ) : Type 0 where
  pub level : IsInteger nodes x → IsInteger nodes y → Congruent nodes (WereMerged merged) x y → IsNear edges x y (pos 0)
  pub squeezed : IsInteger nodes x → IsInteger nodes y → IsNear edges x y (pos 0) → IsNear edges y x (pos 0) → Congruent nodes (WereMerged merged) x y

-- they agree at each two terms
abbrev pub AllAgree : List Node → List (ℕ × ℕ) → List Edge → Type 0
AllAgree nodes merged edges = (x y : ℕ) → x < length nodes → y < length nodes → Agree nodes merged edges x y

-- classes and bounds hold nothing but the closure of the facts
pub record AreSound (nodes : List Node) (facts : List Fact) (merged : List (ℕ × ℕ)) (edges : List Edge) : Type 0 where
  pub equal : (a b : ℕ) → WereMerged merged a b → Same nodes facts a b
  pub bound : (e : Edge) → Contains edges e → Bound nodes facts e.from e.to e.most

-- they hold all of it
pub record AreComplete (nodes : List Node) (facts : List Fact) (merged : List (ℕ × ℕ)) (edges : List Edge) : Type 0 where
  pub facts_in : (l : Fact) → Contains facts l → HasFact merged edges l
  pub terms_in : (a : ℕ) → a < length nodes → HasTerm nodes edges a
  pub settled : AllAgree nodes merged edges

-- they show no conflict
pub record ShowNoConflict (nodes : List Node) (facts : List Fact) (merged : List (ℕ × ℕ)) (edges : List Edge) : Type 0 where
  pub heads : (x y : ℕ) → x < length nodes → y < length nodes → HaveClashingHeads nodes x y → Congruent nodes (WereMerged merged) x y → ⊥
  pub unequal : (x y : ℕ) → Contains facts (facts_.NotEqual x y) → Congruent nodes (WereMerged merged) x y → ⊥
  pub differ : (x y : ℕ) (c : ℤ) → Contains facts (facts_.NotDifference x y c) → IsNear edges x y c → IsNear edges y x (neg_ℤ c) → ⊥
  pub not_false : Contains facts facts_.False → ⊥

-- a fact is between terms below n, a bound between integer terms with a small number
abbrev pub IsFine : List Node → Fact → Type 0
IsFine nodes (facts_.Equal a b) = (a < length nodes) × (b < length nodes)
IsFine nodes (facts_.NotEqual a b) = (a < length nodes) × (b < length nodes)
IsFine nodes (facts_.AtMost x y c) = (x < length nodes) × (y < length nodes) × IsSmall (2 ^ 100) c × IsInteger nodes x × IsInteger nodes y
IsFine nodes (facts_.Difference x y c) = (x < length nodes) × (y < length nodes) × IsSmall (2 ^ 100) c × IsInteger nodes x × IsInteger nodes y
IsFine nodes (facts_.NotDifference x y c) = (x < length nodes) × (y < length nodes) × IsSmall (2 ^ 100) c × IsInteger nodes x × IsInteger nodes y
IsFine nodes facts_.False = Unit {0}

-- the number that a term is, if it is one, is small
abbrev pub HasSmallNumber : Node → Type 0
HasSmallNumber node = (c : ℤ) → node.head ≡ Number c → IsSmall (2 ^ 100) c

-- what classes and bounds lack at two terms
abbrev pub Lacks : List Node → List (ℕ × ℕ) → List Edge → ℕ → ℕ → Lack → Type 0
Lacks nodes merged edges x y Nothing = Agree nodes merged edges x y
Lacks nodes merged edges x y OfBound = IsInteger nodes x × IsInteger nodes y × Congruent nodes (WereMerged merged) x y × (IsNear edges x y (pos 0) → ⊥)
Lacks nodes merged edges x y OfEquality = IsInteger nodes x × IsInteger nodes y × IsNear edges x y (pos 0) × IsNear edges y x (pos 0) × (Congruent nodes (WereMerged merged) x y → ⊥)

-- they do lack something there
pub record IsLacking (nodes : List Node) (merged : List (ℕ × ℕ)) (edges : List Edge) (x y : ℕ) (lack : Lack) : Type 0 where
  pub left : x < length nodes
  pub right : y < length nodes
  pub task : Lacks nodes merged edges x y lack
  pub something : lack ≡ Nothing → ⊥

-- classes and bounds grew, by nothing but what follows
pub record HaveGrown (nodes : List Node) (merged : List (ℕ × ℕ)) (edges : List Edge) (merged' : List (ℕ × ℕ)) (edges' : List Edge) : Type 0 where
  pub merged_kept : (a b : ℕ) → WereMerged merged a b → WereMerged merged' a b
  pub edges_kept : (e : Edge) → Contains edges e → Contains edges' e
  pub sound : (facts : List Fact) → AreSound nodes facts merged edges → AreSound nodes facts merged' edges'

-- a fact was added, and nothing that does not follow from it
pub record HasGained (nodes : List Node) (fact : Fact) (merged : List (ℕ × ℕ)) (edges : List Edge) (merged' : List (ℕ × ℕ)) (edges' : List Edge) : Type 0 where
  pub merged_kept : (a b : ℕ) → WereMerged merged a b → WereMerged merged' a b
  pub edges_kept : (e : Edge) → Contains edges e → Contains edges' e
  pub sound : (facts : List Fact) → Contains facts fact → AreSound nodes facts merged edges → AreSound nodes facts merged' edges'
  pub has : HasFact merged' edges' fact

-- bounds were added that follow
abbrev pub HaveBoundsGrown : List Node → List Edge → List Edge → Type 0
HaveBoundsGrown nodes edges edges' = (merged : List (ℕ × ℕ)) → HaveGrown nodes merged edges merged edges'

-- a fact that classes and bounds contradict
abbrev pub IsContradicted : List Node → List (ℕ × ℕ) → List Edge → Fact → Type 0
IsContradicted nodes merged edges (facts_.Equal a b) = ⊥
IsContradicted nodes merged edges (facts_.NotEqual a b) = Congruent nodes (WereMerged merged) a b
IsContradicted nodes merged edges (facts_.AtMost x y c) = ⊥
IsContradicted nodes merged edges (facts_.Difference x y c) = ⊥
IsContradicted nodes merged edges (facts_.NotDifference x y c) = IsNear edges x y c × IsNear edges y x (neg_ℤ c)
IsContradicted nodes merged edges facts_.False = Unit {0}

-- two terms of one class with clashing heads
pub record Clash (nodes : List Node) (merged : List (ℕ × ℕ)) (x y : ℕ) : Type 0 where
  pub heads : HaveClashingHeads nodes x y
  pub same : Congruent nodes (WereMerged merged) x y
