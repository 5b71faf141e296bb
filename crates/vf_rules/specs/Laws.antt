-- What the rules for assertions keep. Each law is the contract of a public function with an empty body.
use Rattle.std.specs.Prelude.{◌≡◌, ◌⊎◌, ℕ, List, [], ◌∷◌, Option, Some}
use Rattle.vf_tree.specs.Core.{ProgramTree}
use Rattle.vf_model.specs.Values.{Dyadic, Value}
use Rattle.vf_model.specs.Values as values
use Rattle.vf_meaning.specs.Fractions.{IsPositive}
use Rattle.vf_meaning.specs.Ghost.{Sort, Name, Numbered}
use Rattle.vf_meaning.specs.Valuations.{Valuation}
use Rattle.vf_meaning.specs.Assertions.{Assertion, Environment}
use Rattle.vf_meaning.specs.Sorts.{HasSort, AreOfSorts}
use Rattle.vf_meaning.specs.Parts.{Part, IsSum}
use Rattle.vf_meaning.specs.Satisfaction.{SatisfiesAt}
use Rattle.vf_rules.specs.Terms.{Term, Store}
use Rattle.vf_rules.specs.States.{Fact, SymbolicChunk, SymbolicState, value_in, Meets, ChunkMeans, StoreMeans, StandsFor}
use Rattle.vf_rules.specs.Types.{IsTypedPart}
use Rattle.vf_rules.specs.Produce.{Produce}
use Rattle.vf_rules.specs.Take.{Joins, Changes}
use Rattle.vf_rules.specs.Consume.{Consume}
use Rattle.std.specs.Prelude.{slice_get}

-- a store and a state in which an assertion's reading may end
pub record Outcome : Type 0 where
  pub store : Store
  pub state : SymbolicState

-- a store and a state are among several outcomes
abbrev pub IsAmong : List Outcome → Store → SymbolicState → Type 0
IsAmong [] s st = ⊥
IsAmong (o ∷ os) s st = ((o.store ≡ s) × (o.state ≡ st)) ⊎ IsAmong os s st

-- one store has all that another has
abbrev pub Grows : Store → Store → Type 0
Grows s r = (x : Name) (t : Term) → s x ≡ Some t → r x ≡ Some t

-- each numbered name that a store binds has a term of its sort
abbrev pub StoreSorted : Environment → Valuation → List Sort → Store → Type 0
StoreSorted e v sorts s = (k : ℕ) (so : Sort) (t : Term) → s (Numbered k) ≡ Some t → slice_get sorts k ≡ Some so → HasSort e (value_in e v t) so

-- An outcome of producing stands for a part, the names having the values that a valuation w gives them; what was bound before still is
pub record IsProduced (e : Environment) (outs : List Outcome) (v : Valuation) (s : Store) (locals : List (Option Value)) (names w : Valuation) (r : Part) : Type 0 where
  pub under : Valuation
  pub store : Store
  pub state : SymbolicState
  pub among : IsAmong outs store state
  pub stands : StandsFor e under state locals names r
  pub means : StoreMeans e under store w
  pub grows : Grows s store

-- what is produced from a state that stands for a part, where another part satisfies the assertion, stands for the sum of both
abbrev pub ProducingAdds : Type 0
ProducingAdds =
    (e : Environment) (prog : ProgramTree) (sorts : List Sort) (scale : Term) (c : Dyadic) (n : ℕ) (a : Assertion) (s : Store) (st : SymbolicState) (outs : List Outcome)
    → Produce e prog sorts scale a s st (IsAmong outs)
    → (locals : List (Option Value)) (names v w : Valuation) (q p r : Part) → StandsFor e v st locals names p → StoreMeans e v s w → AreOfSorts e w sorts
    → value_in e v scale ≡ values.Fraction c → IsPositive c → SatisfiesAt e n c a w q → IsTypedPart e prog q → IsSum q p r → IsProduced e outs v s locals names w r

-- An outcome of consuming stands for what is left of a part, and what is split off satisfies the assertion under every valuation of the names by their terms; what was bound before still is, with terms of the same values
pub record IsConsumed (e : Environment) (sorts : List Sort) (outs : List Outcome) (a : Assertion) (c : Dyadic) (v : Valuation) (s : Store) (locals : List (Option Value)) (names : Valuation) (p : Part) : Type 0 where
  pub under : Valuation
  pub off : Part
  pub left : Part
  pub sums : IsSum off left p
  pub store : Store
  pub state : SymbolicState
  pub among : IsAmong outs store state
  pub stands : StandsFor e under state locals names left
  pub grows : Grows s store
  pub stays : (x : Name) (t : Term) → s x ≡ Some t → value_in e under t ≡ value_in e v t
  pub sorted : StoreSorted e under sorts store
  pub depth : ℕ
  pub satisfies : (w : Valuation) → StoreMeans e under store w → SatisfiesAt e depth c a w off

-- what a state stands for, from which an assertion is consumed, is the sum of a part that satisfies it and of what the outcome stands for
abbrev pub ConsumingTakes : Type 0
ConsumingTakes =
    (e : Environment) (prog : ProgramTree) (sorts : List Sort) (scale : Term) (c : Dyadic) (a : Assertion) (s : Store) (st : SymbolicState) (outs : List Outcome)
    → Consume e prog sorts scale a s st (IsAmong outs)
    → (locals : List (Option Value)) (names v : Valuation) (p : Part) → StandsFor e v st locals names p → StoreSorted e v sorts s → value_in e v scale ≡ values.Fraction c
    → IsConsumed e sorts outs a c v s locals names p

-- two chunks of one location that are joined are one chunk that stands for the sum of what they stand for, and they agree on their arguments
abbrev pub JoiningKeeps : Type 0
JoiningKeeps =
    (e : Environment) (v : Valuation) (path : List Fact) (c d both : SymbolicChunk) (facts : List Fact) → Joins e path c d both facts → Meets e v path
    → (p q r : Part) → ChunkMeans e v c p → ChunkMeans e v d q → IsSum p q r → Meets e v facts × ChunkMeans e v both r

-- a change of a state changes nothing of what it stands for
abbrev pub ChangesKeep : Type 0
ChangesKeep =
    (e : Environment) (v : Valuation) (st new : SymbolicState) → Changes e st new → (locals : List (Option Value)) (names : Valuation) (p : Part) → StandsFor e v st locals names p → StandsFor e v new locals names p
