-- The first part of an assertion, and what is set aside of it with the depth at which it holds.
use Rattle.std.specs.Prelude.{◌≡◌, ℕ, ◌<◌, Bool, true, List, [], ◌∷◌, map, slice_get, Some, None, Contains}
use Rattle.vf_meaning.specs.Fractions.{whole}
use Rattle.vf_meaning.specs.Ghost.{Sort, Name, Numbered}
use Rattle.vf_meaning.specs.Valuations.{Valuation}
use Rattle.vf_meaning.specs.Names.{UsesIn}
use Rattle.vf_meaning.specs.Assertions.{Assertion, Empty, Both, ContractTree, Environment}
use Rattle.vf_meaning.specs.Sorts.{AreOfSorts}
use Rattle.vf_meaning.specs.Parts.{Part, nothing, IsSum}
use Rattle.vf_meaning.specs.Satisfaction.{SatisfiesAt}
use Rattle.vf_meaning.specs.Kept.{IsFixed}
use Rattle.vf_rules.specs.Terms.{Term, Store}
use Rattle.vf_rules.specs.States.{Fact, Meets, StoreMeans}
use Rattle.vf_rules.specs.Laws.{Grows}
use Rattle.vf_rules.specs.Loops.{AreNamesSorted}
use Rattle.vf_rules.specs.Accept.{call_store}

-- the first part of an assertion
abbrev pub first_of : Assertion → Assertion
first_of (Both a b) = first_of a
first_of a = a

-- what comes after the first part
abbrev pub rest_of : Assertion → Assertion
rest_of (Both a b) = Both (rest_of a) b
rest_of a = Empty

-- An assertion over a lemma's names that is set aside: the first part of the precondition, or something inside of it, which holds less deep
pub record Aside : Type 0 where
  pub inside : Bool
  pub assertion : Assertion

-- several assertions, as things inside of a first part
abbrev pub all_inside : List Assertion → List Aside
all_inside asides = map (λ a. record { inside = true; assertion = a }) asides

-- one thing that is set aside is taken out of several
pub data TakesAside (a : Aside) : List Aside → List Aside → Type 0 where
  takes_first : {others : List Aside} → TakesAside a (a ∷ others) others
  takes_next : {b : Aside} {asides others : List Aside} → TakesAside a asides others → TakesAside a (b ∷ asides) (b ∷ others)

-- a part is the sum of parts of which several assertions hold at a depth, one by one
abbrev pub HoldAt : Environment → ℕ → List Assertion → Valuation → Part → Type 0
HoldAt e n [] w q = q ≡ nothing
HoldAt e n (a ∷ asides) w q = (r : Part) × (others : Part) × IsSum r others q × SatisfiesAt e n whole a w r × HoldAt e n asides w others

-- names that a lemma's body has not yet: no term is known of them, they are none of the contract's that are fixed or have a sort, and nothing that is set aside uses them
pub record AreNew (k : ContractTree) (names : Store) (new : List Name) : Type 0 where
  pub unbound : (x : Name) → Contains new x → names x ≡ None
  pub unfixed : (x : Name) → Contains new x → IsFixed k x → ⊥
  pub unsorted : (n : ℕ) (s : Sort) → Contains new (Numbered n) → slice_get k.sorts n ≡ Some s → ⊥

-- nothing that is set aside uses one of some names
abbrev pub AreFreeOf : List Name → List Aside → Type 0
AreFreeOf new [] = Unit {0}
AreFreeOf new (a ∷ asides) = ((x : Name) → UsesIn a.assertion x → Contains new x → ⊥) × AreFreeOf new asides

-- What is inside of a part: under a valuation that has other values for new names alone, the part is the sum of one of which the inner assertions hold at a depth, and one of which the rest holds
pub record Inside (e : Environment) (n : ℕ) (sorts : List Sort) (new : List Name) (inner : List Assertion) (rest : Assertion) (w : Valuation) (q : Part) : Type 0 where
  pub later : Valuation
  pub same : (x : Name) → (Contains new x → ⊥) → later x ≡ w x
  pub of_sorts : AreOfSorts e later sorts
  pub deep : Part
  pub left : Part
  pub sums : IsSum deep left q
  pub inner_hold : HoldAt e n inner later deep
  pub depth : ℕ
  pub rest_holds : SatisfiesAt e depth whole rest later left

-- on a path an assertion over names opens into inner ones and a rest: wherever it holds at a depth, they hold less deep
pub record OpensInto (e : Environment) (path : List Fact) (names : Store) (a : Assertion) (sorts : List Sort) (new : List Name) (inner : List Assertion) (rest : Assertion) : Type 0 where
  pub by : (v : Valuation) → Meets e v path → (w : Valuation) → StoreMeans e v names w → (n : ℕ) (q : Part) → SatisfiesAt e n whole a w q → (m : ℕ) × (m < n) × Inside e m sorts new inner rest w q

-- on a path an assertion over names is the first part that a call with arguments wants, under a store that has terms for the names in it, and holds as deep
pub record IsFirst (e : Environment) (path : List Fact) (names : Store) (a first : Assertion) (sorts : List Sort) (ts : List Term) (s : Store) : Type 0 where
  pub grows : Grows (call_store ts) s
  pub sorted : AreNamesSorted e path sorts s
  pub by : (v : Valuation) → Meets e v path → (w : Valuation) → StoreMeans e v names w → (u : Valuation) → StoreMeans e v s u → (n : ℕ) (q : Part) → SatisfiesAt e n whole a w q → SatisfiesAt e n whole first u q
