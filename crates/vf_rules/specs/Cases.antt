-- What holds of nothing, and so may be known at any time: a switch over a value, among others.
use Rattle.std.specs.Prelude.{◌≡◌, ℕ, List}
use Rattle.vf_meaning.specs.Fractions.{whole}
use Rattle.vf_meaning.specs.Ghost.{Sort, GhostExpression}
use Rattle.vf_meaning.specs.Valuations.{Valuation}
use Rattle.vf_meaning.specs.Sorts.{AreOfSorts}
use Rattle.vf_meaning.specs.Parts.{nothing}
use Rattle.vf_meaning.specs.Satisfaction.{SatisfiesAt}
use Rattle.vf_meaning.specs.Assertions.{Assertion, Empty, Switch, Branches, no_branches, branch, Environment}
use Rattle.vf_rules.specs.Terms.{Store, term_of, IsBound}
use Rattle.vf_rules.specs.States.{Fact, Meets, StoreMeans}
use Rattle.vf_rules.specs.Produce.{Covers}
use Rattle.vf_rules.specs.Predicates.{AreInhabited}
use Rattle.vf_rules.specs.Loops.{AreNamesSorted}

-- on a path an assertion holds of nothing: no part at all satisfies it, under some valuation of the names by a store's terms
pub record HoldsOfNothing (e : Environment) (path : List Fact) (sorts : List Sort) (a : Assertion) (s : Store) : Type 0 where
  pub by : (v : Valuation) → Meets e v path → (w : Valuation) × StoreMeans e v s w × AreOfSorts e w sorts × ((n : ℕ) × SatisfiesAt e n whole a w nothing)

-- the branches of a switch ask for nothing
abbrev pub AreEmpty : Branches → Type 0
AreEmpty no_branches = Unit {0}
AreEmpty (branch c xs a rest) = (a ≡ Empty) × AreEmpty rest

-- a switch whose branches ask for nothing holds of nothing where they cover the value
abbrev pub EmptyCasesHold : Type 0
EmptyCasesHold =
    (e : Environment) (path : List Fact) (sorts : List Sort) (x : GhostExpression) (branches : Branches) (s : Store) → AreEmpty branches → IsBound s x → Covers e sorts path (term_of s x) branches
    → AreInhabited e sorts → AreNamesSorted e path sorts s → HoldsOfNothing e path sorts (Switch x branches) s
