-- Lemmas: contracts that are kept without a step of the machine, and what they give.
use Rattle.std.specs.Prelude.{◌≡◌, ℕ, List, None}
use Rattle.vf_tree.specs.Core.{Identity, ProgramTree}
use Rattle.vf_meaning.specs.Fractions.{whole}
use Rattle.vf_meaning.specs.Ghost.{Sort, Integers, CurrentThread}
use Rattle.vf_meaning.specs.Valuations.{Valuation}
use Rattle.vf_meaning.specs.Assertions.{ContractTree, BodyOf, Environment}
use Rattle.vf_meaning.specs.Environments.{MayLeak}
use Rattle.vf_meaning.specs.Sorts.{HasSort, AreOfSorts}
use Rattle.vf_meaning.specs.Parts.{Part, nothing, IsSum}
use Rattle.vf_meaning.specs.Satisfaction.{Satisfies}
use Rattle.vf_meaning.specs.Kept.{Ensures}
use Rattle.vf_rules.specs.Types.{IsTypedPart}

-- what falls where a lemma calls itself and leaves no whole cell: the size of the value of the parameter of a number, or the depth of the first part of the precondition
pub data Fall : Type 0 where
  OnArgument : ℕ → Fall
  OnDepth : Fall

-- A lemma under a contract, its own or its prototype's, by its identity, and what falls where it calls itself
pub record LemmaTree : Type 0 where
  pub identity : Identity
  pub contract : ContractTree
  pub falls : Fall

-- What a lemma gives from a part: one not greater that satisfies the postcondition, the names of the precondition having their values, and the rest, which is leaked; it is nothing where nothing may be leaked in the lemma's body
pub record Gives (e : Environment) (lemma : LemmaTree) (under : Valuation) (p : Part) : Type 0 where
  pub kept : Part
  pub leaked : Part
  pub sums : IsSum kept leaked p
  pub ensured : Ensures e lemma.contract under None kept
  pub unleaked : (MayLeak e (BodyOf lemma.identity) → ⊥) → leaked ≡ nothing

-- a valuation is one of names that ghost text has: each numbered name has a value of its sort, and the thread is named by a number
abbrev pub AreGhostValues : Environment → Valuation → List Sort → Type 0
AreGhostValues e v sorts = AreOfSorts e v sorts × HasSort e (v CurrentThread) Integers

-- a lemma holds: from each part that satisfies its precondition it gives one that satisfies its postcondition
abbrev pub LemmaHolds : Environment → ProgramTree → LemmaTree → Type 0
LemmaHolds e prog lemma =
    (under : Valuation) (p : Part) → AreGhostValues e under lemma.contract.sorts → IsTypedPart e prog p → Satisfies e whole lemma.contract.requires_this under p → Gives e lemma under p
