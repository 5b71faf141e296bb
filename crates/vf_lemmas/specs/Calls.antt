-- Calls of lemmas that hold, from any state: what a function's body does with them; and `assert` in a lemma's body.
use Rattle.std.specs.Prelude.{◌≡◌, ℕ, ◌<◌, List, length, Option}
use Rattle.vf_tree.specs.Core.{Identity, ProgramTree}
use Rattle.vf_model.specs.Values.{Value, Values}
use Rattle.vf_model.specs.Values as values
use Rattle.vf_meaning.specs.Valuations.{Valuation, count, size, value_at}
use Rattle.vf_meaning.specs.Ghost.{Sort}
use Rattle.vf_meaning.specs.Assertions.{Assertion, BodyOf, Environment}
use Rattle.vf_meaning.specs.Environments.{MayLeak}
use Rattle.vf_meaning.specs.Parts.{Part, nothing, IsSum}
use Rattle.vf_rules.specs.Terms.{Term, Store}
use Rattle.vf_rules.specs.States.{SymbolicState, KnowsThread, StandsFor, with_chunks}
use Rattle.vf_rules.specs.Types.{IsTypedPart}
use Rattle.vf_rules.specs.Produce.{Produce}
use Rattle.vf_rules.specs.Consume.{Consume}
use Rattle.vf_rules.specs.Laws.{Outcome, IsAmong}
use Rattle.vf_rules.specs.Predicates.{AreInhabited, AreSorted}
use Rattle.vf_rules.specs.PredicateLaws.{SomeStands}
use Rattle.vf_rules.specs.Accept.{all_of_it, call_store, AreFixed}
use Rattle.vf_rules.specs.GhostLaws.{HasNoCases}
use Rattle.vf_rules.specs.Lemmas.{LemmaTree, LemmaHolds}
use Rattle.vf_lemmas.specs.Depths.{Aside}
use Rattle.vf_lemmas.specs.Proves.{Proves}

-- a lemma is called from a state: its precondition is consumed, with arguments of its parameters' sorts, and its postcondition produced
pub record Calls (e : Environment) (p : ProgramTree) (lemma : LemmaTree) (st : SymbolicState) (outs : List Outcome) : Type 0 where
  pub arguments : List Term
  pub inhabited : AreInhabited e lemma.contract.sorts
  pub number : length arguments ≡ lemma.contract.parameters
  pub of_sorts : AreSorted e st.path lemma.contract.sorts arguments
  pub thread : KnowsThread e st.path
  pub consumed : Consume e p lemma.contract.sorts all_of_it lemma.contract.requires_this (call_store arguments) st (λ s1 st1.
      AreFixed lemma.contract s1 × Produce e p lemma.contract.sorts all_of_it lemma.contract.ensures_this s1 st1 (IsAmong outs))

-- after a call one of the outcomes stands for the same locals and names, and for what is left of the part where something was leaked, which is nothing where nothing may be leaked in the lemma's body
pub record Called (e : Environment) (lemma : LemmaTree) (outs : List Outcome) (locals : List (Option Value)) (names : Valuation) (p : Part) : Type 0 where
  pub leaked : Part
  pub left : Part
  pub sums : IsSum leaked left p
  pub unleaked : (MayLeak e (BodyOf lemma.identity) → ⊥) → leaked ≡ nothing
  pub stands : SomeStands e outs locals names left

-- a call of a lemma that holds changes nothing of what a state stands for, but for what is leaked
abbrev pub CallingKeeps : Type 0
CallingKeeps =
    (e : Environment) (prog : ProgramTree) (lemma : LemmaTree) (st : SymbolicState) (outs : List Outcome) → LemmaHolds e prog lemma → Calls e prog lemma st outs
    → (locals : List (Option Value)) (names v : Valuation) (p : Part) → StandsFor e v st locals names p → IsTypedPart e prog p → Called e lemma outs locals names p

-- each argument of a constructor's term is smaller than the term
abbrev pub ComponentsAreSmaller : Type 0
ComponentsAreSmaller = (c : Identity) (ws : Values) (k : ℕ) → k < count ws → size (value_at ws k) < size (values.Constructed c ws)

-- `assert` in a lemma's body: where an assertion without switch parts is consumed, and the body is accepted from each state that is left with the chunks that were there before, the body is accepted
abbrev pub AssertingIsProved : Type 0
AssertingIsProved =
    (e : Environment) (p : ProgramTree) (lemmas : List LemmaTree) (own : LemmaTree) (place : ℕ) (asides : List Aside) (st : SymbolicState) (sorts : List Sort) (a : Assertion) (s : Store) (outs : List Outcome)
    → HasNoCases a → Consume e p sorts all_of_it a s st (IsAmong outs) → ((r : Store) (su : SymbolicState) → IsAmong outs r su → Proves e p lemmas own place asides (with_chunks su st.chunks)) → Proves e p lemmas own place asides st
