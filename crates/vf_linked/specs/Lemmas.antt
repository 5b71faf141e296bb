-- The lemmas of linked units: each is accepted where the others that it calls hold, in whichever unit their bodies stand.
use Rattle.std.specs.Prelude.{◌≡◌, ◌⊎◌, List, [], ◌∷◌, Contains, Some}
use Rattle.vf_tree.specs.Core.{Identity, ProgramTree}
use Rattle.vf_meaning.specs.Assertions.{ContractTree, Environment}
use Rattle.vf_meaning.specs.Environments.{own_contract, IsContractOf}
use Rattle.vf_rules.specs.Lemmas.{Fall, LemmaTree, LemmaHolds}
use Rattle.vf_lemmas.specs.Proves.{IsAcceptedLemma}
use Rattle.vf_linked.specs.Refined.{RefinesLemma}
use Rattle.vf_linked.specs.CallOrder.{CallsOther, Reaches}

-- a lemma under a contract, by what falls where it calls itself
abbrev pub lemma_under : Identity → ContractTree → Fall → LemmaTree
lemma_under g k falls = record { identity = g; contract = k; falls = falls }

-- a lemma holds under a contract
abbrev pub HoldsUnder : Environment → ProgramTree → Identity → ContractTree → Type 0
HoldsUnder e p g k = (falls : Fall) → LemmaHolds e p (lemma_under g k falls)

-- the lemmas that the body of one calls beside itself hold under each of their contracts
abbrev pub CalledHold : Environment → ProgramTree → Identity → Type 0
CalledHold e p g = (h : Identity) (k : ContractTree) → CallsOther e g h → IsContractOf e h k → HoldsUnder e p h k

-- A lemma keeps its contracts: where the others that its body calls hold, the body is accepted under its own, that of its definition, or of its prototype where the definition has none; and where both have one the own refines the prototype's
pub record LemmaKeepsContracts (e : Environment) (p : ProgramTree) (g : Identity) : Type 0 where
  pub own : ContractTree
  pub is_own : own_contract e g ≡ Some own
  pub falls : Fall
  pub accepted : CalledHold e p g → IsAcceptedLemma e p (lemma_under g own falls ∷ []) 0 (lemma_under g own falls)
  pub refines : (defined prototype : ContractTree) → e.functions g ≡ Some defined → e.prototypes g ≡ Some prototype → RefinesLemma e p (lemma_under g defined falls) prototype

-- Lemmas of linked units are accepted: each keeps its contracts, none reaches itself over calls between lemmas, and each other lemma that one of them calls, as one of the prelude, holds under its contracts
pub record AreLinkedLemmas (e : Environment) (p : ProgramTree) (lemmas : List Identity) : Type 0 where
  pub keep : (g : Identity) → Contains lemmas g → LemmaKeepsContracts e p g
  pub acyclic : (g : Identity) → Reaches e g g → ⊥
  pub others : (g h : Identity) → Contains lemmas g → CallsOther e g h → Contains lemmas h ⊎ ((k : ContractTree) → IsContractOf e h k → HoldsUnder e p h k)

-- each of several lemmas holds under each of its contracts
abbrev pub AllHold : Environment → ProgramTree → List Identity → Type 0
AllHold e p lemmas = (g : Identity) (k : ContractTree) → Contains lemmas g → IsContractOf e g k → HoldsUnder e p g k

-- accepted lemmas of linked units hold under each of their contracts
abbrev pub LinkedLemmasHold : Type 0
LinkedLemmasHold = (e : Environment) (p : ProgramTree) (lemmas : List Identity) → AreLinkedLemmas e p lemmas → AllHold e p lemmas
