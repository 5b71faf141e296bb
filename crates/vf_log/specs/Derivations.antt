-- Logs of steps, with what each of them derived.
use Rattle.std.specs.Prelude.{◌≡◌, ℕ, List, [], ◌∷◌, ◌++◌, length}
use Rattle.vf_table.specs.declared.node.Node.{Node}
use Rattle.vf_refute.specs.declared.steps.Fact.{Fact}
use Rattle.vf_refute.specs.declared.steps.Derived.{Derived}
use Rattle.vf_refute.specs.declared.steps.Step.{Step}
use Rattle.vf_refute.specs.Refutations.{HasDerived, Derives, IsWithinLimit}

-- What a contract sees of a log: the table and the facts of a question, the steps in order, and what each of them derived
pub record Derivation : Type 0 where
  pub nodes : List Node
  pub facts : List Fact
  pub steps : List Step
  pub known : List Derived

-- steps that go on from what is known: each derives something within the limit, which is known from then on, and so all of `after` comes to be known
abbrev pub AreDerived : List Node → List Fact → List Derived → List Step → List Derived → Type 0
AreDerived nodes facts known [] after = after ≡ known
AreDerived nodes facts known (step ∷ more) after = (d : Derived) × Derives nodes facts known step d × IsWithinLimit d × AreDerived nodes facts (known ++ d ∷ []) more after

-- one step more, which has this number and derived d
pub record HasAdded (before after : Derivation) (step : ℕ) (d : Derived) : Type 0 where
  pub nodes : after.nodes ≡ before.nodes
  pub facts : after.facts ≡ before.facts
  pub number : step ≡ length before.known
  pub known : after.known ≡ before.known ++ d ∷ []

-- the same question, and what each step derived it still has
pub record IsContinued (before after : Derivation) : Type 0 where
  pub nodes : after.nodes ≡ before.nodes
  pub facts : after.facts ≡ before.facts
  pub kept : (a : ℕ) (d : Derived) → HasDerived before.known a d → HasDerived after.known a d
