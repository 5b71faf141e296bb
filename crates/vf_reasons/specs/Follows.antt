-- What it is to write the steps of a refutation over a basis.
use Rattle.std.specs.Prelude.{◌≡◌, List, ◌++◌}
use Rattle.vf_refute.specs.declared.steps.Fact.{Fact}
use Rattle.vf_refute.specs.declared.steps.Derived.{Derived}
use Rattle.vf_refute.specs.declared.steps.Step.{Step}
use Rattle.vf_refute.specs.Refutations.{IsConflict}
use Rattle.vf_closure.specs.Literals.{Literal}
use Rattle.vf_closure.specs.Closure.{Unfoldings}
use Rattle.vf_question.specs.declared.unfolding.Unfolding.{Unfolding}
use Rattle.vf_recheck.specs.Refutations.{facts_over}
use Rattle.vf_reasons.specs.declared.basis.Basis.{Basis}
use Rattle.vf_reasons.specs.declared.draft.Draft.{Draft}
use Rattle.vf_reasons.specs.Drafts.{IsDraft}
use Rattle.vf_reasons.specs.Shifts.{AreDenials}

-- a draft went on by steps that derived more: what it derived so far stands at the front, and it still derives what was unfolded
pub record HasGone (basis : Basis) (facts : List Fact) (before after : Draft) (more : List Derived) : Type 0 where
  pub known : after.known.items ≡ before.known.items ++ more
  pub drafts : (u : Unfoldings) (literals : List Literal) (made : List Unfolding) (denials : List Fact) → IsDraft u literals made basis before → AreDenials denials → facts ≡ basis.facts.items ++ denials → IsDraft u literals made basis after

-- a draft went on, and a last step names a conflict of the question beside denials
pub record HaveFollowed (basis : Basis) (facts : List Fact) (before after : Draft) (last : Step) : Type 0 where
  pub drafts : (u : Unfoldings) (literals : List Literal) (made : List Unfolding) (denials : List Fact) → IsDraft u literals made basis before → AreDenials denials → facts ≡ basis.facts.items ++ denials → IsDraft u literals made basis after × IsConflict basis.nodes.items (facts_over literals ++ denials) after.known.items last
