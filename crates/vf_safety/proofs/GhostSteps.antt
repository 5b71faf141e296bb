-- Ghost steps keep what a state stands for.
use Rattle.std.proofs.Common.{◌≡◌, not, List, Option, refl, sym, ap, subst, ◌∙◌, inl, inr}
use Rattle.std.proofs.lemmas.Bool.{cases_Bool}
use Rattle.vf_tree.specs.Core.{ProgramTree}
use Rattle.vf_model.specs.Values.{Value}
use Rattle.vf_meaning.specs.Fractions.{whole}
use Rattle.vf_meaning.specs.Ghost.{Not}
use Rattle.vf_meaning.specs.Valuations.{Valuation, is_true}
use Rattle.vf_meaning.specs.Assertions.{Environment}
use Rattle.vf_meaning.specs.Parts.{Part, nothing, ◌⊕◌, IsSum}
use Rattle.vf_meaning.proofs.Parts.{nothing-⊕, nothing_is_neutral}
use Rattle.vf_rules.specs.States.{Holds, SymbolicState, value_in, StandsFor}
use Rattle.vf_rules.specs.Types.{IsTypedPart}
use Rattle.vf_rules.specs.Laws.{IsAmong}
use Rattle.vf_rules.specs.Accept.{all_of_it}
use Rattle.vf_rules.specs.GhostSteps.{AfterGhostSteps, no_step, may_drop, may_change, may_arrange, may_open, may_close, may_see, may_split, may_know, may_call_lemma}
use Rattle.vf_rules.proofs.Stands.{assuming_stands}
use Rattle.vf_rules.proofs.Produces.{produced}
use Rattle.vf_rules.proofs.Takes.{changes_stand}
use Rattle.vf_rules.proofs.Opening.{opening_keeps, closing_keeps}
use Rattle.vf_rules.proofs.LemmaCalls.{lemma_called}
use Rattle.vf_safety.specs.GhostLaws.{GhostStepsKeep}
use Rattle.vf_safety.proofs.Steps.{nothing_typed}
use Rattle.vf_safety.proofs.Ready.{positive_whole}
use Rattle.vf_safety.proofs.Arrangements.{arranged}

-- a state of which K holds stands for locals, names and a part
pub record Reached (e : Environment) (K : SymbolicState → Type 0) (locals : List (Option Value)) (names : Valuation) (q : Part) : Type 0 where
  pub under : Valuation
  pub state : SymbolicState
  pub holds : K state
  pub stands : StandsFor e under state locals names q

all_left : (leaked left q : Part) → leaked ≡ nothing → IsSum leaked left q → left ≡ q
all_left leaked left q none sums = sym (sums.adds ∙ ap (λ z. z ⊕ left) none ∙ nothing-⊕ left)

module _ (e : Environment) (p : ProgramTree) (K : SymbolicState → Type 0) (locals : List (Option Value)) (names : Valuation) (q : Part) (typed : IsTypedPart e p q) where
  pub reached : {st : SymbolicState} → AfterGhostSteps e p K st → (v : Valuation) → StandsFor e v st locals names q → Reached e K locals names q
  reached {st} (no_step k) v stands = record { under = v; state = st; holds = k; stands = stands }
  reached {st} (may_drop never) v stands = absurd (never.by v stands.path)
  reached {st} (may_change changed go) v stands = reached go v (changes_stand e v changed locals names q stands)
  reached {st} (may_arrange changed go) v stands = reached go v (arranged e v changed locals names q stands)
  reached {st} (may_open outs opens go) v stands =
      let o = opening_keeps e p st outs opens locals names v q stands typed in
      reached (go o.store o.state o.among) o.under o.stands
  reached {st} (may_close outs closes go) v stands =
      let o = closing_keeps e p st outs closes locals names v q stands in
      reached (go o.store o.state o.among) o.under o.stands
  reached {st} (may_see fact shown go) v stands = reached go v (assuming_stands e v st locals names q fact (shown.by v locals names q stands) stands)
  reached {st} (may_split t yes_go no_go) v stands =
      elim (cases_Bool (is_true (value_in e v t))) [
        | inl yes1 ↦ reached yes_go v (assuming_stands e v st locals names q (Holds t) yes1 stands)
        | inr no1 ↦ reached no_go v (assuming_stands e v st locals names q (Holds (Not t)) (ap not no1) stands)
      ]
  reached {st} (may_know a sorts store outs of_nothing produce go) v stands =
      let known = of_nothing.by v stands.path in
      let o = produced e p sorts all_of_it whole (known.3).0 locals names a store st (IsAmong outs) produce v known.0 nothing q q stands known.1 known.2 refl positive_whole (known.3).1 (nothing_typed e p) (nothing_is_neutral q) in
      reached (go o.store o.state o.holds) o.under o.stands
  reached {st} (may_call_lemma lemma ts outs holds unleaking inhabited long sorted knows consume go) v stands =
      let c = lemma_called e p lemma ts outs st holds inhabited sorted knows consume locals names v q stands typed in
      reached (go c.store c.state c.holds) c.under (subst (StandsFor e c.under c.state locals names) (all_left c.leaked c.left q (c.unleaked unleaking) c.sums) c.stands)

pub ghost_steps_keep : GhostStepsKeep
ghost_steps_keep e prog st outs steps locals names v p stands typed =
    let r = reached e prog _ locals names p typed steps v stands in
    record { under = r.under; store = (r.holds).0; state = r.state; among = (r.holds).1; stands = r.stands }
