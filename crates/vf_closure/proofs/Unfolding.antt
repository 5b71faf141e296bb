-- Unfolding a declared fixpoint keeps values.
use Rattle.std.proofs.Common.{◌≡◌, ℕ, Bool, true, false, cond, List, [], ◌∷◌, Some, refl, sym, ◌∙◌, ap}
use Rattle.vf_tree.specs.Core.{Identity}
use Rattle.vf_model.specs.Values.{Value, Values, none, more, same_identity}
use Rattle.vf_model.specs.Values as values
use Rattle.vf_meaning.specs.Ghost.{CaseTree, FixpointTree}
use Rattle.vf_meaning.specs.Valuations.{Valuation, value_at, of_arguments, all_bound}
use Rattle.vf_meaning.specs.GhostValues.{Interpretation, value_of, by_body, by_case}
use Rattle.vf_closure.specs.Terms.{Term, Terms, IsAt, here, further_on}
use Rattle.vf_closure.specs.Values.{of_kind, value, all_values}
use Rattle.vf_closure.specs.Closure.{Unfoldings}
use Rattle.vf_closure.specs.Laws.{KeepValues}
use Rattle.vf_closure.specs.Definitions.{case_of, IsApplication, AreOf, MeetsEquations, RefutationsEntail}
use Rattle.vf_closure.proofs.Sound.{refutations_sound}

-- the value at a place is that of the part there
value_is : (i : Interpretation) (v : Valuation) {a : Term} {n : ℕ} {ts : Terms} → IsAt a n ts → value_at (all_values i v ts) n ≡ value i v a
value_is i v here = refl
value_is i v (further_on p) = value_is i v p

-- a switch at a constructor's term has the value of its case
case_value : (i : Interpretation) (v : Valuation) (cases : List CaseTree) (c : Identity) (ws : Values) (k : CaseTree) → case_of cases c ≡ Some k → by_case i v cases (values.Constructed c ws) ≡ value_of i (all_bound v k.names ws) k.result
case_value i v [] c ws k e = absurd (cc)
case_value i v (j ∷ js) c ws k e = go (same_identity j.constructor c) e (case_value i v js c ws k)
  where
    go : (t : Bool) → cond t (Some j) (case_of js c) ≡ Some k → (case_of js c ≡ Some k → by_case i v js (values.Constructed c ws) ≡ value_of i (all_bound v k.names ws) k.result) → cond t (value_of i (all_bound v j.names ws) j.result) (by_case i v js (values.Constructed c ws)) ≡ value_of i (all_bound v k.names ws) k.result
    go true f rest = let g : j ≡ k = cc in ap (λ (z : CaseTree). value_of i (all_bound v z.names ws) z.result) g
    go false f rest = rest f

application_value : (i : Interpretation) (v : Valuation) (fixpoints : List FixpointTree) → MeetsEquations i fixpoints → (t : Term) (a : IsApplication fixpoints t) → value i v t ≡ of_kind a.kind (by_body i a.fixpoint.body (all_values i v a.arguments))
application_value i v fixpoints meets t a = ap (value i v) a.is ∙ ap (of_kind a.kind) (meets a.fixpoint a.declared (all_values i v a.arguments))

pub keep_values : (fixpoints : List FixpointTree) (u : Unfoldings) → AreOf fixpoints u → (i : Interpretation) → MeetsEquations i fixpoints → KeepValues i u
keep_values fixpoints u of i meets = record {
  bodies = λ v t b e. let h = of.bodies t b e in
      application_value i v fixpoints meets t h.application
      ∙ ap (λ w. of_kind h.application.kind (by_body i w (all_values i v h.application.arguments))) h.returns
      ∙ sym (h.keeps i v);
  cases = λ v t a k b e f g. let h = of.cases t a k b e g in
      application_value i v fixpoints meets t h.application
      ∙ ap (λ w. of_kind h.application.kind (by_body i w (all_values i v h.application.arguments))) h.switches
      ∙ ap (λ w. of_kind h.application.kind (by_case i (of_arguments (all_values i v h.application.arguments)) h.cases w)) (value_is i v h.argument ∙ f ∙ ap (value i v) h.tree)
      ∙ ap (of_kind h.application.kind) (case_value i (of_arguments (all_values i v h.application.arguments)) h.cases h.constructor (all_values i v h.parts) h.case h.found)
      ∙ sym (h.keeps i v);
}

pub refutations_entail : RefutationsEntail
refutations_entail fixpoints u path goal of refuted i meets = refutations_sound i u path goal (keep_values fixpoints u of i meets) refuted
