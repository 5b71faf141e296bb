-- Steps that lead on, by one step more, and to an end.
use Rattle.std.proofs.Common.{List, [], ◌∷◌, ◌++◌, refl, ap, subst}
use Rattle.vf_refute.specs.declared.steps.Fact.{Fact}
use Rattle.vf_refute.specs.declared.steps.Derived.{Derived}
use Rattle.vf_refute.specs.Refutations.{IsWithinLimit}
use Rattle.vf_closure.specs.Terms.{Term}
use Rattle.vf_closure.specs.Closure.{Unfoldings}
use Rattle.vf_recheck.specs.declared.steps.Step.{Step}
use Rattle.vf_recheck.specs.Refutations.{GoesOn, Ends, Refute}
use Rattle.vf_reasons.specs.Drafts.{Lead}

module _ (u : Unfoldings) (facts : List Fact) where
  pub lead_more : (steps : List Step) (ts : List Term) (known : List Derived) (now : List Term) (more : List Derived) (step : Step) (d : Derived) (after : List Term) → Lead u facts ts known steps now more → GoesOn u facts now more step d after → IsWithinLimit d → Lead u facts ts known (steps ++ step ∷ []) after (more ++ d ∷ [])
  lead_more [] ts known now more step d after h g w = (d, after, subst (λ (vs : List Term). GoesOn u facts vs known step d after) h.0 (subst (λ (ks : List Derived). GoesOn u facts now ks step d after) h.1 g), w, (refl, ap (λ (ks : List Derived). ks ++ d ∷ []) h.1))
  lead_more (first ∷ rest) ts known now more step d after h g w = (h.0, h.1, h.2, h.3, lead_more rest h.1 (known ++ h.0 ∷ []) now more step d after h.4 g w)

  pub lead_end : (steps : List Step) (ts : List Term) (known : List Derived) (now : List Term) (more : List Derived) (last : Step) → Lead u facts ts known steps now more → Ends facts now more last → Refute u facts ts known (steps ++ last ∷ [])
  lead_end [] ts known now more last h e = subst (λ (vs : List Term). Ends facts vs known last) h.0 (subst (λ (ks : List Derived). Ends facts now ks last) h.1 e)
  lead_end (first ∷ []) ts known now more last h e = (h.0, h.1, h.2, h.3, lead_end [] h.1 (known ++ h.0 ∷ []) now more last h.4 e)
  lead_end (first ∷ next ∷ rest) ts known now more last h e = (h.0, h.1, h.2, h.3, lead_end (next ∷ rest) h.1 (known ++ h.0 ∷ []) now more last h.4 e)
