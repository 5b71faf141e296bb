-- A draft goes on by the steps of a refutation over a basis.
use Rattle.std.proofs.Common.{◌≡◌, ℕ, List, [], ◌∷◌, ◌++◌, length, refl, sym, ap, ◌∙◌, subst, append-nil, append_assoc}
use Rattle.std.specs.Prelude.{slice_index}
use Rattle.vf_refute.specs.declared.steps.Fact.{Fact}
use Rattle.vf_refute.specs.declared.steps.Derived.{Derived}
use Rattle.vf_refute.specs.declared.steps.Derived.TheVariants.{AreEqual}
use Rattle.vf_refute.specs.declared.steps.Step.{Step}
use Rattle.vf_refute.specs.Refutations.{HasDerived, Derives, IsWithinLimit, IsConflict}
use Rattle.vf_closure.specs.Terms.{Term}
use Rattle.vf_question.specs.Numbered.{place, all_terms}
use Rattle.vf_question.specs.declared.unfolding.Unfolding.{Unfolding}
use Rattle.vf_recheck.specs.declared.steps.Step as outer
use Rattle.vf_recheck.specs.declared.steps.Step.TheVariants as outer_
use Rattle.vf_recheck.specs.Refutations.{facts_over, GoesOn}
use Rattle.vf_reasons.specs.declared.basis.Basis.{Basis}
use Rattle.vf_reasons.specs.declared.draft.Draft.{Draft}
use Rattle.vf_reasons.specs.Drafts.{Lead, AreDerived}
use Rattle.vf_reasons.specs.Shifts.{IsShifted, HasWritten}
use Rattle.vf_reasons.specs.Follows.{HasGone, HaveFollowed}
use Rattle.vf_reasons.proofs.Lists.{get_kept}
use Rattle.vf_reasons.proofs.Leading.{lead_more}
use Rattle.vf_reasons.proofs.Shifted.{derives_shifted, conflict_shifted}

pub derived_kept : (made : List Unfolding) (ts : List Term) (known known' more : List Derived) (equations : List ℕ) → known' ≡ known ++ more → AreDerived made ts known equations → AreDerived made ts known' equations
derived_kept made ts known known' more equations e h = record {
  long = h.long;
  each = λ k m s. subst (λ (ks : List Derived). HasDerived ks (slice_index equations k) (AreEqual (place m.body ts) (place m.application ts))) (sym e) (get_kept known more (slice_index equations k) (AreEqual (place m.body ts) (place m.application ts)) (h.each k m s));
}

module _ (basis : Basis) (facts : List Fact) (before : Draft) where
  pub gone_first : HasGone basis facts before before []
  gone_first = record { known = sym (append-nil before.known.items); drafts = λ u ls made denials h den over. h }

  pub gone_more : (now after : Draft) (local : List Derived) (s : Step) (d : Derived) (base : ℕ) → base ≡ length before.known.items → HasGone basis facts before now local → HasWritten basis base s now.steps.items after.steps.items → after.known.items ≡ now.known.items ++ d ∷ [] → Derives basis.nodes.items facts local s d → IsWithinLimit d → HasGone basis facts before after (local ++ d ∷ [])
  gone_more now after local s d base eb gone w ek h limit =
      let sh : IsShifted basis (length before.known.items) s w.shifted = subst (λ (k : ℕ). IsShifted basis k s w.shifted) eb w.is in
      record {
        known = ek ∙ ap (λ (ks : List Derived). ks ++ d ∷ []) gone.known ∙ append_assoc before.known.items local (d ∷ []);
        drafts = λ u ls made denials b den over.
            let n = gone.drafts u ls made denials b den over in
            let t = derives_shifted ls made basis b.based before.known.items b.derived denials den facts over basis.nodes.items local s w.shifted d sh h in
            let t' : Derives basis.nodes.items (facts_over ls) now.known.items w.shifted d = subst (λ (ks : List Derived). Derives basis.nodes.items (facts_over ls) ks w.shifted d) (sym gone.known) t in
            let g : GoesOn u (facts_over ls) basis.terms.items now.known.items (outer_.Plain w.shifted) d basis.terms.items = (record { nodes = basis.nodes.items; table = b.based.interned.table.tabled; derives = t' }, refl) in
            let l = lead_more u (facts_over ls) now.steps.items (all_terms ls) [] basis.terms.items now.known.items (outer_.Plain w.shifted) d basis.terms.items n.leads g limit in
            record {
              based = b.based;
              leads = subst (λ (ss : List outer.Step). Lead u (facts_over ls) (all_terms ls) [] ss basis.terms.items after.known.items) (sym w.written) (subst (λ (ks : List Derived). Lead u (facts_over ls) (all_terms ls) [] (now.steps.items ++ outer_.Plain w.shifted ∷ []) basis.terms.items ks) (sym ek) l);
              derived = derived_kept made basis.terms.items now.known.items after.known.items (d ∷ []) basis.equations.items ek n.derived;
            };
      }

  pub followed : (after : Draft) (local : List Derived) (s last : Step) (base : ℕ) → base ≡ length before.known.items → HasGone basis facts before after local → IsShifted basis base s last → IsConflict basis.nodes.items facts local s → HaveFollowed basis facts before after last
  followed after local s last base eb gone shifted h =
      let sh : IsShifted basis (length before.known.items) s last = subst (λ (k : ℕ). IsShifted basis k s last) eb shifted in
      record {
        drafts = λ u ls made denials b den over. (
          gone.drafts u ls made denials b den over,
          subst (λ (ks : List Derived). IsConflict basis.nodes.items (facts_over ls ++ denials) ks last) (sym gone.known) (conflict_shifted ls made basis b.based before.known.items b.derived denials den facts over basis.nodes.items local s last sh h),
        );
      }
