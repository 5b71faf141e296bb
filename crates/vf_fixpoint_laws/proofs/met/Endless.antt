-- No number is one more than itself.
use Rattle.std.proofs.Common.{◌≡◌, refl, sym, subst, ap, ◌∙◌, ℤ, pos, ◌+ℤ◌, zero, suc, Bool, true, false, cond, Some, None, arith}
use Rattle.std.specs.Prelude.{Contains}
use Rattle.vf_tree.specs.Core.{Identity}
use Rattle.vf_model.specs.Values.{none, number_of, same_identity}
use Rattle.vf_meaning.specs.GhostValues.{Interpretation}
use Rattle.vf_formula.specs.Heads.{shown_kind}
use Rattle.vf_definitions.specs.Laws.{MeetsBody, MeetsDefinitions}
use Rattle.vf_definitions.specs.declared.fixpoint.Fixpoint as definitions
use Rattle.vf_fixpoint_laws.specs.met.Endless.{EndlessIsNotMet, endless, endless_definitions}
use Rattle.vf_fixpoint_laws.specs.met.Laws.{BodyIsOfKind}
use Rattle.vf_fixpoint_laws.specs.met.Valued.{first_for}

one_of_one : (c : Identity) (x : definitions.Fixpoint) → first_for endless_definitions c ≡ Some x → endless ≡ x
one_of_one c x e = by (same_identity endless.identity c) e
  where
    by : (b : Bool) → cond b (Some endless) None ≡ Some x → endless ≡ x
    by true e = cc
    by false e = absurd cc

there_of_one : (x : definitions.Fixpoint) → Contains endless_definitions x → endless ≡ x
there_of_one x (zero, l, is) = is
there_of_one x (suc k, l, is) = absurd (omega (arith, l))

one_more_is_another : (z : ℤ) → z ≡ z +ℤ pos 1 → ⊥
one_more_is_another z e = grind (arith, e)

never_met : (i : Interpretation) → MeetsDefinitions i endless_definitions → ⊥
never_met i m = one_more_is_another (number_of (i.fixpoint endless.identity none)) (ap number_of (m endless (zero, omega arith, refl) none refl))

pub endless_is_not_met : EndlessIsNotMet
endless_is_not_met = record {
  agrees = record {
    of_their_kind = λ c x e. subst (λ (z : definitions.Fixpoint). BodyIsOfKind (shown_kind z.kind) z.body) (one_of_one c x e) (λ i v. refl);
    with_the_first = λ c x y e there is i m. subst (λ (z : definitions.Fixpoint). MeetsBody i z z.body) (sym (one_of_one c x e) ∙ there_of_one y there) m;
  };
  never_met = never_met;
}
