-- A switch whose branches ask for nothing holds of nothing.
use Rattle.std.proofs.Common.{List, refl, sym, subst, inl, inr}
use Rattle.std.specs.Bool.{MatchBool}
use Rattle.std.proofs.lemmas.Bool.{cases_Bool}
use Rattle.vf_model.specs.Values.{Value, Values, same_identity}
use Rattle.vf_model.specs.Values as values
use Rattle.vf_meaning.specs.Fractions.{whole}
use Rattle.vf_meaning.specs.Ghost.{Sort}
use Rattle.vf_meaning.specs.Valuations.{Valuation, all_bound}
use Rattle.vf_meaning.specs.Parts.{nothing}
use Rattle.vf_meaning.specs.Satisfaction.{SatisfiesBranch, SatisfiesBy, MeansAt}
use Rattle.vf_meaning.specs.Assertions.{Branches, no_branches, branch, Environment}
use Rattle.vf_rules.specs.States.{meaning}
use Rattle.vf_rules.specs.Produce.{NamesHaveSorts, IsCovered}
use Rattle.vf_rules.specs.Cases.{AreEmpty, EmptyCasesHold}
use Rattle.vf_rules.proofs.Terms.{bound_value}
use Rattle.vf_rules.proofs.Opening.{completed, completed_means, completed_sorted}
use Rattle.vf_rules.proofs.Loops.{store_sorted}

covered_holds : (e : Environment) (sorts : List Sort) (bs : Branches) (w : Value) (v : Valuation) → AreEmpty bs → IsCovered e sorts bs w → SatisfiesBranch (MeansAt e 0) (meaning e) whole bs w v nothing
covered_holds e sorts no_branches w v empty covered = absurd covered
covered_holds e sorts (branch c xs a rest) (values.Constructed d ws) v empty covered =
    elim (cases_Bool (same_identity c d)) [
      | inl same ↦ subst (λ b. MatchBool b (SatisfiesBy (MeansAt e 0) (meaning e) whole a (all_bound v xs ws) nothing) (SatisfiesBranch (MeansAt e 0) (meaning e) whole rest (values.Constructed d ws) v nothing)) (sym same)
          (subst (λ x. SatisfiesBy (MeansAt e 0) (meaning e) whole x (all_bound v xs ws) nothing) (sym empty.0) refl)
      | inr other ↦ subst (λ b. MatchBool b (SatisfiesBy (MeansAt e 0) (meaning e) whole a (all_bound v xs ws) nothing) (SatisfiesBranch (MeansAt e 0) (meaning e) whole rest (values.Constructed d ws) v nothing)) (sym other)
          (covered_holds e sorts rest (values.Constructed d ws) v empty.1 (subst (λ b. MatchBool b (NamesHaveSorts e sorts xs ws) (IsCovered e sorts rest (values.Constructed d ws))) other covered))
    ]
covered_holds e sorts (branch c xs a rest) (values.Number z) v empty covered = absurd covered
covered_holds e sorts (branch c xs a rest) (values.Truth b) v empty covered = absurd covered
covered_holds e sorts (branch c xs a rest) values.Null v empty covered = absurd covered
covered_holds e sorts (branch c xs a rest) (values.Pointer b o) v empty covered = absurd covered
covered_holds e sorts (branch c xs a rest) (values.Function g) v empty covered = absurd covered
covered_holds e sorts (branch c xs a rest) (values.Predicate q vs) v empty covered = absurd covered
covered_holds e sorts (branch c xs a rest) (values.Fraction d) v empty covered = absurd covered

pub empty_cases_hold : EmptyCasesHold
empty_cases_hold e path sorts x branches s empty bound covers inhabited sorted = record {
  by = λ v m.
      let w = completed e v sorts inhabited s in
      let means = completed_means e v sorts inhabited s in (
        w,
        means,
        completed_sorted e v sorts inhabited s (store_sorted e v path sorts s sorted m),
        (0, covered_holds e sorts branches _ w empty (subst (IsCovered e sorts branches) (bound_value e v s w x bound means) (covers.by v m))),
      );
}
