-- The laws of the terms of expressions that have sorts.
use Rattle.std.proofs.Common.{false, length, refl, sym, subst}
use Rattle.std.proofs.lemmas.Simd.{map-map}
use Rattle.vf_model.specs.Values.{Values}
use Rattle.vf_meaning.specs.Valuations.{Valuation}
use Rattle.vf_meaning.specs.GhostValues.{Interpretation}
use Rattle.vf_closure.specs.Terms.{Head, Symbol, Number, Truth, Null, Function, Constructor, Fixpoint, Claims, Predicate, Share, Sum, Plus, Arithmetic, Compare, Not, And, Or, Choose, PointerSum, Term, Terms, term, no_terms, and_term}
use Rattle.vf_closure.specs.Values.{all_values}
use Rattle.vf_formula.specs.Rows.{row}
use Rattle.vf_sorts.specs.Unknowns.{instance}
use Rattle.vf_sorting.specs.Kinds.{is_pointer}
use Rattle.vf_terms.specs.Settings.{settled}
use Rattle.vf_terms.specs.Readings.{read, read_all}
use Rattle.vf_fixpoint_laws.specs.values.Instances.{settled_at}
use Rattle.vf_fixpoint_laws.specs.values.Declares.{Declared}
use Rattle.vf_fixpoint_laws.specs.values.Worth.{HaveValues, Sets, passing}
use Rattle.vf_fixpoint_laws.specs.values.Given.{FixpointsKeepSorts, HeadKeepsSorts, TermKeepsSorts, TermsKeepSorts}
use Rattle.vf_fixpoint_laws.specs.values.Laws.{ReadingsFollowInSets, ReadingsFollowSorting, TermsKeepAll, ValuesHaveSorts}
use Rattle.vf_fixpoint_laws.proofs.values.Reading.{has_read, passes_read, passed_read}

-- for all sets of values
pub readings_follow_in_sets : ReadingsFollowInSets
readings_follow_in_sets sets d s i v g covers gives = record {
  sorted = λ known then_known e t h a. let r = has_read d s i v sets g covers gives false h a (λ q. absurd cc) (length known) refl in record { next = r.0; has_value = r.2 };
  passed = λ known then_known w q e p a. let r = passes_read d s i v sets g covers gives (is_pointer (settled s w)) p a refl (length known) refl in record { next = r.0; has_value = r.1 };
  all_passed = λ known then_known first n ts xs p a.
      let r = passed_read d s i v sets g covers gives p a (length known) refl in
      record {
        next = r.0;
        have_values = λ keeps. subst (HaveValues d sets (all_values i v (row (read_all s first n ts (length known) xs).terms))) (sym (map-map (settled_at s g) (instance first n) ts)) (r.1 keeps);
      };
}

pub readings_follow_sorting : ReadingsFollowSorting
readings_follow_sorting tests = readings_follow_in_sets (passing tests)

-- ---- where all fixpoints keep sorts
module _ (d : Declared) (i : Interpretation) (v : Valuation) (sets : Sets) (keeps : FixpointsKeepSorts d i sets) where
  head_keeps : (h : Head) (vs : Values) → HeadKeepsSorts d i sets h vs
  head_keeps (Fixpoint k c) vs = keeps c vs
  head_keeps (Symbol k x) vs = tt
  head_keeps (Number z) vs = tt
  head_keeps (Truth b) vs = tt
  head_keeps Null vs = tt
  head_keeps (Function f) vs = tt
  head_keeps (Constructor c) vs = tt
  head_keeps (Claims t) vs = tt
  head_keeps (Predicate p) vs = tt
  head_keeps (Share x) vs = tt
  head_keeps (Sum ks) vs = tt
  head_keeps Plus vs = tt
  head_keeps (Arithmetic o) vs = tt
  head_keeps (Compare o) vs = tt
  head_keeps Not vs = tt
  head_keeps And vs = tt
  head_keeps Or vs = tt
  head_keeps (Choose k) vs = tt
  head_keeps PointerSum vs = tt

  mutual
    pub term_keeps : (x : Term) → TermKeepsSorts d i v sets x
    term_keeps (term h ts) = (head_keeps h (all_values i v ts), terms_keep ts)

    pub terms_keep : (ts : Terms) → TermsKeepSorts d i v sets ts
    terms_keep no_terms = tt
    terms_keep (and_term t ts) = (term_keeps t, terms_keep ts)

pub terms_keep_all : TermsKeepAll
terms_keep_all d i v tests keeps x = term_keeps d i v (passing tests) keeps x

pub values_have_sorts : ValuesHaveSorts
values_have_sorts d s i v tests g covers gives keeps known then_known e a =
    let r = readings_follow_sorting tests d s i v g covers gives in (
      (λ t h. (r.sorted known then_known e t h a).has_value (term_keeps d i v (passing tests) keeps (read s false (length known) e).term)),
      (λ w q p. (r.passed known then_known w q e p a).has_value (term_keeps d i v (passing tests) keeps (read s (is_pointer (settled s w)) (length known) e).term)),
    )
