-- Every closed sort has a value where each datatype does.
use Rattle.std.proofs.Common.{◌≡◌, zero, suc, pos, true, List, [], ◌∷◌, Some, None, refl, subst, inl, inr, arith}
use Rattle.vf_model.specs.Values as values
use Rattle.vf_meaning.specs.Fractions.{whole, IsPositive}
use Rattle.vf_meaning.specs.Ghost.{Sort, Integers, Truths, Pointers, Fractions, Anything, Parameter, Datatype, Predicates, Sorts, none, more, listed}
use Rattle.vf_meaning.specs.Assertions.{Environment}
use Rattle.vf_meaning.specs.Sorts.{undeclared}
use Rattle.vf_rules.specs.Predicates.{AreInhabited}
use Rattle.vf_rules.specs.Inhabited.{HasValue, HaveValues, HaveDatatypesValues, IsClosed, AreClosed, AreNamesClosed, ClosedSortsHaveValues}

positive_whole : IsPositive whole
positive_whole = omega arith

some_same : {A : Type 0} {x y : A} → Some x ≡ Some y → x ≡ y
some_same e = cc

none_some : {A B : Type 0} {x : A} → None ≡ Some x → B
none_some e = cc

module _ (e : Environment) (has : HaveDatatypesValues e) where
  mutual
    value_of_sort : (s : Sort) → IsClosed e s → HasValue e s
    value_of_sort Integers h = (values.Number (pos 0), inl refl)
    value_of_sort Truths h = (values.Truth true, inl refl)
    value_of_sort Pointers h = (values.Null, inl refl)
    value_of_sort Fractions h = (values.Fraction whole, (inl refl, positive_whole))
    value_of_sort Anything h = (values.Null, inr refl)
    value_of_sort (Parameter k) h = absurd h
    value_of_sort (Datatype d ss) h = has.by d ss h.0 (values_of_sorts ss h.1)
    value_of_sort (Predicates ss) h = (values.Predicate undeclared values.none, (listed ss, inl refl, refl, tt))

    values_of_sorts : (ss : Sorts) → AreClosed e ss → HaveValues e ss
    values_of_sorts none h = tt
    values_of_sorts (more s ss) h = (value_of_sort s h.0, values_of_sorts ss h.1)

  all_inhabited : (sorts : List Sort) → AreNamesClosed e sorts → AreInhabited e sorts
  all_inhabited [] h k s is = none_some is
  all_inhabited (x ∷ sorts) h zero s is = subst (HasValue e) (some_same is) (value_of_sort x h.0)
  all_inhabited (x ∷ sorts) h (suc k) s is = all_inhabited sorts h.1 k s is

pub closed_sorts_have_values : ClosedSortsHaveValues
closed_sorts_have_values e sorts has closed = all_inhabited e has sorts closed
