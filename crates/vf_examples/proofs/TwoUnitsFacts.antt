-- What the example of two units needs: states, facts on their paths, and the chunk of the header's predicate.
use Rattle.std.proofs.Common.{pos, true, List, [], ◌∷◌, ◌++◌, refl, inl}
use Rattle.vf_base.specs.declared.int_type.IntType.TheVariants as types
use Rattle.vf_tree.specs.Core.{Integer}
use Rattle.vf_meaning.specs.Fractions.{whole}
use Rattle.vf_meaning.specs.Ghost.{Number, Truth, Fraction, Share}
use Rattle.vf_meaning.specs.Valuations.{Valuation}
use Rattle.vf_meaning.specs.Assertions.{Named}
use Rattle.vf_rules.specs.Terms.{Term}
use Rattle.vf_rules.specs.States.{Fact, Holds, Of, SymbolicChunk, Meets, Entails}
use Rattle.vf_rules.specs.Types.{facts_of_type}
use Rattle.vf_rules.specs.Take.{same}
use Rattle.vf_rules.specs.Consume.{EntailsAll}
use Rattle.vf_rules.specs.Predicates.{AreInhabited, AreSorted}
use Rattle.vf_rules.specs.Accept.{all_of_it}
use Rattle.vf_examples.specs.TwoUnits.{done_name, both_units}
use Rattle.vf_examples.proofs.SharingFacts.{none_some, by_value}

-- the share of a chunk that is written without one
abbrev pub written : Term
written = Share all_of_it (Fraction whole)

-- the chunk of the predicate, as it is produced
abbrev pub done_chunk : SymbolicChunk
done_chunk = record { share = written; head = Of (Named done_name); arguments = [] }

-- the share with which it is closed is the one that is wanted
pub closed_is_written : (path : List Fact) → Entails both_units path (same written all_of_it)
closed_is_written path = by_value both_units path written all_of_it (λ v. refl)

pub true_holds : (path : List Fact) → Entails both_units path (Holds (Truth true))
true_holds path = record { by = λ v m. refl }

pub seven_is_int : (path : List Fact) → EntailsAll both_units path (facts_of_type (Integer types.Int) (Number (pos 7)))
seven_is_int path = (record { by = λ v m. inl refl }, (record { by = λ v m. refl }, (record { by = λ v m. refl }, tt)))

-- ---- facts by where they stand
left_met : (v : Valuation) (fs gs : List Fact) → Meets both_units v (fs ++ gs) → Meets both_units v fs
left_met v [] gs m = tt
left_met v (f ∷ fs) gs m = (m.0, left_met v fs gs m.1)

right_met : (v : Valuation) (fs gs : List Fact) → Meets both_units v (fs ++ gs) → Meets both_units v gs
right_met v [] gs m = m
right_met v (f ∷ fs) gs m = right_met v fs gs m.1

-- the last fact of a path
pub last_known : (path : List Fact) (f : Fact) → Entails both_units (path ++ f ∷ []) f
last_known path f = record { by = λ v m. (right_met v path (f ∷ []) m).0 }

entails_each : (path fs : List Fact) → ((v : Valuation) → Meets both_units v path → Meets both_units v fs) → EntailsAll both_units path fs
entails_each path [] h = tt
entails_each path (f ∷ fs) h = (record { by = λ v m. (h v m).0 }, entails_each path fs (λ v m. (h v m).1))

-- those between others
pub between_known : (before fs behind : List Fact) → EntailsAll both_units ((before ++ fs) ++ behind) fs
between_known before fs behind = entails_each ((before ++ fs) ++ behind) fs (λ v m. right_met v before fs (left_met v (before ++ fs) behind m))

-- ---- without names
pub none_sorted : (path : List Fact) (ts : List Term) → AreSorted both_units path [] ts
none_sorted path ts k s t is there = none_some is

pub none_inhabited : AreInhabited both_units []
none_inhabited k s is = none_some is
