-- Units that are accepted.
use Rattle.std.proofs.Common.{List, refl}
use Rattle.vf_syntax.specs.declared.item.Item.{Item}
use Rattle.vf_resolve.specs.declared.files.Files.{Files}
use Rattle.vf_gathering.proofs.Sorting.{predicates_told}
use Rattle.vf_resolve.specs.Beginning.{ahead_of, beginning, foretold_of}
use Rattle.vf_fixpoint_laws.proofs.well_declared.UpTo.{whole_reached}
use Rattle.vf_header_laws.specs.ghost_names.Later.{KnowsPredicates}
use Rattle.vf_header_laws.proofs.ghost_names.Later.{predicates_are_foreseen}
use Rattle.vf_header_laws.proofs.ghost_names.LaterSorts.{sorts_are_foreseen}
use Rattle.vf_header_laws.proofs.ghost_names.Units.{units_show_the_same_ghosts}
use Rattle.vf_annotated_headers.proofs.AnnotatedUnits.{nothing_declared}
use Rattle.vf_annotated_headers.specs.AnnotatedGhosts.{AcceptedUnitsDeclareAsTold, AnnotatedUnitsForeseeTheSame, AnnotatedUnitsForeseeTheSameSorts, AnnotatedUnitsShowTheSameGhosts}

pub annotated_units_show_the_same_ghosts : AnnotatedUnitsShowTheSameGhosts
annotated_units_show_the_same_ghosts header f g xs ys u v h r e i = units_show_the_same_ghosts header e.stated i.stated xs ys (beginning f xs) (beginning g ys) u v (nothing_declared f xs) (nothing_declared g ys) h r e.walks i.walks

-- in front of the items of a unit it is known where its predicates stand
predicates_known : (f : Files) (xs : List Item) → KnowsPredicates xs (beginning f xs)
predicates_known f xs = predicates_told (ahead_of xs) xs (foretold_of xs) refl

pub annotated_units_foresee_the_same : AnnotatedUnitsForeseeTheSame
annotated_units_foresee_the_same header f g xs ys h r = predicates_are_foreseen header xs ys (beginning f xs) (beginning g ys) h (predicates_known f xs) (predicates_known g ys) r

-- ---- sorts of predicates
pub accepted_units_declare_as_told : AcceptedUnitsDeclareAsTold
accepted_units_declare_as_told f xs u h name k e =
    let i = (whole_reached f xs u h).foretells.told name k e in
    record {
      sorts = i.sorts;
      told = i.told;
      declaration = i.means.declaration;
      number = i.number;
      found = i.means.found;
      means = i.means.meaning;
      is = i.means.stands;
    }

pub annotated_units_foresee_the_same_sorts : AnnotatedUnitsForeseeTheSameSorts
annotated_units_foresee_the_same_sorts header f g xs ys u v h r e i = sorts_are_foreseen header e.stated i.stated xs ys (beginning f xs) (beginning g ys) u v (nothing_declared f xs) (nothing_declared g ys) h (predicates_known f xs) (predicates_known g ys) (accepted_units_declare_as_told f xs u e) (accepted_units_declare_as_told g ys v i) r e.walks i.walks
