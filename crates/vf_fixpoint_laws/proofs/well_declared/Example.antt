-- The unit of boxes is accepted, and what it declares is as it should be.
use Rattle.std.proofs.Common.{◌≡◌, refl, Bool, true, false, cond, if◌then◌else◌, [], ◌∷◌, codes, None, Some, Ok}
use Rattle.std.specs.Str.{bytes_eq}
use Rattle.vf_sorts.specs.Sorts.{Sort}
use Rattle.vf_declared.specs.declared.declaration.GhostDeclaration.TheVariants as ghosts
use Rattle.vf_declared.specs.declared.declaration.Meaning.TheVariants as meanings
use Rattle.vf_declared.specs.declared.locals.Local.TheVariants as locals
use Rattle.vf_declared.specs.declared.locals.Locals.{Locals}
use Rattle.vf_declared.specs.declared.scope.Scope.{Scope}
use Rattle.vf_declared.specs.Scopes.{at_index}
use Rattle.vf_declared.specs.Writing.{with_ghost, with_ghost_prototype, with_name}
use Rattle.vf_syntax.specs.GhostExprTree as tree
use Rattle.vf_sorting.specs.Kinds.{int_sort, value_sort}
use Rattle.vf_sorting.specs.HasSort as has
use Rattle.vf_datatypes.specs.declared.stated.Stated.{Stated}
use Rattle.vf_gathering.specs.Standing.{any_files}
use Rattle.vf_predicates.specs.Predicates as predicates
use Rattle.vf_walk.specs.Items.{WalksItem}
use Rattle.vf_walk.specs.Walking as walking
use Rattle.vf_annotations.specs.Forms.{meanings as meanings_of}
use Rattle.vf_equations.specs.Fixpoints as fixpoints
use Rattle.vf_equations.specs.Values as values
use Rattle.vf_resolve.specs.Beginning.{beginning}
use Rattle.vf_resolve.specs.Units.{ItemsCome}
use Rattle.vf_fixpoint_laws.specs.well_declared.Example.{BoxesStand, box, box_of, early, element, full, kept, line, one_file, one_path, unit}
use Rattle.vf_fixpoint_laws.proofs.well_declared.Laws.{accepted_fixpoints_are_written, accepted_units_are_well_declared}

-- ---- what is declared
abbrev begun : Scope
begun = beginning one_file unit

abbrev stated : Stated
stated = record { names = codes "box" ∷ []; files = (0 ∷ []) ∷ [] }

abbrev with_box : Scope
with_box = record (with_ghost (with_name (with_ghost (with_name begun (codes "box") (meanings.Ghost 0) 0) (ghosts.Datatype 0)) (codes "boxed") (meanings.Ghost 1) 0) (ghosts.Constructor (record { datatype = 0; arguments = element ∷ [] }))) { datatypes = (record { parameters = 1; constructors = 1 ∷ [] }) ∷ [] }

-- a local that stands for a value of a sort
abbrev one_local : Sort → Locals
one_local t = record { names = codes "b" ∷ []; meanings = locals.Ghost (record { is_variable = false; sort = t }) ∷ [] }

abbrev with_kept : Scope
with_kept = with_ghost (with_name with_box (codes "kept") (meanings.Ghost 2) 0) (ghosts.Fixpoint (record { parameters = 1; arguments = box_of element ∷ []; «result» = value_sort }))

abbrev with_early : Scope
with_early = with_ghost (with_name with_kept (codes "early") (meanings.Ghost 3) 0) (ghosts.Fixpoint (record { parameters = 0; arguments = []; «result» = value_sort }))

abbrev with_full : Scope
with_full = with_ghost (with_name with_early (codes "full") (meanings.Ghost 4) 0) (ghosts.Predicate (box_of int_sort ∷ []))

abbrev whole : Scope
whole = with_ghost_prototype with_full 4 (one_local (box_of int_sort))

-- ---- the walk
the_box : WalksItem (meanings_of stated) box begun (Ok with_box)
the_box = record { is = refl }

kept_value : values.ValuePasses (record with_kept { locals = one_local (box_of element) }) (fixpoints.around_fixpoint 2) value_sort [] (tree.name_ (line 2) (codes "b")) []
kept_value = values.passes tt (has.any_wanted refl refl (has.name_ refl (tt, (tt, tt))))

the_kept : WalksItem (meanings_of stated) kept with_box (Ok with_kept)
the_kept = walking.goes {a = record with_kept { locals = one_local (box_of element) }} (record { is = refl }) (fixpoints.value kept_value)

early_value : values.ValuePasses with_early (fixpoints.around_fixpoint 3) value_sort [] (tree.name_ (line 3) (codes "full")) []
early_value = values.passes tt (has.any_wanted refl refl (has.name_ refl (tt, ((tt, tt), tt))))

the_early : WalksItem (meanings_of stated) early with_kept (Ok with_early)
the_early = walking.goes {a = with_early} (record { is = refl }) (fixpoints.value early_value)

the_full : WalksItem (meanings_of stated) full with_early (Ok whole)
the_full = walking.goes {a = record with_full { locals = one_local (box_of int_sort) }} (predicates.new refl refl) (record { is = refl })

box_stated : (b : Bool) → at_index ((0 ∷ []) ∷ []) (cond b (Some 0) None) ≡ any_files (if b then 0 ∷ [] else [])
box_stated true = refl
box_stated false = refl

accepted : ItemsCome unit begun (Ok whole)
accepted = record {
  stated = stated;
  tells = record { beside = refl; files = λ x. box_stated (bytes_eq x (codes "box")) };
  is = refl;
  walks = walking.goes {a = with_box} the_box (walking.goes {a = with_kept} the_kept (walking.goes {a = with_early} the_early (walking.goes {a = whole} the_full (record { is = refl }))));
}

pub boxes_stand : BoxesStand
boxes_stand = record {
  whole = whole;
  accepted = accepted;
  unmarked = refl;
  well = accepted_units_are_well_declared one_file unit whole one_path accepted refl;
  constructor = record { name = codes "boxed"; declaration = record { meaning = meanings.Ghost 1; files = 0 ∷ [] }; number = 1; found = refl; means = refl; stands = refl; is = refl };
  written = accepted_fixpoints_are_written one_file unit whole one_path accepted;
  fixpoint = record { name = codes "kept"; declaration = record { meaning = meanings.Ghost 2; files = 0 ∷ [] }; number = 2; found = refl; means = refl; stands = refl; is = refl };
  later = refl;
  declared = record { name = codes "full"; declaration = record { meaning = meanings.Ghost 4; files = 0 ∷ [] }; number = 4; found = refl; means = refl; stands = refl; is = refl };
}
