-- The unit in which two things share an identity is accepted.
use Rattle.std.proofs.Common.{◌≡◌, refl, false, [], ◌∷◌, codes, Ok}
use Rattle.vf_declared.specs.declared.declaration.GhostDeclaration.{GhostDeclaration}
use Rattle.vf_declared.specs.declared.declaration.GhostDeclaration.TheVariants as ghosts
use Rattle.vf_declared.specs.declared.declaration.Meaning.TheVariants as meanings
use Rattle.vf_declared.specs.declared.locals.Local.TheVariants as locals
use Rattle.vf_declared.specs.declared.locals.Locals.{Locals}
use Rattle.vf_declared.specs.declared.scope.Scope.{Scope}
use Rattle.vf_declared.specs.Beginning.{no_locals}
use Rattle.vf_declared.specs.Writing.{with_ghost, with_ghost_prototype, with_name}
use Rattle.vf_sorting.specs.Kinds.{value_sort}
use Rattle.vf_datatypes.specs.declared.stated.Stated.{Stated}
use Rattle.vf_predicates.specs.Predicates as predicates
use Rattle.vf_walk.specs.Items.{WalksItem}
use Rattle.vf_walk.specs.Walking as walking
use Rattle.vf_annotations.specs.Forms.{meanings as meanings_of}
use Rattle.vf_resolve.specs.Beginning.{beginning}
use Rattle.vf_resolve.specs.Units.{ItemsCome}
use Rattle.vf_fixpoint_laws.specs.bodies.Bodies.{IsWellDeclared, declared_at}
use Rattle.vf_fixpoint_laws.specs.well_declared.Marked.{MarkedNamesShareIdentities, in_header, in_own, marked_unit, two_files, two_paths}

abbrev begun : Scope
begun = beginning two_files marked_unit

abbrev stated : Stated
stated = record { names = []; files = [] }

abbrev with_first : Scope
with_first = with_ghost (with_name begun (codes "c") (meanings.Ghost 0) 1) (ghosts.Predicate [])

abbrev behind_first : Scope
behind_first = with_ghost_prototype with_first 0 no_locals

abbrev with_second : Scope
with_second = with_ghost (with_name behind_first (codes "b#c") (meanings.Ghost 1) 0) (ghosts.Predicate (value_sort ∷ []))

abbrev parameters : Locals
parameters = record { names = codes "x" ∷ []; meanings = locals.Ghost (record { is_variable = false; sort = value_sort }) ∷ [] }

abbrev whole : Scope
whole = with_ghost_prototype with_second 1 parameters

the_first : WalksItem (meanings_of stated) in_header begun (Ok behind_first)
the_first = walking.goes {a = with_first} (predicates.new refl refl) (record { is = refl })

the_second : WalksItem (meanings_of stated) in_own behind_first (Ok whole)
the_second = walking.goes {a = record with_second { locals = parameters }} (predicates.new refl refl) (record { is = refl })

accepted : ItemsCome marked_unit begun (Ok whole)
accepted = record {
  stated = stated;
  tells = record { beside = refl; files = λ x. refl };
  is = refl;
  walks = walking.goes {a = behind_first} the_first (walking.goes {a = whole} the_second (record { is = refl }));
}

apart : ◌≡◌ {A = GhostDeclaration} (ghosts.Predicate []) (ghosts.Predicate (value_sort ∷ [])) → ⊥
apart e = cc

shared : IsWellDeclared (declared_at whole two_paths) → ⊥
shared w = apart (w.tells (codes "a#b#c") (ghosts.Predicate []) (ghosts.Predicate (value_sort ∷ []))
    (record { name = codes "c"; declaration = record { meaning = meanings.Ghost 0; files = 1 ∷ [] }; number = 0; found = refl; means = refl; stands = refl; is = refl })
    (record { name = codes "b#c"; declaration = record { meaning = meanings.Ghost 1; files = 0 ∷ [] }; number = 1; found = refl; means = refl; stands = refl; is = refl }))

pub marked_names_share_identities : MarkedNamesShareIdentities
marked_names_share_identities = record { whole = whole; accepted = accepted; shared = shared }
