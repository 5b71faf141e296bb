-- The two units of the example.
use Rattle.std.proofs.Common.{◌≡◌, refl, sym, subst, ℕ, Bool, true, false, ◌||◌, nat_eq, List, [], ◌∷◌, codes, Some, Ok, Err, slice_get}
use Rattle.std.proofs.lemmas.Bool.{eqb-true, false≢true}
use Rattle.vf_declared.specs.Beginning.{empty}
use Rattle.vf_declared.specs.declared.scope.Scope.{Scope}
use Rattle.vf_syntax.specs.declared.item.Constructor.{Constructor}
use Rattle.vf_syntax.specs.declared.item.GhostParameter.{GhostParameter}
use Rattle.vf_syntax.specs.SortTree as tree
use Rattle.vf_asserting.specs.Leaving.{count}
use Rattle.vf_datatypes.specs.declared.stated.Stated.{Stated}
use Rattle.vf_datatypes.specs.Datatypes.{datatype_behind}
use Rattle.vf_annotations.specs.Forms.{meanings}
use Rattle.vf_predicates.specs.Predicates.{first_behind, number_at, without_body}
use Rattle.vf_predicates.specs.Predicates as predicates
use Rattle.vf_walk.specs.Items.{WalksItems}
use Rattle.vf_walk.specs.Walking.{Walked}
use Rattle.vf_walk.specs.Walking as walking
use Rattle.vf_header_laws.specs.c_names.Example.{first_beginning, name_in, second_beginning, start_of}
use Rattle.vf_header_laws.specs.c_names.Parts.{is_part_of}
use Rattle.vf_header_laws.specs.c_names.Units.{IsHeaderOfBoth}
use Rattle.vf_header_laws.specs.ghost_names.Example.{argument, colour, constant_in, first_stated, holds, OneGhostHeaderOfTwoUnits, second_stated, values, values_sort}
use Rattle.vf_header_laws.specs.ghost_names.Units.{HaveTheSameGhosts, inside, none, outside_first}
use Rattle.vf_header_laws.proofs.ghost_names.Units.{units_show_the_same_ghosts}

-- what is declared behind a walk
abbrev scope_in : Walked → Scope
scope_in (Ok s) = s
scope_in (Err x) = empty 0

-- behind a datatype
abbrev pub behind_colour : Stated → Scope → Scope
behind_colour d s = scope_in (datatype_behind d (name_in 0 (codes "colour")) [] (constant_in 0 (codes "red") ∷ []) s)

abbrev value_constructors : List Constructor
value_constructors = constant_in 1 (codes "nil") ∷ (record { name = name_in 1 (codes "cons"); arguments = Some (argument (tree.any_ (start_of 1)) ∷ argument values_sort ∷ []) }) ∷ []

abbrev pub behind_values : Stated → Scope → Scope
behind_values d s = scope_in (datatype_behind d (name_in 1 (codes "values")) [] value_constructors s)

-- behind the predicate
abbrev all_values : List GhostParameter
all_values = (record { after_semicolon = false; sort = values_sort; name = name_in 1 (codes "all") }) ∷ []

abbrev pub named_holds : Scope → Scope
named_holds s = scope_in (first_behind (name_in 1 (codes "holds")) all_values s)

abbrev pub behind_holds : Scope → Scope
behind_holds s = without_body (count s) (number_at s (name_in 1 (codes "holds"))) (named_holds s)

abbrev first_colour : Scope
first_colour = behind_colour first_stated first_beginning

abbrev first_values : Scope
first_values = behind_values first_stated first_colour

abbrev first_end : Scope
first_end = behind_holds first_values

abbrev second_values : Scope
second_values = behind_values second_stated second_beginning

abbrev second_end : Scope
second_end = behind_holds second_values

first_walk : WalksItems (meanings first_stated) (colour ∷ values ∷ holds ∷ []) first_beginning (Ok first_end)
first_walk = walking.goes {a = first_colour} (record { is = refl }) (walking.goes {a = first_values} (record { is = refl }) (walking.goes {a = first_end} (walking.goes {a = named_holds first_values} (predicates.new refl refl) (record { is = refl })) (record { is = refl })))

second_walk : WalksItems (meanings second_stated) (values ∷ holds ∷ []) second_beginning (Ok second_end)
second_walk = walking.goes {a = second_values} (record { is = refl }) (walking.goes {a = second_end} (walking.goes {a = named_holds second_values} (predicates.new refl refl) (record { is = refl })) (record { is = refl }))

-- ---- the header consists of itself
or_none : (b : Bool) → (b || (b || false)) ≡ true → b ≡ true
or_none true h = refl
or_none false h = absurd (false≢true h)

first_part : (file : ℕ) → is_part_of first_beginning 1 file ≡ true → 1 ≡ file
first_part file h = eqb-true 1 file (or_none (nat_eq 1 file) h)

second_part : (file : ℕ) → is_part_of second_beginning 1 file ≡ true → 1 ≡ file
second_part file h = eqb-true 1 file (or_none (nat_eq 1 file) h)

pub both_headers : IsHeaderOfBoth 1 first_beginning second_beginning
both_headers = record {
  files = λ file p. subst (λ f. slice_get first_beginning.headers f ≡ slice_get second_beginning.headers f) (first_part file p) refl;
  first = record {
    headers = λ file p. subst (λ f. nat_eq f 0 ≡ false) (first_part file p) refl;
    within = λ file p inner q. subst (λ f. is_part_of first_beginning f inner ≡ true) (sym (first_part file p)) q;
  };
  second = record {
    headers = λ file p. subst (λ f. nat_eq f 2 ≡ false) (second_part file p) refl;
    within = λ file p inner q. subst (λ f. is_part_of second_beginning f inner ≡ true) (sym (second_part file p)) q;
  };
}

pub same_inside : HaveTheSameGhosts (is_part_of first_beginning 1) (colour ∷ values ∷ holds ∷ []) (values ∷ holds ∷ [])
same_inside = outside_first refl (inside refl (inside refl none))

pub one_ghost_header_of_two_units : OneGhostHeaderOfTwoUnits
one_ghost_header_of_two_units = record {
  first = first_end;
  second = second_end;
  first_walk = first_walk;
  second_walk = second_walk;
  first_datatype = record { number = 2; means = refl; is = refl };
  second_datatype = record { number = 0; means = refl; is = refl };
  first_number = refl;
  second_number = refl;
  first_predicate = refl;
  second_predicate = refl;
  shows = units_show_the_same_ghosts 1 first_stated second_stated (colour ∷ values ∷ holds ∷ []) (values ∷ holds ∷ []) first_beginning second_beginning first_end second_end
      (record { names = refl; declarations = refl; tags = refl; structures = refl; locals = refl })
      (record { names = refl; declarations = refl; tags = refl; structures = refl; locals = refl })
      both_headers same_inside first_walk second_walk;
}
