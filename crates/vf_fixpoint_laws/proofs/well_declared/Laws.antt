-- What an accepted unit declares is well declared, and its fixpoints stand among its items.
use Rattle.std.proofs.Common.{◌≡◌, refl, sym, ◌∙◌, ap, ℕ, Bool, true, false, ◌||◌, if◌then◌else◌, nat_eq, List, ◌∷◌, Option, Some, None, Ok, arith}
use Rattle.std.specs.Cmp.{nat_eq_equiv}
use Rattle.vf_tree.specs.Core.{Identity}
use Rattle.vf_names.specs.Names.{number_of}
use Rattle.vf_declared.specs.declared.declaration.Declaration.{Declaration}
use Rattle.vf_declared.specs.declared.declaration.Fixpoint.{Fixpoint}
use Rattle.vf_declared.specs.declared.declaration.GhostDeclaration.{GhostDeclaration}
use Rattle.vf_declared.specs.declared.declaration.GhostDeclaration.TheVariants as ghosts
use Rattle.vf_declared.specs.declared.declaration.Meaning.{Meaning}
use Rattle.vf_declared.specs.declared.declaration.Meaning.TheVariants as meanings
use Rattle.vf_declared.specs.declared.scope.Scope.{Scope}
use Rattle.vf_declared.specs.Scopes.{at_index, at_name, declaration_of, declared_in, ghost_of, is_visible, sees}
use Rattle.vf_syntax.specs.declared.item.Item.{Item}
use Rattle.vf_terms.specs.Named.{declaration_seen, identity_of, seen_from}
use Rattle.vf_resolve.specs.declared.files.Files.{Files}
use Rattle.vf_resolve.specs.Beginning.{beginning}
use Rattle.vf_resolve.specs.Units.{ItemsCome}
use Rattle.vf_fixpoint_laws.specs.values.Declares.{Declares}
use Rattle.vf_fixpoint_laws.specs.bodies.Bodies.{declared_at}
use Rattle.vf_fixpoint_laws.specs.bodies.Units.{IsWritten}
use Rattle.vf_defining.specs.Bodies.{files_of}
use Rattle.vf_fixpoint_laws.proofs.definable.Extending.{core}
use Rattle.vf_env_laws.proofs.Laws.{names_are_declared}
use Rattle.vf_fixpoint_laws.specs.well_declared.Names.{is_marked}
use Rattle.vf_fixpoint_laws.specs.well_declared.Laws.{AcceptedFixpointsAreWritten, AcceptedSortsHaveValues, AcceptedUnitsAreWellDeclared}
use Rattle.vf_fixpoint_laws.proofs.well_declared.Adding.{Means}
use Rattle.vf_fixpoint_laws.proofs.well_declared.Identities.{identity_tells, unmarked_name}
use Rattle.vf_fixpoint_laws.proofs.well_declared.Lists.{some_same}
use Rattle.vf_datatypes.proofs.Values.{values_are_built}
use Rattle.vf_fixpoint_laws.proofs.well_declared.Ranked.{items_ranked, Ranked}
use Rattle.vf_fixpoint_laws.proofs.well_declared.Standing.{IsOfItem, Stands, items_stand}

-- ---- the end of a unit
pub nothing_declared : (f : Files) (xs : List Item) → Stands xs (core (beginning f xs))
nothing_declared f xs = record { ordered = record { beside = refl; below = λ x d n e m. absurd cc }; each = λ x n g m. nowhere m }
  where
    nowhere : {A : Type 0} {x : List ℕ} {n : ℕ} {g : GhostDeclaration} → Means (core (beginning f xs)) x n g → A
    nowhere m = let e = m.found in absurd cc

pub whole_stands : (f : Files) (xs : List Item) (s : Scope) → ItemsCome xs (beginning f xs) (Ok s) → Stands xs (core s)
whole_stands f xs s h = items_stand xs h.stated xs (beginning f xs) (λ y i. i) (nothing_declared f xs) s h.walks

-- ---- identities
-- a name that means something is declared
named_at : (s : Scope) (x : List ℕ) (d : Declaration) → at_name s.names s.declarations x ≡ Some d → (k : ℕ) × (number_of s.names x ≡ Some k)
named_at s x d e = by_number (number_of s.names x) refl e
  where
    by_number : (o : Option ℕ) → number_of s.names x ≡ o → at_index s.declarations o ≡ Some d → (k : ℕ) × (number_of s.names x ≡ Some k)
    by_number None f g = absurd cc
    by_number (Some k) f g = (k, f)

ghost_same : {m n : ℕ} → ◌≡◌ {A = Meaning} (meanings.Ghost m) (meanings.Ghost n) → m ≡ n
ghost_same e = cc

-- what is declared by one name is one
same_declared : (s : Scope) (paths : List (List ℕ)) (c : Identity) (a b : GhostDeclaration) (h : Declares (declared_at s paths) c a) (k : Declares (declared_at s paths) c b) → h.name ≡ k.name → a ≡ b
same_declared s paths c a b h k e = some_same (sym h.stands ∙ (ap (ghost_of s) number ∙ k.stands))
  where
    declaration : h.declaration ≡ k.declaration
    declaration = some_same (sym h.found ∙ (ap (at_name s.names s.declarations) e ∙ k.found))

    number : h.number ≡ k.number
    number = ghost_same (sym h.means ∙ (ap (λ (d : Declaration). d.meaning) declaration ∙ k.means))

pub accepted_units_are_well_declared : AcceptedUnitsAreWellDeclared
accepted_units_are_well_declared f xs s paths h u = record {
  tells = λ c a b j k. same_declared s paths c a b j k (identity_tells paths j.declaration.files k.declaration.files j.name k.name (unmarked j.name j.declaration j.found) (unmarked k.name k.declaration k.found) (sym j.is ∙ k.is));
  constructors = λ c k j. (w.each j.name j.number (ghosts.Constructor k) (record { declaration = j.declaration; found = j.found; meaning = j.means; stands = j.stands })).1;
}
  where
    w : Stands xs (core s)
    w = whole_stands f xs s h

    unmarked : (x : List ℕ) (d : Declaration) → at_name s.names s.declarations x ≡ Some d → is_marked x ≡ false
    unmarked x d e = let n = named_at s x d e in unmarked_name xs s.names (names_are_declared f xs s h).names u x n.0 n.1

-- ---- fixpoints
either : (a b : Bool) → b ≡ true → (a || b) ≡ true
either true b e = refl
either false b e = e

first_true : (a b : Bool) → a ≡ true → (a || b) ≡ true
first_true a b e = ap (λ a. a || b) e

-- what stands first in a file is seen from it
pub first_seen : (s : Scope) (file : ℕ) (more files : List ℕ) → files ≡ file ∷ more → is_visible s file files ≡ true
first_seen s file more files e = ap (is_visible s file) e ∙ first_true (sees s file file) (is_visible s file more) (either (nat_eq file s.file) _ (first_true (nat_eq file file) _ (nat_eq_equiv.refl file)))

fixpoint_written : (s : Scope) (paths : List (List ℕ)) (xs : List Item) (c : Identity) (x : Fixpoint) (h : Declares (declared_at s paths) c (ghosts.Fixpoint x)) → IsOfItem xs h.name h.declaration.files x → IsWritten s paths xs c x
fixpoint_written s paths xs c x h w = record {
  item = w.item;
  among = w.among;
  written = w.written;
  is = w.is;
  identity = ap (λ o. identity_of paths (files_of o) w.written.name.text) seen ∙ (ap (identity_of paths h.declaration.files) w.text ∙ sym h.is);
  number = h.number;
  numbered = record { means = means; is = h.stands };
  known_result = w.known_result;
  known_arguments = w.known_arguments;
  long = w.long;
}
  where
    file : ℕ
    file = w.written.name.place.file

    found : at_name s.names s.declarations w.written.name.text ≡ Some h.declaration
    found = ap (at_name s.names s.declarations) w.text ∙ h.found

    visible : is_visible s file h.declaration.files ≡ true
    visible = first_seen s file w.more h.declaration.files w.first

    seen : declaration_seen s w.written.name.text file ≡ Some h.declaration
    seen = ap (seen_from s file) found ∙ ap (λ b. if b then Some h.declaration else None) visible

    means : declaration_of s w.written.name.text file ≡ Some (meanings.Ghost h.number)
    means = ap (declared_in s file) found ∙ (ap (λ b. if b then Some h.declaration.meaning else None) visible ∙ ap Some h.means)

pub accepted_fixpoints_are_written : AcceptedFixpointsAreWritten
accepted_fixpoints_are_written f xs s paths h c x j = fixpoint_written s paths xs c x j ((whole_stands f xs s h).each j.name j.number (ghosts.Fixpoint x) (record { declaration = j.declaration; found = j.found; meaning = j.means; stands = j.stands }))

-- ---- values
pub accepted_sorts_have_values : AcceptedSortsHaveValues
accepted_sorts_have_values f xs s h = (r.order, values_are_built s r.order)
  where
    empty : Ranked (beginning f xs)
    empty = record {
      order = record { inhabited = λ k l. absurd (omega (arith, l)); ordered = λ k arguments x. absurd (let e = x.stands in cc) };
      numbered = λ k j e. absurd cc;
      declared = λ k at c e. absurd cc;
    }

    r : Ranked s
    r = items_ranked xs h.stated xs (beginning f xs) (λ y i. i) (nothing_declared f xs) empty s h.walks
