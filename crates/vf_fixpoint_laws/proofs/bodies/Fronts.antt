-- What is declared up to a name is declared among all that is.
use Rattle.std.proofs.Common.{◌≡◌, ℕ, zero, suc, ◌+◌, Bool, true, false, cond, List, [], ◌∷◌, take, Option, Some, None, refl, sym, subst, ap, ◌∙◌}
use Rattle.std.specs.Prelude.{if◌then◌else◌, is_some, slice_get}
use Rattle.std.specs.List.{position_from}
use Rattle.std.specs.Str.{bytes_eq}
use Rattle.vf_tree.specs.Core.{Identity}
use Rattle.vf_names.specs.Names.{number_of}
use Rattle.vf_sorts.specs.Sorts.{Sort}
use Rattle.vf_syntax.specs.declared.written.Name.{Name}
use Rattle.vf_declared.specs.declared.declaration.GhostDeclaration.{GhostDeclaration}
use Rattle.vf_declared.specs.declared.scope.Scope.{Scope}
use Rattle.vf_declared.specs.Scopes.{at_index, at_name, later_predicate, stands_in}
use Rattle.vf_sorting.specs.declared.scheme.Scheme.{Scheme}
use Rattle.vf_sorting.specs.Kinds.{predicate_sort}
use Rattle.vf_sorting.specs.Schemes.{at_sort}
use Rattle.vf_terms.specs.Named.{files_or_none, identity_of}
use Rattle.vf_defining.specs.UpTo.{through, up_to}
use Rattle.vf_fixpoint_laws.specs.values.Declares.{BuildsPredicates, BuildsTerms, Declared, Declares, constructed, declared, made, later}
use Rattle.vf_fixpoint_laws.specs.bodies.Bodies.{declared_at}
use Rattle.vf_fixpoint_laws.specs.bodies.Fronts.{FrontsAreCovered, LaterAreDeclared, LaterPredicatesStay, PredicatesStay}

-- ---- fronts of lists
-- behind a test that answers first, an answer stays
answer_stays : (b : Bool) (i : ℕ) (o p : Option ℕ) (j : ℕ) → (o ≡ Some j → p ≡ Some j) → cond b (Some i) o ≡ Some j → cond b (Some i) p ≡ Some j
answer_stays true i o p j f e = e
answer_stays false i o p j f e = f e

-- what is found in a front is found at the same place in the whole
found_whole : (t : List ℕ → Bool) (i k : ℕ) (xs : List (List ℕ)) (j : ℕ) → position_from t i (take k xs) ≡ Some j → position_from t i xs ≡ Some j
found_whole t i zero xs j e = absurd cc
found_whole t i (suc k) [] j e = absurd cc
found_whole t i (suc k) (x ∷ xs) j e = answer_stays (t x) i (position_from t (i + 1) (take k xs)) (position_from t (i + 1) xs) j (found_whole t (i + 1) k xs j) e

number_whole : (k : ℕ) (names : List (List ℕ)) (x : List ℕ) (j : ℕ) → number_of (take k names) x ≡ Some j → number_of names x ≡ Some j
number_whole k names x j e = found_whole (bytes_eq x) 0 k names j e

item_whole : {A : Type 0} (k : ℕ) (xs : List A) (j : ℕ) (a : A) → slice_get (take k xs) j ≡ Some a → slice_get xs j ≡ Some a
item_whole zero xs j a e = absurd cc
item_whole (suc k) [] j a e = absurd cc
item_whole (suc k) (x ∷ xs) zero a e = e
item_whole (suc k) (x ∷ xs) (suc j) a e = item_whole k xs j a e

beside_whole : {A : Type 0} (k : ℕ) (names : List (List ℕ)) (xs : List A) (x : List ℕ) (a : A) → at_name (take k names) (take k xs) x ≡ Some a → at_name names xs x ≡ Some a
beside_whole k names xs x a e = by (number_of (take k names) x) refl e
  where
    by : (o : Option ℕ) → number_of (take k names) x ≡ o → at_index (take k xs) o ≡ Some a → at_name names xs x ≡ Some a
    by None is e = absurd cc
    by (Some j) is e = ap (at_index xs) (number_whole k names x j is) ∙ item_whole k xs j a e

module _ (n : Name) (s : Scope) (paths : List (List ℕ)) where
  abbrev pub Front : Declared
  Front = declared_at (up_to n s) paths

  abbrev pub All : Declared
  All = declared_at s paths

  -- what is declared up to a name is declared
  pub front_declares : (c : Identity) (g : GhostDeclaration) → Declares Front c g → Declares All c g
  front_declares c g is = record {
    name = is.name;
    declaration = is.declaration;
    number = is.number;
    found = beside_whole (through (number_of s.names n.text)) s.names s.declarations is.name is.declaration is.found;
    means = is.means;
    stands = is.stands;
    is = is.is;
  }

  -- so terms that may be built may be so by all
  pub front_builds : (c : Identity) (x : Scheme) → BuildsTerms Front c x → BuildsTerms All c x
  front_builds c x (constructed is) = constructed (front_declares c _ is)

  -- ---- predicates that stand later
  abbrev There : List ℕ → Identity
  There x = identity_of paths (files_or_none (at_name s.predicates s.predicate_files x)) x

  -- a name that is declared nowhere is one of a predicate that stands later than all
  nowhere : (x : List ℕ) (from : ℕ) (ts : List Sort) → (o p : Option ℕ) → o ≡ None → p ≡ None
      → (if (if is_some o then false else stands_in s from (at_name s.predicates s.predicate_files x)) then at_name s.predicates s.predicate_sorts x else None) ≡ Some ts
      → (if (if is_some p then false else stands_in s from (at_name s.predicates s.predicate_files x)) then at_name s.predicates s.predicate_sorts x else None) ≡ Some ts
  nowhere x from ts None None a b e = e
  nowhere x from ts (Some j) p a b e = absurd cc
  nowhere x from ts None (Some j) a b e = absurd cc

  -- a name that is declared is none of a predicate that stands later
  declared_not_later : {A : Type 0} (x : List ℕ) (from : ℕ) (ts : List Sort) (j : ℕ) (o : Option ℕ) → o ≡ Some j
      → (if (if is_some o then false else stands_in s from (at_name s.predicates s.predicate_files x)) then at_name s.predicates s.predicate_sorts x else None) ≡ Some ts → A
  declared_not_later x from ts j None a e = absurd cc
  declared_not_later x from ts j (Some k) a e = absurd cc

  later_stays : LaterAreDeclared n s paths → (c : Identity) (ts : List Sort) (x : List ℕ) (from : ℕ) → later_predicate (up_to n s) x from ≡ Some ts → c ≡ There x → BuildsPredicates All c (at_sort (predicate_sort ts))
  later_stays told c ts x from stands is = by (number_of (up_to n s).names x) (number_of s.names x) refl refl
    where
      by : (o p : Option ℕ) → number_of (up_to n s).names x ≡ o → number_of s.names x ≡ p → BuildsPredicates All c (at_sort (predicate_sort ts))
      by (Some j) p front all = declared_not_later x from ts j (number_of (up_to n s).names x) front stands
      by None None front all = later x from (nowhere x from ts (number_of (up_to n s).names x) (number_of s.names x) front all stands) is
      by None (Some k) front all = subst (λ (a : Identity). BuildsPredicates All a (at_sort (predicate_sort ts))) (sym is) (declared (told x from ts k front all stands))

  pub predicates_stay : LaterAreDeclared n s paths → PredicatesStay n s paths
  predicates_stay told c x (declared is) = declared (front_declares c _ is)
  predicates_stay told c x (made is) = made (front_declares c _ is)
  predicates_stay told c x (later {ts} y from stands is) = later_stays told c ts y from stands is

pub fronts_are_covered : FrontsAreCovered
fronts_are_covered n s paths stay = record { declares = front_declares n s paths; terms = front_builds n s paths; predicates = stay }

pub later_predicates_stay : LaterPredicatesStay
later_predicates_stay n s paths told = predicates_stay n s paths told
