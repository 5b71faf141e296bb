-- What is declared and may be built where the names up to one count is so by the whole unit.
use Rattle.std.proofs.Common.{◌≡◌, refl, sym, subst, ◌∙◌, ap, ℕ, Bool, true, false, if◌then◌else◌, List, take, drop, Option, Some, None, Ok, slice_get}
use Rattle.std.proofs.lemmas.List.{take-append-drop}
use Rattle.vf_tree.specs.Core.{Identity}
use Rattle.vf_names.specs.Names.{number_of}
use Rattle.vf_sorts.specs.Sorts.{Sort}
use Rattle.vf_declared.specs.declared.declaration.GhostDeclaration.{GhostDeclaration}
use Rattle.vf_declared.specs.declared.declaration.GhostDeclaration.TheVariants as ghosts
use Rattle.vf_declared.specs.declared.scope.Scope.{Scope}
use Rattle.vf_declared.specs.Scopes.{at_index, at_name, is_later_predicate, later_predicate}
use Rattle.vf_syntax.specs.declared.item.Item.{Item}
use Rattle.vf_syntax.specs.declared.written.Name.{Name}
use Rattle.vf_sorting.specs.declared.scheme.Scheme.{Scheme}
use Rattle.vf_gathering.specs.Ahead as ahead
use Rattle.vf_gathering.specs.Foretold as foretold
use Rattle.vf_gathering.specs.declared.foretold.Foretold.{Foretold}
use Rattle.vf_terms.specs.Named.{files_or_none, identity_of}
use Rattle.vf_resolve.specs.declared.files.Files.{Files}
use Rattle.vf_resolve.specs.Beginning.{ahead_of, beginning, foretold_of}
use Rattle.vf_resolve.specs.Units.{ItemsCome}
use Rattle.vf_defining.specs.UpTo.{through, up_to}
use Rattle.vf_fixpoint_laws.specs.values.Declares.{BuildsPredicates, BuildsTerms, Declares, constructed, declared, later, made}
use Rattle.vf_fixpoint_laws.specs.bodies.Bodies.{declared_at}
use Rattle.vf_fixpoint_laws.proofs.definable.Extending.{core}
use Rattle.vf_fixpoint_laws.proofs.definable.Lists.{get_front, number_front}
use Rattle.vf_fixpoint_laws.proofs.definable.Seeing.{bare}
use Rattle.vf_fixpoint_laws.specs.well_declared.Laws.{AcceptedUnitsAreCovered, DeclarationsGoOn, PredicatesAreDeclaredAsTold, TermsGoOn}
use Rattle.vf_fixpoint_laws.proofs.well_declared.Adding.{Means}
use Rattle.vf_fixpoint_laws.proofs.well_declared.Foretold.{Foretells, IsForetold}
use Rattle.vf_fixpoint_laws.proofs.well_declared.Lists.{some_same}
use Rattle.vf_fixpoint_laws.proofs.well_declared.Reaching.{Reaches, items_reach}

-- ---- the end of a unit
nothing_reached : (f : Files) (xs : List Item) → Reaches (bare (beginning f xs)) ahead.nothing foretold.none_foretold (core (beginning f xs))
nothing_reached f xs = record {
  frame = refl;
  ordered = record { beside = refl; below = λ x d n e m. absurd cc };
  numbers = record { as_many = refl; counted = refl; declared = λ x k e. absurd cc; numbered = λ x n k m. nowhere m };
  foretells = record { sorted = refl; placed = refl; known = λ x n ts m. nowhere m; told = λ x k e. absurd cc };
}
  where
    nowhere : {A : Type 0} {x : List ℕ} {n : ℕ} {g : GhostDeclaration} → Means (core (beginning f xs)) x n g → A
    nowhere m = let e = m.found in absurd cc

-- at the end of a unit what is declared is what was told of all its items
pub whole_reached : (f : Files) (xs : List Item) (s : Scope) → ItemsCome xs (beginning f xs) (Ok s) → Reaches (bare (beginning f xs)) (ahead_of xs) (foretold_of xs) (core s)
whole_reached f xs s h = items_reach (bare (beginning f xs)) h.stated (ahead_of xs) xs ahead.nothing foretold.none_foretold (beginning f xs) refl refl (nothing_reached f xs) s h.walks

-- ---- names up to one
found_whole : {A : Type 0} (n : ℕ) (names : List (List ℕ)) (xs : List A) (x : List ℕ) (a : A) → at_name (take n names) (take n xs) x ≡ Some a → at_name names xs x ≡ Some a
found_whole n names xs x a e = by_number (number_of (take n names) x) refl e
  where
    by_number : (o : Option ℕ) → number_of (take n names) x ≡ o → at_index (take n xs) o ≡ Some a → at_name names xs x ≡ Some a
    by_number None f g = absurd cc
    by_number (Some k) f g =
        ap (at_index xs) (ap (λ ns. number_of ns x) (sym (take-append-drop n names)) ∙ number_front (take n names) (drop n names) x k f)
        ∙ (ap (λ ys. slice_get ys k) (sym (take-append-drop n xs)) ∙ get_front (take n xs) (drop n xs) k a g)

declared_whole : (n : Name) (s : Scope) (paths : List (List ℕ)) (c : Identity) (g : GhostDeclaration) → Declares (declared_at (up_to n s) paths) c g → Declares (declared_at s paths) c g
declared_whole n s paths c g h = record { name = h.name; declaration = h.declaration; number = h.number; found = found_whole (through (number_of s.names n.text)) s.names s.declarations h.name h.declaration h.found; means = h.means; stands = h.stands; is = h.is }

pub declarations_go_on : DeclarationsGoOn
declarations_go_on s paths n c g h = declared_whole n s paths c g h

terms_whole : (n : Name) (s : Scope) (paths : List (List ℕ)) (c : Identity) (x : Scheme) → BuildsTerms (declared_at (up_to n s) paths) c x → BuildsTerms (declared_at s paths) c x
terms_whole n s paths c x (constructed {k = k} h) = constructed (declared_whole n s paths c (ghosts.Constructor k) h)

pub terms_go_on : TermsGoOn
terms_go_on s paths n c x b = terms_whole n s paths c x b

-- ---- predicates that stand later
told_where : {A : Type 0} (b : Bool) (o : Option A) (a : A) → ◌≡◌ {A = Option A} (if b then o else None) (Some a) → o ≡ Some a
told_where true o a e = e
told_where false o a e = absurd cc

-- a predicate that was told is declared over the sorts that were told of it, and its identity is the same
foretold_declared : (t : Foretold) (s : Scope) (paths : List (List ℕ)) (x : List ℕ) (ts : List Sort) → Foretells t (core s) → at_name t.stated.names t.sorts x ≡ Some ts → Declares (declared_at s paths) (identity_of paths (files_or_none (at_name t.stated.names t.stated.files x)) x) (ghosts.Predicate ts)
foretold_declared t s paths x ts h e = by_number (number_of t.stated.names x) refl e
  where
    same_sorts : (k : ℕ) (f : IsForetold t (core s) x k) → slice_get t.sorts k ≡ Some ts → f.sorts ≡ ts
    same_sorts k f g = some_same (sym f.told ∙ g)

    by_number : (o : Option ℕ) → number_of t.stated.names x ≡ o → at_index t.sorts o ≡ Some ts → Declares (declared_at s paths) (identity_of paths (files_or_none (at_name t.stated.names t.stated.files x)) x) (ghosts.Predicate ts)
    by_number None f g = absurd cc
    by_number (Some k) f g =
        let i = h.told x k f in
        record {
          name = x;
          declaration = i.means.declaration;
          number = i.number;
          found = i.means.found;
          means = i.means.meaning;
          stands = i.means.stands ∙ ap (λ ts. Some (ghosts.Predicate ts)) (same_sorts k i g);
          is = ap (λ o. identity_of paths (files_or_none o) x) (ap (at_index t.stated.files) f ∙ i.stated) ∙ ap (λ fs. identity_of paths fs x) (sym i.declared);
        }

later_declared : (f : Files) (xs : List Item) (s : Scope) (paths : List (List ℕ)) → Reaches (bare (beginning f xs)) (ahead_of xs) (foretold_of xs) (core s) → (n : Name) (c : Identity) (ts : List Sort) (x : List ℕ) (from : ℕ) → later_predicate (declared_at (up_to n s) paths).scope x from ≡ Some ts → c ≡ identity_of paths (files_or_none (at_name s.predicates s.predicate_files x)) x → Declares (declared_at s paths) c (ghosts.Predicate ts)
later_declared f xs s paths r n c ts x from e i =
    let told : at_name s.predicates s.predicate_sorts x ≡ Some ts = told_where (is_later_predicate (declared_at (up_to n s) paths).scope x from) (at_name s.predicates s.predicate_sorts x) ts e in
    let t = foretold_of xs in
    let g : at_name t.stated.names t.sorts x ≡ Some ts = sym (λ j. at_name (r.frame j).predicates (r.frame j).predicate_sorts x) ∙ told in
    subst (λ c. Declares (declared_at s paths) c (ghosts.Predicate ts)) (sym (i ∙ (λ j. identity_of paths (files_or_none (at_name (r.frame j).predicates (r.frame j).predicate_files x)) x))) (foretold_declared t s paths x ts r.foretells g)

builds_whole : (f : Files) (xs : List Item) (s : Scope) (paths : List (List ℕ)) → Reaches (bare (beginning f xs)) (ahead_of xs) (foretold_of xs) (core s) → (n : Name) (c : Identity) (x : Scheme) → BuildsPredicates (declared_at (up_to n s) paths) c x → BuildsPredicates (declared_at s paths) c x
builds_whole f xs s paths r n c x (declared {ts = ts} h) = declared (declared_whole n s paths c (ghosts.Predicate ts) h)
builds_whole f xs s paths r n c x (made {k = k} h) = made (declared_whole n s paths c (ghosts.PredicateConstructor k) h)
builds_whole f xs s paths r n c x (later {ts = ts} y from e i) = declared (later_declared f xs s paths r n c ts y from e i)

pub predicates_are_declared_as_told : PredicatesAreDeclaredAsTold
predicates_are_declared_as_told f xs s paths h n c x b = builds_whole f xs s paths (whole_reached f xs s h) n c x b

pub accepted_units_are_covered : AcceptedUnitsAreCovered
accepted_units_are_covered f xs s paths h item w among is =
    let r = whole_reached f xs s h in
    record { declares = λ c g d. declared_whole w.name s paths c g d; terms = λ c x b. terms_whole w.name s paths c x b; predicates = λ c x b. builds_whole f xs s paths r w.name c x b }
