-- The terms of names, and of names in front of arguments, have their sorts.
use Rattle.std.proofs.Common.{◌≡◌, ℕ, Bool, true, false, List, [], ◌∷◌, Option, Some, None, Result, Ok, Err, refl, sym, subst, ap, ◌∙◌, arith}
use Rattle.std.specs.Prelude.{map, if◌then◌else◌, ◌&&◌, drop, slice_get, nat_eq, codes}
use Rattle.std.specs.List.{starts_with}
use Rattle.std.proofs.lemmas.Option.{slice_get_within}
use Rattle.vf_base.specs.declared.place.Place.{Place}
use Rattle.vf_base.specs.declared.refusal.Refusal.{Refusal}
use Rattle.vf_tree.specs.Core.{Identity}
use Rattle.vf_names.specs.Names.{number_of}
use Rattle.vf_names.proofs.Numbering.{name_there}
use Rattle.vf_meaning.specs.Ghost.{Name}
use Rattle.vf_closure.specs.Terms.{Kind, Head, Predicate, Term, no_terms}
use Rattle.vf_formula.specs.Rows.{row}
use Rattle.vf_sorts.specs.Sorts.{Sort}
use Rattle.vf_sorts.specs.Unknowns.{instance, settling}
use Rattle.vf_declared.specs.declared.declaration.Constructor.{Constructor}
use Rattle.vf_declared.specs.declared.declaration.Declaration.{Declaration}
use Rattle.vf_declared.specs.declared.declaration.GhostDeclaration.{GhostDeclaration}
use Rattle.vf_declared.specs.declared.declaration.GhostDeclaration.TheVariants as ghosts
use Rattle.vf_declared.specs.declared.declaration.Meaning.{Meaning}
use Rattle.vf_declared.specs.declared.declaration.Meaning.TheVariants as meanings
use Rattle.vf_declared.specs.declared.locals.Local.{Local}
use Rattle.vf_declared.specs.Scopes.{at_index, at_name, datatype_of, declaration_of, declared_in, ghost_of, is_later_predicate, is_visible, later_predicate}
use Rattle.vf_sorting.specs.declared.scheme.Scheme.{Scheme}
use Rattle.vf_sorting.specs.Kinds.{predicate_sort, pointer_sort}
use Rattle.vf_sorting.specs.Schemes.{applied_ghost, applied_scheme, application_scheme, at_sort, constant_scheme, constructor_scheme, count_in, declared_scheme, ghost_scheme, is_function_type, later_scheme, local_scheme, name_scheme, sort_of_local, test_scheme, tests_type}
use Rattle.vf_sorting.proofs.Lists.{none_past}
use Rattle.vf_terms.specs.Settings.{Setting, kind_of_sort, settled}
use Rattle.vf_terms.specs.Named.{applied_by, applied_ghost_head, applied_head, applied_term, declaration_seen, declared_head, files_or_none, ghost_head, identity_of, local_term, meant_head, name_term, seen_from, term_of_head, term_of_name, test_by, test_head}
use Rattle.vf_resolved_laws.specs.Given.{GivesSorts}
use Rattle.vf_resolved_laws.specs.Heads.{Declares, Vocabulary, claims, constructor, fixpoint, fixpoint_scheme, function, later_predicate_, made_scheme, predicate, predicate_constructor, vocabulary_of}
use Rattle.vf_resolved_laws.specs.Terms.{TermHasSort, TermsHaveSorts, applied, as_one, none_have}
use Rattle.vf_resolved_laws.proofs.Sorting.{none_used}

-- a name may be used at something
abbrev may_be : Scheme → Result Scheme Refusal
may_be g = Ok g

same_scheme : {g k : Scheme} → may_be g ≡ may_be k → g ≡ k
same_scheme e = cc

module _ (s : Setting) (names : Name → Sort) where
  abbrev pub D : Vocabulary
  D = vocabulary_of s names

  -- a sort of a declaration where so many unknown sorts, from a first on, stand for its type parameters
  abbrev pub Use : ℕ → ℕ → Sort → Sort
  Use first n t = settled s (instance first n t)

  -- ---- names in front of arguments
  -- the term of a head, which depends on the kind of the whole, over arguments of a scheme's sorts has its sort
  abbrev pub Applies : (Kind → Option Head) → List Term → ℕ → Scheme → Type 0
  Applies h xs first g = TermsHaveSorts D (row xs) (map (Use first g.parameters) g.arguments) → TermHasSort D (applied_term (h (kind_of_sort (Use first g.parameters g.result))) xs) (Use first g.parameters g.result)

  module _ (p : Place) (x : List ℕ) (xs : List Term) (first : ℕ) (g : Scheme) where
    ghost_applies : (c : Identity) (n : ℕ) (o : Option GhostDeclaration) → ((d : GhostDeclaration) → o ≡ Some d → Declares D c n d) → applied_ghost s.scope s.context.own p n o ≡ Ok g → Applies (λ k. applied_ghost_head k c o) xs first g
    ghost_applies c n (Some (ghosts.Constructor k)) is e =
        subst (Applies (λ q. applied_ghost_head q c (Some (ghosts.Constructor k))) xs first) (same_scheme e) (λ have. applied (constructor_scheme s.scope k) (settling s.known) first (constructor (is (ghosts.Constructor k) refl)) refl have)
    ghost_applies c n (Some (ghosts.Fixpoint f)) is e =
        subst (Applies (λ q. applied_ghost_head q c (Some (ghosts.Fixpoint f))) xs first) (same_scheme e) (λ have. applied (fixpoint_scheme s.context.own n f) (settling s.known) first (fixpoint (is (ghosts.Fixpoint f) refl)) refl have)
    ghost_applies c n (Some (ghosts.PredicateConstructor k)) is e =
        subst (Applies (λ q. applied_ghost_head q c (Some (ghosts.PredicateConstructor k))) xs first) (same_scheme e) (λ have. applied (made_scheme k) (settling s.known) first (predicate_constructor (is (ghosts.PredicateConstructor k) refl)) refl have)
    ghost_applies c n (Some (ghosts.Datatype d)) is e = absurd cc
    ghost_applies c n (Some (ghosts.Predicate ts)) is e = absurd cc
    ghost_applies c n (Some (ghosts.Family f)) is e = absurd cc
    ghost_applies c n (Some (ghosts.Lemma l)) is e = absurd cc
    ghost_applies c n None is e = absurd cc

    meaning_applies : (d : Declaration) → at_name s.scope.names s.scope.declarations x ≡ Some d → (m : Meaning) → d.meaning ≡ m → applied_scheme s.scope s.context.own p x (Some m) ≡ Ok g → Applies (λ k. applied_by s k x d.files m) xs first g
    meaning_applies d found (meanings.Ghost n) means e =
        ghost_applies (identity_of s.paths d.files x) n (ghost_of s.scope n) (λ o is. record { named = record { name = x; declaration = d; found = found; means = means; is = refl }; stands = is }) e
    meaning_applies d found (meanings.Function n) means e = absurd cc
    meaning_applies d found (meanings.FunctionType n) means e = absurd cc

    -- `is_T`
    abbrev Tests : Option Head → Type 0
    Tests h = TermsHaveSorts D (row xs) (pointer_sort ∷ []) → TermHasSort D (applied_term h xs) test_scheme.result

    test_meant : (d : Declaration) → at_name s.scope.names s.scope.declarations (drop 3 x) ≡ Some d → (m : Meaning) → d.meaning ≡ m → is_function_type (Some m) ≡ true → Tests (test_by s x d.files m)
    test_meant d found (meanings.FunctionType n) means e = λ have. applied test_scheme (settling s.known) first (claims (record { name = drop 3 x; declaration = d; found = found; means = means; is = refl })) refl have
    test_meant d found (meanings.Function n) means e = absurd cc
    test_meant d found (meanings.Ghost n) means e = absurd cc

    test_visible : (d : Declaration) → at_name s.scope.names s.scope.declarations (drop 3 x) ≡ Some d → (b : Bool) → is_function_type (if b then Some d.meaning else None) ≡ true → Tests (test_head s x (if b then Some d else None))
    test_visible d found true e = test_meant d found d.meaning refl e
    test_visible d found false e = absurd cc

    test_found : (o : Option Declaration) → at_name s.scope.names s.scope.declarations (drop 3 x) ≡ o → is_function_type (declared_in s.scope p.file o) ≡ true → Tests (test_head s x (seen_from s.scope p.file o))
    test_found (Some d) found e = test_visible d found (is_visible s.scope p.file d.files) e
    test_found None found e = absurd cc

    second : (a b : Bool) → (a && b) ≡ true → b ≡ true
    second true b e = e
    second false b e = absurd cc

    test_applies : (b : Bool) (r : Refusal) → tests_type s.scope x p.file ≡ b → (if b then Ok test_scheme else Err r) ≡ Ok g → Applies (λ k. test_head s x (declaration_seen s.scope (drop 3 x) p.file)) xs first g
    test_applies true r is e =
        subst (Applies (λ k. test_head s x (declaration_seen s.scope (drop 3 x) p.file)) xs first) (same_scheme e)
        (test_found (at_name s.scope.names s.scope.declarations (drop 3 x)) refl (second (starts_with nat_eq x (codes "is_")) (is_function_type (declaration_of s.scope (drop 3 x) p.file)) is))
    test_applies false r is e = absurd cc

    visible_applies : (d : Declaration) → at_name s.scope.names s.scope.declarations x ≡ Some d → (b : Bool) → applied_scheme s.scope s.context.own p x (if b then Some d.meaning else None) ≡ Ok g → Applies (λ k. applied_head s k x p.file (if b then Some d else None)) xs first g
    visible_applies d found true e = meaning_applies d found d.meaning refl e
    visible_applies d found false e = test_applies (tests_type s.scope x p.file) _ refl e

    found_applies : (o : Option Declaration) → at_name s.scope.names s.scope.declarations x ≡ o → applied_scheme s.scope s.context.own p x (declared_in s.scope p.file o) ≡ Ok g → Applies (λ k. applied_head s k x p.file (seen_from s.scope p.file o)) xs first g
    found_applies (Some d) found e = visible_applies d found (is_visible s.scope p.file d.files) e
    found_applies None found e = test_applies (tests_type s.scope x p.file) _ refl e

    pub application_applies : application_scheme s.scope s.context.own p x ≡ Ok g → Applies (λ k. applied_head s k x p.file (declaration_seen s.scope x p.file)) xs first g
    application_applies e = found_applies (at_name s.scope.names s.scope.declarations x) refl e

  -- ---- names as values
  module _ (gives : GivesSorts D s) where
    -- a term has a scheme's sort
    abbrev pub Names : Term → ℕ → Scheme → Type 0
    Names t first g = TermHasSort D t (Use first g.parameters g.result)

    module _ (p : Place) (x : List ℕ) (first : ℕ) (g : Scheme) where
      no_arguments : (k : Constructor) (ts : List Sort) → k.arguments ≡ ts → constant_scheme s.scope p k ts ≡ Ok g → (k.arguments ≡ []) × (constructor_scheme s.scope k ≡ g)
      no_arguments k [] is e = (is, same_scheme e)
      no_arguments k (t ∷ ts) is e = absurd cc

      ghost_names : (c : Identity) (n : ℕ) (o : Option GhostDeclaration) → ((d : GhostDeclaration) → o ≡ Some d → Declares D c n d) → ghost_scheme s.scope p o ≡ Ok g → Names (term_of_head (ghost_head c o)) first g
      ghost_names c n (Some (ghosts.Constructor k)) is e =
          let a = no_arguments k k.arguments refl e in
          subst (Names (term_of_head (ghost_head c (Some (ghosts.Constructor k)))) first) a.1
          (applied (constructor_scheme s.scope k) (settling s.known) first (constructor (is (ghosts.Constructor k) refl)) refl
          (subst (λ (ts : List Sort). TermsHaveSorts D no_terms (map (Use first (count_in (datatype_of s.scope k.datatype))) ts)) (sym a.0) none_have))
      ghost_names c n (Some (ghosts.Predicate ts)) is e =
          subst (Names (term_of_head (ghost_head c (Some (ghosts.Predicate ts)))) first) (same_scheme e) (applied (at_sort (predicate_sort ts)) (settling s.known) first (predicate (is (ghosts.Predicate ts) refl)) refl none_have)
      ghost_names c n (Some (ghosts.Fixpoint f)) is e = absurd cc
      ghost_names c n (Some (ghosts.PredicateConstructor k)) is e = absurd cc
      ghost_names c n (Some (ghosts.Datatype d)) is e = absurd cc
      ghost_names c n (Some (ghosts.Family f)) is e = absurd cc
      ghost_names c n (Some (ghosts.Lemma l)) is e = absurd cc
      ghost_names c n None is e = absurd cc

      meaning_names : (d : Declaration) → at_name s.scope.names s.scope.declarations x ≡ Some d → (m : Meaning) → d.meaning ≡ m → declared_scheme s.scope p x (Some m) ≡ Ok g → Names (term_of_head (meant_head s x d.files m)) first g
      meaning_names d found (meanings.Ghost n) means e =
          ghost_names (identity_of s.paths d.files x) n (ghost_of s.scope n) (λ o is. record { named = record { name = x; declaration = d; found = found; means = means; is = refl }; stands = is }) e
      meaning_names d found (meanings.Function n) means e =
          subst (Names (term_of_head (meant_head s x d.files (meanings.Function n))) first) (same_scheme e)
          (applied (at_sort pointer_sort) (settling s.known) first (function (record { name = x; declaration = d; found = found; means = means; is = refl })) refl none_have)
      meaning_names d found (meanings.FunctionType n) means e = absurd cc

      later_names : (o : Option (List Sort)) → later_predicate s.scope x p.file ≡ o → (b : Bool) → is_later_predicate s.scope x p.file ≡ b → later_scheme p o ≡ Ok g
          → Names (term_of_head (if b then Some (Predicate (identity_of s.paths (files_or_none (at_name s.scope.predicates s.scope.predicate_files x)) x)) else None)) first g
      later_names None stands b is e = absurd cc
      later_names (Some ts) stands true is e =
          let c = identity_of s.paths (files_or_none (at_name s.scope.predicates s.scope.predicate_files x)) x in
          subst (Names (term_of_head (Some (Predicate c))) first) (same_scheme e) (applied (at_sort (predicate_sort ts)) (settling s.known) first (later_predicate_ x p.file stands refl) refl none_have)
      later_names (Some ts) stands false is e =
          absurd (let q : None ≡ Some ts = ap (λ b. if b then at_name s.scope.predicates s.scope.predicate_sorts x else None) (sym is) ∙ stands in cc)

      visible_names : (d : Declaration) → at_name s.scope.names s.scope.declarations x ≡ Some d → (b : Bool) → declared_scheme s.scope p x (if b then Some d.meaning else None) ≡ Ok g → Names (term_of_head (declared_head s x p.file (if b then Some d else None))) first g
      visible_names d found true e = meaning_names d found d.meaning refl e
      visible_names d found false e = later_names (later_predicate s.scope x p.file) refl (is_later_predicate s.scope x p.file) refl e

      found_names : (o : Option Declaration) → at_name s.scope.names s.scope.declarations x ≡ o → declared_scheme s.scope p x (declared_in s.scope p.file o) ≡ Ok g → Names (term_of_head (declared_head s x p.file (seen_from s.scope p.file o))) first g
      found_names (Some d) found e = visible_names d found (is_visible s.scope p.file d.files) e
      found_names None found e = later_names (later_predicate s.scope x p.file) refl (is_later_predicate s.scope x p.file) refl e

      -- a local
      local_there : (n : ℕ) → number_of s.scope.locals.names x ≡ Some n → slice_get s.scope.locals.meanings n ≡ None → ⊥
      local_there n is missing =
          let inside = slice_get_within s.scope.locals.names n x (name_there s.scope.locals.names x n is) in
          let outside = none_past s.scope.locals.meanings n missing in
          let same = gives.aligned in
          omega (arith, inside, outside, same)

      local_names : (n : ℕ) → number_of s.scope.locals.names x ≡ Some n → (o : Option Local) → slice_get s.scope.locals.meanings n ≡ o → local_scheme s.scope p x o ≡ Ok g → Names (local_term (slice_get s.locals n)) first g
      local_names n is (Some l) there e =
          subst (Names (local_term (slice_get s.locals n)) first) (same_scheme e) (as_one (gives.locals n l there) (none_used (settling s.known) first (sort_of_local l)))
      local_names n is None there e = absurd (local_there n is there)

      numbered_names : (o : Option ℕ) → number_of s.scope.locals.names x ≡ o → local_scheme s.scope p x (at_index s.scope.locals.meanings o) ≡ Ok g → Names (name_term s x p.file o) first g
      numbered_names (Some n) is e = local_names n is (slice_get s.scope.locals.meanings n) refl e
      numbered_names None is e = found_names (at_name s.scope.names s.scope.declarations x) refl e

      pub name_named : name_scheme s.scope p x ≡ Ok g → Names (term_of_name s x p.file) first g
      name_named e = numbered_names (number_of s.scope.locals.names x) refl e
