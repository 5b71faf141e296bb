-- The terms of names, and of names in front of arguments, have values of their sorts.
use Rattle.std.proofs.Common.{◌≡◌, ℕ, Bool, true, false, List, [], ◌∷◌, Option, Some, None, Result, Ok, Err, refl, sym, subst, ap, ◌∙◌, arith}
use Rattle.std.specs.Prelude.{map, if◌then◌else◌, ◌&&◌, drop, slice_get, nat_eq, codes}
use Rattle.std.specs.List.{starts_with}
use Rattle.std.proofs.lemmas.Option.{slice_get_within}
use Rattle.vf_base.specs.declared.place.Place.{Place}
use Rattle.vf_base.specs.declared.refusal.Refusal.{Refusal}
use Rattle.vf_tree.specs.Core.{Identity}
use Rattle.vf_names.specs.Names.{number_of}
use Rattle.vf_names.proofs.Numbering.{name_there}
use Rattle.vf_model.specs.Values.{Value, Values, none, more}
use Rattle.vf_model.specs.Values as values
use Rattle.vf_meaning.specs.Valuations.{Valuation}
use Rattle.vf_meaning.specs.GhostValues.{Interpretation}
use Rattle.vf_closure.specs.Terms.{Kind, Head, Predicate, Term}
use Rattle.vf_closure.specs.Values.{value, all_values}
use Rattle.vf_formula.specs.Rows.{row}
use Rattle.vf_sorts.specs.Sorts.{Sort}
use Rattle.vf_sorts.specs.Told.{AreAlike, untold}
use Rattle.vf_sorts.specs.Unknowns.{Filling, any_sort, instance, settling}
use Rattle.vf_declared.specs.declared.declaration.Constructor.{Constructor}
use Rattle.vf_declared.specs.declared.declaration.Declaration.{Declaration}
use Rattle.vf_declared.specs.declared.declaration.Fixpoint as declaration
use Rattle.vf_declared.specs.declared.declaration.GhostDeclaration.{GhostDeclaration}
use Rattle.vf_declared.specs.declared.declaration.GhostDeclaration.TheVariants as ghosts
use Rattle.vf_declared.specs.declared.declaration.Meaning.{Meaning}
use Rattle.vf_declared.specs.declared.declaration.Meaning.TheVariants as meanings
use Rattle.vf_declared.specs.declared.locals.Local.{Local}
use Rattle.vf_declared.specs.Scopes.{at_index, at_name, datatype_of, declaration_of, declared_in, ghost_of, is_later_predicate, is_visible, later_predicate}
use Rattle.vf_sorting.specs.declared.scheme.Scheme.{Scheme}
use Rattle.vf_sorting.specs.Kinds.{bool_sort, predicate_sort}
use Rattle.vf_sorting.specs.Schemes.{applied_ghost, applied_scheme, application_scheme, at_sort, constant_scheme, constructor_scheme, count_in, declared_scheme, ghost_scheme, is_function_type, later_scheme, local_scheme, name_scheme, sort_of_local, test_scheme, tests_type, used_parameters}
use Rattle.vf_sorting.proofs.Lists.{none_past}
use Rattle.vf_terms.specs.Settings.{Setting, kind_of_sort, settled}
use Rattle.vf_terms.specs.Named.{applied_by, applied_ghost_head, applied_head, applied_term, declaration_seen, declared_head, files_or_none, ghost_head, identity_of, local_term, meant_head, name_term, seen_from, term_of_head, term_of_name, test_by, test_head}
use Rattle.vf_fixpoint_laws.specs.values.Instances.{Instance, placed, settled_at}
use Rattle.vf_fixpoint_laws.specs.values.Declares.{BuildsPredicates, BuildsTerms, Covers, Declared, Declares, constructed, file_level, declared, made, made_scheme, later}
use Rattle.vf_fixpoint_laws.specs.values.Worth.{Sets, HaveValues, HasValue}
use Rattle.vf_fixpoint_laws.specs.values.Given.{GivesValues, KeepsSortsAt, TermKeepsSorts, TermsKeepSorts}
use Rattle.vf_fixpoint_laws.proofs.values.Placing.{fresh_at, instance_used, none_used, unknown_at}
use Rattle.vf_fixpoint_laws.proofs.values.Having.{kinded}

-- a name may be used at something
abbrev may_be : Scheme → Result Scheme Refusal
may_be g = Ok g

same_scheme : {g k : Scheme} → may_be g ≡ may_be k → g ≡ k
same_scheme e = cc

module _ (unit : Declared) (s : Setting) (i : Interpretation) (v : Valuation) (sets : Sets) (places : Instance) (covers : Covers unit (file_level s)) where
  -- a sort of a declaration where so many unknown sorts, from a first on, stand for its type parameters
  abbrev pub Use : ℕ → ℕ → Sort → Sort
  Use first n t = settled_at s places (instance first n t)

  -- what stands for its type parameters and for unknown sorts, as they are known in the end
  abbrev pub fresh : ℕ → ℕ → Instance
  fresh first n = fresh_at places any_sort (settling s.known) first n

  abbrev pub unknown : Filling
  unknown u = unknown_at places any_sort (settling s.known) u

  used : (first n : ℕ) (t : Sort) → Use first n t ≡ placed (fresh first n) unknown t
  used first n t = instance_used places any_sort (settling s.known) first n t

  all_used : (first n : ℕ) (ts : List Sort) → map (Use first n) ts ≡ map (placed (fresh first n) unknown) ts
  all_used first n ts = λ j. map (λ t. used first n t j) ts

  -- ---- what is declared, at arguments of its sorts
  -- what may be used so gives a value of its sort at arguments of its sorts
  abbrev pub Gives : (Values → Value) → Scheme → ℕ → Type 0
  Gives f x first = (vs : Values) → HaveValues unit sets vs (map (Use first x.parameters) x.arguments) → HasValue unit sets (f vs) (Use first x.parameters x.result)

  whole_used : (x : Scheme) (first : ℕ) → AreAlike (placed (fresh first x.parameters) unknown x.result) (Use first x.parameters x.result)
  whole_used x first = ap untold (sym (used first x.parameters x.result))

  parts_used : (x : Scheme) (first : ℕ) (vs : Values) → HaveValues unit sets vs (map (Use first x.parameters) x.arguments) → HaveValues unit sets vs (map (placed (fresh first x.parameters) unknown) x.arguments)
  parts_used x first vs have = subst (HaveValues unit sets vs) (all_used first x.parameters x.arguments) have

  constructor_gives : (c : Identity) (x : Scheme) → BuildsTerms (file_level s) c x → (first : ℕ) → Gives (values.Constructed c) x first
  constructor_gives c x (constructed is) first vs have = (x, covers.terms c x (constructed is), fresh first x.parameters, unknown, whole_used x first, parts_used x first vs have)

  predicate_gives : (p : Identity) (x : Scheme) → BuildsPredicates (file_level s) p x → (first : ℕ) → Gives (values.Predicate p) x first
  predicate_gives p x (declared is) first vs have = (x, covers.predicates p x (declared is), fresh first x.parameters, unknown, whole_used x first, parts_used x first vs have)
  predicate_gives p x (made is) first vs have = (x, covers.predicates p x (made is), fresh first x.parameters, unknown, whole_used x first, parts_used x first vs have)
  predicate_gives p x (later y from stands is) first vs have = (x, covers.predicates p x (later y from stands is), fresh first x.parameters, unknown, whole_used x first, parts_used x first vs have)

  fixpoint_gives : (c : Identity) (x : declaration.Fixpoint) → Declares (file_level s) c (ghosts.Fixpoint x) → (first n : ℕ) (vs : Values) → KeepsSortsAt unit i sets c vs → HaveValues unit sets vs (map (Use first n) x.arguments)
      → HasValue unit sets (i.fixpoint c vs) (Use first n x.result)
  fixpoint_gives c x is first n vs keeps have =
      subst (HasValue unit sets (i.fixpoint c vs)) (sym (used first n x.result)) (keeps x (covers.declares c (ghosts.Fixpoint x) is) (fresh first n) unknown (subst (HaveValues unit sets vs) (all_used first n x.arguments) have))

  -- ---- names in front of arguments
  -- arguments have values of a scheme's sorts, where the fixpoints that they apply keep sorts there
  abbrev pub HaveSorts : List Term → ℕ → Scheme → Type 0
  HaveSorts xs first g = TermsKeepSorts unit i v sets (row xs) → HaveValues unit sets (all_values i v (row xs)) (map (Use first g.parameters) g.arguments)

  -- so has the term of a head, which depends on the kind of the whole, over arguments
  abbrev pub Applies : (Kind → Option Head) → List Term → ℕ → Scheme → Type 0
  Applies h xs first g = HaveSorts xs first g → TermKeepsSorts unit i v sets (applied_term (h (kind_of_sort (settled s (instance first g.parameters g.result)))) xs)
      → HasValue unit sets (value i v (applied_term (h (kind_of_sort (settled s (instance first g.parameters g.result)))) xs)) (Use first g.parameters g.result)

  module _ (p : Place) (x : List ℕ) (xs : List Term) (first : ℕ) (g : Scheme) where
    ghost_applies : (c : Identity) (n : ℕ) (o : Option GhostDeclaration) → ((d : GhostDeclaration) → o ≡ Some d → Declares (file_level s) c d) → applied_ghost s.scope s.context.own p n o ≡ Ok g → Applies (λ k. applied_ghost_head k c o) xs first g
    ghost_applies c n (Some (ghosts.Constructor k)) is e = subst (Applies (λ q. applied_ghost_head q c (Some (ghosts.Constructor k))) xs first) (same_scheme e) (λ have keeps. constructor_gives c (constructor_scheme s.scope k) (constructed (is (ghosts.Constructor k) refl)) first (all_values i v (row xs)) (have keeps.1))
    ghost_applies c n (Some (ghosts.Fixpoint f)) is e =
        subst (Applies (λ q. applied_ghost_head q c (Some (ghosts.Fixpoint f))) xs first) (same_scheme e)
        (λ have keeps. kinded unit sets places any_sort (i.fixpoint c (all_values i v (row xs))) (settled s (instance first (used_parameters s.context.own n f.parameters) f.result))
        (fixpoint_gives c f (is (ghosts.Fixpoint f) refl) first (used_parameters s.context.own n f.parameters) (all_values i v (row xs)) keeps.0 (have keeps.1)))
    ghost_applies c n (Some (ghosts.PredicateConstructor k)) is e =
        subst (Applies (λ q. applied_ghost_head q c (Some (ghosts.PredicateConstructor k))) xs first) (same_scheme e) (λ have keeps. predicate_gives c (made_scheme k) (made (is (ghosts.PredicateConstructor k) refl)) first (all_values i v (row xs)) (have keeps.1))
    ghost_applies c n (Some (ghosts.Datatype d)) is e = absurd cc
    ghost_applies c n (Some (ghosts.Predicate ts)) is e = absurd cc
    ghost_applies c n (Some (ghosts.Family f)) is e = absurd cc
    ghost_applies c n (Some (ghosts.Lemma l)) is e = absurd cc
    ghost_applies c n None is e = absurd cc

    meaning_applies : (d : Declaration) → at_name s.scope.names s.scope.declarations x ≡ Some d → (m : Meaning) → d.meaning ≡ m → applied_scheme s.scope s.context.own p x (Some m) ≡ Ok g → Applies (λ k. applied_by s k x d.files m) xs first g
    meaning_applies d found (meanings.Ghost n) means e =
        ghost_applies (identity_of s.paths d.files x) n (ghost_of s.scope n) (λ o is. record { name = x; declaration = d; number = n; found = found; means = means; stands = is; is = refl }) e
    meaning_applies d found (meanings.Function n) means e = absurd cc
    meaning_applies d found (meanings.FunctionType n) means e = absurd cc

    -- `is_T`
    test_meant : (d : Declaration) (m : Meaning) → is_function_type (Some m) ≡ true → HasValue unit sets (value i v (applied_term (test_by s x d.files m) xs)) bool_sort
    test_meant d (meanings.FunctionType n) e = refl
    test_meant d (meanings.Function n) e = absurd cc
    test_meant d (meanings.Ghost n) e = absurd cc

    test_visible : (d : Declaration) (b : Bool) → is_function_type (if b then Some d.meaning else None) ≡ true → HasValue unit sets (value i v (applied_term (test_head s x (if b then Some d else None)) xs)) bool_sort
    test_visible d true e = test_meant d d.meaning e
    test_visible d false e = absurd cc

    test_found : (o : Option Declaration) → is_function_type (declared_in s.scope p.file o) ≡ true → HasValue unit sets (value i v (applied_term (test_head s x (seen_from s.scope p.file o)) xs)) bool_sort
    test_found (Some d) e = test_visible d (is_visible s.scope p.file d.files) e
    test_found None e = absurd cc

    both : (a b : Bool) → (a && b) ≡ true → b ≡ true
    both true b e = e
    both false b e = absurd cc

    test_applies : (b : Bool) (r : Refusal) → tests_type s.scope x p.file ≡ b → (if b then Ok test_scheme else Err r) ≡ Ok g → Applies (λ k. test_head s x (declaration_seen s.scope (drop 3 x) p.file)) xs first g
    test_applies true r is e =
        subst (Applies (λ k. test_head s x (declaration_seen s.scope (drop 3 x) p.file)) xs first) (same_scheme e)
        (λ have keeps. test_found (at_name s.scope.names s.scope.declarations (drop 3 x)) (both (starts_with nat_eq x (codes "is_")) (is_function_type (declaration_of s.scope (drop 3 x) p.file)) is))
    test_applies false r is e = absurd cc

    visible_applies : (d : Declaration) → at_name s.scope.names s.scope.declarations x ≡ Some d → (b : Bool) → applied_scheme s.scope s.context.own p x (if b then Some d.meaning else None) ≡ Ok g → Applies (λ k. applied_head s k x p.file (if b then Some d else None)) xs first g
    visible_applies d found true e = meaning_applies d found d.meaning refl e
    visible_applies d found false e = test_applies (tests_type s.scope x p.file) _ refl e

    found_applies : (o : Option Declaration) → at_name s.scope.names s.scope.declarations x ≡ o → applied_scheme s.scope s.context.own p x (declared_in s.scope p.file o) ≡ Ok g → Applies (λ k. applied_head s k x p.file (seen_from s.scope p.file o)) xs first g
    found_applies (Some d) found e = visible_applies d found (is_visible s.scope p.file d.files) e
    found_applies None found e = test_applies (tests_type s.scope x p.file) _ refl e

    pub application_applies : application_scheme s.scope s.context.own p x ≡ Ok g → Applies (λ k. applied_head s k x p.file (declaration_seen s.scope x p.file)) xs first g
    application_applies e = found_applies (at_name s.scope.names s.scope.declarations x) refl e

  -- ---- names as values
  module _ (gives : GivesValues unit s i v sets places) where
    -- a term has a value of a scheme's sort
    abbrev pub Names : Term → ℕ → Scheme → Type 0
    Names t first g = HasValue unit sets (value i v t) (Use first g.parameters g.result)

    module _ (p : Place) (x : List ℕ) (first : ℕ) (g : Scheme) where
      no_arguments : (k : Constructor) (ts : List Sort) → k.arguments ≡ ts → constant_scheme s.scope p k ts ≡ Ok g → (k.arguments ≡ []) × (constructor_scheme s.scope k ≡ g)
      no_arguments k [] is e = (is, same_scheme e)
      no_arguments k (t ∷ ts) is e = absurd cc

      ghost_names : (c : Identity) (o : Option GhostDeclaration) → ((d : GhostDeclaration) → o ≡ Some d → Declares (file_level s) c d) → ghost_scheme s.scope p o ≡ Ok g → Names (term_of_head (ghost_head c o)) first g
      ghost_names c (Some (ghosts.Constructor k)) is e =
          let a = no_arguments k k.arguments refl e in
          subst (Names (term_of_head (ghost_head c (Some (ghosts.Constructor k)))) first) a.1
          (constructor_gives c (constructor_scheme s.scope k) (constructed (is (ghosts.Constructor k) refl)) first none
          (subst (λ (ts : List Sort). HaveValues unit sets none (map (Use first (count_in (datatype_of s.scope k.datatype))) ts)) (sym a.0) tt))
      ghost_names c (Some (ghosts.Predicate ts)) is e =
          subst (Names (term_of_head (ghost_head c (Some (ghosts.Predicate ts)))) first) (same_scheme e) (predicate_gives c (at_sort (predicate_sort ts)) (declared (is (ghosts.Predicate ts) refl)) first none tt)
      ghost_names c (Some (ghosts.Fixpoint f)) is e = absurd cc
      ghost_names c (Some (ghosts.PredicateConstructor k)) is e = absurd cc
      ghost_names c (Some (ghosts.Datatype d)) is e = absurd cc
      ghost_names c (Some (ghosts.Family f)) is e = absurd cc
      ghost_names c (Some (ghosts.Lemma l)) is e = absurd cc
      ghost_names c None is e = absurd cc

      meaning_names : (d : Declaration) → at_name s.scope.names s.scope.declarations x ≡ Some d → (m : Meaning) → d.meaning ≡ m → declared_scheme s.scope p x (Some m) ≡ Ok g → Names (term_of_head (meant_head s x d.files m)) first g
      meaning_names d found (meanings.Ghost n) means e =
          ghost_names (identity_of s.paths d.files x) (ghost_of s.scope n) (λ o is. record { name = x; declaration = d; number = n; found = found; means = means; stands = is; is = refl }) e
      meaning_names d found (meanings.Function n) means e = subst (Names (term_of_head (meant_head s x d.files (meanings.Function n))) first) (same_scheme e) refl
      meaning_names d found (meanings.FunctionType n) means e = absurd cc

      later_names : (o : Option (List Sort)) → later_predicate s.scope x p.file ≡ o → (b : Bool) → is_later_predicate s.scope x p.file ≡ b → later_scheme p o ≡ Ok g
          → Names (term_of_head (if b then Some (Predicate (identity_of s.paths (files_or_none (at_name s.scope.predicates s.scope.predicate_files x)) x)) else None)) first g
      later_names None stands b is e = absurd cc
      later_names (Some ts) stands true is e =
          let c = identity_of s.paths (files_or_none (at_name s.scope.predicates s.scope.predicate_files x)) x in
          subst (Names (term_of_head (Some (Predicate c))) first) (same_scheme e) (predicate_gives c (at_sort (predicate_sort ts)) (later x p.file stands refl) first none tt)
      later_names (Some ts) stands false is e =
          absurd (let q : None ≡ Some ts = ap (λ b. if b then at_name s.scope.predicates s.scope.predicate_sorts x else None) (sym is) ∙ stands in cc)

      visible_names : (d : Declaration) → at_name s.scope.names s.scope.declarations x ≡ Some d → (b : Bool) → declared_scheme s.scope p x (if b then Some d.meaning else None) ≡ Ok g → Names (term_of_head (declared_head s x p.file (if b then Some d else None))) first g
      visible_names d found true e = meaning_names d found d.meaning refl e
      visible_names d found false e = later_names (later_predicate s.scope x p.file) refl (is_later_predicate s.scope x p.file) refl e

      found_names : (o : Option Declaration) → at_name s.scope.names s.scope.declarations x ≡ o → declared_scheme s.scope p x (declared_in s.scope p.file o) ≡ Ok g → Names (term_of_head (declared_head s x p.file (seen_from s.scope p.file o))) first g
      found_names (Some d) found e = visible_names d found (is_visible s.scope p.file d.files) e
      found_names None found e = later_names (later_predicate s.scope x p.file) refl (is_later_predicate s.scope x p.file) refl e

      -- a local
      local_there : (n : ℕ) → number_of s.scope.locals.names x ≡ Some n → slice_get s.scope.locals.meanings n ≡ None → ⊥
      local_there n is missing =
          let inside = slice_get_within s.scope.locals.names n x (name_there s.scope.locals.names x n is) in
          let outside = none_past s.scope.locals.meanings n missing in
          let same = gives.aligned in
          omega (arith, inside, outside, same)

      local_names : (n : ℕ) → number_of s.scope.locals.names x ≡ Some n → (o : Option Local) → slice_get s.scope.locals.meanings n ≡ o → local_scheme s.scope p x o ≡ Ok g → Names (local_term (slice_get s.locals n)) first g
      local_names n is (Some l) there e =
          subst (Names (local_term (slice_get s.locals n)) first) (same_scheme e) (subst (HasValue unit sets (value i v (local_term (slice_get s.locals n)))) (none_used places any_sort (settling s.known) first (sort_of_local l)) (gives.locals n l there))
      local_names n is None there e = absurd (local_there n is there)

      numbered_names : (o : Option ℕ) → number_of s.scope.locals.names x ≡ o → local_scheme s.scope p x (at_index s.scope.locals.meanings o) ≡ Ok g → Names (name_term s x p.file o) first g
      numbered_names (Some n) is e = local_names n is (slice_get s.scope.locals.meanings n) refl e
      numbered_names None is e = found_names (at_name s.scope.names s.scope.declarations x) refl e

      pub name_named : name_scheme s.scope p x ≡ Ok g → Names (term_of_name s x p.file) first g
      name_named e = numbered_names (number_of s.scope.locals.names x) refl e
