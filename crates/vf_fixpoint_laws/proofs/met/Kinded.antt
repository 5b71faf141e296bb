-- Terms that are read of a sort of integers are terms of integers.
use Rattle.std.proofs.Common.{◌≡◌, ℕ, ◌+◌, Bool, true, false, List, [], ◌∷◌, Option, Some, None, Result, Ok, Err, refl, sym, subst, ap, ◌∙◌}
use Rattle.std.specs.Prelude.{◌&&◌, if◌then◌else◌, nat_eq, pos, slice_get}
use Rattle.vf_base.specs.declared.place.Place.{Place}
use Rattle.vf_base.specs.declared.refusal.Refusal.{Refusal}
use Rattle.vf_tree.specs.Core.{Identity}
use Rattle.vf_names.specs.Names.{number_of}
use Rattle.vf_closure.specs.Terms.{Kind, Integer, Other, Head, Term, term, kind_of}
use Rattle.vf_closure.specs.Terms as terms
use Rattle.vf_sorts.specs.declared.sort.Head.TheVariants as heads
use Rattle.vf_sorts.specs.Sorts.{Sort, sort}
use Rattle.vf_sorts.specs.Unknowns.{Filling, Known, instance, leaf, settling}
use Rattle.vf_syntax.specs.GhostExprTree.{GhostExprTree, GhostExprTrees, GhostLinkTree, GhostLinkTrees, no_ghost_link, more_ghost_link}
use Rattle.vf_syntax.specs.GhostExprTree as tree
use Rattle.vf_syntax.specs.declared.operator.BinaryOperator.{BinaryOperator}
use Rattle.vf_syntax.specs.declared.operator.BinaryOperator.TheVariants as operators
use Rattle.vf_syntax.specs.declared.operator.UnaryOperator.TheVariants as unaries
use Rattle.vf_declared.specs.declared.declaration.Constructor.{Constructor}
use Rattle.vf_declared.specs.declared.declaration.Declaration.{Declaration}
use Rattle.vf_declared.specs.declared.declaration.GhostDeclaration.{GhostDeclaration}
use Rattle.vf_declared.specs.declared.declaration.GhostDeclaration.TheVariants as ghosts
use Rattle.vf_declared.specs.declared.declaration.Meaning.{Meaning}
use Rattle.vf_declared.specs.declared.declaration.Meaning.TheVariants as meanings
use Rattle.vf_declared.specs.declared.locals.Local.{Local}
use Rattle.vf_declared.specs.Scopes.{at_index, at_name, declared_in, ghost_of, is_visible, later_predicate}
use Rattle.vf_sorting.specs.declared.scheme.Scheme.{Scheme}
use Rattle.vf_sorting.specs.HasSort.{HasSort, number, truth, falsehood, result, this_, thread, name_, application, parenthesized, conditional, prefixed, chain}
use Rattle.vf_sorting.specs.Kinds.{int_sort, pointer_sort}
use Rattle.vf_sorting.specs.Operators.{is_equality, is_null, moves}
use Rattle.vf_sorting.specs.Schemes.{applied_ghost, applied_scheme, application_scheme, constant_scheme, declared_scheme, ghost_scheme, later_scheme, local_scheme, name_scheme, sort_of_local, test_scheme, tests_type}
use Rattle.vf_terms.specs.Settings.{Setting, kind_of_sort, settled}
use Rattle.vf_terms.specs.Named.{applied_by, applied_ghost_head, applied_head, applied_term, declaration_seen, declared_head, ghost_head, identity_of, local_term, meant_head, name_term, scheme_or_int, seen_from, term_of_head, term_of_name}
use Rattle.vf_terms.specs.Readings.{applied_at, beside_by, linked, null_term, read, read_all, read_link, read_links, reading, used_at}
use Rattle.vf_terms.specs.Readings as readings
use Rattle.vf_terms.specs.declared.reading.Reading.{Reading}
use Rattle.vf_fixpoint_laws.specs.values.Instances.{Instance, placed}
use Rattle.vf_fixpoint_laws.proofs.values.Placing.{none_used}

-- the kind of a term
abbrev pub kind_in : Term → Kind
kind_in (term h ts) = kind_of h

-- a term of a sort of integers is one of integers
abbrev pub IsKindedAt : Sort → Term → Type 0
IsKindedAt t x = kind_of_sort t ≡ Integer → kind_in x ≡ Integer

-- so is the term of a reading
abbrev pub IsKinded : Reading → Type 0
IsKinded r = IsKindedAt r.sort r.term

-- the term of a local is one of integers where its sort is, and where there is no local
abbrev pub IsLocalKinded : Setting → Option Local → Term → Type 0
IsLocalKinded s None x = kind_in x ≡ Integer
IsLocalKinded s (Some l) x = IsKindedAt (settled s (sort_of_local l)) x

-- the same of all that stands in a setting
pub record IsKindedSetting (s : Setting) : Type 0 where
  pub locals : (n : ℕ) → IsLocalKinded s (slice_get s.scope.locals.meanings n) (local_term (slice_get s.locals n))
  pub result : kind_in s.result ≡ Integer
  pub thread : kind_in s.thread ≡ Integer

-- a name may be used at something
abbrev may_be : Scheme → Result Scheme Refusal
may_be g = Ok g

same_scheme : {g k : Scheme} → may_be g ≡ may_be k → g ≡ k
same_scheme e = cc

-- ---- a sort that is used without type parameters
-- each type parameter, and each unknown sort, as it is
abbrev as_parameters : Instance
as_parameters i = leaf (heads.Parameter i)

abbrev as_unknowns : Filling
as_unknowns u = leaf (heads.Unknown u)

kind_placed : (t : Sort) → kind_of_sort (placed as_parameters as_unknowns t) ≡ kind_of_sort t
kind_placed (sort heads.Int ts) = refl
kind_placed (sort heads.Bool ts) = refl
kind_placed (sort (heads.Pointer w) ts) = refl
kind_placed (sort heads.Real ts) = refl
kind_placed (sort heads.Any ts) = refl
kind_placed (sort (heads.Parameter i) ts) = refl
kind_placed (sort (heads.Unknown u) ts) = refl
kind_placed (sort (heads.Datatype d) ts) = refl
kind_placed (sort heads.Predicate ts) = refl

alone_kind : (s : Setting) (u : ℕ) (t : Sort) → kind_of_sort (settled s (instance u 0 t)) ≡ kind_of_sort (settled s t)
alone_kind s u t = sym (kind_placed (settled s (instance u 0 t))) ∙ ap kind_of_sort (sym (none_used as_parameters as_unknowns (settling s.known) u t)) ∙ kind_placed (settled s t)

module _ (s : Setting) (given : IsKindedSetting s) where
  -- a scheme's sort where it is used
  abbrev Whole : ℕ → Scheme → Sort
  Whole u g = settled s (instance u g.parameters g.result)

  -- ---- names
  abbrev Names : ℕ → Term → Scheme → Type 0
  Names u x g = IsKindedAt (Whole u g) x

  module _ (p : Place) (x : List ℕ) (u : ℕ) (g : Scheme) where
    constant_names : (k : Constructor) (ts : List Sort) (t : Term) → constant_scheme s.scope p k ts ≡ Ok g → Names u t g
    constant_names k [] t e = subst (Names u t) (same_scheme e) (λ q. absurd cc)
    constant_names k (y ∷ ts) t e = absurd cc

    ghost_names : (c : Identity) (o : Option GhostDeclaration) → ghost_scheme s.scope p o ≡ Ok g → Names u (term_of_head (ghost_head c o)) g
    ghost_names c (Some (ghosts.Constructor k)) e = constant_names k k.arguments (term_of_head (ghost_head c (Some (ghosts.Constructor k)))) e
    ghost_names c (Some (ghosts.Predicate ts)) e = subst (Names u (term_of_head (ghost_head c (Some (ghosts.Predicate ts))))) (same_scheme e) (λ q. absurd cc)
    ghost_names c (Some (ghosts.Fixpoint f)) e = absurd cc
    ghost_names c (Some (ghosts.PredicateConstructor k)) e = absurd cc
    ghost_names c (Some (ghosts.Datatype d)) e = absurd cc
    ghost_names c (Some (ghosts.Family f)) e = absurd cc
    ghost_names c (Some (ghosts.Lemma l)) e = absurd cc
    ghost_names c None e = absurd cc

    meaning_names : (files : List ℕ) (m : Meaning) → declared_scheme s.scope p x (Some m) ≡ Ok g → Names u (term_of_head (meant_head s x files m)) g
    meaning_names files (meanings.Ghost n) e = ghost_names (identity_of s.paths files x) (ghost_of s.scope n) e
    meaning_names files (meanings.Function n) e = subst (Names u (term_of_head (meant_head s x files (meanings.Function n)))) (same_scheme e) (λ q. absurd cc)
    meaning_names files (meanings.FunctionType n) e = absurd cc

    later_names : (o : Option (List Sort)) (t : Term) → later_scheme p o ≡ Ok g → Names u t g
    later_names None t e = absurd cc
    later_names (Some ts) t e = subst (Names u t) (same_scheme e) (λ q. absurd cc)

    found_names : (o : Option Declaration) → declared_scheme s.scope p x (declared_in s.scope p.file o) ≡ Ok g → Names u (term_of_head (declared_head s x p.file (seen_from s.scope p.file o))) g
    found_names None e = later_names (later_predicate s.scope x p.file) (term_of_head (declared_head s x p.file None)) e
    found_names (Some d) e = by (is_visible s.scope p.file d.files) e
      where
        by : (b : Bool) → declared_scheme s.scope p x (if b then Some d.meaning else None) ≡ Ok g → Names u (term_of_head (declared_head s x p.file (if b then Some d else None))) g
        by true e = meaning_names d.files d.meaning e
        by false e = later_names (later_predicate s.scope x p.file) (term_of_head (declared_head s x p.file None)) e

    local_names : (o : Option Local) (t : Term) → IsLocalKinded s o t → local_scheme s.scope p x o ≡ Ok g → Names u t g
    local_names None t h e = λ q. h
    local_names (Some l) t h e = subst (Names u t) (same_scheme e) (λ q. h (sym (alone_kind s u (sort_of_local l)) ∙ q))

    numbered_names : (o : Option ℕ) → local_scheme s.scope p x (at_index s.scope.locals.meanings o) ≡ Ok g → Names u (name_term s x p.file o) g
    numbered_names (Some n) e = local_names (slice_get s.scope.locals.meanings n) (local_term (slice_get s.locals n)) (given.locals n) e
    numbered_names None e = found_names (at_name s.scope.names s.scope.declarations x) e

    name_kinded : name_scheme s.scope p x ≡ Ok g → Names u (term_of_name s x p.file) g
    name_kinded e = numbered_names (number_of s.scope.locals.names x) e

  -- ---- names in front of arguments
  -- the term of a head, which depends on the kind of the whole, over arguments
  abbrev Applies : ℕ → (Kind → Option Head) → List Term → Scheme → Type 0
  Applies u h ts g = IsKindedAt (Whole u g) (applied_term (h (kind_of_sort (Whole u g))) ts)

  module _ (p : Place) (x : List ℕ) (u : ℕ) (ts : List Term) (g : Scheme) where
    ghost_applies : (c : Identity) (n : ℕ) (o : Option GhostDeclaration) → applied_ghost s.scope s.context.own p n o ≡ Ok g → Applies u (λ k. applied_ghost_head k c o) ts g
    ghost_applies c n (Some (ghosts.Fixpoint f)) e = λ q. q
    ghost_applies c n (Some (ghosts.Constructor k)) e = subst (Applies u (λ q. applied_ghost_head q c (Some (ghosts.Constructor k))) ts) (same_scheme e) (λ q. absurd cc)
    ghost_applies c n (Some (ghosts.PredicateConstructor k)) e = subst (Applies u (λ q. applied_ghost_head q c (Some (ghosts.PredicateConstructor k))) ts) (same_scheme e) (λ q. absurd cc)
    ghost_applies c n (Some (ghosts.Datatype d)) e = absurd cc
    ghost_applies c n (Some (ghosts.Predicate ss)) e = absurd cc
    ghost_applies c n (Some (ghosts.Family f)) e = absurd cc
    ghost_applies c n (Some (ghosts.Lemma l)) e = absurd cc
    ghost_applies c n None e = absurd cc

    meaning_applies : (files : List ℕ) (m : Meaning) → applied_scheme s.scope s.context.own p x (Some m) ≡ Ok g → Applies u (λ k. applied_by s k x files m) ts g
    meaning_applies files (meanings.Ghost n) e = ghost_applies (identity_of s.paths files x) n (ghost_of s.scope n) e
    meaning_applies files (meanings.Function n) e = absurd cc
    meaning_applies files (meanings.FunctionType n) e = absurd cc

    -- `is_T`
    test_applies : (h : Kind → Option Head) (b : Bool) (r : Refusal) → (if b then Ok test_scheme else Err r) ≡ Ok g → Applies u h ts g
    test_applies h true r e = subst (Applies u h ts) (same_scheme e) (λ q. absurd cc)
    test_applies h false r e = absurd cc

    found_applies : (o : Option Declaration) → applied_scheme s.scope s.context.own p x (declared_in s.scope p.file o) ≡ Ok g → Applies u (λ k. applied_head s k x p.file (seen_from s.scope p.file o)) ts g
    found_applies None e = test_applies (λ k. applied_head s k x p.file None) (tests_type s.scope x p.file) _ e
    found_applies (Some d) e = by (is_visible s.scope p.file d.files) e
      where
        by : (b : Bool) → applied_scheme s.scope s.context.own p x (if b then Some d.meaning else None) ≡ Ok g → Applies u (λ k. applied_head s k x p.file (if b then Some d else None)) ts g
        by true e = meaning_applies d.files d.meaning e
        by false e = test_applies (λ k. applied_head s k x p.file None) (tests_type s.scope x p.file) _ e

    application_kinded : application_scheme s.scope s.context.own p x ≡ Ok g → Applies u (λ k. applied_head s k x p.file (declaration_seen s.scope x p.file)) ts g
    application_kinded e = found_applies (at_name s.scope.names s.scope.declarations x) e

  -- ---- operators
  joined_kinded : (o : BinaryOperator) (x y : Reading) → IsKinded (readings.joined o x y)
  joined_kinded operators.Times x y q = refl
  joined_kinded operators.Divide x y q = refl
  joined_kinded operators.Remainder x y q = refl
  joined_kinded operators.Plus x y q = refl
  joined_kinded operators.Minus x y q = refl
  joined_kinded operators.Less x y q = absurd cc
  joined_kinded operators.LessOrEqual x y q = absurd cc
  joined_kinded operators.Greater x y q = absurd cc
  joined_kinded operators.GreaterOrEqual x y q = absurd cc
  joined_kinded operators.Equal x y q = absurd cc
  joined_kinded operators.NotEqual x y q = absurd cc
  joined_kinded operators.And x y q = absurd cc
  joined_kinded operators.Or x y q = absurd cc

  linked_kinded : (o : BinaryOperator) (n z : Bool) (x y : Reading) → IsKinded (linked o n z x y)
  linked_kinded o n z x y = by (is_equality o) (moves o x.sort)
    where
      by : (p q : Bool) → IsKinded (if p then readings.compared o (beside_by n z x y) else if q then readings.moved x y else readings.joined o x y)
      by true q = λ e. absurd cc
      by false true = λ e. absurd cc
      by false false = joined_kinded o x y

  links_kinded : (z : Bool) (x : Reading) (xs : GhostLinkTrees) → IsKinded x → IsKinded (read_links s z x xs)
  links_kinded z x no_ghost_link h = h
  links_kinded z x (more_ghost_link (tree.ghost_link q o a) ls) h = links_kinded false (read_link s z x (tree.ghost_link q o a)) ls (linked_kinded o (is_null a) z x (read s false x.next a))

  number_kinded : (w : Bool) (n u : ℕ) → IsKinded (readings.number_reading w n u)
  number_kinded w n u = by (w && nat_eq n 0)
    where
      by : (b : Bool) → IsKinded (if b then reading pointer_sort null_term u else reading int_sort (terms.number (pos n)) u)
      by true = λ q. absurd cc
      by false = λ q. refl

  -- ---- expressions
  pub has_kind : {k k' : Known} {e : GhostExprTree} {t : Sort} → HasSort s.scope s.context k e t k' → (w : Bool) (u : ℕ) → IsKinded (read s w u e)
  has_kind (number {n}) w u = number_kinded w n u
  has_kind truth w u = λ q. absurd cc
  has_kind falsehood w u = λ q. absurd cc
  has_kind (result is below) w u = λ q. given.result
  has_kind (this_ is) w u = λ q. absurd cc
  has_kind (thread is) w u = λ q. given.thread
  has_kind (name_ {p} {x} {g} is below) w u = subst (λ r. IsKinded (used_at s (scheme_or_int r) (term_of_name s x p.file) u)) (sym is) (name_kinded p x u g is)
  has_kind (application {p} {f} {xs} {g} local is below passed) w u =
      subst (λ r. IsKinded (applied_at s (scheme_or_int r) f p.file u (read_all s u (scheme_or_int r).parameters (scheme_or_int r).arguments (u + (scheme_or_int r).parameters) xs))) (sym is)
      (application_kinded p f u (read_all s u g.parameters g.arguments (u + g.parameters) xs).terms g is)
  has_kind (parenthesized h) w u = has_kind h w u
  has_kind (conditional test h m) true u = λ q. absurd cc
  has_kind (conditional test h m) false u = λ q. q
  has_kind (prefixed {o = unaries.Minus} p) w u = λ q. refl
  has_kind (prefixed {o = unaries.Not} p) w u = λ q. absurd cc
  has_kind (chain {a} {xs} h l) w u = links_kinded (is_null a) (read s false u a) xs (has_kind h false u)
