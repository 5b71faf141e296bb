-- Terms that are read apply fixpoints with results of integers as such.
use Rattle.std.proofs.Common.{◌≡◌, ℕ, ◌+◌, Bool, true, false, List, [], ◌∷◌, Option, Some, None, refl}
use Rattle.std.specs.Prelude.{◌&&◌, ◌||◌, drop, if◌then◌else◌, nat_eq, pos}
use Rattle.vf_base.specs.declared.place.Place.{Place}
use Rattle.vf_tree.specs.Core.{Identity}
use Rattle.vf_names.specs.Names.{number_of}
use Rattle.vf_closure.specs.Terms.{Kind, Integer, Head, Term, Terms, term, no_terms, and_term}
use Rattle.vf_closure.specs.Terms as terms
use Rattle.vf_formula.specs.Rows.{row}
use Rattle.vf_sorts.specs.declared.sort.Head.TheVariants as heads
use Rattle.vf_sorts.specs.Sorts.{Sort, sort}
use Rattle.vf_sorts.specs.Unknowns.{instance}
use Rattle.vf_syntax.specs.GhostExprTree.{GhostExprTree, GhostExprTrees, no_ghost_expr, more_ghost_expr, GhostLinkTree, GhostLinkTrees, no_ghost_link, more_ghost_link}
use Rattle.vf_syntax.specs.GhostExprTree as tree
use Rattle.vf_syntax.specs.declared.operator.BinaryOperator.{BinaryOperator}
use Rattle.vf_syntax.specs.declared.operator.BinaryOperator.TheVariants as operators
use Rattle.vf_syntax.specs.declared.operator.UnaryOperator.{UnaryOperator}
use Rattle.vf_syntax.specs.declared.operator.UnaryOperator.TheVariants as unaries
use Rattle.vf_declared.specs.declared.declaration.Declaration.{Declaration}
use Rattle.vf_declared.specs.declared.declaration.GhostDeclaration.{GhostDeclaration}
use Rattle.vf_declared.specs.declared.declaration.GhostDeclaration.TheVariants as ghosts
use Rattle.vf_declared.specs.declared.declaration.Meaning.{Meaning}
use Rattle.vf_declared.specs.declared.declaration.Meaning.TheVariants as meanings
use Rattle.vf_declared.specs.Scopes.{at_name, declared_in, ghost_of, is_later_predicate, is_visible}
use Rattle.vf_sorting.specs.declared.scheme.Scheme.{Scheme}
use Rattle.vf_sorting.specs.Kinds.{int_sort, is_any, is_pointer, pointer_sort, value_sort}
use Rattle.vf_sorting.specs.Operators.{is_equality, is_null, moves}
use Rattle.vf_sorting.specs.Schemes.{applied_ghost, applied_scheme, application_scheme, used_parameters}
use Rattle.vf_terms.specs.Settings.{Setting, kind_of_sort, settled}
use Rattle.vf_terms.specs.Named.{applied_by, applied_ghost_head, applied_head, applied_term, declaration_seen, declared_head, ghost_head, identity_of, later_head, meant_head, name_term, scheme_or_int, seen_from, term_of_head, test_by, test_head}
use Rattle.vf_terms.specs.Operated.{operator_head, prefixed_term}
use Rattle.vf_terms.specs.Readings.{beside_by, linked, null_term, number_reading, paired, read, read_all, read_link, read_links, reading}
use Rattle.vf_terms.specs.Readings as readings
use Rattle.vf_terms.specs.declared.reading.Reading.{Reading}
use Rattle.vf_terms.specs.declared.reading.Pair.{Pair}
use Rattle.vf_definitions.specs.declared.fixpoint.Fixpoint as definitions
use Rattle.vf_fixpoint_laws.specs.values.Declares.{Declares, file_level}
use Rattle.vf_fixpoint_laws.specs.bodies.Numbers.{HeadIsKinded, TermIsKinded, TermsAreKinded}
use Rattle.vf_fixpoint_laws.specs.bodies.Applied.{AreOfIntegers, IsSettingKinded, ReadingsAreKinded}

module _ (fs : List definitions.Fixpoint) (s : Setting) (integers : AreOfIntegers (file_level s) fs) (given : IsSettingKinded fs s) where
  -- what is so of a head that may be none
  abbrev MayBe : Option Head → Type 0
  MayBe None = Unit {0}
  MayBe (Some h) = HeadIsKinded fs h

  abbrev Is : Term → Type 0
  Is t = TermIsKinded fs t

  abbrev Are : Terms → Type 0
  Are ts = TermsAreKinded fs ts

  applied_kinded : (h : Option Head) (ts : List Term) → MayBe h → Are (row ts) → Is (applied_term h ts)
  applied_kinded None ts p q = (tt, tt)
  applied_kinded (Some h) ts p q = (p, q)

  head_kinded : (h : Option Head) → MayBe h → Is (term_of_head h)
  head_kinded None p = (tt, tt)
  head_kinded (Some h) p = (p, tt)

  -- ---- names in front of arguments
  kind_used : (t : Sort) (first n : ℕ) → kind_of_sort t ≡ Integer → kind_of_sort (settled s (instance first n t)) ≡ Integer
  kind_used (sort heads.Int ts) first n e = refl
  kind_used (sort heads.Bool ts) first n e = absurd cc
  kind_used (sort (heads.Pointer w) ts) first n e = absurd cc
  kind_used (sort heads.Real ts) first n e = absurd cc
  kind_used (sort heads.Any ts) first n e = absurd cc
  kind_used (sort (heads.Parameter i) ts) first n e = absurd cc
  kind_used (sort (heads.Unknown u) ts) first n e = absurd cc
  kind_used (sort (heads.Datatype d) ts) first n e = absurd cc
  kind_used (sort heads.Predicate ts) first n e = absurd cc

  -- the kind of the whole, where a name may be used so
  abbrev Whole : ℕ → Scheme → Kind
  Whole u g = kind_of_sort (settled s (instance u g.parameters g.result))

  ghost_applied : (p : Place) (n u : ℕ) (c : Identity) (o : Option GhostDeclaration) → ((d : GhostDeclaration) → o ≡ Some d → Declares (file_level s) c d) → MayBe (applied_ghost_head (Whole u (scheme_or_int (applied_ghost s.scope s.context.own p n o))) c o)
  ghost_applied p n u c (Some (ghosts.Fixpoint f)) is = λ e. kind_used f.result u (used_parameters s.context.own n f.parameters) (integers c e f (is (ghosts.Fixpoint f) refl))
  ghost_applied p n u c (Some (ghosts.Constructor k)) is = tt
  ghost_applied p n u c (Some (ghosts.PredicateConstructor k)) is = tt
  ghost_applied p n u c (Some (ghosts.Datatype d)) is = tt
  ghost_applied p n u c (Some (ghosts.Predicate ts)) is = tt
  ghost_applied p n u c (Some (ghosts.Family f)) is = tt
  ghost_applied p n u c (Some (ghosts.Lemma l)) is = tt
  ghost_applied p n u c None is = tt

  test_kinded : (x : List ℕ) (o : Option Declaration) → MayBe (test_head s x o)
  test_kinded x None = tt
  test_kinded x (Some d) = by d.meaning
    where
      by : (m : Meaning) → MayBe (test_by s x d.files m)
      by (meanings.FunctionType n) = tt
      by (meanings.Function n) = tt
      by (meanings.Ghost n) = tt

  meaning_applied : (p : Place) (x : List ℕ) (u : ℕ) (d : Declaration) → at_name s.scope.names s.scope.declarations x ≡ Some d → (m : Meaning) → d.meaning ≡ m → MayBe (applied_by s (Whole u (scheme_or_int (applied_scheme s.scope s.context.own p x (Some m)))) x d.files m)
  meaning_applied p x u d found (meanings.Ghost n) means =
      ghost_applied p n u (identity_of s.paths d.files x) (ghost_of s.scope n) (λ g is. record { name = x; declaration = d; number = n; found = found; means = means; stands = is; is = refl })
  meaning_applied p x u d found (meanings.Function n) means = tt
  meaning_applied p x u d found (meanings.FunctionType n) means = tt

  name_applied : (p : Place) (x : List ℕ) (u : ℕ) → MayBe (applied_head s (Whole u (scheme_or_int (application_scheme s.scope s.context.own p x))) x p.file (declaration_seen s.scope x p.file))
  name_applied p x u = by (at_name s.scope.names s.scope.declarations x) refl
    where
      seen : (d : Declaration) → at_name s.scope.names s.scope.declarations x ≡ Some d → (b : Bool)
          → MayBe (applied_head s (Whole u (scheme_or_int (applied_scheme s.scope s.context.own p x (if b then Some d.meaning else None)))) x p.file (if b then Some d else None))
      seen d found true = meaning_applied p x u d found d.meaning refl
      seen d found false = test_kinded x (declaration_seen s.scope (drop 3 x) p.file)

      by : (o : Option Declaration) → at_name s.scope.names s.scope.declarations x ≡ o → MayBe (applied_head s (Whole u (scheme_or_int (applied_scheme s.scope s.context.own p x (declared_in s.scope p.file o)))) x p.file (seen_from s.scope p.file o))
      by None found = test_kinded x (declaration_seen s.scope (drop 3 x) p.file)
      by (Some d) found = seen d found (is_visible s.scope p.file d.files)

  -- ---- names alone
  ghost_alone : (c : Identity) (o : Option GhostDeclaration) → MayBe (ghost_head c o)
  ghost_alone c (Some (ghosts.Constructor k)) = tt
  ghost_alone c (Some (ghosts.Predicate ts)) = tt
  ghost_alone c (Some (ghosts.Fixpoint f)) = tt
  ghost_alone c (Some (ghosts.PredicateConstructor k)) = tt
  ghost_alone c (Some (ghosts.Datatype d)) = tt
  ghost_alone c (Some (ghosts.Family f)) = tt
  ghost_alone c (Some (ghosts.Lemma l)) = tt
  ghost_alone c None = tt

  later_alone : (x : List ℕ) (from : ℕ) → MayBe (later_head s x from)
  later_alone x from = by (is_later_predicate s.scope x from) _
    where
      by : (b : Bool) (c : Identity) → MayBe (if b then Some (terms.Predicate c) else None)
      by true c = tt
      by false c = tt

  meant_alone : (x files : List ℕ) (m : Meaning) → MayBe (meant_head s x files m)
  meant_alone x files (meanings.Function n) = tt
  meant_alone x files (meanings.FunctionType n) = tt
  meant_alone x files (meanings.Ghost n) = ghost_alone (identity_of s.paths files x) (ghost_of s.scope n)

  declared_alone : (x : List ℕ) (from : ℕ) (o : Option Declaration) → MayBe (declared_head s x from o)
  declared_alone x from None = later_alone x from
  declared_alone x from (Some d) = meant_alone x d.files d.meaning

  name_alone : (x : List ℕ) (from : ℕ) (o : Option ℕ) → Is (name_term s x from o)
  name_alone x from None = head_kinded (declared_head s x from (declaration_seen s.scope x from)) (declared_alone x from (declaration_seen s.scope x from))
  name_alone x from (Some k) = given.locals k

  -- ---- operators
  operator_kinded : (o : BinaryOperator) → HeadIsKinded fs (operator_head o)
  operator_kinded operators.Times = tt
  operator_kinded operators.Divide = tt
  operator_kinded operators.Remainder = tt
  operator_kinded operators.Plus = tt
  operator_kinded operators.Minus = tt
  operator_kinded operators.Less = tt
  operator_kinded operators.LessOrEqual = tt
  operator_kinded operators.Greater = tt
  operator_kinded operators.GreaterOrEqual = tt
  operator_kinded operators.Equal = tt
  operator_kinded operators.NotEqual = tt
  operator_kinded operators.And = tt
  operator_kinded operators.Or = tt

  prefixed_kinded : (o : UnaryOperator) (t : Term) → Is t → Is (prefixed_term o t)
  prefixed_kinded unaries.Minus t e = (tt, ((tt, tt), (e, tt)))
  prefixed_kinded unaries.Not t e = (tt, (e, tt))

  number_kinded : (w : Bool) (n u : ℕ) → Is (number_reading w n u).term
  number_kinded w n u = by (w && nat_eq n 0)
    where
      by : (b : Bool) → Is (if b then reading pointer_sort null_term u else reading int_sort (terms.number (pos n)) u).term
      by true = (tt, tt)
      by false = (tt, tt)

  -- ---- operands
  abbrev Both : Pair → Type 0
  Both p = Is p.first × Is p.second

  paired_kinded : (z : Bool) (x y : Reading) → Is x.term → Is y.term → Both (paired z x y)
  paired_kinded z x y a b = by (is_pointer y.sort && z) (is_any x.sort || is_any y.sort)
    where
      by : (p q : Bool) → Both (if p then record { first = null_term; second = y.term; sort = y.sort; next = y.next } else if q then record { first = x.term; second = y.term; sort = value_sort; next = y.next } else record { first = x.term; second = y.term; sort = x.sort; next = y.next })
      by true q = ((tt, tt), b)
      by false true = (a, b)
      by false false = (a, b)

  beside_kinded : (n z : Bool) (x y : Reading) → Is x.term → Is y.term → Both (beside_by n z x y)
  beside_kinded n z x y a b = by (is_pointer x.sort && n)
    where
      by : (p : Bool) → Both (if p then record { first = x.term; second = null_term; sort = x.sort; next = x.next } else paired z x y)
      by true = (a, (tt, tt))
      by false = paired_kinded z x y a b

  linked_kinded : (o : BinaryOperator) (n z : Bool) (x y : Reading) → Is x.term → Is y.term → Is (linked o n z x y).term
  linked_kinded o n z x y a b = by (is_equality o) (moves o x.sort)
    where
      by : (p q : Bool) → Is (if p then readings.compared o (beside_by n z x y) else if q then readings.moved x y else readings.joined o x y).term
      by true q = let r = beside_kinded n z x y a b in (operator_kinded o, (r.0, (r.1, tt)))
      by false true = (tt, (a, (b, tt)))
      by false false = (operator_kinded o, (a, (b, tt)))

  -- ---- expressions
  mutual
    pub read_kinded : (w : Bool) (u : ℕ) (e : GhostExprTree) → Is (read s w u e).term
    read_kinded w u (tree.number p n i) = number_kinded w n u
    read_kinded w u (tree.true_ p) = (tt, tt)
    read_kinded w u (tree.false_ p) = (tt, tt)
    read_kinded w u (tree.result p) = given.result
    read_kinded w u (tree.this_ p) = given.this_value
    read_kinded w u (tree.current_thread p) = given.thread
    read_kinded w u (tree.name_ p x) = name_alone x p.file (number_of s.scope.locals.names x)
    read_kinded w u (tree.application p f xs) =
        let g = scheme_or_int (application_scheme s.scope s.context.own p f) in
        applied_kinded (applied_head s (Whole u g) f p.file (declaration_seen s.scope f p.file)) (read_all s u g.parameters g.arguments (u + g.parameters) xs).terms (name_applied p f u) (all_kinded u g.parameters g.arguments (u + g.parameters) xs)
    read_kinded w u (tree.parenthesized p a) = read_kinded w u a
    read_kinded true u (tree.conditional p c a b) =
        (tt, (read_kinded false u c, (read_kinded true (read s false u c).next a, (read_kinded true (read s true (read s false u c).next a).next b, tt))))
    read_kinded false u (tree.conditional p c a b) =
        let x = read s false (read s false u c).next a in
        let r = beside_kinded (is_null b) (is_null a) x (read s false x.next b) (read_kinded false (read s false u c).next a) (read_kinded false x.next b) in
        (tt, (read_kinded false u c, (r.0, (r.1, tt))))
    read_kinded w u (tree.unary p o a) = prefixed_kinded o (read s false u a).term (read_kinded false u a)
    read_kinded w u (tree.chain p l a xs) = links_kinded (is_null a) (read s false u a) xs (read_kinded false u a)

    links_kinded : (z : Bool) (x : Reading) (xs : GhostLinkTrees) → Is x.term → Is (read_links s z x xs).term
    links_kinded z x no_ghost_link e = e
    links_kinded z x (more_ghost_link l ls) e = links_kinded false (read_link s z x l) ls (link_kinded z x l e)

    link_kinded : (z : Bool) (x : Reading) (l : GhostLinkTree) → Is x.term → Is (read_link s z x l).term
    link_kinded z x (tree.ghost_link q o a) e = linked_kinded o (is_null a) z x (read s false x.next a) e (read_kinded false x.next a)

    all_kinded : (first n : ℕ) (ts : List Sort) (u : ℕ) (xs : GhostExprTrees) → Are (row (read_all s first n ts u xs).terms)
    all_kinded first n [] u xs = tt
    all_kinded first n (t ∷ ts) u no_ghost_expr = tt
    all_kinded first n (t ∷ ts) u (more_ghost_expr x xs) =
        (read_kinded (is_pointer (settled s (instance first n t))) u x, all_kinded first n ts (read s (is_pointer (settled s (instance first n t))) u x).next xs)

pub readings_are_kinded : ReadingsAreKinded
readings_are_kinded fs s integers given w u e = read_kinded fs s integers given w u e
