-- Terms that are read go back, where the names in front of arguments are those of earlier fixpoints, or of the same one at arguments that are smaller.
use Rattle.std.proofs.Common.{◌≡◌, ℕ, ◌+◌, Bool, true, false, List, [], ◌∷◌, Option, Some, None, refl, ◌⊎◌, inl, inr}
use Rattle.std.specs.Prelude.{◌&&◌, ◌||◌, Contains, drop, if◌then◌else◌, nat_eq, pos, slice_get}
use Rattle.vf_base.specs.declared.place.Place.{Place}
use Rattle.vf_tree.specs.Core.{Identity}
use Rattle.vf_names.specs.Names.{number_of}
use Rattle.vf_closure.specs.Terms.{Kind, Head, Term, Terms, term, no_terms}
use Rattle.vf_closure.specs.Terms as terms
use Rattle.vf_formula.specs.Rows.{row}
use Rattle.vf_sorts.specs.Sorts.{Sort}
use Rattle.vf_sorts.specs.Unknowns.{instance}
use Rattle.vf_syntax.specs.GhostExprTree.{GhostExprTree, GhostExprTrees, no_ghost_expr, more_ghost_expr, GhostLinkTree, GhostLinkTrees, no_ghost_link, more_ghost_link}
use Rattle.vf_syntax.specs.GhostExprTree as tree
use Rattle.vf_syntax.specs.declared.operator.BinaryOperator.{BinaryOperator}
use Rattle.vf_syntax.specs.declared.operator.BinaryOperator.TheVariants as operators
use Rattle.vf_syntax.specs.declared.operator.UnaryOperator.{UnaryOperator}
use Rattle.vf_syntax.specs.declared.operator.UnaryOperator.TheVariants as unaries
use Rattle.vf_declared.specs.declared.declaration.Declaration.{Declaration}
use Rattle.vf_declared.specs.declared.declaration.Fixpoint as declaration
use Rattle.vf_declared.specs.declared.declaration.GhostDeclaration.{GhostDeclaration}
use Rattle.vf_declared.specs.declared.declaration.GhostDeclaration.TheVariants as ghosts
use Rattle.vf_declared.specs.declared.declaration.Meaning.{Meaning}
use Rattle.vf_declared.specs.declared.declaration.Meaning.TheVariants as meanings
use Rattle.vf_declared.specs.declared.scope.Scope.{Scope}
use Rattle.vf_declared.specs.Scopes.{at_name, declared_in, ghost_of, is_later_predicate, is_visible}
use Rattle.vf_sorting.specs.declared.scheme.Scheme.{Scheme}
use Rattle.vf_sorting.specs.Kinds.{int_sort, is_any, is_pointer, pointer_sort, value_sort}
use Rattle.vf_sorting.specs.Operators.{is_equality, is_null, moves}
use Rattle.vf_sorting.specs.Schemes.{applied_ghost, applied_scheme, application_scheme, used_parameters}
use Rattle.vf_terms.specs.Settings.{Setting, kind_of_sort, settled}
use Rattle.vf_terms.specs.Named.{applied_by, applied_ghost_head, applied_head, applied_term, declaration_seen, declared_head, ghost_head, identity_of, later_head, local_term, meant_head, name_term, scheme_or_int, seen_from, term_of_head, test_by, test_head}
use Rattle.vf_terms.specs.Operated.{operator_head, prefixed_term}
use Rattle.vf_terms.specs.Readings.{beside_by, linked, null_term, number_reading, paired, read, read_all, read_link, read_links, reading}
use Rattle.vf_terms.specs.Readings as readings
use Rattle.vf_terms.specs.declared.reading.Reading.{Reading}
use Rattle.vf_terms.specs.declared.reading.Pair.{Pair}
use Rattle.vf_view_laws.specs.Order.{HeadGoesBack, TermGoesBack, TermsGoBack}
use Rattle.vf_fixpoint_laws.proofs.descending.Reading.{IsSelf}
use Rattle.vf_unit_laws.proofs.Calls.{AllCallsAre, CallsAre, LinkCallsAre, LinksCallsAre}

-- each fixpoint that is declared is an earlier one, or itself
abbrev pub AreKnown : Scope → List (List ℕ) → List Identity → Identity → List ℕ → Option ℕ → Type 0
AreKnown s paths earlier own name o =
    (x : List ℕ) (d : Declaration) (m : ℕ) (f : declaration.Fixpoint) → at_name s.names s.declarations x ≡ Some d → d.meaning ≡ meanings.Ghost m → ghost_of s m ≡ Some (ghosts.Fixpoint f) → Contains earlier (identity_of paths d.files x) ⊎ IsSelf paths own name o x d.files f

-- the terms that stand in a setting go back
pub record IsSettingBack (s : Setting) (earlier : List Identity) (own : Identity) (AreSmaller : Terms → Type 0) : Type 0 where
  pub locals : (k : ℕ) → TermGoesBack earlier own AreSmaller (local_term (slice_get s.locals k))
  pub result : TermGoesBack earlier own AreSmaller s.result
  pub this_value : TermGoesBack earlier own AreSmaller s.this_value
  pub thread : TermGoesBack earlier own AreSmaller s.thread

-- the arguments of a call of the fixpoint itself are read as smaller ones
abbrev pub AreReadSmaller : Setting → Identity → List ℕ → Option ℕ → (Terms → Type 0) → (GhostExprTrees → Type 0) → Type 0
AreReadSmaller s own name o AreSmaller Of = (x files : List ℕ) (f : declaration.Fixpoint) → IsSelf s.paths own name o x files f → (xs : GhostExprTrees) → Of xs → (first m u : ℕ) → AreSmaller (row (read_all s first m f.arguments u xs).terms)

module _ (s : Setting) (earlier : List Identity) (own : Identity) (name : List ℕ) (o : Option ℕ) (AreSmaller : Terms → Type 0) (Of : GhostExprTrees → Type 0) (known : AreKnown s.scope s.paths earlier own name o) (given : IsSettingBack s earlier own AreSmaller) (smaller : AreReadSmaller s own name o AreSmaller Of) where
  abbrev Goes : Head → Terms → Type 0
  Goes h ts = HeadGoesBack earlier own AreSmaller h ts

  -- what is so of a head that may be none, over arguments
  abbrev MayBe : Option Head → Terms → Type 0
  MayBe None ts = Unit {0}
  MayBe (Some h) ts = Goes h ts

  abbrev Is : Term → Type 0
  Is t = TermGoesBack earlier own AreSmaller t

  abbrev Are : Terms → Type 0
  Are ts = TermsGoBack earlier own AreSmaller ts

  applied_back : (h : Option Head) (ts : List Term) → MayBe h (row ts) → Are (row ts) → Is (applied_term h ts)
  applied_back None ts p q = (tt, tt)
  applied_back (Some h) ts p q = (p, q)

  head_back : (h : Option Head) → MayBe h no_terms → Is (term_of_head h)
  head_back None p = (tt, tt)
  head_back (Some h) p = (p, tt)

  -- ---- names in front of arguments
  -- the kind of the whole and the arguments, where a name may be used so
  abbrev Whole : ℕ → Scheme → Kind
  Whole u g = kind_of_sort (settled s (instance u g.parameters g.result))

  abbrev Row : ℕ → Scheme → GhostExprTrees → Terms
  Row u g xs = row (read_all s u g.parameters g.arguments (u + g.parameters) xs).terms

  -- the arguments of a call of the fixpoint are such
  abbrev Calls : List ℕ → GhostExprTrees → Type 0
  Calls x xs = x ≡ name → Of xs

  fixpoint_applied : (x files : List ℕ) (f : declaration.Fixpoint) (u m : ℕ) (xs : GhostExprTrees) → Calls x xs → Contains earlier (identity_of s.paths files x) ⊎ IsSelf s.paths own name o x files f
      → Contains earlier (identity_of s.paths files x) ⊎ ((identity_of s.paths files x ≡ own) × AreSmaller (row (read_all s u m f.arguments (u + m) xs).terms))
  fixpoint_applied x files f u m xs calls (inl l) = inl l
  fixpoint_applied x files f u m xs calls (inr h) = inr (h.identity, smaller x files f h xs (calls h.named) u m (u + m))

  ghost_applied : (p : Place) (x files : List ℕ) (m u : ℕ) (xs : GhostExprTrees) → Calls x xs → (g : Option GhostDeclaration) → ((f : declaration.Fixpoint) → g ≡ Some (ghosts.Fixpoint f) → Contains earlier (identity_of s.paths files x) ⊎ IsSelf s.paths own name o x files f)
      → MayBe (applied_ghost_head (Whole u (scheme_or_int (applied_ghost s.scope s.context.own p m g))) (identity_of s.paths files x) g) (Row u (scheme_or_int (applied_ghost s.scope s.context.own p m g)) xs)
  ghost_applied p x files m u xs calls (Some (ghosts.Fixpoint f)) is = fixpoint_applied x files f u (used_parameters s.context.own m f.parameters) xs calls (is f refl)
  ghost_applied p x files m u xs calls (Some (ghosts.Constructor k)) is = tt
  ghost_applied p x files m u xs calls (Some (ghosts.PredicateConstructor k)) is = tt
  ghost_applied p x files m u xs calls (Some (ghosts.Datatype d)) is = tt
  ghost_applied p x files m u xs calls (Some (ghosts.Predicate ts)) is = tt
  ghost_applied p x files m u xs calls (Some (ghosts.Family f)) is = tt
  ghost_applied p x files m u xs calls (Some (ghosts.Lemma l)) is = tt
  ghost_applied p x files m u xs calls None is = tt

  test_back : (x : List ℕ) (d : Option Declaration) (ts : Terms) → MayBe (test_head s x d) ts
  test_back x None ts = tt
  test_back x (Some d) ts = by d.meaning
    where
      by : (m : Meaning) → MayBe (test_by s x d.files m) ts
      by (meanings.FunctionType n) = tt
      by (meanings.Function n) = tt
      by (meanings.Ghost n) = tt

  meaning_applied : (p : Place) (x : List ℕ) (u : ℕ) (xs : GhostExprTrees) → Calls x xs → (d : Declaration) → at_name s.scope.names s.scope.declarations x ≡ Some d → (m : Meaning) → d.meaning ≡ m
      → MayBe (applied_by s (Whole u (scheme_or_int (applied_scheme s.scope s.context.own p x (Some m)))) x d.files m) (Row u (scheme_or_int (applied_scheme s.scope s.context.own p x (Some m))) xs)
  meaning_applied p x u xs calls d found (meanings.Ghost m) means = ghost_applied p x d.files m u xs calls (ghost_of s.scope m) (λ f is. known x d m f found means is)
  meaning_applied p x u xs calls d found (meanings.Function m) means = tt
  meaning_applied p x u xs calls d found (meanings.FunctionType m) means = tt

  name_applied : (p : Place) (x : List ℕ) (u : ℕ) (xs : GhostExprTrees) → Calls x xs
      → MayBe (applied_head s (Whole u (scheme_or_int (application_scheme s.scope s.context.own p x))) x p.file (declaration_seen s.scope x p.file)) (Row u (scheme_or_int (application_scheme s.scope s.context.own p x)) xs)
  name_applied p x u xs calls = by (at_name s.scope.names s.scope.declarations x) refl
    where
      seen : (d : Declaration) → at_name s.scope.names s.scope.declarations x ≡ Some d → (b : Bool)
          → MayBe (applied_head s (Whole u (scheme_or_int (applied_scheme s.scope s.context.own p x (if b then Some d.meaning else None)))) x p.file (if b then Some d else None)) (Row u (scheme_or_int (applied_scheme s.scope s.context.own p x (if b then Some d.meaning else None))) xs)
      seen d found true = meaning_applied p x u xs calls d found d.meaning refl
      seen d found false = test_back x (declaration_seen s.scope (drop 3 x) p.file) (Row u (scheme_or_int (applied_scheme s.scope s.context.own p x None)) xs)

      by : (d : Option Declaration) → at_name s.scope.names s.scope.declarations x ≡ d
          → MayBe (applied_head s (Whole u (scheme_or_int (applied_scheme s.scope s.context.own p x (declared_in s.scope p.file d)))) x p.file (seen_from s.scope p.file d)) (Row u (scheme_or_int (applied_scheme s.scope s.context.own p x (declared_in s.scope p.file d))) xs)
      by None found = test_back x (declaration_seen s.scope (drop 3 x) p.file) (Row u (scheme_or_int (applied_scheme s.scope s.context.own p x None)) xs)
      by (Some d) found = seen d found (is_visible s.scope p.file d.files)

  -- ---- names alone
  ghost_alone : (i : Identity) (g : Option GhostDeclaration) → MayBe (ghost_head i g) no_terms
  ghost_alone i (Some (ghosts.Constructor k)) = tt
  ghost_alone i (Some (ghosts.Predicate ts)) = tt
  ghost_alone i (Some (ghosts.Fixpoint f)) = tt
  ghost_alone i (Some (ghosts.PredicateConstructor k)) = tt
  ghost_alone i (Some (ghosts.Datatype d)) = tt
  ghost_alone i (Some (ghosts.Family f)) = tt
  ghost_alone i (Some (ghosts.Lemma l)) = tt
  ghost_alone i None = tt

  later_alone : (x : List ℕ) (from : ℕ) → MayBe (later_head s x from) no_terms
  later_alone x from = by (is_later_predicate s.scope x from) _
    where
      by : (b : Bool) (i : Identity) → MayBe (if b then Some (terms.Predicate i) else None) no_terms
      by true i = tt
      by false i = tt

  meant_alone : (x files : List ℕ) (m : Meaning) → MayBe (meant_head s x files m) no_terms
  meant_alone x files (meanings.Function m) = tt
  meant_alone x files (meanings.FunctionType m) = tt
  meant_alone x files (meanings.Ghost m) = ghost_alone (identity_of s.paths files x) (ghost_of s.scope m)

  declared_alone : (x : List ℕ) (from : ℕ) (d : Option Declaration) → MayBe (declared_head s x from d) no_terms
  declared_alone x from None = later_alone x from
  declared_alone x from (Some d) = meant_alone x d.files d.meaning

  name_alone : (x : List ℕ) (from : ℕ) (k : Option ℕ) → Is (name_term s x from k)
  name_alone x from None = head_back (declared_head s x from (declaration_seen s.scope x from)) (declared_alone x from (declaration_seen s.scope x from))
  name_alone x from (Some k) = given.locals k

  -- ---- operators
  operator_back : (p : BinaryOperator) (ts : Terms) → Goes (operator_head p) ts
  operator_back operators.Times ts = tt
  operator_back operators.Divide ts = tt
  operator_back operators.Remainder ts = tt
  operator_back operators.Plus ts = tt
  operator_back operators.Minus ts = tt
  operator_back operators.Less ts = tt
  operator_back operators.LessOrEqual ts = tt
  operator_back operators.Greater ts = tt
  operator_back operators.GreaterOrEqual ts = tt
  operator_back operators.Equal ts = tt
  operator_back operators.NotEqual ts = tt
  operator_back operators.And ts = tt
  operator_back operators.Or ts = tt

  prefixed_back : (p : UnaryOperator) (t : Term) → Is t → Is (prefixed_term p t)
  prefixed_back unaries.Minus t e = (tt, ((tt, tt), (e, tt)))
  prefixed_back unaries.Not t e = (tt, (e, tt))

  number_back : (w : Bool) (m u : ℕ) → Is (number_reading w m u).term
  number_back w m u = by (w && nat_eq m 0)
    where
      by : (b : Bool) → Is (if b then reading pointer_sort null_term u else reading int_sort (terms.number (pos m)) u).term
      by true = (tt, tt)
      by false = (tt, tt)

  -- ---- operands
  abbrev Both : Pair → Type 0
  Both p = Is p.first × Is p.second

  paired_back : (z : Bool) (x y : Reading) → Is x.term → Is y.term → Both (paired z x y)
  paired_back z x y a b = by (is_pointer y.sort && z) (is_any x.sort || is_any y.sort)
    where
      by : (p q : Bool) → Both (if p then record { first = null_term; second = y.term; sort = y.sort; next = y.next } else if q then record { first = x.term; second = y.term; sort = value_sort; next = y.next } else record { first = x.term; second = y.term; sort = x.sort; next = y.next })
      by true q = ((tt, tt), b)
      by false true = (a, b)
      by false false = (a, b)

  beside_back : (m z : Bool) (x y : Reading) → Is x.term → Is y.term → Both (beside_by m z x y)
  beside_back m z x y a b = by (is_pointer x.sort && m)
    where
      by : (p : Bool) → Both (if p then record { first = x.term; second = null_term; sort = x.sort; next = x.next } else paired z x y)
      by true = (a, (tt, tt))
      by false = paired_back z x y a b

  linked_back : (p : BinaryOperator) (m z : Bool) (x y : Reading) → Is x.term → Is y.term → Is (linked p m z x y).term
  linked_back p m z x y a b = by (is_equality p) (moves p x.sort)
    where
      by : (c d : Bool) → Is (if c then readings.compared p (beside_by m z x y) else if d then readings.moved x y else readings.joined p x y).term
      by true d = let h = beside_back m z x y a b in (operator_back p _, (h.0, (h.1, tt)))
      by false true = (tt, (a, (b, tt)))
      by false false = (operator_back p _, (a, (b, tt)))

  -- ---- expressions
  mutual
    pub read_back : (w : Bool) (u : ℕ) (e : GhostExprTree) → CallsAre name Of e → Is (read s w u e).term
    read_back w u (tree.number p m i) g = number_back w m u
    read_back w u (tree.true_ p) g = (tt, tt)
    read_back w u (tree.false_ p) g = (tt, tt)
    read_back w u (tree.result p) g = given.result
    read_back w u (tree.this_ p) g = given.this_value
    read_back w u (tree.current_thread p) g = given.thread
    read_back w u (tree.name_ p x) g = name_alone x p.file (number_of s.scope.locals.names x)
    read_back w u (tree.application p f xs) g =
        let m = scheme_or_int (application_scheme s.scope s.context.own p f) in
        applied_back (applied_head s (Whole u m) f p.file (declaration_seen s.scope f p.file)) (read_all s u m.parameters m.arguments (u + m.parameters) xs).terms (name_applied p f u xs g.1) (all_back u m.parameters m.arguments (u + m.parameters) xs g.0)
    read_back w u (tree.parenthesized p a) g = read_back w u a g
    read_back true u (tree.conditional p a b d) g =
        (tt, (read_back false u a g.0, (read_back true (read s false u a).next b g.1, (read_back true (read s true (read s false u a).next b).next d g.2, tt))))
    read_back false u (tree.conditional p a b d) g =
        let x = read s false (read s false u a).next b in
        let h = beside_back (is_null d) (is_null b) x (read s false x.next d) (read_back false (read s false u a).next b g.1) (read_back false x.next d g.2) in
        (tt, (read_back false u a g.0, (h.0, (h.1, tt))))
    read_back w u (tree.unary p q a) g = prefixed_back q (read s false u a).term (read_back false u a g)
    read_back w u (tree.chain p l a xs) g = links_back (is_null a) (read s false u a) xs (read_back false u a g.0) g.1

    links_back : (z : Bool) (x : Reading) (xs : GhostLinkTrees) → Is x.term → LinksCallsAre name Of xs → Is (read_links s z x xs).term
    links_back z x no_ghost_link e g = e
    links_back z x (more_ghost_link l ls) e g = links_back false (read_link s z x l) ls (link_back z x l e g.0) g.1

    link_back : (z : Bool) (x : Reading) (l : GhostLinkTree) → Is x.term → LinkCallsAre name Of l → Is (read_link s z x l).term
    link_back z x (tree.ghost_link q p a) e g = linked_back p (is_null a) z x (read s false x.next a) e (read_back false x.next a g)

    all_back : (first m : ℕ) (ts : List Sort) (u : ℕ) (xs : GhostExprTrees) → AllCallsAre name Of xs → Are (row (read_all s first m ts u xs).terms)
    all_back first m [] u xs g = tt
    all_back first m (t ∷ ts) u no_ghost_expr g = tt
    all_back first m (t ∷ ts) u (more_ghost_expr x xs) g =
        (read_back (is_pointer (settled s (instance first m t))) u x g.0, all_back first m ts (read s (is_pointer (settled s (instance first m t))) u x).next xs g.1)
