-- Terms that are read go down, where the names in front of arguments are those of earlier fixpoints, or of the same one at a component.
use Rattle.std.proofs.Common.{◌≡◌, ℕ, zero, suc, ◌+◌, Bool, true, false, List, [], ◌∷◌, length, Option, Some, None, refl, ◌⊎◌, inl, inr, arith}
use Rattle.std.specs.Prelude.{◌<◌, ◌&&◌, ◌||◌, drop, if◌then◌else◌, nat_eq, pos, slice_get, IsTrue}
use Rattle.std.specs.List.{list_any}
use Rattle.std.specs.Str.{bytes_eq}
use Rattle.vf_base.specs.declared.place.Place.{Place}
use Rattle.vf_tree.specs.Core.{Identity}
use Rattle.vf_names.specs.Names.{number_of}
use Rattle.vf_closure.specs.Terms.{Kind, Head, Term, Terms, term, no_terms, and_term}
use Rattle.vf_closure.specs.Terms as terms
use Rattle.vf_formula.specs.Rows.{row}
use Rattle.vf_sorts.specs.Sorts.{Sort}
use Rattle.vf_sorts.specs.Unknowns.{instance}
use Rattle.vf_syntax.specs.GhostExprTree.{GhostExprTree, GhostExprTrees, no_ghost_expr, more_ghost_expr, GhostLinkTree, GhostLinkTrees, no_ghost_link, more_ghost_link}
use Rattle.vf_syntax.specs.GhostExprTree as tree
use Rattle.vf_syntax.specs.declared.operator.BinaryOperator.{BinaryOperator}
use Rattle.vf_syntax.specs.declared.operator.BinaryOperator.TheVariants as operators
use Rattle.vf_syntax.specs.declared.operator.UnaryOperator.{UnaryOperator}
use Rattle.vf_syntax.specs.declared.operator.UnaryOperator.TheVariants as unaries
use Rattle.vf_syntax.specs.declared.written.Name.{Name}
use Rattle.vf_declared.specs.declared.declaration.Declaration.{Declaration}
use Rattle.vf_declared.specs.declared.declaration.Fixpoint as declaration
use Rattle.vf_declared.specs.declared.declaration.GhostDeclaration.{GhostDeclaration}
use Rattle.vf_declared.specs.declared.declaration.GhostDeclaration.TheVariants as ghosts
use Rattle.vf_declared.specs.declared.declaration.Meaning.{Meaning}
use Rattle.vf_declared.specs.declared.declaration.Meaning.TheVariants as meanings
use Rattle.vf_declared.specs.declared.scope.Scope.{Scope}
use Rattle.vf_declared.specs.Scopes.{at_name, declared_in, ghost_of, is_later_predicate, is_visible}
use Rattle.vf_sorting.specs.declared.scheme.Scheme.{Scheme}
use Rattle.vf_sorting.specs.Kinds.{int_sort, is_any, is_pointer, pointer_sort, value_sort}
use Rattle.vf_sorting.specs.Operators.{is_equality, is_null, moves}
use Rattle.vf_sorting.specs.Schemes.{applied_ghost, applied_scheme, application_scheme, used_parameters}
use Rattle.vf_terms.specs.Settings.{Setting, kind_of_sort, settled}
use Rattle.vf_terms.specs.Named.{applied_by, applied_ghost_head, applied_head, applied_term, declaration_seen, declared_head, ghost_head, identity_of, later_head, local_term, meant_head, name_term, scheme_or_int, seen_from, term_of_head, term_of_name, test_by, test_head}
use Rattle.vf_terms.specs.Operated.{operator_head, prefixed_term}
use Rattle.vf_terms.specs.Readings.{beside_by, linked, null_term, number_reading, paired, read, read_all, read_link, read_links, reading}
use Rattle.vf_terms.specs.Readings as readings
use Rattle.vf_terms.specs.declared.reading.Reading.{Reading}
use Rattle.vf_terms.specs.declared.reading.Pair.{Pair}
use Rattle.vf_definitions.specs.Unfolded.{term_at}
use Rattle.vf_fixpoint.specs.Calls.{AllGoDown, GoesDown, LinkGoesDown, LinksGoDown, Recursion, is_component, is_component_at, passes}
use Rattle.vf_fixpoint_laws.specs.bodies.Recursion.{GoesDownBy, IsComponent, PassesComponent, Ranks, TermGoesDown, TermsGoDown}

-- a name in front of arguments is that of the fixpoint itself, which has a parameter at the place by which it goes
pub record IsSelf (paths : List (List ℕ)) (c : Identity) (name : List ℕ) (o : Option ℕ) (x files : List ℕ) (f : declaration.Fixpoint) : Type 0 where
  pub named : x ≡ name
  pub identity : identity_of paths files x ≡ c
  pub enough : (p : ℕ) → o ≡ Some p → p < length f.arguments

-- each fixpoint that is declared is an earlier one, or itself
abbrev pub AreEarlier : Scope → List (List ℕ) → Ranks → Identity → List ℕ → Option ℕ → Type 0
AreEarlier s paths r c name o =
    (x : List ℕ) (d : Declaration) (m : ℕ) (f : declaration.Fixpoint) → at_name s.names s.declarations x ≡ Some d → d.meaning ≡ meanings.Ghost m → ghost_of s m ≡ Some (ghosts.Fixpoint f) → (r (identity_of paths d.files x) < r c) ⊎ IsSelf paths c name o x d.files f

-- the terms that stand in a setting go down, and the names of components are symbols behind the parameters
pub record IsSettingDown (s : Setting) (r : Ranks) (c : Identity) (n : ℕ) (rec : Recursion) : Type 0 where
  pub locals : (k : ℕ) → TermGoesDown r c n rec.parameter (local_term (slice_get s.locals k))
  pub result : TermGoesDown r c n rec.parameter s.result
  pub this_value : TermGoesDown r c n rec.parameter s.this_value
  pub thread : TermGoesDown r c n rec.parameter s.thread
  pub components : (x : List ℕ) (from : ℕ) → IsTrue (list_any (λ (n : Name). bytes_eq x n.text) rec.components) → IsComponent n (Some (term_of_name s x from))

module _ (s : Setting) (r : Ranks) (c : Identity) (n : ℕ) (rec : Recursion) (earlier : AreEarlier s.scope s.paths r c rec.name rec.parameter) (given : IsSettingDown s r c n rec) where
  -- what is so of a head that may be none, over arguments
  abbrev MayBe : Option Head → Terms → Type 0
  MayBe None ts = Unit {0}
  MayBe (Some h) ts = GoesDownBy r c n rec.parameter h ts

  abbrev Is : Term → Type 0
  Is t = TermGoesDown r c n rec.parameter t

  abbrev Are : Terms → Type 0
  Are ts = TermsGoDown r c n rec.parameter ts

  applied_down : (h : Option Head) (ts : List Term) → MayBe h (row ts) → Are (row ts) → Is (applied_term h ts)
  applied_down None ts p q = (tt, tt)
  applied_down (Some h) ts p q = (p, q)

  head_down : (h : Option Head) → MayBe h no_terms → Is (term_of_head h)
  head_down None p = (tt, tt)
  head_down (Some h) p = (p, tt)

  -- ---- components
  component_down : (w : Bool) (u : ℕ) (e : GhostExprTree) → IsTrue (is_component rec.components e) → IsComponent n (Some (read s w u e).term)
  component_down w u (tree.name_ p x) h = given.components x p.file h
  component_down w u (tree.parenthesized p a) h = component_down w u a h
  component_down w u (tree.number p a b) h = absurd (let e : false ≡ true = h in cc)
  component_down w u (tree.true_ p) h = absurd (let e : false ≡ true = h in cc)
  component_down w u (tree.false_ p) h = absurd (let e : false ≡ true = h in cc)
  component_down w u (tree.result p) h = absurd (let e : false ≡ true = h in cc)
  component_down w u (tree.this_ p) h = absurd (let e : false ≡ true = h in cc)
  component_down w u (tree.current_thread p) h = absurd (let e : false ≡ true = h in cc)
  component_down w u (tree.application p x xs) h = absurd (let e : false ≡ true = h in cc)
  component_down w u (tree.conditional p a b d) h = absurd (let e : false ≡ true = h in cc)
  component_down w u (tree.unary p o a) h = absurd (let e : false ≡ true = h in cc)
  component_down w u (tree.chain p v a ls) h = absurd (let e : false ≡ true = h in cc)

  argument_down : (k first m : ℕ) (ts : List Sort) (u : ℕ) (xs : GhostExprTrees) → k < length ts → IsTrue (is_component_at rec.components k xs) → IsComponent n (term_at (row (read_all s first m ts u xs).terms) k)
  argument_down k first m [] u xs l h = absurd (omega (arith, l))
  argument_down k first m (t ∷ ts) u no_ghost_expr l h = absurd (let e : false ≡ true = h in cc)
  argument_down zero first m (t ∷ ts) u (more_ghost_expr x xs) l h = component_down (is_pointer (settled s (instance first m t))) u x h
  argument_down (suc k) first m (t ∷ ts) u (more_ghost_expr x xs) l h = argument_down k first m ts (read s (is_pointer (settled s (instance first m t))) u x).next xs (omega (arith, l)) h

  passes_down : (o : Option ℕ) (first m : ℕ) (ts : List Sort) (u : ℕ) (xs : GhostExprTrees) → ((p : ℕ) → o ≡ Some p → p < length ts) → IsTrue (passes rec.components o xs) → PassesComponent n o (row (read_all s first m ts u xs).terms)
  passes_down None first m ts u xs l h = absurd (let e : false ≡ true = h in cc)
  passes_down (Some p) first m ts u xs l h = argument_down p first m ts u xs (l p refl) h

  -- ---- names in front of arguments
  -- the kind of the whole and the arguments, where a name may be used so
  abbrev Whole : ℕ → Scheme → Kind
  Whole u g = kind_of_sort (settled s (instance u g.parameters g.result))

  abbrev Row : ℕ → Scheme → GhostExprTrees → Terms
  Row u g xs = row (read_all s u g.parameters g.arguments (u + g.parameters) xs).terms

  -- a call of the fixpoint passes a component
  abbrev Calls : List ℕ → GhostExprTrees → Type 0
  Calls x xs = x ≡ rec.name → IsTrue (passes rec.components rec.parameter xs)

  fixpoint_applied : (x files : List ℕ) (f : declaration.Fixpoint) (u m : ℕ) (xs : GhostExprTrees) → Calls x xs → (r (identity_of s.paths files x) < r c) ⊎ IsSelf s.paths c rec.name rec.parameter x files f
      → (r (identity_of s.paths files x) < r c) ⊎ ((identity_of s.paths files x ≡ c) × PassesComponent n rec.parameter (row (read_all s u m f.arguments (u + m) xs).terms))
  fixpoint_applied x files f u m xs calls (inl l) = inl l
  fixpoint_applied x files f u m xs calls (inr h) = inr (h.identity, passes_down rec.parameter u m f.arguments (u + m) xs h.enough (calls h.named))

  ghost_applied : (p : Place) (x files : List ℕ) (m u : ℕ) (xs : GhostExprTrees) → Calls x xs → (o : Option GhostDeclaration) → ((f : declaration.Fixpoint) → o ≡ Some (ghosts.Fixpoint f) → (r (identity_of s.paths files x) < r c) ⊎ IsSelf s.paths c rec.name rec.parameter x files f)
      → MayBe (applied_ghost_head (Whole u (scheme_or_int (applied_ghost s.scope s.context.own p m o))) (identity_of s.paths files x) o) (Row u (scheme_or_int (applied_ghost s.scope s.context.own p m o)) xs)
  ghost_applied p x files m u xs calls (Some (ghosts.Fixpoint f)) is = fixpoint_applied x files f u (used_parameters s.context.own m f.parameters) xs calls (is f refl)
  ghost_applied p x files m u xs calls (Some (ghosts.Constructor k)) is = tt
  ghost_applied p x files m u xs calls (Some (ghosts.PredicateConstructor k)) is = tt
  ghost_applied p x files m u xs calls (Some (ghosts.Datatype d)) is = tt
  ghost_applied p x files m u xs calls (Some (ghosts.Predicate ts)) is = tt
  ghost_applied p x files m u xs calls (Some (ghosts.Family f)) is = tt
  ghost_applied p x files m u xs calls (Some (ghosts.Lemma l)) is = tt
  ghost_applied p x files m u xs calls None is = tt

  test_down : (x : List ℕ) (o : Option Declaration) (ts : Terms) → MayBe (test_head s x o) ts
  test_down x None ts = tt
  test_down x (Some d) ts = by d.meaning
    where
      by : (m : Meaning) → MayBe (test_by s x d.files m) ts
      by (meanings.FunctionType n) = tt
      by (meanings.Function n) = tt
      by (meanings.Ghost n) = tt

  meaning_applied : (p : Place) (x : List ℕ) (u : ℕ) (xs : GhostExprTrees) → Calls x xs → (d : Declaration) → at_name s.scope.names s.scope.declarations x ≡ Some d → (m : Meaning) → d.meaning ≡ m
      → MayBe (applied_by s (Whole u (scheme_or_int (applied_scheme s.scope s.context.own p x (Some m)))) x d.files m) (Row u (scheme_or_int (applied_scheme s.scope s.context.own p x (Some m))) xs)
  meaning_applied p x u xs calls d found (meanings.Ghost m) means = ghost_applied p x d.files m u xs calls (ghost_of s.scope m) (λ f is. earlier x d m f found means is)
  meaning_applied p x u xs calls d found (meanings.Function m) means = tt
  meaning_applied p x u xs calls d found (meanings.FunctionType m) means = tt

  name_applied : (p : Place) (x : List ℕ) (u : ℕ) (xs : GhostExprTrees) → Calls x xs
      → MayBe (applied_head s (Whole u (scheme_or_int (application_scheme s.scope s.context.own p x))) x p.file (declaration_seen s.scope x p.file)) (Row u (scheme_or_int (application_scheme s.scope s.context.own p x)) xs)
  name_applied p x u xs calls = by (at_name s.scope.names s.scope.declarations x) refl
    where
      seen : (d : Declaration) → at_name s.scope.names s.scope.declarations x ≡ Some d → (b : Bool)
          → MayBe (applied_head s (Whole u (scheme_or_int (applied_scheme s.scope s.context.own p x (if b then Some d.meaning else None)))) x p.file (if b then Some d else None)) (Row u (scheme_or_int (applied_scheme s.scope s.context.own p x (if b then Some d.meaning else None))) xs)
      seen d found true = meaning_applied p x u xs calls d found d.meaning refl
      seen d found false = test_down x (declaration_seen s.scope (drop 3 x) p.file) (Row u (scheme_or_int (applied_scheme s.scope s.context.own p x None)) xs)

      by : (o : Option Declaration) → at_name s.scope.names s.scope.declarations x ≡ o
          → MayBe (applied_head s (Whole u (scheme_or_int (applied_scheme s.scope s.context.own p x (declared_in s.scope p.file o)))) x p.file (seen_from s.scope p.file o)) (Row u (scheme_or_int (applied_scheme s.scope s.context.own p x (declared_in s.scope p.file o))) xs)
      by None found = test_down x (declaration_seen s.scope (drop 3 x) p.file) (Row u (scheme_or_int (applied_scheme s.scope s.context.own p x None)) xs)
      by (Some d) found = seen d found (is_visible s.scope p.file d.files)

  -- ---- names alone
  ghost_alone : (i : Identity) (o : Option GhostDeclaration) → MayBe (ghost_head i o) no_terms
  ghost_alone i (Some (ghosts.Constructor k)) = tt
  ghost_alone i (Some (ghosts.Predicate ts)) = tt
  ghost_alone i (Some (ghosts.Fixpoint f)) = tt
  ghost_alone i (Some (ghosts.PredicateConstructor k)) = tt
  ghost_alone i (Some (ghosts.Datatype d)) = tt
  ghost_alone i (Some (ghosts.Family f)) = tt
  ghost_alone i (Some (ghosts.Lemma l)) = tt
  ghost_alone i None = tt

  later_alone : (x : List ℕ) (from : ℕ) → MayBe (later_head s x from) no_terms
  later_alone x from = by (is_later_predicate s.scope x from) _
    where
      by : (b : Bool) (i : Identity) → MayBe (if b then Some (terms.Predicate i) else None) no_terms
      by true i = tt
      by false i = tt

  meant_alone : (x files : List ℕ) (m : Meaning) → MayBe (meant_head s x files m) no_terms
  meant_alone x files (meanings.Function m) = tt
  meant_alone x files (meanings.FunctionType m) = tt
  meant_alone x files (meanings.Ghost m) = ghost_alone (identity_of s.paths files x) (ghost_of s.scope m)

  declared_alone : (x : List ℕ) (from : ℕ) (o : Option Declaration) → MayBe (declared_head s x from o) no_terms
  declared_alone x from None = later_alone x from
  declared_alone x from (Some d) = meant_alone x d.files d.meaning

  name_alone : (x : List ℕ) (from : ℕ) (o : Option ℕ) → Is (name_term s x from o)
  name_alone x from None = head_down (declared_head s x from (declaration_seen s.scope x from)) (declared_alone x from (declaration_seen s.scope x from))
  name_alone x from (Some k) = given.locals k

  -- ---- operators
  operator_down : (o : BinaryOperator) (ts : Terms) → GoesDownBy r c n rec.parameter (operator_head o) ts
  operator_down operators.Times ts = tt
  operator_down operators.Divide ts = tt
  operator_down operators.Remainder ts = tt
  operator_down operators.Plus ts = tt
  operator_down operators.Minus ts = tt
  operator_down operators.Less ts = tt
  operator_down operators.LessOrEqual ts = tt
  operator_down operators.Greater ts = tt
  operator_down operators.GreaterOrEqual ts = tt
  operator_down operators.Equal ts = tt
  operator_down operators.NotEqual ts = tt
  operator_down operators.And ts = tt
  operator_down operators.Or ts = tt

  prefixed_down : (o : UnaryOperator) (t : Term) → Is t → Is (prefixed_term o t)
  prefixed_down unaries.Minus t e = (tt, ((tt, tt), (e, tt)))
  prefixed_down unaries.Not t e = (tt, (e, tt))

  number_down : (w : Bool) (m u : ℕ) → Is (number_reading w m u).term
  number_down w m u = by (w && nat_eq m 0)
    where
      by : (b : Bool) → Is (if b then reading pointer_sort null_term u else reading int_sort (terms.number (pos m)) u).term
      by true = (tt, tt)
      by false = (tt, tt)

  -- ---- operands
  abbrev Both : Pair → Type 0
  Both p = Is p.first × Is p.second

  paired_down : (z : Bool) (x y : Reading) → Is x.term → Is y.term → Both (paired z x y)
  paired_down z x y a b = by (is_pointer y.sort && z) (is_any x.sort || is_any y.sort)
    where
      by : (p q : Bool) → Both (if p then record { first = null_term; second = y.term; sort = y.sort; next = y.next } else if q then record { first = x.term; second = y.term; sort = value_sort; next = y.next } else record { first = x.term; second = y.term; sort = x.sort; next = y.next })
      by true q = ((tt, tt), b)
      by false true = (a, b)
      by false false = (a, b)

  beside_down : (m z : Bool) (x y : Reading) → Is x.term → Is y.term → Both (beside_by m z x y)
  beside_down m z x y a b = by (is_pointer x.sort && m)
    where
      by : (p : Bool) → Both (if p then record { first = x.term; second = null_term; sort = x.sort; next = x.next } else paired z x y)
      by true = (a, (tt, tt))
      by false = paired_down z x y a b

  linked_down : (o : BinaryOperator) (m z : Bool) (x y : Reading) → Is x.term → Is y.term → Is (linked o m z x y).term
  linked_down o m z x y a b = by (is_equality o) (moves o x.sort)
    where
      by : (p q : Bool) → Is (if p then readings.compared o (beside_by m z x y) else if q then readings.moved x y else readings.joined o x y).term
      by true q = let h = beside_down m z x y a b in (operator_down o _, (h.0, (h.1, tt)))
      by false true = (tt, (a, (b, tt)))
      by false false = (operator_down o _, (a, (b, tt)))

  -- ---- expressions
  mutual
    pub read_down : (w : Bool) (u : ℕ) (e : GhostExprTree) → GoesDown rec e → Is (read s w u e).term
    read_down w u (tree.number p m i) g = number_down w m u
    read_down w u (tree.true_ p) g = (tt, tt)
    read_down w u (tree.false_ p) g = (tt, tt)
    read_down w u (tree.result p) g = given.result
    read_down w u (tree.this_ p) g = given.this_value
    read_down w u (tree.current_thread p) g = given.thread
    read_down w u (tree.name_ p x) g = name_alone x p.file (number_of s.scope.locals.names x)
    read_down w u (tree.application p f xs) g =
        let m = scheme_or_int (application_scheme s.scope s.context.own p f) in
        applied_down (applied_head s (Whole u m) f p.file (declaration_seen s.scope f p.file)) (read_all s u m.parameters m.arguments (u + m.parameters) xs).terms (name_applied p f u xs g.1) (all_down u m.parameters m.arguments (u + m.parameters) xs g.0)
    read_down w u (tree.parenthesized p a) g = read_down w u a g
    read_down true u (tree.conditional p a b d) g =
        (tt, (read_down false u a g.0, (read_down true (read s false u a).next b g.1, (read_down true (read s true (read s false u a).next b).next d g.2, tt))))
    read_down false u (tree.conditional p a b d) g =
        let x = read s false (read s false u a).next b in
        let h = beside_down (is_null d) (is_null b) x (read s false x.next d) (read_down false (read s false u a).next b g.1) (read_down false x.next d g.2) in
        (tt, (read_down false u a g.0, (h.0, (h.1, tt))))
    read_down w u (tree.unary p o a) g = prefixed_down o (read s false u a).term (read_down false u a g)
    read_down w u (tree.chain p l a xs) g = links_down (is_null a) (read s false u a) xs (read_down false u a g.0) g.1

    links_down : (z : Bool) (x : Reading) (xs : GhostLinkTrees) → Is x.term → LinksGoDown rec xs → Is (read_links s z x xs).term
    links_down z x no_ghost_link e g = e
    links_down z x (more_ghost_link l ls) e g = links_down false (read_link s z x l) ls (link_down z x l e g.0) g.1

    link_down : (z : Bool) (x : Reading) (l : GhostLinkTree) → Is x.term → LinkGoesDown rec l → Is (read_link s z x l).term
    link_down z x (tree.ghost_link q o a) e g = linked_down o (is_null a) z x (read s false x.next a) e (read_down false x.next a g)

    all_down : (first m : ℕ) (ts : List Sort) (u : ℕ) (xs : GhostExprTrees) → AllGoDown rec xs → Are (row (read_all s first m ts u xs).terms)
    all_down first m [] u xs g = tt
    all_down first m (t ∷ ts) u no_ghost_expr g = tt
    all_down first m (t ∷ ts) u (more_ghost_expr x xs) g =
        (read_down (is_pointer (settled s (instance first m t))) u x g.0, all_down first m ts (read s (is_pointer (settled s (instance first m t))) u x).next xs g.1)
