-- A component of what a fixpoint switches over is read as a name of the case, which no integer has.
use Rattle.std.proofs.Common.{◌≡◌, ℕ, zero, suc, ◌+◌, Bool, true, false, List, [], ◌∷◌, length, slice_get, Option, Some, Result, Ok, refl, sym, ap, subst, ◌∙◌, arith}
use Rattle.std.specs.Prelude.{◌<◌, ◌≤◌, IsTrue}
use Rattle.vf_base.specs.declared.place.Place.{Place}
use Rattle.vf_base.specs.declared.refusal.Refusal.{Refusal}
use Rattle.vf_names.specs.Names.{number_of}
use Rattle.vf_meaning.specs.Ghost.{Numbered}
use Rattle.vf_closure.specs.Terms.{Kind, Other, Symbol, Term}
use Rattle.vf_formula.specs.Rows.{row}
use Rattle.vf_sorts.specs.declared.sort.Head.TheVariants as heads
use Rattle.vf_sorts.specs.Sorts.{Sort, sort}
use Rattle.vf_sorts.specs.Unknowns.{AgreesAsTold, Filling, Known, filled, instance, leaf, settling}
use Rattle.vf_syntax.specs.declared.written.Name.{Name}
use Rattle.vf_syntax.specs.GhostExprTree.{GhostExprTree, GhostExprTrees, no_ghost_expr, more_ghost_expr}
use Rattle.vf_declared.specs.declared.locals.Local.{Local}
use Rattle.vf_declared.specs.declared.scope.Scope.{Scope}
use Rattle.vf_declared.specs.Scopes.{at_index}
use Rattle.vf_sorting.specs.declared.context.Context.{Context}
use Rattle.vf_sorting.specs.declared.scheme.Scheme.{Scheme}
use Rattle.vf_sorting.specs.HasSort.{HasSort, number, truth, falsehood, result, this_, thread, name_, application, parenthesized, conditional, prefixed, chain, Passes, inside, null, choice, any_wanted, as_wanted, ArePassed, none_passed, one_passed}
use Rattle.vf_sorting.specs.Kinds.{is_any, is_pointer, resolved}
use Rattle.vf_sorting.specs.Schemes.{at_sort, local_scheme, name_scheme, sort_of_local}
use Rattle.vf_terms.specs.Settings.{Setting, kind_of_sort, settled}
use Rattle.vf_terms.specs.Named.{local_term, name_term, term_of_name}
use Rattle.vf_terms.specs.Readings.{read, read_all}
use Rattle.vf_definitions.specs.Unfolded.{term_at}
use Rattle.vf_defining.specs.Symbols.{symbol_of, symbols_from, with_symbols}
use Rattle.vf_fixpoint.specs.Calls.{is_component, is_component_at}
use Rattle.vf_view_laws.specs.Order.{IsNameOfCase, IsSymbolOf}
use Rattle.vf_fixpoint_laws.specs.values.Instances.{Instance, placed}
use Rattle.vf_fixpoint_laws.proofs.values.Alike.{heads_alike, kind_alike}
use Rattle.vf_fixpoint_laws.proofs.values.Before.{before_passed, equated}
use Rattle.vf_fixpoint_laws.proofs.values.Placing.{none_used}
use Rattle.vf_fixpoint_laws.proofs.descending.Cases.{IsNamed}
use Rattle.vf_fixpoint_laws.proofs.descending.Lists.{some_same}

-- ---- sorts
-- a sort is that of a datatype or of pointers
abbrev pub IsNoNumber : Sort → Type 0
IsNoNumber (sort (heads.Datatype d) ts) = Unit {0}
IsNoNumber (sort (heads.Pointer w) ts) = Unit {0}
IsNoNumber t = ⊥

-- its terms are no integers, wherever it is used
no_integer : (f : Filling) (first m : ℕ) (t : Sort) → IsNoNumber t → kind_of_sort (filled f (instance first m t)) ≡ Other
no_integer f first m (sort (heads.Datatype d) ts) h = refl
no_integer f first m (sort (heads.Pointer w) ts) h = refl
no_integer f first m (sort heads.Int ts) h = absurd h
no_integer f first m (sort heads.Bool ts) h = absurd h
no_integer f first m (sort heads.Real ts) h = absurd h
no_integer f first m (sort heads.Any ts) h = absurd h
no_integer f first m (sort (heads.Parameter i) ts) h = absurd h
no_integer f first m (sort (heads.Unknown u) ts) h = absurd h
no_integer f first m (sort heads.Predicate ts) h = absurd h

-- and it is not `any`
not_any : (k : Known) (first m : ℕ) (t : Sort) → IsNoNumber t → is_any (resolved k (instance first m t)) ≡ false
not_any k first m (sort (heads.Datatype d) ts) h = refl
not_any k first m (sort (heads.Pointer w) ts) h = refl
not_any k first m (sort heads.Int ts) h = absurd h
not_any k first m (sort heads.Bool ts) h = absurd h
not_any k first m (sort heads.Real ts) h = absurd h
not_any k first m (sort heads.Any ts) h = absurd h
not_any k first m (sort (heads.Parameter i) ts) h = absurd h
not_any k first m (sort (heads.Unknown u) ts) h = absurd h
not_any k first m (sort heads.Predicate ts) h = absurd h

-- each type parameter, and each unknown sort, as it is
abbrev as_parameters : Instance
as_parameters i = leaf (heads.Parameter i)

abbrev as_unknowns : Filling
as_unknowns u = leaf (heads.Unknown u)

kind_placed : (t : Sort) → kind_of_sort (placed as_parameters as_unknowns t) ≡ kind_of_sort t
kind_placed (sort heads.Int ts) = refl
kind_placed (sort heads.Bool ts) = refl
kind_placed (sort (heads.Pointer w) ts) = refl
kind_placed (sort heads.Real ts) = refl
kind_placed (sort heads.Any ts) = refl
kind_placed (sort (heads.Parameter i) ts) = refl
kind_placed (sort (heads.Unknown u) ts) = refl
kind_placed (sort (heads.Datatype d) ts) = refl
kind_placed (sort heads.Predicate ts) = refl

-- a sort that is used without type parameters is of its own kind
alone_kind : (f : Filling) (u : ℕ) (t : Sort) → kind_of_sort (filled f (instance u 0 t)) ≡ kind_of_sort (filled f t)
alone_kind f u t = sym (kind_placed (filled f (instance u 0 t))) ∙ ap kind_of_sort (sym (none_used as_parameters as_unknowns f u t)) ∙ kind_placed (filled f t)

-- ---- symbols
pub local_there : {A : Type 0} (xs : List A) (j : ℕ) → j < length xs → (x : A) × (slice_get xs j ≡ Some x)
local_there [] j l = absurd (omega (arith, l))
local_there (x ∷ xs) zero l = (x, refl)
local_there (x ∷ xs) (suc j) l = local_there xs j (omega (arith, l))

one_on : (from j : ℕ) → suc from + j ≡ from + suc j
one_on from j = omega arith

-- the term of a local is its symbol
symbol_there : (k : Known) (ls : List Local) (from j : ℕ) (l : Local) → slice_get ls j ≡ Some l → local_term (slice_get (symbols_from k from ls) j) ≡ symbol_of k (from + j) l
symbol_there k [] from j l e = absurd cc
symbol_there k (x ∷ ls) from zero l e = ap (symbol_of k from) (some_same e) ∙ ap (λ (n : ℕ). symbol_of k n l) (let q : from ≡ from + 0 = omega arith in q)
symbol_there k (x ∷ ls) from (suc j) l e = symbol_there k ls (suc from) j l e ∙ ap (λ (n : ℕ). symbol_of k n l) (one_on from j)

-- ---- components
-- a name may be used at something
abbrev may_be : Scheme → Result Scheme Refusal
may_be g = Ok g

same_scheme : {g k : Scheme} → may_be g ≡ may_be k → g ≡ k
same_scheme e = cc

-- a name is that of a local, one of so many behind so many others
pub record IsLocalBehind (s : Scope) (n m : ℕ) (x : List ℕ) : Type 0 where
  pub number : ℕ
  pub found : number_of s.locals.names x ≡ Some number
  pub past : n ≤ number
  pub below : number < n + m
  pub meaning : Local
  pub at : slice_get s.locals.meanings number ≡ Some meaning

module _ (s : Scope) (c : Context) (known : Known) (paths : List (List ℕ)) (n m : ℕ) (names : List Name) (stands : (x : List ℕ) → IsNamed x names → IsLocalBehind s n m x) where
  abbrev Around : Setting
  Around = with_symbols s c known paths

  -- the sort of a local as it is known in the end
  abbrev own_sort : Local → Sort
  own_sort l = filled (settling known) (sort_of_local l)

  -- an expression is read as a name of the case
  abbrev IsRead : GhostExprTree → Type 0
  IsRead e = (w : Bool) (u : ℕ) → IsNameOfCase n m (Some (read Around w u e).term)

  name_read : (x : List ℕ) (from : ℕ) (h : IsLocalBehind s n m x) → kind_of_sort (own_sort h.meaning) ≡ Other → IsNameOfCase n m (Some (term_of_name Around x from))
  name_read x from h other =
      subst (λ (o : Option ℕ). IsNameOfCase n m (Some (name_term Around x from o))) (sym h.found)
      (subst (λ (t : Term). IsNameOfCase n m (Some t)) (sym (symbol_there known s.locals.meanings 0 h.number h.meaning h.at))
      (subst (λ (k : Kind). IsSymbolOf n m (Symbol k (Numbered (0 + h.number)))) (sym other) (let p = h.past in let q = h.below in (omega (arith, p), omega (arith, q)))))

  -- the sort of a name of the case is that of the local
  name_sorted : (p : Place) (x : List ℕ) (h : IsLocalBehind s n m x) (g : Scheme) → name_scheme s p x ≡ Ok g → at_sort (sort_of_local h.meaning) ≡ g
  name_sorted p x h g e = same_scheme (ap (λ (o : Option Local). local_scheme s p x o) (sym h.at) ∙ (ap (λ (o : Option ℕ). local_scheme s p x (at_index s.locals.meanings o)) (sym h.found) ∙ e))

  name_kind : (p : Place) (x : List ℕ) (u : ℕ) (h : IsLocalBehind s n m x) (g : Scheme) → name_scheme s p x ≡ Ok g → kind_of_sort (filled (settling known) (instance u g.parameters g.result)) ≡ Other → kind_of_sort (own_sort h.meaning) ≡ Other
  name_kind p x u h g e other =
      sym (alone_kind (settling known) u (sort_of_local h.meaning)) ∙ (ap (λ (z : Scheme). kind_of_sort (filled (settling known) (instance u z.parameters z.result))) (name_sorted p x h g e) ∙ other)

  not_so : {A : Type 0} → false ≡ true → A
  not_so e = absurd cc

  -- a component that has a sort of no integers
  sorted_read : {k k' : Known} {e : GhostExprTree} {t : Sort} → HasSort s c k e t k' → kind_of_sort (filled (settling known) t) ≡ Other → IsTrue (is_component names e) → IsRead e
  sorted_read (name_ {k} {p} {x} {g} is below) other h = λ w u. name_read x p.file (stands x h) (name_kind p x (length k) (stands x h) g is other)
  sorted_read (parenthesized a) other h = sorted_read a other h
  sorted_read number other h = not_so h
  sorted_read truth other h = not_so h
  sorted_read falsehood other h = not_so h
  sorted_read (result is below) other h = not_so h
  sorted_read (this_ is) other h = not_so h
  sorted_read (thread is) other h = not_so h
  sorted_read (application local is below passed) other h = not_so h
  sorted_read (conditional test a m) other h = not_so h
  sorted_read (prefixed p) other h = not_so h
  sorted_read (chain a l) other h = not_so h

  -- one that passes for such a sort
  passing_read : {k k' : Known} {w : Sort} {q : Place} {e : GhostExprTree} → Passes s c k w q e k' → AgreesAsTold (settling known) k' → ((l : Known) → is_any (resolved l w) ≡ false) → kind_of_sort (filled (settling known) w) ≡ Other → IsTrue (is_component names e) → IsRead e
  passing_read (inside p) a out other h = passing_read p a out other h
  passing_read (null is) a out other h = not_so h
  passing_read (choice is test x y) a out other h = not_so h
  passing_read (any_wanted {k} outside is x) a out other h = not_so (sym (out k) ∙ is)
  passing_read {w = w} (as_wanted {k₁} {k'} {t} outside still x e) a out other h =
      sorted_read x (kind_alike (filled (settling known) t) (filled (settling known) w) (heads_alike (filled (settling known) t) (filled (settling known) w) (equated (settling known) k₁ k' t w e a)) ∙ other) h

  -- the argument at a place is read as a name of the case
  abbrev pub IsReadAt : ℕ → GhostExprTrees → Type 0
  IsReadAt q no_ghost_expr = ⊥
  IsReadAt zero (more_ghost_expr x xs) = IsRead x
  IsReadAt (suc q) (more_ghost_expr x xs) = IsReadAt q xs

  pub passed_read : (q : ℕ) {k k' : Known} {first i : ℕ} {ts : List Sort} {xs : GhostExprTrees} → ArePassed s c k first i ts xs k' → AgreesAsTold (settling known) k' → ((t : Sort) → slice_get ts q ≡ Some t → IsNoNumber t) → IsTrue (is_component_at names q xs) → IsReadAt q xs
  passed_read q none_passed a none h = not_so h
  passed_read zero (one_passed {first} {n = i} {t} p ps) a none h =
      passing_read p (before_passed s c (settling known) ps a) (λ l. not_any l first i t (none t refl)) (no_integer (settling known) first i t (none t refl)) h
  passed_read (suc q) (one_passed p ps) a none h = passed_read q ps a none h

  -- so the arguments are read with a name of the case at that place
  pub read_smaller : (q first i : ℕ) (ts : List Sort) (u : ℕ) (xs : GhostExprTrees) → q < length ts → IsReadAt q xs → IsNameOfCase n m (term_at (row (read_all Around first i ts u xs).terms) q)
  read_smaller q first i [] u xs l h = absurd (omega (arith, l))
  read_smaller q first i (t ∷ ts) u no_ghost_expr l h = absurd h
  read_smaller zero first i (t ∷ ts) u (more_ghost_expr x xs) l h = h (is_pointer (settled Around (instance first i t))) u
  read_smaller (suc q) first i (t ∷ ts) u (more_ghost_expr x xs) l h = read_smaller q first i ts (read Around (is_pointer (settled Around (instance first i t))) u x).next xs (omega (arith, l)) h
