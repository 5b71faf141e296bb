-- The body of a fixpoint with a result of integers returns terms of integers.
use Rattle.std.proofs.Common.{◌≡◌, ℕ, zero, suc, true, false, List, [], ◌∷◌, length, refl, sym, subst, ◌∙◌}
use Rattle.std.specs.Prelude.{slice_get, Contains}
use Rattle.vf_base.specs.declared.place.Place.{Place}
use Rattle.vf_closure.specs.Terms.{Integer, Term, term}
use Rattle.vf_closure.specs.Literals.{IsInteger}
use Rattle.vf_sorts.specs.declared.sort.Head.TheVariants as heads
use Rattle.vf_sorts.specs.Sorts.{Sort, Sorts, sort}
use Rattle.vf_sorts.specs.Unknowns.{AgreesAsTold, Known, settling}
use Rattle.vf_syntax.specs.declared.item.FixpointBody.{FixpointBody}
use Rattle.vf_syntax.specs.declared.item.FixpointCase.{FixpointCase}
use Rattle.vf_syntax.specs.declared.written.Name.{Name}
use Rattle.vf_syntax.specs.GhostExprTree.{GhostExprTree}
use Rattle.vf_declared.specs.declared.locals.Local.{Local}
use Rattle.vf_declared.specs.declared.scope.Scope.{Scope}
use Rattle.vf_declared.specs.Changes.{IsAligned}
use Rattle.vf_sorting.specs.declared.context.Context.{Context}
use Rattle.vf_sorting.specs.HasSort.{Passes, inside, null, choice, any_wanted, as_wanted}
use Rattle.vf_sorting.specs.Operators.{place_of}
use Rattle.vf_equations.specs.Fixpoints.{around_fixpoint, result_of}
use Rattle.vf_equations.specs.Switching.{Switches}
use Rattle.vf_equations.specs.Values.{CasesGive, ValuePasses, passes}
use Rattle.vf_terms.specs.Settings.{Setting, settled}
use Rattle.vf_terms.specs.Named.{local_term}
use Rattle.vf_terms.specs.Readings.{read}
use Rattle.vf_definitions.specs.declared.fixpoint.Body.{Body}
use Rattle.vf_definitions.specs.declared.fixpoint.Body.TheVariants as bodies
use Rattle.vf_definitions.specs.declared.fixpoint.Case.{Case}
use Rattle.vf_defining.specs.Bodies.{case_of, cases_of, place_among, within_case}
use Rattle.vf_defining.specs.Fixpoints.{Defines}
use Rattle.vf_defining.specs.Fixpoints as defined
use Rattle.vf_defining.specs.Symbols.{symbols_from, value_read, with_symbols}
use Rattle.vf_entailment.specs.Laws.{AreIntegers}
use Rattle.vf_fixpoint_laws.proofs.values.Alike.{heads_alike, kind_alike}
use Rattle.vf_fixpoint_laws.proofs.values.Before.{equated}
use Rattle.vf_fixpoint_laws.proofs.bodies.Resolved.{passing_settles}
use Rattle.vf_fixpoint_laws.proofs.descending.Bodies.{scope_behind}
use Rattle.vf_fixpoint_laws.proofs.met.Kinded.{IsKindedSetting, IsLocalKinded, has_kind, kind_in}
use Rattle.vf_fixpoint_laws.proofs.met.Sorted.{has_read}
use Rattle.vf_unit_laws.proofs.Cases.{IsCaseOf, each_case}
use Rattle.vf_unit_laws.proofs.Switched.{nothing_known, settled_behind, switched_count}

-- a sort of integers
abbrev integers : Sorts → Sort
integers ts = sort heads.Int ts

-- ---- expressions
of_integers : (t : Term) → kind_in t ≡ Integer → IsInteger t
of_integers (term h ts) e = e

not_so : {A : Type 0} → false ≡ true → A
not_so e = absurd cc

-- the term of an expression that passes for a sort of integers is one of integers
passes_kinded : (s : Setting) → IsKindedSetting s → {k k' : Known} {ts : Sorts} {q : Place} {e : GhostExprTree} → Passes s.scope s.context k (integers ts) q e k' → AgreesAsTold (settling s.known) k' → (u : ℕ) → u ≡ length k → IsInteger (read s false u e).term
passes_kinded s given (inside p) a u at = passes_kinded s given p a u at
passes_kinded s given (null is) a u at = not_so is
passes_kinded s given (choice pointer test x y) a u at = not_so pointer
passes_kinded s given (any_wanted outside any h) a u at = not_so any
passes_kinded s given {ts = ts} (as_wanted {k₁} {k'} {t} {e = x} outside other h e) a u at =
    let r = has_read s h (e.kept (settling s.known) a) u at in
    let same = equated (settling s.known) k₁ k' t (integers ts) e a in
    of_integers (read s false u x).term (has_kind s given h false u (kind_alike (read s false u x).sort (settled s t) r.1 ∙ kind_alike (settled s t) (settled s (integers ts)) (heads_alike (settled s t) (settled s (integers ts)) same)))

-- ---- the symbols of locals
symbol_kinded : (s : Setting) (ms : List Local) (from n : ℕ) → IsLocalKinded s (slice_get ms n) (local_term (slice_get (symbols_from s.known from ms) n))
symbol_kinded s [] from n = refl
symbol_kinded s (l ∷ ms) from zero = λ q. q
symbol_kinded s (l ∷ ms) from (suc n) = symbol_kinded s ms (suc from) n

symbols_kinded : (s : Scope) (c : Context) (k : Known) (paths : List (List ℕ)) → IsKindedSetting (with_symbols s c k paths)
symbols_kinded s c k paths = record { locals = λ n. symbol_kinded (with_symbols s c k paths) s.locals.meanings 0 n; result = refl; thread = refl }

-- ---- bodies
module _ (s : Scope) (paths : List (List ℕ)) (n : ℕ) (ts : Sorts) where
  abbrev C : Context
  C = around_fixpoint n

  abbrev T : Sort
  T = integers ts

  value_kinded : (e : GhostExprTree) (k : Known) → ValuePasses s C T [] e k → IsInteger (value_read s C k paths T 0 e).term
  value_kinded e k (passes below p) = passes_kinded (with_symbols s C k paths) (symbols_kinded s C k paths) p (passing_settles s C [] k T (place_of e) e nothing_known below p) 0 refl

  -- a case, where it stands
  standing_kinded : (m : ℕ) (k : Known) (cs : List FixpointCase) (y : Case) → IsCaseOf s m C T k paths cs y → IsInteger y.result
  standing_kinded m k cs y h = subst (λ (z : Case). IsInteger z.result) (sym h.is) (by h.gives)
    where
      by : ValuePasses (within_case s m (h.written).pattern) C T h.before (h.written).value h.behind → IsInteger (case_of C k paths T m s (length h.before) h.written).result
      by (passes below q) = passes_kinded (with_symbols (within_case s m (h.written).pattern) C k paths) (symbols_kinded (within_case s m (h.written).pattern) C k paths) q h.agrees (length h.before) refl

  cases_kinded : IsAligned s.locals → (x : Name) (cs : List FixpointCase) (m : ℕ) (k k' : Known) (s' : Scope) → Switches s x cs m k → CasesGive C T m s k cs s' k' → AreIntegers (bodies.Switches (place_among s' x) (cases_of C k' paths T m s' m cs))
  cases_kinded aligned x cs m k k' s' front given y among =
      standing_kinded m k' cs y
      (each_case m C T s aligned k' paths cs k k' s' m given (switched_count front) (settled_behind front given) y (subst (λ (z : Scope). Contains (cases_of C k' paths T m z m cs) y) (scope_behind s aligned cs k k' s' given) among))

-- a body that is defined for a result of integers
pub defines_integers : (s : Scope) (paths : List (List ℕ)) (n : ℕ) (ts : Sorts) → IsAligned s.locals → result_of s n ≡ sort heads.Int ts → (text : FixpointBody) (b : Body) → Defines s paths n text b → AreIntegers b
defines_integers s paths n ts aligned is text b (defined.value {e} {k} given) =
    subst (λ (t : Sort). ValuePasses s (around_fixpoint n) t [] e k → IsInteger (value_read s (around_fixpoint n) k paths t 0 e).term) (sym is) (value_kinded s paths n ts e k) given
defines_integers s paths n ts aligned is text b (defined.cases {x} {cs} {m} {s'} {k} {k'} front given) =
    subst (λ (t : Sort). CasesGive (around_fixpoint n) t m s k cs s' k' → AreIntegers (bodies.Switches (place_among s' x) (cases_of (around_fixpoint n) k' paths t m s' m cs))) (sym is)
    (cases_kinded s paths n ts aligned x cs m k k' s' front) given
