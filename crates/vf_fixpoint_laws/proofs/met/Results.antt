-- What the body of a fixpoint with a result of integers returns has numbers for its values.
use Rattle.std.proofs.Common.{◌≡◌, ℕ, zero, suc, ◌+◌, ◌<◌, true, false, List, [], ◌∷◌, ◌++◌, length, Some, refl, sym, subst, ◌∙◌, arith}
use Rattle.std.specs.Prelude.{slice_get}
use Rattle.vf_base.specs.declared.place.Place.{Place}
use Rattle.vf_tree.specs.Core.{Identity}
use Rattle.vf_model.specs.Values.{Value}
use Rattle.vf_closure.specs.Terms.{Kind, Integer, Other, Term, kind_of, term}
use Rattle.vf_closure.specs.Values.{all_values, applied, of_kind}
use Rattle.vf_sorts.specs.declared.sort.Head.TheVariants as heads
use Rattle.vf_sorts.specs.Sorts.{Sort, Sorts, sort, row}
use Rattle.vf_sorts.specs.Unknowns.{AgreesAsTold, EachUnknownOf, IsBelow, IsResolved, Known, leaf, settling}
use Rattle.vf_sorts.specs.Unifying.{Equates}
use Rattle.vf_sorts.proofs.Settling.{settling_agrees}
use Rattle.vf_syntax.specs.declared.item.FixpointBody.{FixpointBody}
use Rattle.vf_syntax.specs.declared.item.FixpointCase.{FixpointCase}
use Rattle.vf_syntax.specs.declared.written.Name.{Name}
use Rattle.vf_syntax.specs.GhostExprTree.{GhostExprTree}
use Rattle.vf_declared.specs.declared.locals.Local.{Local}
use Rattle.vf_declared.specs.declared.scope.Scope.{Scope}
use Rattle.vf_declared.specs.Changes.{IsAligned}
use Rattle.vf_sorting.specs.declared.context.Context.{Context}
use Rattle.vf_sorting.specs.HasSort.{Passes, inside, null, choice, any_wanted, as_wanted}
use Rattle.vf_sorting.specs.Kinds.{datatype_sort, parameter_sorts, with_fresh}
use Rattle.vf_sorting.specs.Operators.{place_of}
use Rattle.vf_sorting.proofs.Below.{below_more, fresh_length, instance_below}
use Rattle.vf_asserting.specs.Switches.{parameters_of, unknown_datatype}
use Rattle.vf_equations.specs.Fixpoints.{around_fixpoint, result_of}
use Rattle.vf_equations.specs.Switching.{Switches, switches, are_constructors}
use Rattle.vf_equations.specs.Values.{CasesGive, ValuePasses, passes}
use Rattle.vf_terms.specs.Settings.{Setting, settled}
use Rattle.vf_terms.specs.Named.{local_term}
use Rattle.vf_terms.specs.Readings.{read}
use Rattle.vf_definitions.specs.Unfolded.{case_for}
use Rattle.vf_definitions.specs.declared.fixpoint.Body.{Body}
use Rattle.vf_definitions.specs.declared.fixpoint.Body.TheVariants as bodies
use Rattle.vf_definitions.specs.declared.fixpoint.Case.{Case}
use Rattle.vf_defining.specs.Bodies.{case_of, cases_of, place_among, within_case}
use Rattle.vf_defining.specs.Fixpoints.{Defines}
use Rattle.vf_defining.specs.Fixpoints as defined
use Rattle.vf_defining.specs.Symbols.{symbols_from, value_read, with_symbols}
use Rattle.vf_fixpoint_laws.proofs.values.Alike.{heads_alike, kind_alike}
use Rattle.vf_fixpoint_laws.proofs.values.Before.{equated}
use Rattle.vf_fixpoint_laws.proofs.bodies.Cases.{Found, cases_resolved, found, scope_behind}
use Rattle.vf_fixpoint_laws.proofs.bodies.Resolved.{equating_resolves, fresh_resolved, passing_settles}
use Rattle.vf_fixpoint_laws.specs.met.Laws.{BodyIsOfKind, IsOfKind}
use Rattle.vf_fixpoint_laws.proofs.met.Kinded.{IsKindedSetting, IsLocalKinded, has_kind, kind_in}
use Rattle.vf_fixpoint_laws.proofs.met.Sorted.{has_read}

-- a sort of integers
abbrev integers : Sorts → Sort
integers ts = sort heads.Int ts

-- ---- expressions
-- the term of an expression that passes for a sort of integers is one of integers
passes_kinded : (s : Setting) → IsKindedSetting s → {k k' : Known} {ts : Sorts} {q : Place} {e : GhostExprTree} → Passes s.scope s.context k (integers ts) q e k' → AgreesAsTold (settling s.known) k' → (u : ℕ) → u ≡ length k → kind_in (read s false u e).term ≡ Integer
passes_kinded s given (inside p) a u at = passes_kinded s given p a u at
passes_kinded s given (null is) a u at = absurd (let q : false ≡ true = is in cc)
passes_kinded s given (choice pointer test x y) a u at = absurd (let q : false ≡ true = pointer in cc)
passes_kinded s given (any_wanted outside any h) a u at = absurd (let q : false ≡ true = any in cc)
passes_kinded s given {ts = ts} (as_wanted {k₁} {k'} {t} {e = x} outside other h e) a u at =
    let r = has_read s h (e.kept (settling s.known) a) u at in
    let same = equated (settling s.known) k₁ k' t (integers ts) e a in
    has_kind s given h false u (kind_alike (read s false u x).sort (settled s t) r.1 ∙ kind_alike (settled s t) (settled s (integers ts)) (heads_alike (settled s t) (settled s (integers ts)) same))

number_again : (k : Kind) (w : Value) → k ≡ Integer → of_kind Integer (of_kind k w) ≡ of_kind k w
number_again Integer w e = refl
number_again Other w e = absurd cc

-- such a term has numbers for its values
kinded_values : (t : Term) → kind_in t ≡ Integer → IsOfKind Integer t
kinded_values (term h ts) e = λ i v. number_again (kind_of h) (applied i v h (all_values i v ts)) e

-- ---- the symbols of locals
symbol_kinded : (s : Setting) (ms : List Local) (from n : ℕ) → IsLocalKinded s (slice_get ms n) (local_term (slice_get (symbols_from s.known from ms) n))
symbol_kinded s [] from n = refl
symbol_kinded s (l ∷ ms) from zero = λ q. q
symbol_kinded s (l ∷ ms) from (suc n) = symbol_kinded s ms (suc from) n

symbols_kinded : (s : Scope) (c : Context) (k : Known) (paths : List (List ℕ)) → IsKindedSetting (with_symbols s c k paths)
symbols_kinded s c k paths = record { locals = λ n. symbol_kinded (with_symbols s c k paths) s.locals.meanings 0 n; result = refl; thread = refl }

-- ---- bodies
-- nothing is known at first
nothing_known : IsResolved []
nothing_known u s e = absurd cc

-- the type parameters of a datatype are no unknown sorts
parameters_below : (n m : ℕ) → EachUnknownOf (λ u. u < n) (row (parameter_sorts m))
parameters_below n zero = tt
parameters_below n (suc m) = more (parameter_sorts m) (parameters_below n m)
  where
    more : (ts : List Sort) → EachUnknownOf (λ u. u < n) (row ts) → EachUnknownOf (λ u. u < n) (row (ts ++ leaf (heads.Parameter m) ∷ []))
    more [] e = (tt, tt)
    more (t ∷ ts) e = (e.0, more ts e.1)

module _ (s : Scope) (paths : List (List ℕ)) (n : ℕ) (ts : Sorts) where
  abbrev C : Context
  C = around_fixpoint n

  abbrev T : Sort
  T = integers ts

  -- a body that returns
  returned : (e : GhostExprTree) (k : Known) → ValuePasses s C T [] e k → IsOfKind Integer (value_read s C k paths T 0 e).term
  returned e k (passes below p) =
      kinded_values (value_read s C k paths T 0 e).term (passes_kinded (with_symbols s C k paths) (symbols_kinded s C k paths) p (passing_settles s C [] k T (place_of e) e nothing_known below p) 0 refl)

  -- a body that switches
  module _ (aligned : IsAligned s.locals) (t : Sort) (d : ℕ) (k k' : Known) (cs : List FixpointCase) (s' : Scope) (below : IsBelow 0 t) (equates : Equates (with_fresh [] (parameters_of s d)) t (unknown_datatype s 0 d) k)
      (all : are_constructors s d cs ≡ true) (cases : CasesGive C T (parameters_of s d) s k cs s' k') where
    abbrev M : ℕ
    M = parameters_of s d

    fresh_long : length (with_fresh [] M) ≡ M
    fresh_long = let q = fresh_length [] M in omega (arith, q)

    first_resolved : IsResolved k
    first_resolved =
        equating_resolves (with_fresh [] M) k t (unknown_datatype s 0 d) (fresh_resolved [] M nothing_known) (below_more 0 (length (with_fresh [] M)) (omega arith) t below)
        (below_more (0 + M) (length (with_fresh [] M)) (let q = fresh_long in omega (arith, q)) (unknown_datatype s 0 d) (instance_below 0 0 M (omega arith) (datatype_sort d M) (parameters_below 0 M)))
        equates

    at_end : AgreesAsTold (settling k') k'
    at_end = settling_agrees k' (cases_resolved M C T cases first_resolved)

    case_kinded : (g : Identity) (y : Case) → Found s d M C T k' paths g y → IsOfKind Integer y.result
    case_kinded g y h = subst (λ (c : Case). IsOfKind Integer c.result) (sym h.is) (by h.gives)
      where
        by : ValuePasses (within_case s M (h.written).pattern) C T h.before (h.written).value h.behind → IsOfKind Integer (case_of C k' paths T M s (length h.before) h.written).result
        by (passes below_before q) =
            kinded_values (case_of C k' paths T M s (length h.before) h.written).result
            (passes_kinded (with_symbols (within_case s M (h.written).pattern) C k' paths) (symbols_kinded (within_case s M (h.written).pattern) C k' paths) q h.agrees (length h.before) refl)

    switched : (place : ℕ) → BodyIsOfKind Integer (bodies.Switches place (cases_of C k' paths T M s' M cs))
    switched place g y there =
        let long_k : M ≡ length k = sym fresh_long ∙ sym equates.long in
        case_kinded g y
        (found M C T s aligned d k' paths cs k k' s' M cases long_k at_end all g y
        (subst (λ (z : Scope). case_for (cases_of C k' paths T M z M cs) g ≡ Some y) (scope_behind M C T s aligned cs k k' s' cases) there))

  switching : IsAligned s.locals → (x : Name) (cs : List FixpointCase) (m : ℕ) (k k' : Known) (s' : Scope) → Switches s x cs m k → CasesGive C T m s k cs s' k' → BodyIsOfKind Integer (bodies.Switches (place_among s' x) (cases_of C k' paths T m s' m cs))
  switching aligned x cs m k k' s' (switches {t} {d} sorted below is_datatype all equates) given = switched aligned t d k k' cs s' below equates all given (place_among s' x)

-- a body that is defined for a result of integers
pub defines_kinded : (s : Scope) (paths : List (List ℕ)) (n : ℕ) (ts : Sorts) → IsAligned s.locals → result_of s n ≡ integers ts → (text : FixpointBody) (b : Body) → Defines s paths n text b → BodyIsOfKind Integer b
defines_kinded s paths n ts aligned is text b (defined.value {e} {k} given) =
    subst (λ (t : Sort). ValuePasses s (around_fixpoint n) t [] e k → IsOfKind Integer (value_read s (around_fixpoint n) k paths t 0 e).term) (sym is) (returned s paths n ts e k) given
defines_kinded s paths n ts aligned is text b (defined.cases {x} {cs} {m} {s'} {k} {k'} front given) =
    subst (λ (t : Sort). CasesGive (around_fixpoint n) t m s k cs s' k' → BodyIsOfKind Integer (bodies.Switches (place_among s' x) (cases_of (around_fixpoint n) k' paths t m s' m cs))) (sym is)
    (switching s paths n ts aligned x cs m k k' s' front) given
