-- The bodies of the definitions of items apply fixpoints with results of integers as such; so these keep sorts with numbers.
use Rattle.std.proofs.Common.{◌≡◌, ℕ, zero, suc, Bool, true, false, cond, not, List, [], ◌∷◌, Some, refl, sym, subst, ap, ◌∙◌}
use Rattle.std.specs.Prelude.{is_some, slice_get}
use Rattle.vf_tree.specs.Core.{Identity}
use Rattle.vf_model.specs.Values.{same_identity}
use Rattle.vf_closure.specs.Terms.{Kind, Integer, Other}
use Rattle.vf_sorts.specs.Sorts.{Sort}
use Rattle.vf_sorts.specs.Unknowns.{Known, filled, settling}
use Rattle.vf_syntax.specs.declared.item.FixpointBody.{FixpointBody}
use Rattle.vf_syntax.specs.declared.item.FixpointCase.{FixpointCase}
use Rattle.vf_syntax.specs.declared.item.Item.{Item}
use Rattle.vf_syntax.specs.declared.written.Name.{Name}
use Rattle.vf_declared.specs.declared.declaration.Fixpoint as declaration
use Rattle.vf_declared.specs.declared.declaration.GhostDeclaration.TheVariants as ghosts
use Rattle.vf_declared.specs.declared.locals.Local.{Local}
use Rattle.vf_declared.specs.declared.scope.Scope.{Scope}
use Rattle.vf_sorting.specs.declared.context.Context.{Context}
use Rattle.vf_sorting.specs.Kinds.{is_pointer}
use Rattle.vf_terms.specs.Settings.{kind_of_sort}
use Rattle.vf_terms.specs.Named.{local_term}
use Rattle.vf_equations.specs.Fixpoints.{around_fixpoint, result_of}
use Rattle.vf_equations.specs.Values.{CasesGive, no_cases, more_cases, a_case}
use Rattle.vf_definitions.specs.Unfolded.{case_for, fixpoint_for}
use Rattle.vf_definitions.specs.declared.fixpoint.Case.{Case}
use Rattle.vf_definitions.specs.declared.fixpoint.Body.{Body}
use Rattle.vf_definitions.specs.declared.fixpoint.Fixpoint as definitions
use Rattle.vf_defining.specs.Symbols.{symbols_from, with_symbols}
use Rattle.vf_defining.specs.Bodies.{behind_case, case_of, case_read, cases_of, within_case}
use Rattle.vf_defining.specs.UpTo.{up_to}
use Rattle.vf_defining.specs.Fixpoints.{Defines}
use Rattle.vf_defining.specs.Fixpoints as defined
use Rattle.vf_defining.specs.Units.{HaveDefinitions, within_fixpoint}
use Rattle.vf_fixpoint_laws.specs.values.Declares.{Declared, Declares}
use Rattle.vf_fixpoint_laws.specs.values.Worth.{Sets, passing}
use Rattle.vf_fixpoint_laws.proofs.values.Operating.{first_of, second_of}
use Rattle.vf_fixpoint_laws.specs.bodies.Bodies.{IsWellDeclared, declared_at}
use Rattle.vf_fixpoint_laws.specs.bodies.Numbers.{BodyIsKinded, TermIsKinded}
use Rattle.vf_fixpoint_laws.specs.bodies.Applied.{AreOfIntegers, DefinedKeepIn, DefinedKeepSorts, DefinitionsAreKinded, IsSettingKinded}
use Rattle.vf_fixpoint_laws.proofs.bodies.Fronts.{front_declares}
use Rattle.vf_fixpoint_laws.proofs.bodies.Applied.{read_kinded}
use Rattle.vf_fixpoint_laws.proofs.bodies.Bodies.{some_there}
use Rattle.vf_fixpoint_laws.proofs.bodies.Cases.{same_case}
use Rattle.vf_fixpoint_laws.proofs.bodies.Recursion.{same_fixpoint}
use Rattle.vf_fixpoint_laws.proofs.bodies.Taken.{body_kinded_taken, either_taken}
use Rattle.vf_fixpoint_laws.proofs.bodies.Numbers.{IsFrom, definition_from, fixpoint_found, fixpoint_there, not_both, numbers_keep_in}

-- ---- declared fixpoints
of_integers : (s : Scope) (paths : List (List ℕ)) (items : List Item) (fs : List definitions.Fixpoint) → HaveDefinitions s paths items fs → IsWellDeclared (declared_at s paths) → AreOfIntegers (declared_at s paths) fs
of_integers s paths items fs have well c e x is =
    let a = some_there (fixpoint_for fs Integer c) (first_of (is_some (fixpoint_for fs Integer c)) (not (is_some (fixpoint_for fs Other c))) e) in
    let q = fixpoint_found fs Integer c a.0 a.1 in
    by a.0 q.2 (definition_from s paths items fs have a.0 q.0)
  where
    by : (a : definitions.Fixpoint) → a.identity ≡ c → IsFrom s paths fs a → kind_of_sort x.result ≡ Integer
    by a same h = ap (λ (y : declaration.Fixpoint). kind_of_sort y.result) (sym one) ∙ at (kind_of_sort (h.declared).result) refl
      where
        one : h.declared ≡ x
        one = same_fixpoint (well.tells c (ghosts.Fixpoint h.declared) (ghosts.Fixpoint x) (subst (λ (z : Identity). Declares (declared_at s paths) z (ghosts.Fixpoint h.declared)) same h.declares) is)

        at : (k : Kind) → kind_of_sort (h.declared).result ≡ k → kind_of_sort (h.declared).result ≡ Integer
        at Integer p = p
        at Other p =
            not_both (is_some (fixpoint_for fs Other c))
            (subst (λ (z : Identity). is_some (fixpoint_for fs Other z) ≡ true) (h.own_identity_is ∙ same) (subst (λ (k : Kind). is_some (fixpoint_for fs k (h.own).identity) ≡ true) (h.own_kind_is ∙ p) (fixpoint_there fs h.own h.own_among)))
            (second_of (is_some (fixpoint_for fs Integer c)) (not (is_some (fixpoint_for fs Other c))) e)

-- ---- bodies
module _ (fs : List definitions.Fixpoint) where
  symbols_kinded : (k : Known) (ms : List Local) (from n : ℕ) → TermIsKinded fs (local_term (slice_get (symbols_from k from ms) n))
  symbols_kinded k [] from n = (tt, tt)
  symbols_kinded k (m ∷ ms) from zero = (tt, tt)
  symbols_kinded k (m ∷ ms) from (suc n) = symbols_kinded k ms (suc from) n

  setting_kinded : (s : Scope) (c : Context) (k : Known) (paths : List (List ℕ)) → IsSettingKinded fs (with_symbols s c k paths)
  setting_kinded s c k paths = record { locals = symbols_kinded k s.locals.meanings 0; result = (tt, tt); this_value = (tt, tt); thread = (tt, tt) }

  cases_kinded : (c : Context) (k : Known) (paths : List (List ℕ)) (t : Sort) (m : ℕ) (cs : List FixpointCase) (s : Scope) (u : ℕ) → AreOfIntegers (declared_at s paths) fs → (g : Identity) (y : Case) → case_for (cases_of c k paths t m s u cs) g ≡ Some y → TermIsKinded fs y.result
  cases_kinded c k paths t m [] s u integers g y e = absurd cc
  cases_kinded c k paths t m (x ∷ cs) s u integers g y e = by (cases_kinded c k paths t m cs (behind_case s m x.pattern) (case_read c k paths t m s u x).next integers g y) (same_identity (case_of c k paths t m s u x).constructor g) e
    where
      others : List Case
      others = cases_of c k paths t m (behind_case s m x.pattern) (case_read c k paths t m s u x).next cs

      by : (case_for others g ≡ Some y → TermIsKinded fs y.result) → (b : Bool) → cond b (Some (case_of c k paths t m s u x)) (case_for others g) ≡ Some y → TermIsKinded fs y.result
      by further true e =
          subst (λ (z : Case). TermIsKinded fs z.result) (same_case e)
          (read_kinded fs (with_symbols (within_case s m x.pattern) c k paths) integers (setting_kinded (within_case s m x.pattern) c k paths) (is_pointer (filled (settling k) t)) u x.value)
      by further false e = further e

-- behind cases there is at file level what was declared before them
level_behind : {c : Context} {t : Sort} {m : ℕ} {s s' : Scope} {k k' : Known} {cs : List FixpointCase} (paths : List (List ℕ)) → CasesGive c t m s k cs s' k' → declared_at s' paths ≡ declared_at s paths
level_behind paths no_cases = refl
level_behind paths (more_cases (a_case binds p) rest) = level_behind paths rest

body_kinded : (fs : List definitions.Fixpoint) (s : Scope) (paths : List (List ℕ)) (n : ℕ) (text : FixpointBody) (b : Body) → AreOfIntegers (declared_at s paths) fs → Defines s paths n text b → BodyIsKinded fs b
body_kinded fs s paths n text b integers (defined.value {e} {k} given) =
    read_kinded fs (with_symbols s (around_fixpoint n) k paths) integers (setting_kinded fs s (around_fixpoint n) k paths) (is_pointer (filled (settling k) (result_of s n))) 0 e
body_kinded fs s paths n text b integers (defined.cases {cs} {m} {s'} {k'} front given) =
    cases_kinded fs (around_fixpoint n) k' paths (result_of s n) m cs s' m (subst (λ (d : Declared). AreOfIntegers d fs) (sym (level_behind paths given)) integers)

-- what is declared up to a name has results of integers too
front_integers : (n : Name) (s : Scope) (paths : List (List ℕ)) (fs : List definitions.Fixpoint) → AreOfIntegers (declared_at s paths) fs → AreOfIntegers (declared_at (up_to n s) paths) fs
front_integers n s paths fs integers c e x is = integers c e x (front_declares n s paths c (ghosts.Fixpoint x) is)

pub definitions_are_kinded : DefinitionsAreKinded
definitions_are_kinded s paths items fs have well =
    let integers = of_integers s paths items fs have well in (
      integers,
      λ k there.
          let h = definition_from s paths items fs have k there in
          either_taken (BodyIsKinded fs) h.body k.body h.taken
          (body_kinded fs (within_fixpoint (up_to (h.written).name s) (h.written).parameters (h.declared).arguments) paths h.number (h.written).body h.body (front_integers (h.written).name s paths fs integers) h.defines)
          (body_kinded_taken fs h.body),
    )

pub defined_keep_in : (sets : Sets) → DefinedKeepIn sets
defined_keep_in sets s paths items fs i r have meets well written covered cases down = numbers_keep_in sets s paths items fs i r have meets well written covered cases down (definitions_are_kinded s paths items fs have well).1

pub defined_keep_sorts : DefinedKeepSorts
defined_keep_sorts tests = defined_keep_in (passing tests)
