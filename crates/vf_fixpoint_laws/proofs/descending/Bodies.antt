-- The bodies of fixpoints go down, where no call in them strays.
use Rattle.std.proofs.Common.{◌≡◌, refl, sym, ap, subst, ◌∙◌, ℕ, ◌+◌, Bool, true, false, cond, List, [], ◌∷◌, ◌++◌, length, length-append, map, Option, Some, None, Result, Ok, Err, arith}
use Rattle.std.specs.Prelude.{◌<◌, if◌then◌else◌}
use Rattle.std.specs.Option.{option_or}
use Rattle.std.proofs.lemmas.List.{length-map}
use Rattle.vf_base.specs.declared.place.Place.{Place}
use Rattle.vf_base.specs.declared.refusal.Refusal.{Refusal}
use Rattle.vf_tree.specs.Core.{Identity}
use Rattle.vf_model.specs.Values.{same_identity}
use Rattle.vf_names.specs.Names.{number_of}
use Rattle.vf_sorts.specs.Sorts.{Sort}
use Rattle.vf_sorts.specs.Unknowns.{Known, filled, settling}
use Rattle.vf_syntax.specs.declared.item.FixpointBody.{FixpointBody}
use Rattle.vf_syntax.specs.declared.item.FixpointCase.{FixpointCase}
use Rattle.vf_syntax.specs.declared.item.GhostParameter.{GhostParameter}
use Rattle.vf_syntax.specs.declared.written.Name.{Name}
use Rattle.vf_syntax.specs.GhostExprTree.{GhostExprTree}
use Rattle.vf_declared.specs.declared.scope.Scope.{Scope}
use Rattle.vf_declared.specs.Changes.{IsAligned}
use Rattle.vf_declared.specs.Scopes.{at_index}
use Rattle.vf_sorting.specs.declared.context.Context.{Context}
use Rattle.vf_sorting.specs.Kinds.{is_pointer}
use Rattle.vf_binding.specs.declared.bound.Bound.{Bound}
use Rattle.vf_binding.specs.Bound.{bound_local, no_names}
use Rattle.vf_asserting.specs.Cases.{NamesBind, names_or_none}
use Rattle.vf_asserting.specs.Leaving.{count}
use Rattle.vf_asserting.specs.Switches.{case_sorts}
use Rattle.vf_equations.specs.Fixpoints.{around_fixpoint, result_of}
use Rattle.vf_equations.specs.Switching.{Switches, sort_in, switched_sort, switches}
use Rattle.vf_equations.specs.Values.{CasesGive, no_cases, more_cases, a_case}
use Rattle.vf_terms.specs.Named.{name_term, term_of_name}
use Rattle.vf_definitions.specs.Unfolded.{case_for}
use Rattle.vf_definitions.specs.declared.fixpoint.Body.{Body}
use Rattle.vf_definitions.specs.declared.fixpoint.Case.{Case}
use Rattle.vf_defining.specs.Symbols.{value_read, with_symbols}
use Rattle.vf_defining.specs.Bodies.{case_names, case_of, case_read, cases_of, place_among, place_or_first, within_case}
use Rattle.vf_defining.specs.Fixpoints.{Defines}
use Rattle.vf_defining.specs.Fixpoints as defined
use Rattle.vf_fixpoint.specs.Calls.{Recursion, first_stray}
use Rattle.vf_fixpoint.specs.Cases.{components_of, constructors_of, first_stray_case, is_complete, parameter_of, refused_at, stray_in_case}
use Rattle.vf_fixpoint.proofs.Straying.{strays_are_calls}
use Rattle.vf_fixpoint_laws.specs.bodies.Recursion.{BodyGoesDown, IsComponent, Ranks, TermGoesDown}
use Rattle.vf_fixpoint_laws.proofs.descending.Cases.{IsNamed, components_are, left_same, names_counted, names_free, stands_behind, symbol_behind, symbol_down}
use Rattle.vf_fixpoint_laws.proofs.descending.Lists.{none_some, number_below}
use Rattle.vf_fixpoint_laws.proofs.descending.Reading.{AreEarlier, IsSettingDown, read_down}

-- nothing is chosen only where neither is there
pub neither_there : {A : Type 0} (x y : Option A) → option_or x y ≡ None → (x ≡ None) × (y ≡ None)
neither_there None y e = (refl, e)
neither_there (Some a) y e = absurd (none_some (sym e))

-- what a fixpoint with a name is held to in a case
abbrev held : List ℕ → Option ℕ → List Name → Recursion
held name o ns = record { name = name; parameter = o; components = ns }

module _ (r : Ranks) (c : Identity) (name : List ℕ) (paths : List (List ℕ)) where
  setting_down : (s : Scope) (w : Context) (k : Known) (n : ℕ) (o : Option ℕ) (ns : List Name) → ((x : List ℕ) (from : ℕ) → IsNamed x ns → IsComponent n (Some (term_of_name (with_symbols s w k paths) x from)))
      → IsSettingDown (with_symbols s w k paths) r c n (held name o ns)
  setting_down s w k n o ns named = record { locals = λ j. symbol_down r c n o k s.locals.meanings 0 j; result = (tt, tt); this_value = (tt, tt); thread = (tt, tt); components = named }

  value_down : (s : Scope) (w : Context) (k : Known) (t : Sort) (u n : ℕ) (e : GhostExprTree) → AreEarlier s paths r c name None → first_stray (held name None []) e ≡ None → TermGoesDown r c n None (value_read s w k paths t u e).term
  value_down s w k t u n e earlier g =
      read_down (with_symbols s w k paths) r c n (held name None []) earlier (setting_down s w k n None [] (λ x from h. absurd (let q : false ≡ true = h in cc))) (is_pointer (filled (settling k) t)) u e
      ((strays_are_calls (held name None []) e).0 g)

  module _ (w : Context) (known : Known) (t : Sort) (m : ℕ) (o : Option ℕ) (s : Scope) (aligned : IsAligned s.locals) (earlier : AreEarlier s paths r c name o) where
    -- the term of a name of a case
    component_there : (x : FixpointCase) (b : Bound) → NamesBind s no_names (names_or_none x.pattern.names) (case_sorts s 0 m x.pattern) b → (y : List ℕ) (from : ℕ) → IsNamed y (names_or_none x.pattern.names)
        → IsComponent (count s) (Some (term_of_name (with_symbols (within_case s m x.pattern) w known paths) y from))
    component_there x b binds y from h =
        let f = stands_behind y s.locals.names (names_or_none x.pattern.names) (names_free binds y h) h in
        let l : length (s.locals.meanings ++ map bound_local (case_sorts s 0 m x.pattern)) ≡ length s.locals.meanings + length (map bound_local (case_sorts s 0 m x.pattern)) = length-append s.locals.meanings (map bound_local (case_sorts s 0 m x.pattern)) in
        let i : length (map bound_local (case_sorts s 0 m x.pattern)) ≡ length (case_sorts s 0 m x.pattern) = length-map (case_sorts s 0 m x.pattern) bound_local in
        let j : length (names_or_none x.pattern.names) ≡ length (case_sorts s 0 m x.pattern) = names_counted binds in
        let p = f.past in
        let q = f.below in
        subst (λ (z : Option ℕ). IsComponent (count s) (Some (name_term (with_symbols (within_case s m x.pattern) w known paths) y from z))) (sym f.found)
        (symbol_behind (count s) known (s.locals.meanings ++ map bound_local (case_sorts s 0 m x.pattern)) 0 f.number (omega (arith, aligned, l, i, j, q)) (omega (arith, p)))

    case_down : (u : ℕ) (x : FixpointCase) (b : Bound) → NamesBind s no_names (names_or_none x.pattern.names) (case_sorts s 0 m x.pattern) b → stray_in_case name o x ≡ None → TermGoesDown r c (count s) o (case_read w known paths t m s u x).term
    case_down u x b binds g =
        read_down (with_symbols (within_case s m x.pattern) w known paths) r c (count s) (held name o (components_of x.pattern.names)) earlier
        (setting_down (within_case s m x.pattern) w known (count s) o (components_of x.pattern.names) (λ y from h. component_there x b binds y from (subst (IsNamed y) (components_are x.pattern.names) h)))
        (is_pointer (filled (settling known) t)) u x.value ((strays_are_calls (held name o (components_of x.pattern.names)) x.value).0 g)

    same_case : {x y : Case} → Some x ≡ Some y → x ≡ y
    same_case e = cc

    pub cases_down : (cs : List FixpointCase) (k k' : Known) (s' : Scope) (u : ℕ) → CasesGive w t m s k cs s' k' → first_stray_case name o cs ≡ None → (g : Identity) (y : Case) → case_for (cases_of w known paths t m s u cs) g ≡ Some y → TermGoesDown r c (count s) o y.result
    cases_down [] k k' s' u h f g y e = absurd cc
    cases_down (x ∷ cs) k k' s' u (more_cases {k₁} (a_case {b} binds p) rest) f g y e =
        by (same_identity (case_of w known paths t m s u x).constructor g)
        (subst (λ (z : Scope). cond (same_identity (case_of w known paths t m s u x).constructor g) (Some (case_of w known paths t m s u x)) (case_for (cases_of w known paths t m z (case_read w known paths t m s u x).next cs) g) ≡ Some y) (left_same s (case_names s m x.pattern) aligned) e)
        (cases_down cs k₁ k' s' (case_read w known paths t m s u x).next (subst (λ (z : Scope). CasesGive w t m z k₁ cs s' k') (left_same s b aligned) rest) parts.1 g y)
      where
        parts : (stray_in_case name o x ≡ None) × (first_stray_case name o cs ≡ None)
        parts = neither_there (stray_in_case name o x) (first_stray_case name o cs) f

        others : List Case
        others = cases_of w known paths t m s (case_read w known paths t m s u x).next cs

        by : (d : Bool) → cond d (Some (case_of w known paths t m s u x)) (case_for others g) ≡ Some y → (case_for others g ≡ Some y → TermGoesDown r c (count s) o y.result) → TermGoesDown r c (count s) o y.result
        by true e h = subst (λ (z : Case). TermGoesDown r c (count s) o z.result) (same_case e) (case_down u x b binds parts.0)
        by false e h = h e

-- behind all cases there is what was declared before them
pub scope_behind : {w : Context} {t : Sort} {m : ℕ} (s : Scope) → IsAligned s.locals → (cs : List FixpointCase) (k k' : Known) (s' : Scope) → CasesGive w t m s k cs s' k' → s' ≡ s
scope_behind s aligned [] k k' s' no_cases = refl
scope_behind {w} {t} {m} s aligned (y ∷ cs) k k' s' (more_cases {k₁} (a_case {b} binds p) rest) = scope_behind s aligned cs k₁ k' s' (subst (λ (z : Scope). CasesGive w t m z k₁ cs s' k') (left_same s b aligned) rest)

-- ---- what is switched over
no_sort : {r : Refusal} {t : Sort} → ◌≡◌ {A = Result Sort Refusal} (Err r) (Ok t) → ⊥
no_sort e = cc

-- a local that is switched over has a number
switched_there : (s : Scope) (x : Name) (t : Sort) → switched_sort s x ≡ Ok t → (p : ℕ) × (number_of s.locals.names x.text ≡ Some p)
switched_there s x t = by (number_of s.locals.names x.text)
  where
    by : (o : Option ℕ) → sort_in s x (at_index s.locals.meanings o) ≡ Ok t → (p : ℕ) × (o ≡ Some p)
    by None e = absurd (no_sort e)
    by (Some p) e = (p, refl)

switch_there : {s : Scope} {x : Name} {cs : List FixpointCase} {m : ℕ} {k : Known} → Switches s x cs m k → (p : ℕ) × (number_of s.locals.names x.text ≡ Some p)
switch_there {s} {x} (switches {t} sorted below is all equates) = switched_there s x t sorted

-- ---- bodies
abbrev pub names_of : List GhostParameter → List (List ℕ)
names_of gs = map (λ (g : GhostParameter). g.name.text) gs

pub complete_then : (b : Bool) (o : Option Place) (p : Place) → (if b then o else Some p) ≡ None → (b ≡ true) × (o ≡ None)
complete_then true o p e = (refl, e)
complete_then false o p e = absurd (none_some (sym e))

module _ (r : Ranks) (c : Identity) (name : Name) (paths : List (List ℕ)) (gs : List GhostParameter) (s : Scope) (aligned : IsAligned s.locals) (named : s.locals.names ≡ names_of gs)
    (earlier : (o : Option ℕ) → ((p : ℕ) → o ≡ Some p → p < length gs) → AreEarlier s paths r c name.text o) where
  parameter_below : (x : List ℕ) (p : ℕ) → parameter_of gs x ≡ Some p → p < length gs
  parameter_below x p e =
      let l : length (names_of gs) ≡ length gs = length-map gs (λ (g : GhostParameter). g.name.text) in
      let q = number_below (names_of gs) x p e in
      omega (arith, l, q)

  cases_of_body : (n : ℕ) (x : Name) (cs : List FixpointCase) (m p : ℕ) (s' : Scope) (k k' : Known) → number_of s.locals.names x.text ≡ Some p → CasesGive (around_fixpoint n) (result_of s n) m s k cs s' k' → first_stray_case name.text (parameter_of gs x.text) cs ≡ None
      → (g : Identity) (y : Case) → case_for (cases_of (around_fixpoint n) k' paths (result_of s n) m s' m cs) g ≡ Some y → TermGoesDown r c (count s) (Some (place_among s' x)) y.result
  cases_of_body n x cs m p s' k k' there given f g y e =
      let same = scope_behind s aligned cs k k' s' given in
      let own : parameter_of gs x.text ≡ Some p = ap (λ ns. number_of ns x.text) (sym named) ∙ there in
      let at : Some (place_among s' x) ≡ parameter_of gs x.text = ap (λ (z : Scope). Some (place_among z x)) same ∙ (ap (λ o. Some (place_or_first o)) there ∙ sym own) in
      subst (λ o. TermGoesDown r c (count s) o y.result) (sym at)
      (cases_down r c name.text paths (around_fixpoint n) k' (result_of s n) m (parameter_of gs x.text) s aligned (earlier (parameter_of gs x.text) (parameter_below x.text)) cs k k' s' m given f g y
      (subst (λ (z : Scope). case_for (cases_of (around_fixpoint n) k' paths (result_of s n) m z m cs) g ≡ Some y) same e))

  pub body_down : (n : ℕ) (text : FixpointBody) (b : Body) (constructors : List (List ℕ)) → Defines s paths n text b → refused_at name gs constructors text ≡ None → BodyGoesDown r c (count s) b
  body_down n text b constructors (defined.value {e} {k} given) f = value_down r c name.text paths s (around_fixpoint n) k (result_of s n) 0 (count s) e (earlier None (λ p q. absurd (none_some q))) f
  body_down n text b constructors (defined.cases {x} {cs} {m} {s'} {k} {k'} front given) f =
      let h = switch_there front in
      cases_of_body n x cs m h.0 s' k k' h.1 given (complete_then (is_complete constructors (constructors_of cs)) (first_stray_case name.text (parameter_of gs x.text) cs) name.place f).1
