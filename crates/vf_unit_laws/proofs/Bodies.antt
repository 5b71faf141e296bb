-- The bodies of fixpoints go back, where no call in them strays.
use Rattle.std.proofs.Common.{◌≡◌, ℕ, zero, suc, ◌+◌, Bool, true, false, List, [], ◌∷◌, ◌++◌, length, length-append, map, slice_get, Option, Some, None, Result, Ok, Err, refl, sym, ap, subst, ◌∙◌, arith}
use Rattle.std.specs.Prelude.{◌<◌, Contains, if◌then◌else◌}
use Rattle.std.proofs.lemmas.List.{length-map}
use Rattle.vf_base.specs.declared.place.Place.{Place}
use Rattle.vf_base.specs.declared.refusal.Refusal.{Refusal}
use Rattle.vf_tree.specs.Core.{Identity}
use Rattle.vf_names.specs.Names.{number_of}
use Rattle.vf_closure.specs.Terms.{Terms}
use Rattle.vf_sorts.specs.declared.sort.Head.TheVariants as heads
use Rattle.vf_sorts.specs.Sorts.{Sort, sort}
use Rattle.vf_sorts.specs.Unknowns.{AgreesAsTold, Known, filled, settling}
use Rattle.vf_syntax.specs.declared.item.FixpointBody.{FixpointBody}
use Rattle.vf_syntax.specs.declared.item.FixpointCase.{FixpointCase}
use Rattle.vf_syntax.specs.declared.item.GhostParameter.{GhostParameter}
use Rattle.vf_syntax.specs.declared.written.Name.{Name}
use Rattle.vf_syntax.specs.GhostExprTree.{GhostExprTree, GhostExprTrees}
use Rattle.vf_declared.specs.declared.declaration.Declaration.{Declaration}
use Rattle.vf_declared.specs.declared.declaration.Fixpoint as declaration
use Rattle.vf_declared.specs.declared.declaration.GhostDeclaration.TheVariants as ghosts
use Rattle.vf_declared.specs.declared.declaration.Meaning.{Meaning}
use Rattle.vf_declared.specs.declared.declaration.Meaning.TheVariants as meanings
use Rattle.vf_declared.specs.declared.locals.Local.{Local}
use Rattle.vf_declared.specs.declared.scope.Scope.{Scope}
use Rattle.vf_declared.specs.Changes.{IsAligned}
use Rattle.vf_declared.specs.Scopes.{at_index, at_name, declared_in, ghost_of, is_visible}
use Rattle.vf_sorting.specs.declared.context.Context.{Context}
use Rattle.vf_sorting.specs.declared.scheme.Scheme.{Scheme}
use Rattle.vf_sorting.specs.Kinds.{is_pointer, pointer_sort}
use Rattle.vf_sorting.specs.Operators.{place_of}
use Rattle.vf_sorting.specs.Schemes.{applied_ghost, applied_scheme, application_scheme, test_scheme, tests_type}
use Rattle.vf_binding.specs.declared.bound.Bound.{Bound}
use Rattle.vf_binding.specs.Bound.{bound_local, no_names}
use Rattle.vf_asserting.specs.Cases.{NamesBind, datatype_in, names_or_none}
use Rattle.vf_asserting.specs.Leaving.{count}
use Rattle.vf_asserting.specs.Switches.{case_sorts}
use Rattle.vf_equations.specs.Fixpoints.{around_fixpoint, result_of}
use Rattle.vf_equations.specs.Switching.{Switches, sort_in, switches}
use Rattle.vf_equations.specs.Values.{CasesGive, ValuePasses, passes}
use Rattle.vf_terms.specs.Named.{local_term}
use Rattle.vf_definitions.specs.declared.fixpoint.Body.{Body}
use Rattle.vf_definitions.specs.declared.fixpoint.Case.{Case}
use Rattle.vf_defining.specs.Symbols.{symbols_from, value_read, with_symbols}
use Rattle.vf_defining.specs.Bodies.{case_read, cases_of, place_among, place_or_first, within_case}
use Rattle.vf_defining.specs.Fixpoints.{Defines}
use Rattle.vf_defining.specs.Fixpoints as defined
use Rattle.vf_fixpoint.specs.Calls.{Recursion, first_stray}
use Rattle.vf_fixpoint.specs.Cases.{components_of, constructors_of, first_stray_case, is_complete, parameter_of, refused_at, stray_in_case}
use Rattle.vf_fixpoint.proofs.Straying.{strays_are_calls}
use Rattle.vf_view_laws.specs.Order.{BodyGoesBack, IsSmallerIn, NoneIsSmaller, TermGoesBack}
use Rattle.vf_fixpoint_laws.proofs.bodies.Resolved.{passing_settles}
use Rattle.vf_fixpoint_laws.proofs.descending.Bodies.{complete_then, names_of, neither_there, scope_behind}
use Rattle.vf_fixpoint_laws.proofs.descending.Cases.{IsNamed, components_are, names_counted, names_free, stands_behind}
use Rattle.vf_fixpoint_laws.proofs.descending.Lists.{none_some, number_below, some_same}
use Rattle.vf_fixpoint_laws.proofs.descending.Meanings.{get_mapped}
use Rattle.vf_unit_laws.proofs.Calls.{passing_calls}
use Rattle.vf_unit_laws.proofs.Cases.{IsCaseOf, each_case}
use Rattle.vf_unit_laws.proofs.Components.{IsLocalBehind, IsNoNumber, IsReadAt, local_there, passed_read, read_smaller}
use Rattle.vf_unit_laws.proofs.Reading.{AreKnown, IsSettingBack, read_back}
use Rattle.vf_unit_laws.proofs.Switched.{nothing_known, settled_behind, switched_count}

-- ---- what a fixpoint takes
same_scheme : {g k : Scheme} → ◌≡◌ {A = Result Scheme Refusal} (Ok g) (Ok k) → g ≡ k
same_scheme e = cc

-- no sort at a place is one of integers
abbrev TakesNoNumber : ℕ → List Sort → Type 0
TakesNoNumber q ts = (t : Sort) → slice_get ts q ≡ Some t → IsNoNumber t

pointer_taken : (q : ℕ) → TakesNoNumber q (pointer_sort ∷ [])
pointer_taken zero t e = subst IsNoNumber (some_same e) tt
pointer_taken (suc q) t e = absurd cc

module _ (s : Scope) (name : List ℕ) (n : ℕ) (f : declaration.Fixpoint) (means : (d : Declaration) → at_name s.names s.declarations name ≡ Some d → d.meaning ≡ meanings.Ghost n) (is : ghost_of s n ≡ Some (ghosts.Fixpoint f)) (q : ℕ) (takes : TakesNoNumber q f.arguments) where
  module _ (p : Place) (x : List ℕ) (g : Scheme) where
    taken_itself : applied_scheme s (Some n) p x (Some (meanings.Ghost n)) ≡ Ok g → TakesNoNumber q g.arguments
    taken_itself e = subst (λ (z : Scheme). TakesNoNumber q z.arguments) (same_scheme (ap (applied_ghost s (Some n) p n) (sym is) ∙ e)) takes

    taken_test : (b : Bool) (r : Refusal) → (if b then Ok test_scheme else Err r) ≡ Ok g → TakesNoNumber q g.arguments
    taken_test true r e = subst (λ (z : Scheme). TakesNoNumber q z.arguments) (same_scheme e) (pointer_taken q)
    taken_test false r e = absurd cc

    taken_seen : (d : Declaration) → d.meaning ≡ meanings.Ghost n → (b : Bool) → applied_scheme s (Some n) p x (if b then Some d.meaning else None) ≡ Ok g → TakesNoNumber q g.arguments
    taken_seen d meant true e = taken_itself (ap (λ (m : Meaning). applied_scheme s (Some n) p x (Some m)) (sym meant) ∙ e)
    taken_seen d meant false e = taken_test (tests_type s x p.file) _ e

    -- where the fixpoint is applied it takes no integer at the place by which it goes
    pub itself_taken : x ≡ name → application_scheme s (Some n) p x ≡ Ok g → TakesNoNumber q g.arguments
    itself_taken same e = by (at_name s.names s.declarations x) refl e
      where
        by : (o : Option Declaration) → at_name s.names s.declarations x ≡ o → applied_scheme s (Some n) p x (declared_in s p.file o) ≡ Ok g → TakesNoNumber q g.arguments
        by None found e = taken_test (tests_type s x p.file) _ e
        by (Some d) found e = taken_seen d (means d (sym (ap (at_name s.names s.declarations) same) ∙ found)) (is_visible s p.file d.files) e

datatype_taken : (t : Sort) (d : ℕ) → datatype_in t ≡ Some d → IsNoNumber t
datatype_taken (sort (heads.Datatype d) ts) c e = tt
datatype_taken (sort heads.Int ts) c e = absurd cc
datatype_taken (sort heads.Bool ts) c e = absurd cc
datatype_taken (sort (heads.Pointer w) ts) c e = absurd cc
datatype_taken (sort heads.Real ts) c e = absurd cc
datatype_taken (sort heads.Any ts) c e = absurd cc
datatype_taken (sort (heads.Parameter i) ts) c e = absurd cc
datatype_taken (sort (heads.Unknown u) ts) c e = absurd cc
datatype_taken (sort heads.Predicate ts) c e = absurd cc

same_sort : {t u : Sort} → ◌≡◌ {A = Result Sort Refusal} (Ok t) (Ok u) → t ≡ u
same_sort e = cc

no_sort : {r : Refusal} {t : Sort} → ◌≡◌ {A = Result Sort Refusal} (Err r) (Ok t) → ⊥
no_sort e = cc

-- what is switched over is a parameter of a datatype's sort
switched_taken : {s : Scope} {x : Name} {cs : List FixpointCase} {m : ℕ} {k : Known} → Switches s x cs m k → (ts : List Sort) → s.locals.meanings ≡ map bound_local ts → (p : ℕ) → number_of s.locals.names x.text ≡ Some p → TakesNoNumber p ts
switched_taken {s} {x} (switches {t} {d} sorted below is all equates) ts meant p there u at =
    subst IsNoNumber
    (same_sort (sym sorted ∙ (ap (λ (o : Option ℕ). sort_in s x (at_index s.locals.meanings o)) there ∙ ap (sort_in s x) (ap (λ (ls : List Local). slice_get ls p) meant ∙ get_mapped bound_local ts p u at))))
    (datatype_taken t d is)

-- a local that is switched over has a number
switched_there : {s : Scope} {x : Name} {cs : List FixpointCase} {m : ℕ} {k : Known} → Switches s x cs m k → (p : ℕ) × (number_of s.locals.names x.text ≡ Some p)
switched_there {s} {x} (switches {t} sorted below is all equates) = by (number_of s.locals.names x.text) refl sorted
  where
    by : (o : Option ℕ) → number_of s.locals.names x.text ≡ o → sort_in s x (at_index s.locals.meanings o) ≡ Ok t → (p : ℕ) × (number_of s.locals.names x.text ≡ Some p)
    by None e h = absurd (no_sort h)
    by (Some p) e h = (p, e)

-- ---- the terms of locals
module _ (earlier : List Identity) (own : Identity) (AreSmaller : Terms → Type 0) where
  symbol_back : (k : Known) (ls : List Local) (from j : ℕ) → TermGoesBack earlier own AreSmaller (local_term (slice_get (symbols_from k from ls) j))
  symbol_back k [] from j = (tt, tt)
  symbol_back k (x ∷ ls) from zero = (tt, tt)
  symbol_back k (x ∷ ls) from (suc j) = symbol_back k ls (suc from) j

  setting_back : (s : Scope) (c : Context) (k : Known) (paths : List (List ℕ)) → IsSettingBack (with_symbols s c k paths) earlier own AreSmaller
  setting_back s c k paths = record { locals = λ j. symbol_back k s.locals.meanings 0 j; result = (tt, tt); this_value = (tt, tt); thread = (tt, tt) }

-- ---- bodies
-- what the calls of a fixpoint with a name are held to in a case
abbrev held : List ℕ → Option ℕ → List Name → Recursion
held name o ns = record { name = name; parameter = o; components = ns }

-- no call strays in one of some cases
none_strays : (name : List ℕ) (o : Option ℕ) (cs : List FixpointCase) → first_stray_case name o cs ≡ None → (x : FixpointCase) → Contains cs x → stray_in_case name o x ≡ None
none_strays name o [] e x (j, low, is) = absurd (omega (arith, low))
none_strays name o (y ∷ cs) e x (zero, low, is) = subst (λ (z : FixpointCase). stray_in_case name o z ≡ None) is (neither_there (stray_in_case name o y) (first_stray_case name o cs) e).0
none_strays name o (y ∷ cs) e x (suc j, low, is) = none_strays name o cs (neither_there (stray_in_case name o y) (first_stray_case name o cs) e).1 x (j, omega (arith, low), is)

module _ (earlier : List Identity) (own : Identity) (name : List ℕ) (paths : List (List ℕ)) (s : Scope) (n : ℕ) (t : Sort) where
  abbrev C : Context
  C = around_fixpoint n

  value_back : (e : GhostExprTree) (k : Known) → AreKnown s paths earlier own name None → ValuePasses s C t [] e k → first_stray (held name None []) e ≡ None → TermGoesBack earlier own NoneIsSmaller (value_read s C k paths t 0 e).term
  value_back e k known (passes below p) kept =
      read_back (with_symbols s C k paths) earlier own name None NoneIsSmaller (λ (xs : GhostExprTrees). ⊥) known (setting_back earlier own NoneIsSmaller s C k paths) (λ x files f h xs z first m u. absurd z) (is_pointer (filled (settling k) t)) 0 e
      (passing_calls s C (settling k) (held name None []) (λ (xs : GhostExprTrees). ⊥) (λ q x g b c first m xs same is passed a h. absurd (let z : false ≡ true = h in cc)) p (passing_settles s C [] k t (place_of e) e nothing_known below p) ((strays_are_calls (held name None []) e).0 kept))

  module _ (aligned : IsAligned s.locals) (f : declaration.Fixpoint) (means : (d : Declaration) → at_name s.names s.declarations name ≡ Some d → d.meaning ≡ meanings.Ghost n) (is : ghost_of s n ≡ Some (ghosts.Fixpoint f)) (p : ℕ) (takes : TakesNoNumber p f.arguments) (known : AreKnown s paths earlier own name (Some p)) (m : ℕ) (k : Known) where
    module _ (x : FixpointCase) (b : Bound) (binds : NamesBind s no_names (names_or_none x.pattern.names) (case_sorts s 0 m x.pattern) b) where
      -- what is declared in the value of the case, and how many names it has
      abbrev In : Scope
      In = within_case s m x.pattern

      abbrev Many : ℕ
      Many = length (names_or_none x.pattern.names)

      stands : (y : List ℕ) → IsNamed y (components_of x.pattern.names) → IsLocalBehind In (count s) Many y
      stands y h =
          let named = subst (IsNamed y) (components_are x.pattern.names) h in
          let r = stands_behind y s.locals.names (names_or_none x.pattern.names) (names_free binds y named) named in
          let a : length (s.locals.meanings ++ map bound_local (case_sorts s 0 m x.pattern)) ≡ length s.locals.meanings + length (map bound_local (case_sorts s 0 m x.pattern)) = length-append s.locals.meanings (map bound_local (case_sorts s 0 m x.pattern)) in
          let i : length (map bound_local (case_sorts s 0 m x.pattern)) ≡ length (case_sorts s 0 m x.pattern) = length-map (case_sorts s 0 m x.pattern) bound_local in
          let j : length (names_or_none x.pattern.names) ≡ length (case_sorts s 0 m x.pattern) = names_counted binds in
          let below = r.below in
          let l = local_there (s.locals.meanings ++ map bound_local (case_sorts s 0 m x.pattern)) r.number (omega (arith, aligned, a, i, j, below)) in
          record { number = r.number; found = r.found; past = r.past; below = r.below; meaning = l.0; at = l.1 }

      -- arguments have a name of the case at the place by which the fixpoint goes
      abbrev Of : GhostExprTrees → Type 0
      Of xs = IsReadAt In C k paths (count s) Many (components_of x.pattern.names) stands p xs

      case_back : (u : ℕ) (before behind : Known) → ValuePasses In C t before x.value behind → AgreesAsTold (settling k) behind → stray_in_case name (Some p) x ≡ None → TermGoesBack earlier own (IsSmallerIn (count s) p Many) (case_read C k paths t m s u x).term
      case_back u before behind (passes below q) a kept =
          read_back (with_symbols In C k paths) earlier own name (Some p) (IsSmallerIn (count s) p Many) Of known (setting_back earlier own (IsSmallerIn (count s) p Many) In C k paths)
          (λ y files g h xs z first i v. read_smaller In C k paths (count s) Many (components_of x.pattern.names) stands p first i g.arguments v xs (h.enough p refl) z)
          (is_pointer (filled (settling k) t)) u x.value
          (passing_calls In C (settling k) (held name (Some p) (components_of x.pattern.names)) Of
          (λ o y g c e first i xs same scheme passed agrees h. passed_read In C k paths (count s) Many (components_of x.pattern.names) stands p passed agrees (itself_taken In name n f means is p takes o y g same scheme) h)
          q a ((strays_are_calls (held name (Some p) (components_of x.pattern.names)) x.value).0 kept))

    -- a case of the body, where it stands
    pub standing_back : (cs : List FixpointCase) → first_stray_case name (Some p) cs ≡ None → (y : Case) → IsCaseOf s m C t k paths cs y → TermGoesBack earlier own (IsSmallerIn (count s) p y.names) y.result
    standing_back cs kept y h =
        subst (λ (z : Case). TermGoesBack earlier own (IsSmallerIn (count s) p z.names) z.result) (sym h.is) (case_back h.written h.bound h.binds (length h.before) h.before h.behind h.gives h.agrees (none_strays name (Some p) cs kept h.written h.among))

module _ (earlier : List Identity) (own : Identity) (name : Name) (paths : List (List ℕ)) (gs : List GhostParameter) (f : declaration.Fixpoint) (n : ℕ) (s : Scope) (aligned : IsAligned s.locals) (named : s.locals.names ≡ names_of gs) (meant : s.locals.meanings ≡ map bound_local f.arguments)
    (means : (d : Declaration) → at_name s.names s.declarations name.text ≡ Some d → d.meaning ≡ meanings.Ghost n) (is : ghost_of s n ≡ Some (ghosts.Fixpoint f)) (known : (o : Option ℕ) → ((p : ℕ) → o ≡ Some p → p < length gs) → AreKnown s paths earlier own name.text o) where
  own_parameter : (x : Name) (p : ℕ) → number_of s.locals.names x.text ≡ Some p → parameter_of gs x.text ≡ Some p
  own_parameter x p there = ap (λ ns. number_of ns x.text) (sym named) ∙ there

  parameter_below : (x : Name) (p : ℕ) → number_of s.locals.names x.text ≡ Some p → (q : ℕ) → Some p ≡ Some q → q < length gs
  parameter_below x p there q e =
      let l : length (names_of gs) ≡ length gs = length-map gs (λ (g : GhostParameter). g.name.text) in
      let below = number_below (names_of gs) x.text p (own_parameter x p there) in
      let same = some_same e in
      omega (arith, l, below, same)

  switch_back : (x : Name) (cs : List FixpointCase) (m p : ℕ) (s' : Scope) (k k' : Known) → number_of s.locals.names x.text ≡ Some p → Switches s x cs m k → CasesGive (around_fixpoint n) (result_of s n) m s k cs s' k' → first_stray_case name.text (parameter_of gs x.text) cs ≡ None
      → (y : Case) → Contains (cases_of (around_fixpoint n) k' paths (result_of s n) m s' m cs) y → TermGoesBack earlier own (IsSmallerIn (count s) (place_among s' x) y.names) y.result
  switch_back x cs m p s' k k' there front given kept y among =
      let same = scope_behind s aligned cs k k' s' given in
      let place : place_among s' x ≡ p = ap (λ (z : Scope). place_among z x) same ∙ ap place_or_first there in
      subst (λ (q : ℕ). TermGoesBack earlier own (IsSmallerIn (count s) q y.names) y.result) (sym place)
      (standing_back earlier own name.text paths s n (result_of s n) aligned f means is p (switched_taken front f.arguments meant p there) (known (Some p) (parameter_below x p there)) m k' cs (ap (λ o. first_stray_case name.text o cs) (sym (own_parameter x p there)) ∙ kept) y
      (each_case m (around_fixpoint n) (result_of s n) s aligned k' paths cs k k' s' m given (switched_count front) (settled_behind front given) y (subst (λ (z : Scope). Contains (cases_of (around_fixpoint n) k' paths (result_of s n) m z m cs) y) same among)))

  pub body_back : (text : FixpointBody) (b : Body) (constructors : List (List ℕ)) → Defines s paths n text b → refused_at name gs constructors text ≡ None → BodyGoesBack earlier own (count s) b
  body_back text b constructors (defined.value {e} {k} given) kept = value_back earlier own name.text paths s n (result_of s n) e k (known None (λ p q. absurd (none_some q))) given kept
  body_back text b constructors (defined.cases {x} {cs} {m} {s'} {k} {k'} front given) kept =
      let h = switched_there front in
      switch_back x cs m h.0 s' k k' h.1 front given (complete_then (is_complete constructors (constructors_of cs)) (first_stray_case name.text (parameter_of gs x.text) cs) name.place kept).1
