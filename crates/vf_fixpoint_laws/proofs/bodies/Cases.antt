-- The cases of a body, one by one: what is declared behind each is what was declared before it, and unknown sorts are numbered on.
use Rattle.std.proofs.Common.{◌≡◌, ℕ, suc, true, false, cond, List, [], ◌∷◌, ◌++◌, length, take, map, Some, refl, sym, subst, ap, ap₂, ◌∙◌, ⊎_elim, append_assoc, append-nil}
use Rattle.std.specs.Prelude.{is_some}
use Rattle.std.proofs.Math.Seq.{take-append_seam}
use Rattle.vf_tree.specs.Core.{Identity}
use Rattle.vf_model.specs.Values.{same_identity}
use Rattle.vf_meaning.proofs.FitSteps.{identities}
use Rattle.vf_sorts.specs.Sorts.{Sort}
use Rattle.vf_sorts.specs.Unknowns.{AgreesAsTold, Filling, IsResolved, Known, filled, settling}
use Rattle.vf_syntax.specs.declared.item.FixpointCase.{FixpointCase}
use Rattle.vf_syntax.specs.declared.written.Name.{Name}
use Rattle.vf_declared.specs.declared.locals.Local.{Local}
use Rattle.vf_declared.specs.declared.locals.Locals.{Locals}
use Rattle.vf_declared.specs.declared.scope.Scope.{Scope}
use Rattle.vf_declared.specs.Changes.{IsAligned}
use Rattle.vf_sorting.specs.declared.context.Context.{Context}
use Rattle.vf_sorting.specs.Kinds.{is_pointer}
use Rattle.vf_sorting.specs.Operators.{place_of}
use Rattle.vf_binding.specs.declared.bound.Bound.{Bound}
use Rattle.vf_binding.specs.Bound.{bound_local, no_names, with_names}
use Rattle.vf_asserting.specs.Cases.{NamesBind, none_bind, one_binds, case_number, names_or_none}
use Rattle.vf_asserting.specs.Leaving.{count, left}
use Rattle.vf_asserting.specs.Switches.{case_sorts}
use Rattle.vf_equations.specs.Switching.{are_constructors}
use Rattle.vf_equations.specs.Values.{CasesGive, no_cases, more_cases, a_case, ValuePasses, passes}
use Rattle.vf_definitions.specs.Unfolded.{case_for}
use Rattle.vf_definitions.specs.declared.fixpoint.Case.{Case}
use Rattle.vf_defining.specs.Symbols.{with_symbols}
use Rattle.vf_defining.specs.Bodies.{behind_case, case_names, case_of, case_read, cases_of, identity_at, within_case}
use Rattle.vf_fixpoint_laws.proofs.values.Before.{before_pass}
use Rattle.vf_fixpoint_laws.proofs.values.Operating.{first_of, second_of}
use Rattle.vf_fixpoint_laws.proofs.bodies.Numbering.{passes_next}
use Rattle.vf_fixpoint_laws.proofs.bodies.Resolved.{passing_resolves}

-- ---- names of cases
abbrev as_bound : List (List ℕ) → List Sort → Bound
as_bound xs ts = record { names = xs; sorts = ts }

abbrev as_locals : List (List ℕ) → List Local → Locals
as_locals xs ls = record { names = xs; meanings = ls }

abbrev with_locals : Scope → Locals → Scope
with_locals s l = record s { locals = l }

abbrev texts : List Name → List (List ℕ)
texts ns = map (λ (n : Name). n.text) ns

names_bound : {s : Scope} {b b' : Bound} {ns : List Name} {ts : List Sort} → NamesBind s b ns ts b' → (b'.names ≡ b.names ++ texts ns) × (b'.sorts ≡ b.sorts ++ ts) × (length ns ≡ length ts)
names_bound (none_bind {b}) = (sym (append-nil b.names), sym (append-nil b.sorts), refl)
names_bound (one_binds {b} {n} {ns} {t} {ts} free rest) =
    let r = names_bound rest in
    (r.0 ∙ append_assoc b.names (n.text ∷ []) (texts ns), r.1 ∙ append_assoc b.sorts (t ∷ []) ts, ap suc r.2)

bound_same : {s : Scope} {b : Bound} {ns : List Name} {ts : List Sort} → NamesBind s no_names ns ts b → b ≡ as_bound (texts ns) ts
bound_same h = let r = names_bound h in ap₂ as_bound r.0 r.1

-- behind names that are gone there is what was declared before
left_same : (s : Scope) (b : Bound) → IsAligned s.locals → left (count s) (with_names s b) ≡ s
left_same s b aligned =
    ap (with_locals s)
    (ap₂ as_locals (take-append_seam s.locals.names b.names)
    (subst (λ n. take n (s.locals.meanings ++ map bound_local b.sorts) ≡ s.locals.meanings) (sym aligned) (take-append_seam s.locals.meanings (map bound_local b.sorts))))

-- the case that is found
pub record Found (s : Scope) (d m : ℕ) (c : Context) (t : Sort) (k : Known) (paths : List (List ℕ)) (identity : Identity) (x : Case) : Type 0 where
  pub written : FixpointCase
  pub before : Known
  pub behind : Known
  pub is : x ≡ case_of c k paths t m s (length before) written
  pub gives : ValuePasses (within_case s m written.pattern) c t before written.value behind
  pub agrees : AgreesAsTold (settling k) behind
  pub named : identity_at s paths written.pattern.constructor ≡ identity
  pub fits : is_some (case_number s d written.pattern) ≡ true
  pub counted : length (names_or_none written.pattern.names) ≡ length (case_sorts s 0 m written.pattern)

pub same_case : {x y : Case} → Some x ≡ Some y → x ≡ y
same_case e = cc

module _ (m : ℕ) (c : Context) (t : Sort) where
  -- sorts that agree behind cases agree in front of them
  pub cases_before : {s s' : Scope} {k k' : Known} {cs : List FixpointCase} (f : Filling) → CasesGive c t m s k cs s' k' → AgreesAsTold f k' → AgreesAsTold f k
  cases_before f no_cases a = a
  cases_before f (more_cases (a_case {s} {b} binds (passes below p)) rest) a = before_pass (with_names s b) c f p (cases_before f rest a)

  -- and what is known stays resolved
  pub cases_resolved : {s s' : Scope} {k k' : Known} {cs : List FixpointCase} → CasesGive c t m s k cs s' k' → IsResolved k → IsResolved k'
  cases_resolved no_cases r = r
  cases_resolved (more_cases (a_case {s} {k} {k'} {x} {b} binds (passes below p)) rest) r = cases_resolved rest (passing_resolves (with_names s b) c k k' t (place_of x.value) x.value r below p)

  module _ (s : Scope) (aligned : IsAligned s.locals) where
    -- behind all cases there is what was declared before them
    pub scope_behind : (cs : List FixpointCase) (k k' : Known) (s' : Scope) → CasesGive c t m s k cs s' k' → s' ≡ s
    scope_behind [] k k' s' no_cases = refl
    scope_behind (y ∷ cs) k k' s' (more_cases {k₁} (a_case {b} binds p) rest) = scope_behind cs k₁ k' s' (subst (λ (z : Scope). CasesGive c t m z k₁ cs s' k') (left_same s b aligned) rest)

    module _ (d : ℕ) (known : Known) (paths : List (List ℕ)) where
      pub found : (cs : List FixpointCase) (k k' : Known) (s' : Scope) (u : ℕ) → CasesGive c t m s k cs s' k' → u ≡ length k → AgreesAsTold (settling known) k' → are_constructors s d cs ≡ true
          → (g : Identity) (x : Case) → case_for (cases_of c known paths t m s u cs) g ≡ Some x → Found s d m c t known paths g x
      found [] k k' s' u h at a all g x e = absurd cc
      found (y ∷ cs) k k' s' u (more_cases {k₁} (a_case {b} binds p) rest) at a all g x e = ⊎_elim here (later (found cs k₁ k' s')) (identities (identity_at s paths y.pattern.constructor) g)
        where
          gives_here : ValuePasses (within_case s m y.pattern) c t k y.value k₁
          gives_here = subst (λ (z : Bound). ValuePasses (with_names s z) c t k y.value k₁) (bound_same binds) p

          there : CasesGive c t m s k₁ cs s' k'
          there = subst (λ (z : Scope). CasesGive c t m z k₁ cs s' k') (left_same s b aligned) rest

          agrees_here : AgreesAsTold (settling known) k₁
          agrees_here = cases_before (settling known) there a

          next_by : ValuePasses (within_case s m y.pattern) c t k y.value k₁ → (case_read c known paths t m s u y).next ≡ length k₁
          next_by (passes below q) = passes_next (with_symbols (within_case s m y.pattern) c known paths) (is_pointer (filled (settling known) t)) q u at

          others : List Case
          others = cases_of c known paths t m (behind_case s m y.pattern) (case_read c known paths t m s u y).next cs

          here : (same_identity (identity_at s paths y.pattern.constructor) g ≡ true) × (identity_at s paths y.pattern.constructor ≡ g) → Found s d m c t known paths g x
          here q = record {
            written = y;
            before = k;
            behind = k₁;
            is = sym (same_case (subst (λ o. cond o (Some (case_of c known paths t m s u y)) (case_for others g) ≡ Some x) q.0 e)) ∙ ap (λ (n : ℕ). case_of c known paths t m s n y) at;
            gives = gives_here;
            agrees = agrees_here;
            named = q.1;
            fits = first_of (is_some (case_number s d y.pattern)) (are_constructors s d cs) all;
            counted = (names_bound binds).2;
          }

          later : ((v : ℕ) → CasesGive c t m s k₁ cs s' k' → v ≡ length k₁ → AgreesAsTold (settling known) k' → are_constructors s d cs ≡ true
              → (h : Identity) (z : Case) → case_for (cases_of c known paths t m s v cs) h ≡ Some z → Found s d m c t known paths h z)
              → same_identity (identity_at s paths y.pattern.constructor) g ≡ false → Found s d m c t known paths g x
          later further q =
              further (case_read c known paths t m s u y).next there (next_by gives_here) a (second_of (is_some (case_number s d y.pattern)) (are_constructors s d cs) all) g x
              (subst (λ (z : Scope). case_for (cases_of c known paths t m z (case_read c known paths t m s u y).next cs) g ≡ Some x) (left_same s (case_names s m y.pattern) aligned)
              (subst (λ o. cond o (Some (case_of c known paths t m s u y)) (case_for others g) ≡ Some x) q e))
