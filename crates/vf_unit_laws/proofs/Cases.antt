-- Each case of a body, where it stands among the cases of the text.
use Rattle.std.proofs.Common.{◌≡◌, ℕ, zero, suc, List, [], ◌∷◌, ◌++◌, length, refl, sym, subst, ap, ap₂, ◌∙◌, append_assoc, append-nil, arith}
use Rattle.std.specs.Prelude.{Contains}
use Rattle.vf_sorts.specs.Sorts.{Sort}
use Rattle.vf_sorts.specs.Unknowns.{AgreesAsTold, Known, filled, settling}
use Rattle.vf_syntax.specs.declared.item.FixpointCase.{FixpointCase}
use Rattle.vf_syntax.specs.declared.written.Name.{Name}
use Rattle.vf_declared.specs.declared.scope.Scope.{Scope}
use Rattle.vf_declared.specs.Changes.{IsAligned}
use Rattle.vf_sorting.specs.declared.context.Context.{Context}
use Rattle.vf_sorting.specs.Kinds.{is_pointer}
use Rattle.vf_binding.specs.declared.bound.Bound.{Bound}
use Rattle.vf_binding.specs.Bound.{no_names, with_names}
use Rattle.vf_asserting.specs.Cases.{NamesBind, none_bind, one_binds, names_or_none}
use Rattle.vf_asserting.specs.Switches.{case_sorts}
use Rattle.vf_equations.specs.Values.{CasesGive, more_cases, a_case, ValuePasses, passes}
use Rattle.vf_definitions.specs.declared.fixpoint.Case.{Case}
use Rattle.vf_defining.specs.Symbols.{with_symbols}
use Rattle.vf_defining.specs.Bodies.{case_names, case_of, case_read, cases_of, within_case}
use Rattle.vf_view_laws.proofs.Smaller.{further}
use Rattle.vf_fixpoint_laws.proofs.bodies.Cases.{cases_before}
use Rattle.vf_fixpoint_laws.proofs.bodies.Numbering.{passes_next}
use Rattle.vf_fixpoint_laws.proofs.descending.Cases.{left_same, texts}

-- ---- names of cases
abbrev as_bound : List (List ℕ) → List Sort → Bound
as_bound xs ts = record { names = xs; sorts = ts }

names_bound : {s : Scope} {b b' : Bound} {ns : List Name} {ts : List Sort} → NamesBind s b ns ts b' → (b'.names ≡ b.names ++ texts ns) × (b'.sorts ≡ b.sorts ++ ts)
names_bound (none_bind {b}) = (sym (append-nil b.names), sym (append-nil b.sorts))
names_bound (one_binds {b} {n} {ns} {t} {ts} free rest) =
    let r = names_bound rest in
    (r.0 ∙ append_assoc b.names (n.text ∷ []) (texts ns), r.1 ∙ append_assoc b.sorts (t ∷ []) ts)

bound_same : {s : Scope} {b : Bound} {ns : List Name} {ts : List Sort} → NamesBind s no_names ns ts b → b ≡ as_bound (texts ns) ts
bound_same h = let r = names_bound h in ap₂ as_bound r.0 r.1

-- ---- cases
-- a case is that of one of the text, whose names are bound and whose value passes for the sort of the result
pub record IsCaseOf (s : Scope) (m : ℕ) (c : Context) (t : Sort) (k : Known) (paths : List (List ℕ)) (cs : List FixpointCase) (y : Case) : Type 0 where
  pub written : FixpointCase
  pub among : Contains cs written
  pub before : Known
  pub behind : Known
  pub bound : Bound
  pub binds : NamesBind s no_names (names_or_none written.pattern.names) (case_sorts s 0 m written.pattern) bound
  pub is : y ≡ case_of c k paths t m s (length before) written
  pub gives : ValuePasses (within_case s m written.pattern) c t before written.value behind
  pub agrees : AgreesAsTold (settling k) behind

of_later : {s : Scope} {m : ℕ} {c : Context} {t : Sort} {k : Known} {paths : List (List ℕ)} {x : FixpointCase} {cs : List FixpointCase} {y : Case} → IsCaseOf s m c t k paths cs y → IsCaseOf s m c t k paths (x ∷ cs) y
of_later {x} {cs} h = record { written = h.written; among = further h.written x cs h.among; before = h.before; behind = h.behind; bound = h.bound; binds = h.binds; is = h.is; gives = h.gives; agrees = h.agrees }

module _ (m : ℕ) (c : Context) (t : Sort) (s : Scope) (aligned : IsAligned s.locals) (known : Known) (paths : List (List ℕ)) where
  -- the value passes where the names of the case are locals
  within : (x : FixpointCase) (b : Bound) (k k' : Known) → NamesBind s no_names (names_or_none x.pattern.names) (case_sorts s 0 m x.pattern) b → ValuePasses (with_names s b) c t k x.value k' → ValuePasses (within_case s m x.pattern) c t k x.value k'
  within x b k k' binds p = subst (λ (z : Bound). ValuePasses (with_names s z) c t k x.value k') (bound_same binds) p

  next_by : (x : FixpointCase) (k k' : Known) (u : ℕ) → u ≡ length k → ValuePasses (within_case s m x.pattern) c t k x.value k' → (case_read c known paths t m s u x).next ≡ length k'
  next_by x k k' u at (passes below q) = passes_next (with_symbols (within_case s m x.pattern) c known paths) (is_pointer (filled (settling known) t)) q u at

  pub each_case : (cs : List FixpointCase) (k k' : Known) (s' : Scope) (u : ℕ) → CasesGive c t m s k cs s' k' → u ≡ length k → AgreesAsTold (settling known) k' → (y : Case) → Contains (cases_of c known paths t m s u cs) y → IsCaseOf s m c t known paths cs y
  each_case [] k k' s' u h at a y (j, low, is) = absurd (omega (arith, low))
  each_case (x ∷ cs) k k' s' u (more_cases {k₁} (a_case {b} binds p) rest) at a y (zero, low, is) = record {
    written = x;
    among = (zero, omega arith, refl);
    before = k;
    behind = k₁;
    bound = b;
    binds = binds;
    is = sym is ∙ ap (λ (n : ℕ). case_of c known paths t m s n x) at;
    gives = within x b k k₁ binds p;
    agrees = cases_before m c t (settling known) rest a;
  }
  each_case (x ∷ cs) k k' s' u (more_cases {k₁} (a_case {b} binds p) rest) at a y (suc j, low, is) =
      of_later
      (each_case cs k₁ k' s' (case_read c known paths t m s u x).next (subst (λ (z : Scope). CasesGive c t m z k₁ cs s' k') (left_same s b aligned) rest) (next_by x k k₁ u at (within x b k k₁ binds p)) a y
      (subst (λ (z : Scope). Contains (cases_of c known paths t m z (case_read c known paths t m s u x).next cs) y) (left_same s (case_names s m x.pattern) aligned) (j, omega (arith, low), is)))
