-- Bodies of fixpoints as terms, from the answers for their parts.
use Rattle.std.proofs.Common.{◌≡◌, ℕ, List, [], Result, Ok, Err, refl, sym, subst, ap, ◌∙◌}
use Rattle.vf_base.specs.declared.refusal.RuleFault.{RuleFault}
use Rattle.vf_base.specs.declared.refusal.RuleFault.TheVariants as faults
use Rattle.vf_sorts.specs.Sorts.{Sort}
use Rattle.vf_sorts.specs.Unknowns.{Known}
use Rattle.vf_declared.specs.declared.scope.Scope.{Scope}
use Rattle.vf_syntax.specs.declared.item.FixpointBody.{FixpointBody}
use Rattle.vf_syntax.specs.declared.item.FixpointBody.TheVariants as written
use Rattle.vf_syntax.specs.declared.item.FixpointCase.{FixpointCase}
use Rattle.vf_syntax.specs.declared.written.Name.{Name}
use Rattle.vf_syntax.specs.GhostExprTree.{GhostExprTree}
use Rattle.vf_sorting.specs.declared.context.Context.{Context}
use Rattle.vf_binding.proofs.Steps.{failing, wanting}
use Rattle.vf_equations.specs.Answers.{AreCases, IsSwitch, IsValue}
use Rattle.vf_equations.specs.Fixpoints.{around_fixpoint, result_of}
use Rattle.vf_equations.specs.Fixpoints as fixpoints
use Rattle.vf_equations.specs.Values.{AnyCaseFails, CasesGive, no_cases, more_cases, a_case, ValueFails, ValuePasses}
use Rattle.vf_terms.specs.declared.reading.Reading.{Reading}
use Rattle.vf_definitions.specs.declared.fixpoint.Body.{Body}
use Rattle.vf_definitions.specs.declared.fixpoint.Body.TheVariants as bodies
use Rattle.vf_definitions.specs.declared.fixpoint.Case.{Case}
use Rattle.vf_defining.specs.Symbols.{value_read, without_locals}
use Rattle.vf_defining.specs.Bodies.{cases_of, place_among}
use Rattle.vf_defining.specs.Fixpoints.{IsDefined}
use Rattle.vf_defining.specs.Fixpoints as defined

pub memory : {s : Scope} {paths : List (List ℕ)} {n : ℕ} {b : FixpointBody} {res : Result Body RuleFault} → res ≡ Err faults.Memory → IsDefined s paths n b res
memory q = record { answers = wanting _ _ q }

-- the value is refused
pub value_stops : {s : Scope} {paths : List (List ℕ)} {n : ℕ} {c : Context} {w : Sort} {k k' : Known} {d : GhostExprTree} {res : Result Body RuleFault} (e : RuleFault) → c ≡ around_fixpoint n → w ≡ result_of s n → k ≡ [] → IsValue {A = Unit {0}} s c w k d (Err e) k' → res ≡ Err e → IsDefined s paths n (written.Value d) res
value_stops {s = s} {n = n} {c = c} {w = w} {d = d} e a b z i q =
    record { answers = failing _ _ _ e (λ r h. fixpoints.EquationsCome.value_refused (subst (λ (c : Context). ValueFails s c (result_of s n) [] d r) a (subst (λ (t : Sort). ValueFails s c t [] d r) b (subst (λ (k : Known). ValueFails s c w k d r) z h)))) i.answers q }

-- and where it is not
pub value_defined : {s : Scope} {paths : List (List ℕ)} {n : ℕ} {c : Context} {w : Sort} {k k' : Known} {d : GhostExprTree} {x : Reading} → c ≡ around_fixpoint n → w ≡ result_of s n → k ≡ [] → IsValue {A = Unit {0}} s c w k d (Ok tt) k' → x ≡ value_read s c k' paths w 0 d → IsDefined s paths n (written.Value d) (Ok (bodies.Returns x.term))
value_defined {s = s} {paths = paths} {n = n} {c = c} {w = w} {k' = k'} {d = d} {x = x} a b z i f =
    let same : x ≡ value_read s (around_fixpoint n) k' paths (result_of s n) 0 d =
    f ∙ ap (λ (y : Context). value_read s y k' paths w 0 d) a ∙ ap (λ (y : Sort). value_read s (around_fixpoint n) k' paths y 0 d) b in
    subst (λ (y : Reading). IsDefined s paths n (written.Value d) (Ok (bodies.Returns y.term))) (sym same)
    (record { answers = defined.Defines.value (subst (λ (c : Context). ValuePasses s c (result_of s n) [] d k') a (subst (λ (t : Sort). ValuePasses s c t [] d k') b (subst (λ (k : Known). ValuePasses s c w k d k') z i.answers))) })

-- what stands in front of the cases is refused
pub switch_stops : {s : Scope} {paths : List (List ℕ)} {n : ℕ} {x : Name} {cs : List FixpointCase} {k : Known} {res : Result Body RuleFault} (e : RuleFault) → IsSwitch s x cs (Err e) k → res ≡ Err e → IsDefined s paths n (written.Switch x cs) res
switch_stops e i q = record { answers = failing _ _ _ e (λ r h. fixpoints.EquationsCome.switch_refused h) i.answers q }

-- a case is refused
pub cases_stop : {s u : Scope} {paths : List (List ℕ)} {n p : ℕ} {c : Context} {w : Sort} {x : Name} {cs : List FixpointCase} {k k' : Known} {res : Result Body RuleFault} (e : RuleFault) → c ≡ around_fixpoint n → w ≡ result_of s n → IsSwitch s x cs (Ok p) k → AreCases {A = Unit {0}} c w p s k cs (Err e) u k' → res ≡ Err e → IsDefined s paths n (written.Switch x cs) res
cases_stop {s = s} {n = n} {p = p} {c = c} {w = w} {cs = cs} {k = k} e a b i j q =
    record { answers = failing _ _ _ e (λ r h. fixpoints.EquationsCome.case_refused i.answers (subst (λ (c : Context). AnyCaseFails c (result_of s n) p s k cs r) a (subst (λ (t : Sort). AnyCaseFails c t p s k cs r) b h))) j.answers q }

-- and where none is
pub cases_defined : {s u : Scope} {paths : List (List ℕ)} {n p g : ℕ} {c : Context} {w : Sort} {x : Name} {cs : List FixpointCase} {k k' : Known} {ys : List Case}
    → c ≡ around_fixpoint n → w ≡ result_of s n → IsSwitch s x cs (Ok p) k → AreCases {A = Unit {0}} c w p s k cs (Ok tt) u k' → g ≡ place_among u x → ys ≡ cases_of c k' paths w p u p cs
    → IsDefined s paths n (written.Switch x cs) (Ok (bodies.Switches g ys))
cases_defined {s = s} {u = u} {paths = paths} {n = n} {p = p} {g = g} {c = c} {w = w} {x = x} {cs = cs} {k = k} {k' = k'} {ys = ys} a b i j h f =
    let same : ys ≡ cases_of (around_fixpoint n) k' paths (result_of s n) p u p cs =
    f ∙ ap (λ (y : Context). cases_of y k' paths w p u p cs) a ∙ ap (λ (y : Sort). cases_of (around_fixpoint n) k' paths y p u p cs) b in
    subst (λ (m : ℕ). IsDefined s paths n (written.Switch x cs) (Ok (bodies.Switches m ys))) (sym h)
    (subst (λ (zs : List Case). IsDefined s paths n (written.Switch x cs) (Ok (bodies.Switches (place_among u x) zs))) (sym same)
    (record { answers = defined.Defines.cases i.answers (subst (λ (c : Context). CasesGive c (result_of s n) p s k cs u k') a (subst (λ (t : Sort). CasesGive c t p s k cs u k') b j.answers)) }))

-- nothing but locals changes in cases
alone : {c : Context} {t : Sort} {m : ℕ} {s s' : Scope} {k k' : Known} {xs : List FixpointCase} → CasesGive c t m s k xs s' k' → without_locals s' ≡ without_locals s
alone no_cases = refl
alone (more_cases (a_case b v) rest) = alone rest

pub cases_alone : {c : Context} {t : Sort} {m : ℕ} {s u : Scope} (v : Scope) {k k' : Known} {xs : List FixpointCase} → AreCases {A = Unit {0}} c t m s k xs (Ok tt) u k' → without_locals v ≡ without_locals u → without_locals v ≡ without_locals s
cases_alone v i e = e ∙ alone i.answers
