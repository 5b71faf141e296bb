-- Whole fixpoints.
use Rattle.std.proofs.Common.{◌≡◌, ℕ, List, [], length, Result, Ok, Err, sym, subst}
use Rattle.vf_base.specs.declared.refusal.RuleFault.{RuleFault}
use Rattle.vf_sorts.specs.Sorts.{Sort}
use Rattle.vf_sorts.specs.Unknowns.{Known}
use Rattle.vf_declared.specs.Changes.{first_locals}
use Rattle.vf_declared.specs.declared.locals.Locals.{Locals}
use Rattle.vf_declared.specs.declared.scope.Scope.{Scope}
use Rattle.vf_syntax.specs.declared.item.FixpointBody.{FixpointBody}
use Rattle.vf_syntax.specs.declared.item.FixpointBody.TheVariants as bodies
use Rattle.vf_syntax.specs.declared.item.FixpointCase.{FixpointCase}
use Rattle.vf_syntax.specs.declared.item.GhostParameter.{GhostParameter}
use Rattle.vf_syntax.specs.declared.written.Name.{Name}
use Rattle.vf_syntax.specs.GhostExprTree.{GhostExprTree}
use Rattle.vf_syntax.specs.SortTree.{SortTree}
use Rattle.vf_sorting.specs.declared.context.Context.{Context}
use Rattle.vf_asserting.specs.Leaving.{count}
use Rattle.vf_datatypes.specs.Walking.{Gives}
use Rattle.vf_heads.specs.Heads.{fixpoint_behind}
use Rattle.vf_walk.specs.Walking.{Follows}
use Rattle.vf_walk.specs.Walking as walking
use Rattle.vf_walk.proofs.Steps.{end_of, next_of}
use Rattle.vf_predicates.proofs.Coming.{stops}
use Rattle.vf_predicates.proofs.Heads.{gives_too}
use Rattle.vf_equations.specs.Answers.{AreCases, IsSwitch, IsValue}
use Rattle.vf_equations.specs.Fixpoints.{EquationsCome, FixpointComes, around_fixpoint, result_of}
use Rattle.vf_equations.specs.Fixpoints as fixpoints
use Rattle.vf_equations.specs.Values.{AnyCaseFails, CasesGive, ValueFails, ValuePasses}

-- ---- bodies

-- the value is refused
pub value_stops : {m n : ℕ} {s t : Scope} {c : Context} {w : Sort} {k k' : Known} {d : GhostExprTree} {res : Result (Unit {0}) RuleFault} (e : RuleFault) → c ≡ around_fixpoint n → w ≡ result_of s n → k ≡ [] → IsValue {A = Unit {0}} s c w k d (Err e) k' → res ≡ Err e → Follows (EquationsCome m n s (bodies.Value d)) res t
value_stops {n = n} {s = s} {c = c} {w = w} {d = d} e a b z i q =
    stops _ e (λ r h. fixpoints.EquationsCome.value_refused (subst (λ (c : Context). ValueFails s c (result_of s n) [] d r) a (subst (λ (t : Sort). ValueFails s c t [] d r) b (subst (λ (k : Known). ValueFails s c w k d r) z h)))) i.answers q

-- and where it is not
pub value_comes : {m n : ℕ} {s : Scope} {c : Context} {w : Sort} {k k' : Known} {d : GhostExprTree} {l : Locals} → c ≡ around_fixpoint n → w ≡ result_of s n → k ≡ [] → IsValue {A = Unit {0}} s c w k d (Ok tt) k' → l ≡ first_locals s.locals m → Follows (EquationsCome m n s (bodies.Value d)) (Ok tt) (record s { locals = l })
value_comes {m = m} {n = n} {s = s} {c = c} {w = w} {k' = k'} {d = d} a b z i l =
    subst (λ (x : Locals). Follows (EquationsCome m n s (bodies.Value d)) (Ok tt) (record s { locals = x })) (sym l)
    (walking.to_end (fixpoints.EquationsCome.value (subst (λ (c : Context). ValuePasses s c (result_of s n) [] d k') a (subst (λ (t : Sort). ValuePasses s c t [] d k') b (subst (λ (k : Known). ValuePasses s c w k d k') z i.answers)))))

-- what stands in front of the cases is refused
pub switch_stops : {m n : ℕ} {s t : Scope} {x : Name} {cs : List FixpointCase} {k : Known} {res : Result (Unit {0}) RuleFault} (e : RuleFault) → IsSwitch s x cs (Err e) k → res ≡ Err e → Follows (EquationsCome m n s (bodies.Switch x cs)) res t
switch_stops e i q = stops _ e (λ r h. fixpoints.EquationsCome.switch_refused h) i.answers q

-- a case is refused
pub cases_stop : {m n p : ℕ} {s u t : Scope} {c : Context} {w : Sort} {x : Name} {cs : List FixpointCase} {k k' : Known} {res : Result (Unit {0}) RuleFault} (e : RuleFault) → c ≡ around_fixpoint n → w ≡ result_of s n → IsSwitch s x cs (Ok p) k → AreCases {A = Unit {0}} c w p s k cs (Err e) u k' → res ≡ Err e → Follows (EquationsCome m n s (bodies.Switch x cs)) res t
cases_stop {n = n} {p = p} {s = s} {c = c} {w = w} {cs = cs} {k = k} e a b i j q =
    stops _ e (λ r h. fixpoints.EquationsCome.case_refused i.answers (subst (λ (c : Context). AnyCaseFails c (result_of s n) p s k cs r) a (subst (λ (t : Sort). AnyCaseFails c t p s k cs r) b h))) j.answers q

-- and where none is
pub cases_come : {m n p : ℕ} {s u : Scope} {c : Context} {w : Sort} {x : Name} {cs : List FixpointCase} {k k' : Known} {l : Locals} → c ≡ around_fixpoint n → w ≡ result_of s n → IsSwitch s x cs (Ok p) k → AreCases {A = Unit {0}} c w p s k cs (Ok tt) u k' → l ≡ first_locals u.locals m → Follows (EquationsCome m n s (bodies.Switch x cs)) (Ok tt) (record u { locals = l })
cases_come {m = m} {n = n} {p = p} {s = s} {u = u} {c = c} {w = w} {x = x} {cs = cs} {k = k} {k' = k'} a b i j l =
    subst (λ (y : Locals). Follows (EquationsCome m n s (bodies.Switch x cs)) (Ok tt) (record u { locals = y })) (sym l)
    (walking.to_end (fixpoints.EquationsCome.cases i.answers (subst (λ (c : Context). CasesGive c (result_of s n) p s k cs u k') a (subst (λ (t : Sort). CasesGive c t p s k cs u k') b j.answers))))

-- ---- fixpoints

-- what stands in front of the body is refused
pub fixpoint_stops : (d : SortTree) (n : Name) (ps : List Name) (gs : List GhostParameter) (b : FixpointBody) (s u t : Scope) (e : RuleFault) (r : Result (Unit {0}) RuleFault) → Gives (Err e) u (fixpoint_behind d n ps gs s) → r ≡ Err e → Follows (FixpointComes d n ps gs b s) r t
fixpoint_stops d n ps gs b s u t e r h is = end_of (fixpoint_behind d n ps gs s) u (gives_too (Err e) u (fixpoint_behind d n ps gs s) h) is

-- a fixpoint with its body
pub fixpoint_comes : (d : SortTree) (n : Name) (ps : List Name) (gs : List GhostParameter) (b : FixpointBody) (s u t : Scope) (c k : ℕ) (r : Result (Unit {0}) RuleFault) → c ≡ count s → k ≡ length s.ghosts → fixpoint_behind d n ps gs s ≡ Ok u → Follows (EquationsCome c k u b) r t → Follows (FixpointComes d n ps gs b s) r t
fixpoint_comes d n ps gs b s u t c k r e f h x =
    next_of h (subst (λ (i : ℕ). Follows (EquationsCome (count s) i u b) r t) f (subst (λ (i : ℕ). Follows (EquationsCome i k u b) r t) e x))
