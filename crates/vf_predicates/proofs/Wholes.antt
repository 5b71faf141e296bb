-- Whole predicates and predicate constructors.
use Rattle.std.proofs.Common.{◌≡◌, ℕ, true, false, List, length, Result, Ok, Err, sym, ap, subst, ◌∙◌}
use Rattle.vf_base.specs.declared.refusal.RuleFault.{RuleFault}
use Rattle.vf_declared.specs.Changes.{first_locals}
use Rattle.vf_declared.specs.Writing.{with_ghost_body, with_ghost_prototype}
use Rattle.vf_declared.specs.declared.locals.Locals.{Locals}
use Rattle.vf_declared.specs.declared.scope.Scope.{Scope}
use Rattle.vf_syntax.specs.declared.item.GhostParameter.{GhostParameter}
use Rattle.vf_syntax.specs.declared.written.Name.{Name}
use Rattle.vf_syntax.specs.AssertionTree.{PartTrees}
use Rattle.vf_datatypes.specs.Walking.{Gives}
use Rattle.vf_heads.specs.Heads.{constructor_behind}
use Rattle.vf_walk.specs.Walking.{Follows}
use Rattle.vf_walk.proofs.Steps.{end_here, end_of, last, next, next_of}
use Rattle.vf_predicates.specs.Bodies.{BodyComes}
use Rattle.vf_predicates.specs.Predicates.{ConstructorComes, HeadComes, PredicateBodyComes, PredicateComes, number_at}
use Rattle.vf_predicates.proofs.Heads.{gives_too}

-- what stands in front of a body is refused
pub predicate_stops : (n : Name) (gs : List GhostParameter) (s u t : Scope) (e : RuleFault) (r : Result (Unit {0}) RuleFault) → Follows (HeadComes false n gs s) (Err e) u → r ≡ Err e → Follows (PredicateComes n gs s) r t
predicate_stops n gs s u t e r h is = end_here h is

-- a predicate without a body
pub predicate_comes : (n : Name) (gs : List GhostParameter) (s u t : Scope) (l m : Locals) (c k : ℕ) → c ≡ length s.locals.names → k ≡ number_at s n → Follows (HeadComes false n gs s) (Ok tt) u → l ≡ u.locals → m ≡ first_locals u.locals c → t ≡ with_ghost_prototype (record u { locals = m }) k l → Follows (PredicateComes n gs s) (Ok tt) t
predicate_comes n gs s u t l m c k e f h i j q =
    last h (ap Ok (sym (q
    ∙ ap (λ (x : Locals). with_ghost_prototype (record u { locals = x }) k l) (j ∙ ap (first_locals u.locals) e)
    ∙ ap (λ (i : ℕ). with_ghost_prototype (record u { locals = first_locals u.locals (length s.locals.names) }) i l) f
    ∙ ap (λ (x : Locals). with_ghost_prototype (record u { locals = first_locals u.locals (length s.locals.names) }) (number_at s n) x) i)))

-- what stands in front of a predicate's body is refused
pub head_stops : (n : Name) (gs : List GhostParameter) (xs : PartTrees) (s u t : Scope) (e : RuleFault) (r : Result (Unit {0}) RuleFault) → Follows (HeadComes true n gs s) (Err e) u → r ≡ Err e → Follows (PredicateBodyComes n gs xs s) r t
head_stops n gs xs s u t e r h is = end_here h is

-- a predicate with its body
pub body_comes : (n : Name) (gs : List GhostParameter) (xs : PartTrees) (s u v t : Scope) (c k : ℕ) (r : Result (Unit {0}) RuleFault) → c ≡ length s.locals.names → k ≡ number_at s n → Follows (HeadComes true n gs s) (Ok tt) u → v ≡ with_ghost_body u k → Follows (BodyComes c xs v) r t → Follows (PredicateBodyComes n gs xs s) r t
body_comes n gs xs s u v t c k r e f h q b =
    next h (subst (λ (x : Scope). Follows (BodyComes (length s.locals.names) xs x) r t) (q ∙ ap (with_ghost_body u) f)
    (subst (λ (i : ℕ). Follows (BodyComes i xs v) r t) e b))

-- what stands in front of a predicate constructor's body is refused
pub constructor_stops : (n : Name) (fs gs : List GhostParameter) (xs : PartTrees) (s u t : Scope) (e : RuleFault) (r : Result (Unit {0}) RuleFault) → Gives (Err e) u (constructor_behind n fs gs s) → r ≡ Err e → Follows (ConstructorComes n fs gs xs s) r t
constructor_stops n fs gs xs s u t e r h is = end_of (constructor_behind n fs gs s) u (gives_too (Err e) u (constructor_behind n fs gs s) h) is

-- a predicate constructor with its body
pub constructor_comes : (n : Name) (fs gs : List GhostParameter) (xs : PartTrees) (s u t : Scope) (c : ℕ) (r : Result (Unit {0}) RuleFault) → c ≡ length s.locals.names → constructor_behind n fs gs s ≡ Ok u → Follows (BodyComes c xs u) r t → Follows (ConstructorComes n fs gs xs s) r t
constructor_comes n fs gs xs s u t c r e h b = next_of h (subst (λ (i : ℕ). Follows (BodyComes i xs u) r t) e b)
