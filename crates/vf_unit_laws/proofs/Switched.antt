-- What is known of unknown sorts in front of the cases of a body and behind them.
use Rattle.std.proofs.Common.{◌≡◌, ℕ, zero, suc, ◌+◌, ◌<◌, List, [], ◌∷◌, ◌++◌, length, sym, ◌∙◌, arith}
use Rattle.vf_sorts.specs.declared.sort.Head.TheVariants as heads
use Rattle.vf_sorts.specs.Sorts.{Sort, row}
use Rattle.vf_sorts.specs.Unknowns.{AgreesAsTold, EachUnknownOf, IsResolved, Known, leaf, settling}
use Rattle.vf_sorts.proofs.Settling.{settling_agrees}
use Rattle.vf_syntax.specs.declared.item.FixpointCase.{FixpointCase}
use Rattle.vf_syntax.specs.declared.written.Name.{Name}
use Rattle.vf_declared.specs.declared.scope.Scope.{Scope}
use Rattle.vf_sorting.specs.declared.context.Context.{Context}
use Rattle.vf_sorting.specs.Kinds.{datatype_sort, parameter_sorts, with_fresh}
use Rattle.vf_sorting.proofs.Below.{below_more, fresh_length, instance_below}
use Rattle.vf_asserting.specs.Switches.{parameters_of, unknown_datatype}
use Rattle.vf_equations.specs.Switching.{Switches, switches}
use Rattle.vf_equations.specs.Values.{CasesGive}
use Rattle.vf_fixpoint_laws.proofs.bodies.Cases.{cases_resolved}
use Rattle.vf_fixpoint_laws.proofs.bodies.Resolved.{equating_resolves, fresh_resolved}

-- nothing is known at first
pub nothing_known : IsResolved []
nothing_known u s e = absurd cc

-- the type parameters of a datatype are no unknown sorts
parameters_below : (n m : ℕ) → EachUnknownOf (λ u. u < n) (row (parameter_sorts m))
parameters_below n zero = tt
parameters_below n (suc m) = more (parameter_sorts m) (parameters_below n m)
  where
    more : (ts : List Sort) → EachUnknownOf (λ u. u < n) (row ts) → EachUnknownOf (λ u. u < n) (row (ts ++ leaf (heads.Parameter m) ∷ []))
    more [] e = (tt, tt)
    more (t ∷ ts) e = (e.0, more ts e.1)

fresh_long : (m : ℕ) → length (with_fresh [] m) ≡ m
fresh_long m = let q = fresh_length [] m in omega (arith, q)

-- there are as many unknown sorts as the datatype has type parameters
pub switched_count : {s : Scope} {x : Name} {cs : List FixpointCase} {m : ℕ} {k : Known} → Switches s x cs m k → m ≡ length k
switched_count {s} (switches {d} sorted below is all equates) = sym (fresh_long (parameters_of s d)) ∙ sym equates.long

-- what is known in front of the cases is resolved
switched_resolved : {s : Scope} {x : Name} {cs : List FixpointCase} {m : ℕ} {k : Known} → Switches s x cs m k → IsResolved k
switched_resolved {s} (switches {k} {t} {d} sorted below is all equates) =
    equating_resolves (with_fresh [] (parameters_of s d)) k t (unknown_datatype s 0 d) (fresh_resolved [] (parameters_of s d) nothing_known) (below_more 0 (length (with_fresh [] (parameters_of s d))) (omega arith) t below)
    (below_more (0 + parameters_of s d) (length (with_fresh [] (parameters_of s d))) (let q = fresh_long (parameters_of s d) in omega (arith, q)) (unknown_datatype s 0 d)
    (instance_below 0 0 (parameters_of s d) (omega arith) (datatype_sort d (parameters_of s d)) (parameters_below 0 (parameters_of s d))))
    equates

-- so what is settled in the end agrees with what is known behind them
pub settled_behind : {s : Scope} {x : Name} {cs : List FixpointCase} {m : ℕ} {k : Known} → Switches s x cs m k → {c : Context} {t : Sort} {s' : Scope} {k' : Known} → CasesGive c t m s k cs s' k' → AgreesAsTold (settling k') k'
settled_behind {m} front {c} {t} {k'} given = settling_agrees k' (cases_resolved m c t given (switched_resolved front))
