use Rattle.std.proofs.Common.{◌≡◌, subst, sym, ⊎_elim, arith}
use Rattle.std.proofs.lemmas.Bool.{cases_lt}
use Rattle.vf_run.specs.Machines.{machine_program, machine_state}
use Rattle.vf_trace.specs.Sights.{IsFirstRace}
use Rattle.vf_trace.proofs.Racing.{first_of, raceless}
use Rattle.vf_trace.proofs.races.first_race.Goals as goal

pub returns-in-Some-clause-first : goal.returns-in-Some-clause-first
returns-in-Some-clause-first c =
    let p = machine_program c.args.machine.now in
    let s = machine_state c.args.machine.now in
    let r = c.in-Some.race in
    let found = c.in-Some.ensures.found in
    let first_is = found.0 in
    subst (λ k. IsFirstRace p s k r.first_place r.second r.second_place) (sym first_is)
    (first_of p s c.loop-first.first r.second r.first_place r.second_place c.loop-first.invariant found.1 found.2 c.in-Some.ensures.least)

pub loop-first-preserved : goal.loop-first-preserved
loop-first-preserved c = λ other below up.
    ⊎_elim (λ less. c.loop-first.invariant other less up)
    (λ more. let same : other.first ≡ c.loop-first.first = omega (arith, more, below) in c.in_default.ensures.none other same (omega (arith, same, up)))
    (cases_lt other.first c.loop-first.first)

pub returns-clause-none : goal.returns-clause-none
returns-clause-none c =
    let p = machine_program c.args.machine.now in
    let s = machine_state c.args.machine.now in
    raceless p s (λ other low up. c.loop-first.invariant other (omega (arith, low)) up)
