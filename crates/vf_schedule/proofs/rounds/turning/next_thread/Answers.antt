use Rattle.std.proofs.Common.{◌≡◌, ◌++◌, ◌∷◌, [], true, false, cond, refl, sym, ap, subst, ◌∙◌, arith}
use Rattle.vf_model.proofs.Machine.{idle_stays}
use Rattle.vf_model.specs.Runs.{can_step}
use Rattle.vf_run.specs.Machines.{machine_program, machine_state}
use Rattle.vf_schedule.specs.rounds.Turns.{event_of}
use Rattle.vf_schedule.proofs.rounds.Rounds.{NoneBefore, none_next, none_more, next_is, takes_one, refused_to}
use Rattle.vf_schedule.proofs.rounds.turning.next_thread.Goals as goal

pub returns-in-Ok-true-clause-taken : goal.returns-in-Ok-true-clause-taken
returns-in-Ok-true-clause-taken c =
    let p = machine_program c.args.machine.now in
    let s = machine_state c.args.machine.now in
    let q = machine_program c.loop-places.machine in
    let now = machine_state c.loop-places.machine in
    let inv = c.loop-places.invariant in
    let could : can_step q now c.thread_at-next.result ≡ true = sym c.in-Ok-true.ensures.could ∙ c.in-Ok-true.field-0-test in
    let logged = c.in-Ok-true.ensures.logged ∙ ap (λ b. cond b (c.loop-places.log.items ++ event_of c.thread_at-next.result ∷ []) c.loop-places.log.items) c.in-Ok-true.field-0-test in (
      next_is p s c.args.thread c.thread_count-count.result c.loop-places.places c.thread_at-next.result q now c.thread_count-count.ensures c.loop-places-test.true inv.same (inv.stays).state inv.none c.thread_at-next.ensures could,
      takes_one p s c.args.log.now.items c.thread_at-next.result q now c.loop-places.log.items (machine_state c.try_event.new.machine) c.try_event.new.log.items inv.same inv.stays c.in-Ok-true.ensures.after logged c.in-Ok-true.ensures.fits,
    )

pub returns-in-Err-clause-taken : goal.returns-in-Err-clause-taken
returns-in-Err-clause-taken c =
    let p = machine_program c.args.machine.now in
    let s = machine_state c.args.machine.now in
    let q = machine_program c.loop-places.machine in
    let now = machine_state c.loop-places.machine in
    let inv = c.loop-places.invariant in (
      record { state = c.in-Err.ensures.unchanged ∙ (inv.stays).state; logged = c.in-Err.ensures.unlogged ∙ (inv.stays).logged },
      refused_to p s _ c.thread_at-next.result q now c.in-Err.fault c.try_event.result inv.same (inv.stays).state c.in-Err.is
          (λ limit is. next_is p s c.args.thread c.thread_count-count.result c.loop-places.places c.thread_at-next.result q now c.thread_count-count.ensures c.loop-places-test.true inv.same (inv.stays).state inv.none c.thread_at-next.ensures (c.try_event.ensures.could_not limit is))
          c.try_event.ensures.capacity,
    )

pub loop-places-preserved : goal.loop-places-preserved
loop-places-preserved c =
    let p = machine_program c.args.machine.now in
    let s = machine_state c.args.machine.now in
    let q = machine_program c.loop-places.machine in
    let now = machine_state c.loop-places.machine in
    let inv = c.loop-places.invariant in
    let cannot : false ≡ can_step q now c.thread_at-next.result = sym c.in-Ok-false.field-0-test ∙ c.in-Ok-false.ensures.could in
    record {
      same = c.try_event.ensures.program ∙ inv.same;
      stays = record {
        state = c.in-Ok-false.ensures.after ∙ idle_stays q now (event_of c.thread_at-next.result) (sym cannot) ∙ (inv.stays).state;
        logged = c.in-Ok-false.ensures.logged ∙ ap (λ b. cond b (c.loop-places.log.items ++ event_of c.thread_at-next.result ∷ []) c.loop-places.log.items) c.in-Ok-false.field-0-test ∙ (inv.stays).logged;
      };
      none = none_more p s c.args.thread c.thread_count-count.result c.loop-places.places c.thread_at-next.result q now inv.same (inv.stays).state inv.none c.thread_at-next.ensures cannot;
    }

pub returns-clause-taken : goal.returns-clause-taken
returns-clause-taken c =
    let p = machine_program c.args.machine.now in
    let s = machine_state c.args.machine.now in
    let inv = c.loop-places.invariant in
    let all : c.loop-places.places ≡ c.thread_count-count.result = omega arith in
    (none_next p s c.args.thread c.thread_count-count.result c.thread_count-count.ensures (subst (NoneBefore p s c.args.thread c.thread_count-count.result) all inv.none), inv.stays)
