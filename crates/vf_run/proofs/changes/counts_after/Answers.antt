use Rattle.std.proofs.Common.{◌≡◌, ◌+◌, ◌++◌, [], ◌∷◌, map, length, Some, None, slice_get, unsigned_abs, rules, refl, sym, ap, subst, ◌∙◌}
use Rattle.std.specs.Fmt.{signed_decimal}
use Rattle.std.specs.Option.{option_map}
use Rattle.std.specs.FinMap as finite
use Rattle.std.proofs.lemmas.List.{length-map, length-replicate}
use Rattle.vf_model.specs.Memory.{Ints, Mutex, unset_cells}
use Rattle.vf_model.specs.State.{Aborted, after_output, ended}
use Rattle.vf_model.specs.Accesses.{new_struct}
use Rattle.vf_core.specs.Shown.{identity_of, program_of}
use Rattle.vf_engine.specs.Values.{value_of}
use Rattle.vf_engine.specs.Cells.{place_of}
use Rattle.vf_engine.specs.Memories.{memory_of}
use Rattle.vf_engine.specs.States.{state_of, thread_of}
use Rattle.vf_run.specs.Acting.{IsKnown}
use Rattle.vf_run.specs.Counts.{HasCounts}
use Rattle.vf_run.proofs.Counting.{on_turn, same_counts, stepped, went, left, written_counts}
use Rattle.vf_run.proofs.Effects.{as_effect, the_turn, allocates_counts, creates_counts, entered_found, started_found, joinable_there}
use Rattle.vf_run.proofs.changes.counts_after.Goals as goal

pub returns-in-Goto-clause-counted : goal.returns-in-Goto-clause-counted
returns-in-Goto-clause-counted c = λ thread known.
    let names = c.args.program.now.unit.names in
    let p = program_of c.args.program.now.unit in
    let r = c.args.running.now in
    let has = c.requires.counted in
    as_effect names p r thread c.args.grant c.args.effect _ _ c.in-Goto.is
    (λ of frame at framed.
    let turn = the_turn names r thread of frame in
    let on = on_turn names r thread of frame at framed in
    went turn _ c.args.counts on has)

pub returns-in-Set-clause-counted : goal.returns-in-Set-clause-counted
returns-in-Set-clause-counted c = λ thread known.
    let names = c.args.program.now.unit.names in
    let p = program_of c.args.program.now.unit in
    let r = c.args.running.now in
    let has = c.requires.counted in
    as_effect names p r thread c.args.grant c.args.effect _ _ c.in-Set.is
    (λ of frame at framed.
    let turn = the_turn names r thread of frame in
    let on = on_turn names r thread of frame at framed in
    went turn _ c.args.counts on has)

pub returns-in-Load-clause-counted : goal.returns-in-Load-clause-counted
returns-in-Load-clause-counted c = λ thread known.
    let names = c.args.program.now.unit.names in
    let p = program_of c.args.program.now.unit in
    let r = c.args.running.now in
    let has = c.requires.counted in
    as_effect names p r thread c.args.grant c.args.effect _ _ c.in-Load.is
    (λ of frame at framed.
    let turn = the_turn names r thread of frame in
    let on = on_turn names r thread of frame at framed in
    went turn _ c.args.counts on has)

pub returns-in-Store-clause-counted : goal.returns-in-Store-clause-counted
returns-in-Store-clause-counted c = λ thread known.
    let names = c.args.program.now.unit.names in
    let p = program_of c.args.program.now.unit in
    let r = c.args.running.now in
    let has = c.requires.counted in
    as_effect names p r thread c.args.grant c.args.effect _ _ c.in-Store.is
    (λ of frame at framed.
    let turn = the_turn names r thread of frame in
    let on = on_turn names r thread of frame at framed in
    stepped turn _ _ c.args.counts c.args.counts on has (written_counts (memory_of names r.blocks) (place_of c.in-Store.cell) (value_of names c.in-Store.value) c.args.counts (has.blocks, has.cells)) (refl, refl))

pub returns-in-Abort-clause-counted : goal.returns-in-Abort-clause-counted
returns-in-Abort-clause-counted c = λ thread known.
    let names = c.args.program.now.unit.names in
    let p = program_of c.args.program.now.unit in
    let r = c.args.running.now in
    let has = c.requires.counted in
    as_effect names p r thread c.args.grant c.args.effect _ _ c.in-Abort.is
    (λ of frame at framed.
    let turn = the_turn names r thread of frame in
    let on = on_turn names r thread of frame at framed in
    same_counts (state_of names r) (ended (state_of names r) Aborted) c.args.counts refl refl has)

pub returns-in-Wait-clause-counted : goal.returns-in-Wait-clause-counted
returns-in-Wait-clause-counted c = λ thread known.
    let names = c.args.program.now.unit.names in
    let p = program_of c.args.program.now.unit in
    let r = c.args.running.now in
    let has = c.requires.counted in
    as_effect names p r thread c.args.grant c.args.effect _ _ c.in-Wait.is
    (λ of frame at framed.
    let turn = the_turn names r thread of frame in
    let on = on_turn names r thread of frame at framed in
    has)

pub returns-in-PutChar-clause-counted : goal.returns-in-PutChar-clause-counted
returns-in-PutChar-clause-counted c = λ thread known.
    let names = c.args.program.now.unit.names in
    let p = program_of c.args.program.now.unit in
    let r = c.args.running.now in
    let has = c.requires.counted in
    as_effect names p r thread c.args.grant c.args.effect _ _ c.in-PutChar.is
    (λ of frame at framed.
    let turn = the_turn names r thread of frame in
    let on = on_turn names r thread of frame at framed in
    went (after_output turn (c.in-PutChar.byte ∷ [])) _ c.args.counts on (same_counts (state_of names r) _ c.args.counts refl refl has))

pub returns-in-PrintInt-clause-counted : goal.returns-in-PrintInt-clause-counted
returns-in-PrintInt-clause-counted c = λ thread known.
    let names = c.args.program.now.unit.names in
    let p = program_of c.args.program.now.unit in
    let r = c.args.running.now in
    let has = c.requires.counted in
    as_effect names p r thread c.args.grant c.args.effect _ _ c.in-PrintInt.is
    (λ of frame at framed.
    let turn = the_turn names r thread of frame in
    let on = on_turn names r thread of frame at framed in
    went (after_output turn (signed_decimal c.in-PrintInt.number ++ 10 ∷ [])) _ c.args.counts on (same_counts (state_of names r) _ c.args.counts refl refl has))

pub returns-in-Allocate-clause-counted : goal.returns-in-Allocate-clause-counted
returns-in-Allocate-clause-counted c = λ thread known.
    let names = c.args.program.now.unit.names in
    let p = program_of c.args.program.now.unit in
    let r = c.args.running.now in
    let has = c.requires.counted in
    as_effect names p r thread c.args.grant c.args.effect _ _ c.in-Allocate.is
    (λ of frame at framed.
    let turn = the_turn names r thread of frame in
    let on = on_turn names r thread of frame at framed in
    allocates_counts turn c.in-Allocate.local (new_struct p (identity_of names c.in-Allocate.structure)) c.in-Allocate.next c.args.grant c.args.counts c.granted_block.result on has c.granted_block.ensures.denied c.granted_block.ensures.threads
    (λ other k free. c.granted_block.ensures.memory other (memory_of names r.blocks) k (new_struct p (identity_of names c.in-Allocate.structure)) free refl (sym (c.len-there.ensures names)) (has.blocks, has.cells)))

pub returns-in-CreateMutex-clause-counted : goal.returns-in-CreateMutex-clause-counted
returns-in-CreateMutex-clause-counted c = λ thread known.
    let names = c.args.program.now.unit.names in
    let p = program_of c.args.program.now.unit in
    let r = c.args.running.now in
    let has = c.requires.counted in
    as_effect names p r thread c.args.grant c.args.effect _ _ c.in-CreateMutex.is
    (λ of frame at framed.
    let turn = the_turn names r thread of frame in
    let on = on_turn names r thread of frame at framed in
    creates_counts turn c.in-CreateMutex.target c.in-CreateMutex.next c.args.grant c.args.counts c.granted_block-in-CreateMutex.result on has c.granted_block-in-CreateMutex.ensures.denied c.granted_block-in-CreateMutex.ensures.threads
    (λ other k free. c.granted_block-in-CreateMutex.ensures.memory other (memory_of names r.blocks) k (Mutex None) free refl (sym (c.len-there.ensures names)) (has.blocks, has.cells)))

pub returns-in-AllocateInts-clause-counted : goal.returns-in-AllocateInts-clause-counted
returns-in-AllocateInts-clause-counted c = λ thread known.
    let names = c.args.program.now.unit.names in
    let p = program_of c.args.program.now.unit in
    let r = c.args.running.now in
    let has = c.requires.counted in
    as_effect names p r thread c.args.grant c.args.effect _ _ c.in-AllocateInts.is
    (λ of frame at framed.
    let turn = the_turn names r thread of frame in
    let on = on_turn names r thread of frame at framed in
    let same : unsigned_abs c.in-AllocateInts.length ≡ c.unsigned_abs.result = search rules in
    allocates_counts turn c.in-AllocateInts.local (Ints (unset_cells (unsigned_abs c.in-AllocateInts.length))) c.in-AllocateInts.next c.args.grant c.args.counts c.granted_block-in-AllocateInts.result on has c.granted_block-in-AllocateInts.ensures.denied c.granted_block-in-AllocateInts.ensures.threads
    (λ other k free. c.granted_block-in-AllocateInts.ensures.memory other (memory_of names r.blocks) k (Ints (unset_cells (unsigned_abs c.in-AllocateInts.length))) free (length-replicate (unsigned_abs c.in-AllocateInts.length) None ∙ same) (sym (c.len-there.ensures names)) (has.blocks, has.cells)))

pub returns-in-Free-clause-counted : goal.returns-in-Free-clause-counted
returns-in-Free-clause-counted c = λ thread known.
    let names = c.args.program.now.unit.names in
    let p = program_of c.args.program.now.unit in
    let r = c.args.running.now in
    let has = c.requires.counted in
    as_effect names p r thread c.args.grant c.args.effect _ _ c.in-Free.is
    (λ of frame at framed.
    let turn = the_turn names r thread of frame in
    let on = on_turn names r thread of frame at framed in
    stepped turn (finite.remove (memory_of names r.blocks) c.in-Free.block) _ c.args.counts c.one_block_less.result on has (c.one_block_less.ensures.memory names (has.blocks, has.cells)) c.one_block_less.ensures.threads)

pub returns-in-Remove-clause-counted : goal.returns-in-Remove-clause-counted
returns-in-Remove-clause-counted c = λ thread known.
    let names = c.args.program.now.unit.names in
    let p = program_of c.args.program.now.unit in
    let r = c.args.running.now in
    let has = c.requires.counted in
    as_effect names p r thread c.args.grant c.args.effect _ _ c.in-Remove.is
    (λ of frame at framed.
    let turn = the_turn names r thread of frame in
    let on = on_turn names r thread of frame at framed in
    stepped turn (finite.remove (memory_of names r.blocks) c.in-Remove.block) _ c.args.counts c.one_block_less-in-Remove.result on has (c.one_block_less-in-Remove.ensures.memory names (has.blocks, has.cells)) c.one_block_less-in-Remove.ensures.threads)

pub returns-in-Acquire-clause-counted : goal.returns-in-Acquire-clause-counted
returns-in-Acquire-clause-counted c = λ thread known.
    let names = c.args.program.now.unit.names in
    let p = program_of c.args.program.now.unit in
    let r = c.args.running.now in
    let has = c.requires.counted in
    as_effect names p r thread c.args.grant c.args.effect _ _ c.in-Acquire.is
    (λ of frame at framed.
    let turn = the_turn names r thread of frame in
    let on = on_turn names r thread of frame at framed in
    stepped turn (finite.insert (memory_of names r.blocks) c.in-Acquire.block (Mutex (Some thread))) _ c.args.counts c.mutex_at.result on has (c.mutex_at.ensures.memory names (Some thread) (has.blocks, has.cells)) c.mutex_at.ensures.threads)

pub returns-in-Release-clause-counted : goal.returns-in-Release-clause-counted
returns-in-Release-clause-counted c = λ thread known.
    let names = c.args.program.now.unit.names in
    let p = program_of c.args.program.now.unit in
    let r = c.args.running.now in
    let has = c.requires.counted in
    as_effect names p r thread c.args.grant c.args.effect _ _ c.in-Release.is
    (λ of frame at framed.
    let turn = the_turn names r thread of frame in
    let on = on_turn names r thread of frame at framed in
    stepped turn (finite.insert (memory_of names r.blocks) c.in-Release.block (Mutex None)) _ c.args.counts c.mutex_at-in-Release.result on has (c.mutex_at-in-Release.ensures.memory names None (has.blocks, has.cells)) c.mutex_at-in-Release.ensures.threads)

pub returns-in-Enter-clause-counted : goal.returns-in-Enter-clause-counted
returns-in-Enter-clause-counted c = λ thread known.
    let names = c.args.program.now.unit.names in
    let p = program_of c.args.program.now.unit in
    let r = c.args.running.now in
    let has = c.requires.counted in
    as_effect names p r thread c.args.grant c.args.effect _ _ c.in-Enter.is
    (λ of frame at framed.
    let turn = the_turn names r thread of frame in
    let on = on_turn names r thread of frame at framed in
    let there = subst (λ e. IsKnown p e) c.in-Enter.is known in
    subst (HasCounts _) (sym c.one_frame_more.ensures) (entered_found turn c.in-Enter.function c.in-Enter.target _ c.in-Enter.next c.args.grant (slice_get p.functions c.in-Enter.function) c.args.counts there on has))

pub returns-in-Return-clause-counted : goal.returns-in-Return-clause-counted
returns-in-Return-clause-counted c = λ thread known.
    let names = c.args.program.now.unit.names in
    let p = program_of c.args.program.now.unit in
    let r = c.args.running.now in
    let has = c.requires.counted in
    as_effect names p r thread c.args.grant c.args.effect _ _ c.in-Return.is
    (λ of frame at framed.
    let turn = the_turn names r thread of frame in
    let on = on_turn names r thread of frame at framed in
    left turn (option_map (value_of names) c.in-Return.field-0) c.args.counts c.one_frame_less.result on has c.one_frame_less.ensures.blocks c.one_frame_less.ensures.threads c.one_frame_less.ensures.frames c.one_frame_less.ensures.cells)

pub returns-in-Start-clause-counted : goal.returns-in-Start-clause-counted
returns-in-Start-clause-counted c = λ thread known.
    let names = c.args.program.now.unit.names in
    let p = program_of c.args.program.now.unit in
    let r = c.args.running.now in
    let has = c.requires.counted in
    as_effect names p r thread c.args.grant c.args.effect _ _ c.in-Start.is
    (λ of frame at framed.
    let turn = the_turn names r thread of frame in
    let on = on_turn names r thread of frame at framed in
    let there = subst (λ e. IsKnown p e) c.in-Start.is known in
    let size : c.len-started.result ≡ length (map (thread_of names) r.threads.items) = c.len-started.ensures ∙ r.threads.ok.0 ∙ sym (length-map r.threads.items (thread_of names)) in
    subst (HasCounts _) (ap (λ n. record { blocks = c.args.counts.blocks; threads = n + 1; frames = c.args.counts.frames + 1; cells = c.args.counts.cells }) (sym size) ∙ sym c.one_thread_more.ensures)
    (started_found turn c.in-Start.run' (value_of names c.in-Start.argument) c.in-Start.next c.args.grant (slice_get p.functions c.in-Start.run') c.args.counts there on has))

pub returns-in-StartJoinable-clause-counted : goal.returns-in-StartJoinable-clause-counted
returns-in-StartJoinable-clause-counted c = λ thread known.
    let names = c.args.program.now.unit.names in
    let p = program_of c.args.program.now.unit in
    let r = c.args.running.now in
    let has = c.requires.counted in
    as_effect names p r thread c.args.grant c.args.effect _ _ c.in-StartJoinable.is
    (λ of frame at framed.
    let turn = the_turn names r thread of frame in
    let on = on_turn names r thread of frame at framed in
    let there = subst (λ e. IsKnown p e) c.in-StartJoinable.is known in
    let size : c.len-started.result ≡ length (map (thread_of names) r.threads.items) = c.len-started.ensures ∙ r.threads.ok.0 ∙ sym (length-map r.threads.items (thread_of names)) in
    joinable_there turn c.in-StartJoinable.run' c.in-StartJoinable.target (value_of names c.in-StartJoinable.argument) c.in-StartJoinable.next c.args.grant (slice_get p.functions c.in-StartJoinable.run') c.args.counts c.granted_thread.result there on has c.granted_thread.ensures.denied
    (λ other m k block free ints len counts. c.granted_thread.ensures.memory other m k block free ints (len ∙ sym (c.len-there.ensures names)) counts)
    (λ other. c.granted_thread.ensures.threads other ∙ ap (λ n. n + 1) size) c.granted_thread.ensures.frames)
