-- A program with a fault and one with a race are refused.
use Rattle.std.proofs.Common.{◌≡◌, ℕ, zero, suc, ◌<◌, pos, true, [], ◌∷◌, length, Some, None, refl, sym, ap, subst, ◌∙◌, arith}
use Rattle.std.specs.FinMap as finite
use Rattle.vf_tree.specs.Core as core
use Rattle.vf_model.specs.Values as values
use Rattle.vf_model.specs.declared.words.FaultKind.TheVariants as faults
use Rattle.vf_model.specs.Memory.{Memory, Struct, block_at, cells_at, granted_block}
use Rattle.vf_model.specs.State.{State}
use Rattle.vf_model.specs.Acts.{Touch}
use Rattle.vf_model.specs.Accesses.{touch_of, new_struct}
use Rattle.vf_model.specs.Races.{TouchesCell, Race, next_touch, touch_in}
use Rattle.vf_model.specs.Runs.{reach, Fault}
use Rattle.vf_meaning.specs.Chunks.{start_of}
use Rattle.vf_meaning.proofs.FitSteps.{block_here}
use Rattle.vf_examples.specs.BoxProgram.{somewhere}
use Rattle.vf_examples.specs.Refused.{unset_program, shared_name, shared_field, write_step, racing_main, racing_run, racing_program, racing_events, UnsafeAreRefused}
use Rattle.vf_safety.proofs.Steps.{act_here}
use Rattle.vf_safety.proofs.Cells.{FieldThere, the_cell, store_act}
use Rattle.vf_safety.proofs.Programs.{accepted_programs_are_safe}

unset_fault : Fault unset_program (reach unset_program []) 0 faults.Unset somewhere
unset_fault = record { going = refl; faults = refl }

-- ---- the race
-- the state in which both threads are about to write
writing : ℕ → Memory → State
writing b m = record {
  memory = m;
  threads = (record { function = 0; step = 2; locals = Some (start_of b) ∷ []; target = None } ∷ []) ∷ (record { function = 1; step = 0; locals = Some (start_of b) ∷ []; target = None } ∷ []) ∷ [];
  output = [];
  end = None;
}

reached : reach racing_program racing_events ≡ writing (granted_block finite.empty 1) (finite.insert finite.empty (granted_block finite.empty 1) (new_struct racing_program shared_name))
unfolding writing
reached = refl

write_touch : ℕ → Touch
write_touch b = touch_of (the_cell b shared_field) true somewhere

first_touch : (b : ℕ) (m : Memory) → FieldThere m b shared_field None → next_touch racing_program (writing b m) 0 ≡ Some (write_touch b)
unfolding writing write_touch
first_touch b m h =
    ap touch_in (act_here racing_program (writing b m) 0 racing_main (record { function = 0; step = 2; locals = Some (start_of b) ∷ []; target = None }) [] write_step (record { going = refl; frames = refl; function = refl; found = refl })
    ∙ store_act racing_program (writing b m) 0 (record { function = 0; step = 2; locals = Some (start_of b) ∷ []; target = None }) [] (core.Read 0 somewhere) (core.Number (pos 1)) shared_field somewhere 3 b (values.Number (pos 1)) None refl refl h)

second_touch : (b : ℕ) (m : Memory) → FieldThere m b shared_field None → next_touch racing_program (writing b m) 1 ≡ Some (write_touch b)
unfolding writing write_touch
second_touch b m h =
    ap touch_in (act_here racing_program (writing b m) 1 racing_run (record { function = 1; step = 0; locals = Some (start_of b) ∷ []; target = None }) [] write_step (record { going = refl; frames = refl; function = refl; found = refl })
    ∙ store_act racing_program (writing b m) 1 (record { function = 1; step = 0; locals = Some (start_of b) ∷ []; target = None }) [] (core.Read 0 somewhere) (core.Number (pos 1)) shared_field somewhere 3 b (values.Number (pos 1)) None refl refl h)

cell_touched : (b : ℕ) (m : Memory) → block_at m b ≡ Some (Struct shared_name (None ∷ [])) → TouchesCell m (write_touch b) (the_cell b shared_field)
unfolding write_touch
cell_touched b m h = record { there = subst (λ o. 0 < length (cells_at o)) (sym h) (omega arith); block = refl; covered = refl }

zero_one : zero ≡ suc zero → ⊥
zero_one h = cc

writes_race : (b : ℕ) (m : Memory) → block_at m b ≡ Some (Struct shared_name (None ∷ [])) → Race racing_program (writing b m)
unfolding writing write_touch
writes_race b m h =
    let there : FieldThere m b shared_field None = record { cells = None ∷ []; block = h; cell = refl } in
    record {
      first = 0;
      second = 1;
      different = λ e. zero_one e;
      first_touch = write_touch b;
      second_touch = write_touch b;
      first_touches = first_touch b m there;
      second_touches = second_touch b m there;
      cell = the_cell b shared_field;
      by_first = cell_touched b m h;
      by_second = cell_touched b m h;
      writes = refl;
    }

racing_race : Race racing_program (reach racing_program racing_events)
racing_race =
    let b = granted_block finite.empty 1 in
    subst (Race racing_program) (sym reached) (writes_race b (finite.insert finite.empty b (new_struct racing_program shared_name)) (block_here finite.empty b (new_struct racing_program shared_name)))

-- ---- refused
pub unsafe_are_refused : UnsafeAreRefused
unsafe_are_refused = record {
  fault = unset_fault;
  race = racing_race;
  unset_refused = λ e h. ((accepted_programs_are_safe e unset_program h []).0).faultless 0 0 faults.Unset somewhere (omega arith) unset_fault;
  racing_refused = λ e h. ((accepted_programs_are_safe e racing_program h racing_events).0).raceless 2 (omega arith) racing_race;
}
