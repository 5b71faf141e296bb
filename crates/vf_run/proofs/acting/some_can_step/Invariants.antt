use Rattle.std.proofs.Common.{◌≡◌, ℕ, ◌<◌, false}
use Rattle.vf_model.specs.Runs.{can_step}
use Rattle.vf_core.specs.Shown.{program_of}
use Rattle.vf_engine.specs.States.{state_of}
use Rattle.vf_run.proofs.acting.some_can_step.Given as goal

-- no thread before this one can step
abbrev pub invariant-loop-thread : goal.invariant-loop-thread
invariant-loop-thread l = (k : ℕ) → k < l.thread → can_step (program_of l.program.unit) (state_of l.program.unit.names l.running) k ≡ false
