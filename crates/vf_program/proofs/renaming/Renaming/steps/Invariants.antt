use Rattle.std.proofs.Common.{◌≡◌, map, take}
use Rattle.vf_core.specs.Shown.{step_of}
use Rattle.vf_program.proofs.renaming.Renaming.steps.Given as goal

-- those so far are the first
abbrev pub invariant-loop-step : goal.invariant-loop-step
invariant-loop-step l = map (step_of l.self.all.now) l.all ≡ map (step_of l.self.own.now) (take l.step-index l.step-items)
