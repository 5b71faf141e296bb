-- What is made of the unit in the end stays the same.
use Rattle.std.proofs.Common.{◌≡◌, ◌≤◌, length}
use Rattle.vf_preproc.specs.UnitText.{Library}
use Rattle.vf_preproc.specs.Units.{Tells}
use Rattle.vf_expand.specs.Worlds.{world, Reads}
use Rattle.vf_expand.specs.Walks.{walk_text}
use Rattle.vf_expand.specs.Remembered.{WalkRemembers}
use Rattle.vf_expand.specs.Weights.{weight}
use Rattle.vf_expand.proofs.steps.walk_on.Given as goal

abbrev pub invariant-steps : goal.invariant-steps
invariant-steps g l = record {
  exact : (library : Library) → Tells library l.snapshot → walk_text library l.fn.walk ≡ walk_text library l.state;
  remembers : WalkRemembers l.state;
  few : length l.state.unit.tokens ≤ 200001;
  reads : Reads
      (world l.fn.snapshot (g.F.Files.contents l.fn.files) (g.F.Files.failures l.fn.files) (g.F.Files.absences l.fn.files) (g.F.Files.put_failures l.fn.files))
      (world l.snapshot (g.F.Files.contents l.files) (g.F.Files.failures l.files) (g.F.Files.absences l.files) (g.F.Files.put_failures l.files));
}

-- Less is left of the walk with each step.
abbrev pub decreases-steps : goal.decreases-steps
decreases-steps g l = weight l.state
