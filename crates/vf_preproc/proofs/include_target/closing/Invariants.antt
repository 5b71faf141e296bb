-- What ends the rest ends all.
use Rattle.std.proofs.Common.{◌≡◌, drop}
use Rattle.vf_preproc.specs.Targets.{closing}
use Rattle.vf_preproc.proofs.include_target.closing.Given as goal

abbrev pub invariant-loop-at : goal.invariant-loop-at
invariant-loop-at l = closing l.tokens ≡ closing (drop l.at l.tokens)
