use Rattle.std.proofs.Common.{◌≡◌, length}
use Rattle.vf_core.specs.Resolution.{AreResolved}
use Rattle.vf_program.proofs.index.resolve_all.Given as goal

-- what is kept is right, and there is one for each text so far
abbrev pub invariant-loop-text : goal.invariant-loop-text
invariant-loop-text l = AreResolved l.unit l.all × (length l.all ≡ l.text-index)
