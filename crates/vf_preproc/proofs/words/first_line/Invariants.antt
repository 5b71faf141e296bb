-- All tokens so far begin on the line.
use Rattle.std.proofs.Common.{take}
use Rattle.std.specs.List.{AllByRecursion}
use Rattle.vf_preproc.proofs.Lines.{IsOn}
use Rattle.vf_preproc.proofs.words.first_line.Given as goal

abbrev pub invariant-loop-at : goal.invariant-loop-at
invariant-loop-at l = AllByRecursion (IsOn l.line) (take l.at l.tokens)
