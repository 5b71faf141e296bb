-- The tokens of the line so far are put.
use Rattle.std.proofs.Common.{◌≡◌, ◌≤◌, ◌++◌, take, length}
use Rattle.vf_preproc.specs.Macros.{expansion}
use Rattle.vf_preproc.specs.Frames.{front}
use Rattle.vf_preproc.specs.Kept.{table_of}
use Rattle.vf_preproc.proofs.steps.put_text.Given as goal

abbrev pub invariant-loop-token : goal.invariant-loop-token
invariant-loop-token l = record {
  put : l.out ≡ front (l.fn.out ++ expansion (table_of l.macros) (take l.token-index l.tokens));
  few : length l.out ≤ 200001;
}
