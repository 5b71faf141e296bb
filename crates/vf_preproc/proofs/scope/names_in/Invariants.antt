-- The names of the tokens so far.
use Rattle.std.proofs.Common.{◌≡◌, take}
use Rattle.vf_preproc.specs.UnitText.{names_in}
use Rattle.vf_preproc.proofs.scope.names_in.Given as goal

abbrev pub invariant-loop-token : goal.invariant-loop-token
invariant-loop-token l = l.names ≡ names_in (take l.token-index l.tokens)
