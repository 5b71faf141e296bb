-- The copy has the tokens so far.
use Rattle.std.proofs.Common.{◌≡◌, take}
use Rattle.vf_preproc.proofs.scope.copy_tokens.Given as goal

abbrev pub invariant-loop-token : goal.invariant-loop-token
invariant-loop-token l = l.copy ≡ take l.token-index l.tokens
