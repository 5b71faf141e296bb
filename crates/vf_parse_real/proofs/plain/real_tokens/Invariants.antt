use Rattle.std.proofs.Common.{◌≡◌, take}
use Rattle.vf_parse_real.specs.Units.{real_tokens}
use Rattle.vf_parse_real.proofs.plain.real_tokens.Given as goal

abbrev pub invariant-loop-token : goal.invariant-loop-token
invariant-loop-token l = l.real ≡ real_tokens (take l.token-index l.tokens)
