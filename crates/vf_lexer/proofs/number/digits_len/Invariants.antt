use Rattle.std.proofs.Common.{◌≡◌, ◌+◌, ◌≤◌, ◌-◌, length, drop}
use Rattle.vf_lexer.specs.Numbers.{digits_len}
use Rattle.vf_lexer.proofs.number.digits_len.Given as goal

abbrev pub invariant-loop-len : goal.invariant-loop-len
invariant-loop-len l = record {
  within : l.len ≤ length l.text;
  same : l.len + digits_len l.base (drop l.len l.text) ≡ digits_len l.base l.text;
}

abbrev pub decreases-loop-len : goal.decreases-loop-len
decreases-loop-len l = length l.text - l.len
