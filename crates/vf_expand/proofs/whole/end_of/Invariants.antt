-- The place so far, behind the bytes so far.
use Rattle.std.proofs.Common.{◌≡◌, ◌+◌, ◌≤◌, drop}
use Rattle.vf_lexer.specs.Tokens.{place_after}
use Rattle.vf_expand.specs.Wholes.{end_of}
use Rattle.vf_expand.proofs.whole.end_of.Given as goal

abbrev pub invariant-loop-byte : goal.invariant-loop-byte
invariant-loop-byte l = record {
  same : end_of l.number l.bytes ≡ place_after l.place (drop l.byte-index l.bytes);
  line : l.place.line ≤ l.byte-index + 1;
  column : l.place.column ≤ l.byte-index + 1;
}
