use Rattle.std.proofs.Common.{◌≡◌, ◌+◌, ◌<◌, ◌≤◌, ◌^◌, length}
use Rattle.vf_lexer.specs.Tokens.{walk}
use Rattle.vf_lexer.proofs.cursor.walk.Given as goal

abbrev pub invariant-loop-count : goal.invariant-loop-count
invariant-loop-count l = record {
  within : l.count ≤ length l.left;
  gone : length l.left + l.size ≡ length l.text + l.count;
  line : l.place.line + length l.left < 2 ^ 32;
  column : l.place.column + length l.left < 2 ^ 32;
  same : walk l.place l.count l.left ≡ walk l.fn.start l.size l.text;
}

abbrev pub decreases-loop-count : goal.decreases-loop-count
decreases-loop-count l = l.count
