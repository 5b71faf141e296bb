use Rattle.std.proofs.Common.{◌≡◌, ◌+◌, length}
use Rattle.vf_lexer.specs.Pieces.{ended_from}
use Rattle.vf_lexer.proofs.piece.ended_from.Given as goal

abbrev pub invariant-loop-left : goal.invariant-loop-left
invariant-loop-left l = record {
  gone : l.count + length l.left ≡ l.before + length l.text;
  same : ended_from l.count l.left ≡ ended_from l.before l.text;
}

abbrev pub decreases-loop-left : goal.decreases-loop-left
decreases-loop-left l = length l.left
