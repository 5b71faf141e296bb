use Rattle.std.proofs.Common.{◌≡◌, false, take}
use Rattle.std.specs.List.{list_any}
use Rattle.vf_lexer.specs.Numbers.{is_u}
use Rattle.vf_lexer.proofs.number.has_u.Given as goal

abbrev pub invariant-loop-byte : goal.invariant-loop-byte
invariant-loop-byte l = list_any is_u (take l.byte-index l.suffix) ≡ false
