use Rattle.std.proofs.Common.{◌≡◌, false, take}
use Rattle.std.specs.List.{list_any}
use Rattle.vf_syntax.specs.Keywords.{is_spelled}
use Rattle.vf_parse_real.proofs.unsupported.is_spelled.Given as goal

abbrev pub invariant-loop-keyword : goal.invariant-loop-keyword
invariant-loop-keyword l = list_any (is_spelled l.word) (take l.keyword-index l.keywords) ≡ false
