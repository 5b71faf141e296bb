use Rattle.std.proofs.Common.{◌≡◌, drop}
use Rattle.std.specs.List.{find}
use Rattle.vf_lexer.specs.Numbers.{is_fit}
use Rattle.vf_lexer.proofs.number.first_fit.Given as goal

abbrev pub invariant-loop-int_type : goal.invariant-loop-int_type
invariant-loop-int_type l = find (is_fit l.suffix l.decimal l.value) (drop l.int_type-index l.types) ≡ find (is_fit l.suffix l.decimal l.value) l.types
