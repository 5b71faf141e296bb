use Rattle.std.proofs.Common.{◌≡◌, ◌-◌}
use Rattle.vf_lexer.specs.declared.punctuator.Punctuator.TheVariants.{Comma}
use Rattle.vf_syntax.specs.declared.side.Side.TheVariants.{Real}
use Rattle.vf_syntax.specs.Walks.{is_mark}
use Rattle.vf_cursor.specs.Parsing.{many_at, item_step}
use Rattle.vf_parse_item.specs.Parsers.{next_parameter_at, more_parameters_at}
use Rattle.vf_parse_item.proofs.signatures.more_parameters.Given as goal

abbrev pub invariant-loop-i : goal.invariant-loop-i
invariant-loop-i l = many_at (l.most - l.i) (is_mark Real Comma) (item_step next_parameter_at) l.given l.cursor.left.now ≡ more_parameters_at l.fn.first l.fn.cursor.left.now
