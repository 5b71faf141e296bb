use Rattle.std.proofs.Common.{◌≡◌, ◌-◌}
use Rattle.vf_lexer.specs.declared.punctuator.Punctuator.TheVariants.{Comma}
use Rattle.vf_syntax.specs.declared.side.Side.TheVariants.{Ghost}
use Rattle.vf_syntax.specs.Walks.{is_mark}
use Rattle.vf_cursor.specs.Parsing.{many_at, many}
use Rattle.vf_parse_term.specs.Pieces.{comma_step}
use Rattle.vf_parse_ghost.specs.Constructors.{argument_at}
use Rattle.vf_parse_ghost.proofs.constructors.more_arguments.Given as goal

abbrev pub invariant-loop-i : goal.invariant-loop-i
invariant-loop-i l = many_at (l.most - l.i) (is_mark Ghost Comma) (comma_step (argument_at l.depth)) l.arguments l.cursor.left.now ≡ many (is_mark Ghost Comma) (comma_step (argument_at l.depth)) l.fn.first l.fn.cursor.left.now
