use Rattle.std.proofs.Common.{◌≡◌, ◌-◌}
use Rattle.vf_lexer.specs.declared.punctuator.Punctuator.TheVariants.{Bar}
use Rattle.vf_syntax.specs.declared.side.Side.TheVariants.{Ghost}
use Rattle.vf_syntax.specs.Walks.{is_mark}
use Rattle.vf_cursor.specs.Parsing.{many_at}
use Rattle.vf_parse_ghost.specs.Constructors.{constructor_step, more_constructors_at}
use Rattle.vf_parse_ghost.proofs.constructors.more_constructors.Given as goal

abbrev pub invariant-loop-i : goal.invariant-loop-i
invariant-loop-i l = many_at (l.most - l.i) (is_mark Ghost Bar) (constructor_step l.depth) l.constructors l.cursor.left.now ≡ more_constructors_at l.depth l.fn.first l.fn.cursor.left.now
