use Rattle.std.proofs.Common.{◌≡◌, ◌-◌}
use Rattle.vf_cursor.specs.Parsing.{many_at, item_step}
use Rattle.vf_parse_statement.specs.Parsers.{is_inside}
use Rattle.vf_parse_item.specs.Parsers.{field_at, field_list_at}
use Rattle.vf_parse_item.proofs.signatures.field_list.Given as goal

abbrev pub invariant-loop-i : goal.invariant-loop-i
invariant-loop-i l = many_at (l.most - l.i) is_inside (item_step field_at) l.fields l.cursor.left.now ≡ field_list_at l.fn.cursor.left.now
