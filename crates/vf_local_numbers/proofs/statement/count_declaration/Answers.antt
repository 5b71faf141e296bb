use Rattle.std.proofs.Common.{ap, ◌∙◌}
use Rattle.vf_local_numbers.specs.Counting.{whole_counted}
use Rattle.vf_local_numbers.proofs.statement.count_declaration.Goals as goal

pub returns : goal.returns
returns c = c.in_ok-count_whole.ensures ∙ ap (whole_counted c.args.given c.args.item.now) c.in_ok-note.ensures
