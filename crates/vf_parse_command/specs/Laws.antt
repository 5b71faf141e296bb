-- What is known of what is read.
use Rattle.std.specs.Prelude.{ℕ, ◌+◌}
use Rattle.vf_syntax.specs.declared.item.GhostBody.{GhostBody}
use Rattle.vf_syntax.specs.GhostCommandTree.{GhostCommandTree, ghost_command_list}
use Rattle.vf_syntax.specs.Commands.{command, command_nesting, commands_nesting}
use Rattle.vf_syntax.specs.Units.{ghost_body}
use Rattle.vf_parse_term.specs.Laws.{IsSpelled}
use Rattle.vf_parse_command.specs.Commands.{command_at, body_at}

-- how deep a ghost command nests, itself counted
abbrev pub command_depth : GhostCommandTree → ℕ
command_depth x = command_nesting x + 1

-- how deep the commands of a body nest
abbrev pub body_depth : GhostBody → ℕ
body_depth b = commands_nesting (ghost_command_list b.commands)

-- the tokens that were taken spell the ghost command, which nests no deeper than it may
abbrev pub CommandsAreSpelled : Type 0
CommandsAreSpelled = (d : ℕ) → IsSpelled (command_at d) command command_depth d

-- the same of the body of a lemma
abbrev pub BodiesAreSpelled : Type 0
BodiesAreSpelled = (d : ℕ) → IsSpelled (body_at d) ghost_body body_depth d
