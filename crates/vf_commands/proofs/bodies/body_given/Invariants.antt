use Rattle.std.proofs.Common.{drop}
use Rattle.vf_syntax.specs.GhostCommandTree.{ghost_command_list}
use Rattle.vf_walk.proofs.Loops.{Leads}
use Rattle.vf_commands.specs.Comes.{BodyComes}
use Rattle.vf_commands.proofs.bodies.body_given.Given as goal

-- whatever the commands that are left may come to, all of them may come to
abbrev pub invariant-loop-at : goal.invariant-loop-at
invariant-loop-at l = Leads (BodyComes l.fn.around (ghost_command_list (drop l.at l.fn.commands)) l.scope) (BodyComes l.fn.around (ghost_command_list l.fn.commands) l.initial.scope)
