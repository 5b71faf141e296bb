use Rattle.std.proofs.Common.{◌≡◌, drop}
use Rattle.vf_syntax.specs.GhostCommandTree.{command_case_list}
use Rattle.vf_commands.specs.Switches.{case_numbers}
use Rattle.vf_asserting.proofs.Lists.{behind}
use Rattle.vf_commands.proofs.switches.case_numbers.Given as goal

-- the constructors that are found and those that are left come to all
abbrev pub invariant-loop-at : goal.invariant-loop-at
invariant-loop-at l = case_numbers l.fn.scope l.fn.datatype (command_case_list l.fn.list) ≡ behind l.numbers (case_numbers l.fn.scope l.fn.datatype (command_case_list (drop l.at l.fn.list)))
