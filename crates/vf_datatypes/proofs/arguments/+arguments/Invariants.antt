use Rattle.std.proofs.Common.{◌≡◌, ◌+◌, ◌*◌, drop}
use Rattle.vf_syntax.specs.SortTree.{sort_list, sort_nodes, sort_nodes_all}
use Rattle.vf_datatypes.specs.Arguments.{argument_sorts}
use Rattle.vf_datatypes.proofs.Spelled.{behind}
use Rattle.vf_datatypes.proofs.arguments.+arguments.Given as goal

abbrev pub decreases-argument_sort : goal.decreases-argument_sort
decreases-argument_sort l = 3 * sort_nodes l.written.now

abbrev pub decreases-named_sort : goal.decreases-named_sort
decreases-named_sort l = 3 * sort_nodes_all (sort_list l.parts.now) + 1

abbrev pub decreases-argument_sorts : goal.decreases-argument_sorts
decreases-argument_sorts l = 3 * sort_nodes_all (sort_list l.written.now)

-- the sorts that are made and those that are left come to all
abbrev pub invariant-argument_sorts-loop-at : goal.invariant-argument_sorts-loop-at
invariant-argument_sorts-loop-at l = argument_sorts l.fn.scope l.fn.stated l.fn.own (sort_list l.fn.written) ≡ behind l.all (argument_sorts l.fn.scope l.fn.stated l.fn.own (sort_list (drop l.at l.fn.written)))
