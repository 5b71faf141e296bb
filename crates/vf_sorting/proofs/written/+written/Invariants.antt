use Rattle.std.proofs.Common.{◌≡◌, ◌+◌, ◌*◌, drop}
use Rattle.vf_syntax.specs.SortTree.{sort_list, sort_nodes, sort_nodes_all}
use Rattle.vf_sorting.specs.Spelling.{written_sorts}
use Rattle.vf_sorting.proofs.Spelled.{behind}
use Rattle.vf_sorting.proofs.written.+written.Given as goal

abbrev pub decreases-written_sort : goal.decreases-written_sort
decreases-written_sort l = 3 * sort_nodes l.written.now

abbrev pub decreases-named_sort : goal.decreases-named_sort
decreases-named_sort l = 3 * sort_nodes_all (sort_list l.arguments.now) + 1

abbrev pub decreases-written_sorts : goal.decreases-written_sorts
decreases-written_sorts l = 3 * sort_nodes_all (sort_list l.written.now)

-- the sorts that are made and those that are left come to all
abbrev pub invariant-written_sorts-loop-at : goal.invariant-written_sorts-loop-at
invariant-written_sorts-loop-at l = written_sorts l.fn.scope l.fn.parameters (sort_list l.fn.written) ≡ behind l.all (written_sorts l.fn.scope l.fn.parameters (sort_list (drop l.at l.fn.written)))
