use Rattle.std.proofs.Common.{◌≡◌, ◌*◌, ◌++◌, drop}
use Rattle.vf_syntax.specs.SortTree.{sort_list, sort_nodes, sort_nodes_all}
use Rattle.vf_gathering.specs.Told.{told_all}
use Rattle.vf_gathering.proofs.telling.+told.Given as goal

abbrev pub decreases-told : goal.decreases-told
decreases-told l = 2 * sort_nodes l.written.now

abbrev pub decreases-told_all : goal.decreases-told_all
decreases-told_all l = 2 * sort_nodes_all (sort_list l.written.now)

-- the sorts that are told and those that are left come to all
abbrev pub invariant-told_all-loop-at : goal.invariant-told_all-loop-at
invariant-told_all-loop-at l = told_all l.fn.ahead (sort_list l.fn.written) ≡ l.all ++ told_all l.fn.ahead (sort_list (drop l.at l.fn.written))
