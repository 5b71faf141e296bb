use Rattle.std.proofs.Common.{◌≡◌, drop}
use Rattle.vf_syntax.specs.ExprTree.{link_list}
use Rattle.vf_first.specs.FirstForm.{links_of}
use Rattle.vf_first.proofs.Loops.{with_links}
use Rattle.vf_first.proofs.sums.links_of.Given as goal

-- the links that were read and those that are left are all
abbrev pub invariant-loop-at : goal.invariant-loop-at
invariant-loop-at l = with_links l.links (links_of l.fn.names (link_list (drop l.at l.fn.all))) ≡ links_of l.fn.names (link_list l.fn.all)
