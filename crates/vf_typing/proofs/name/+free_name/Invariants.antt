use Rattle.vf_syntax.specs.ExprTree.{expr_nodes}
use Rattle.vf_typing.proofs.name.+free_name.Given as goal

abbrev pub decreases-free_name : goal.decreases-free_name
decreases-free_name l = expr_nodes l.expr.now
