use Rattle.vf_arith.proofs.Entries.{matrix_none}
use Rattle.vf_arith.proofs.Histories.{kept_none}
use Rattle.vf_arith.proofs.bounds.Bounds.new.Goals as goal

pub invariant_of-bounds : goal.invariant_of-bounds
invariant_of-bounds c = rw c.new.ensures.items
    (kept_none c.args.size c.in_ok-without_edges.field-0.items c.new-2.result.items c.new-2.ensures.items
    (matrix_none c.args.size c.in_ok-without_edges.field-0.items c.requires.few c.in_ok-without_edges.ensures.long c.in_ok-without_edges.ensures.entries))
