use Rattle.vf_refute.proofs.Offsets.{offset_of_number}
use Rattle.vf_refute.proofs.rows.offset_at.Goals as goal

pub returns-in-None : goal.returns-in-None
returns-in-None c = offset_of_number c.args.nodes.now c.args.a c.args.zero c.number_over.result c.in-None.ensures c.number_over.ensures
