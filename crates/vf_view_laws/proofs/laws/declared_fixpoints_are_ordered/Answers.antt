use Rattle.vf_view_laws.proofs.Order.{declared_fixpoints_are_ordered}
use Rattle.vf_view_laws.proofs.laws.declared_fixpoints_are_ordered.Goals as goal

pub returns : goal.returns
returns c = declared_fixpoints_are_ordered
