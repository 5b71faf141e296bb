use Rattle.vf_view_laws.proofs.Order.{definitions_stand_where_linked}
use Rattle.vf_view_laws.proofs.laws.definitions_stand_where_linked.Goals as goal

pub returns : goal.returns
returns c = definitions_stand_where_linked
