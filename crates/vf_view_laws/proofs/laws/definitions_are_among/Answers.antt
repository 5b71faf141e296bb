use Rattle.vf_view_laws.proofs.Order.{definitions_are_among}
use Rattle.vf_view_laws.proofs.laws.definitions_are_among.Goals as goal

pub returns : goal.returns
returns c = definitions_are_among
