use Rattle.vf_lowering.proofs.Wholes.{unit_comes}
use Rattle.vf_lowering.proofs.units.lower_unit.Goals as goal

pub returns : goal.returns
returns c = unit_comes (record { scope = c.lower_items.new.scope; cores = c.in_ok-cores.cores }) c.in_ok-scope.ensures c.in_ok-datatypes_of.ensures.tells c.in_ok-datatypes_of.ensures.is c.in_ok-cores.ensures
