use Rattle.std.proofs.Common.{sym}
use Rattle.vf_datatypes.proofs.Told.{told_at, told_not}
use Rattle.vf_datatypes.proofs.inhabited.parameter_has_value.Goals as goal

pub returns-in-Some : goal.returns-in-Some
returns-in-Some c = told_at c.args.told.now c.args.number c.in-Some.has.now (sym c.in-Some.ensures)

pub returns-in-None : goal.returns-in-None
returns-in-None c = told_not c.args.told.now c.args.number (sym c.in-None.ensures)
