use Rattle.std.proofs.Common.{Some, option_map, ap}
use Rattle.vf_preproc.specs.Scopes.{header_of}
use Rattle.vf_preproc.proofs.Ending.{map-written}
use Rattle.vf_preproc.specs.Units.{unit_of}
use Rattle.vf_preproc.proofs.unit.Unit.complete.Goals as goal

pub returns-clause-completed : goal.returns-clause-completed
returns-clause-completed c = ap (λ cs. record (unit_of c.args.self.now) { complete = cs }) (map-written (option_map header_of) c.args.self.now.complete.items c.args.index (Some c.args.header))
