use Rattle.std.proofs.Common.{rules}
use Rattle.vf_lowering.proofs.Wholes.{erasure_memory, erasure_stops}
use Rattle.vf_lowering.proofs.units.plain_of.Goals as goal

pub returns-in_err-cores-clause-erased : goal.returns-in_err-cores-clause-erased
returns-in_err-cores-clause-erased c = erasure_stops c.in_err-cores.field-0.0 c.in_ok-scope.ensures c.in_err-cores.ensures (search rules)

pub returns-in_err-plains-clause-erased : goal.returns-in_err-plains-clause-erased
returns-in_err-plains-clause-erased c = erasure_memory (search rules)
