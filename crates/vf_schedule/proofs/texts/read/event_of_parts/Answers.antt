use Rattle.std.proofs.Common.{arith}
use Rattle.vf_schedule.proofs.texts.Texts.{not_two}
use Rattle.vf_schedule.proofs.texts.read.event_of_parts.Goals as goal

pub returns-in_default : goal.returns-in_default
returns-in_default c = not_two c.args.parts.now (λ h. omega (arith, h))

pub returns-in_default-2 : goal.returns-in_default-2
returns-in_default-2 c = not_two c.args.parts.now (λ h. omega (arith, h))
