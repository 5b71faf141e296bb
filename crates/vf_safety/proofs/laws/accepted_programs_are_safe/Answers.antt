use Rattle.vf_safety.proofs.Programs.{accepted_programs_are_safe}
use Rattle.vf_safety.proofs.laws.accepted_programs_are_safe.Goals as goal

pub returns : goal.returns
returns c = accepted_programs_are_safe
