use Rattle.vf_header_laws.proofs.included.Units.{includes_are_closed}
use Rattle.vf_header_laws.proofs.included.includes_are_closed.Goals as goal

pub returns : goal.returns
returns c = includes_are_closed
