use Rattle.vf_header_laws.proofs.included.Units.{headers_are_closed}
use Rattle.vf_header_laws.proofs.included.headers_are_closed.Goals as goal

pub returns : goal.returns
returns c = headers_are_closed
