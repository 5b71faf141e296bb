use Rattle.vf_header_laws.proofs.included.Units.{files_have_their_own_numbers}
use Rattle.vf_header_laws.proofs.included.files_have_their_own_numbers.Goals as goal

pub returns : goal.returns
returns c = files_have_their_own_numbers
