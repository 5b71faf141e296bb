use Rattle.vf_header_laws.proofs.c_names.Units.{headers_mean_the_same}
use Rattle.vf_header_laws.proofs.c_names.headers_mean_the_same.Goals as goal

pub returns : goal.returns
returns c = headers_mean_the_same
