use Rattle.vf_header_laws.proofs.expanded.Expanded.{expanded_headers_consist_of_headers}
use Rattle.vf_header_laws.proofs.expanded.expanded_headers_consist_of_headers.Goals as goal

pub returns : goal.returns
returns c = expanded_headers_consist_of_headers
