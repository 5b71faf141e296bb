use Rattle.vf_closure.proofs.Refuted.{not_by_symbols}
use Rattle.vf_closure.proofs.examples.does_not_refute_symbols.Goals as goal

pub returns : goal.returns
returns c = not_by_symbols
