use Rattle.std.specs.Prelude.{true}
use Rattle.vf_lexer.proofs.Sizes.{solid_fits}
use Rattle.vf_lexer.proofs.piece.inner_piece.Goals as goal

pub returns-clause-fits : goal.returns-clause-fits
returns-clause-fits c = rw c.solid_piece.ensures (solid_fits true c.args.text.now)
