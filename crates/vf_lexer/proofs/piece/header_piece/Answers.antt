use Rattle.std.specs.Prelude.{true}
use Rattle.vf_lexer.proofs.Sizes.{plain_piece_fits}
use Rattle.vf_lexer.proofs.piece.header_piece.Goals as goal

pub returns-else-begins_with_mark-clause-fits : goal.returns-else-begins_with_mark-clause-fits
returns-else-begins_with_mark-clause-fits c = rw c.plain_piece.ensures (plain_piece_fits true c.args.text.now)
