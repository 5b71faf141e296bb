use Rattle.std.proofs.Common.{◌≡◌, ◌-◌, length, take, drop, arith, length-drop}
use Rattle.std.proofs.lemmas.List.{take_all}
use Rattle.vf_lexer.proofs.Sizes.{opening_fits}
use Rattle.vf_lexer.proofs.piece.outer_piece.Goals as goal

pub returns-then-starts_with-2-clause-fits : goal.returns-then-starts_with-2-clause-fits
returns-then-starts_with-2-clause-fits c =
    let text = c.args.text.now in
    let rest : take (length text - 3) (drop 3 text) ≡ drop 3 text = take_all (length text - 3) (drop 3 text) (omega (arith, length-drop 3 text)) in
    rw (c.block_opening.ensures, rest) (opening_fits text (omega arith))
