use Rattle.std.proofs.Common.{◌≢◌, length, arith, sym}
use Rattle.vf_preproc.proofs.Lines.{other_length}
use Rattle.vf_preproc.proofs.words.is_alike.Goals as goal

pub returns-then-first-second : goal.returns-then-first-second
returns-then-first-second c =
    let apart : length c.args.first.now ≢ length c.args.second.now = omega arith in
    sym (other_length c.args.first.now c.args.second.now apart)
