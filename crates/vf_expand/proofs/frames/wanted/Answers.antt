use Rattle.std.proofs.Common.{◌≤◌, length, arith}
use Rattle.vf_preproc.proofs.Grouping.{first_and_rest}
use Rattle.vf_preproc.specs.LineSteps.{file_of}
use Rattle.vf_expand.proofs.Following.{wanted_given}
use Rattle.vf_expand.proofs.frames.wanted.Goals as goal

pub returns : goal.returns
returns c =
    let some : 1 ≤ length c.args.tokens.now = omega arith in
    wanted_given (file_of c.args.file) c.args.tokens.now c.args.is_ghost c.index-tokens-0.result c.in_ok-path.path (first_and_rest c.args.tokens.now c.index-tokens-0.result some c.index-tokens-0.is) c.in_ok-path.ensures
