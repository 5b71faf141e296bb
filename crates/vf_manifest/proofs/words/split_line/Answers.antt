use Rattle.std.proofs.Common.{sym, arith}
use Rattle.vf_manifest.proofs.Cutting.{cut_first, cut_nowhere, parts_at}
use Rattle.vf_manifest.proofs.words.split_line.Goals as goal

pub returns-in-Some : goal.returns-in-Some
returns-in-Some c =
    let text = c.args.text.now in
    let at = c.in-Some.at in
    let first = c.in-Some.ensures in
    parts_at 10 text at (cut_first 10 text at first.0.high (λ k l. first.0.before k (omega arith) l) first.1)

pub returns-in-None : goal.returns-in-None
returns-in-None c = sym (cut_nowhere 10 c.args.text.now (λ k l. c.in-None.ensures k (omega arith) l))
