use Rattle.std.proofs.Common.{◌≡◌, ◌≤◌, ◌<◌, length, arith, ap, ◌∙◌}
use Rattle.vf_snapshot.specs.declared.held.Held.TheVariants as known
use Rattle.vf_snapshot.proofs.Knowing.{too_long, whole}
use Rattle.vf_snapshot.proofs.snapshot.held_bytes.Goals as goal

pub returns-then-bytes-gt-MOST_BYTES-clause-known :
    goal.returns-then-bytes-gt-MOST_BYTES-clause-known
returns-then-bytes-gt-MOST_BYTES-clause-known c = λ all is. too_long c.args.bytes.now all c.if-bytes-gt-MOST_BYTES.true is

pub returns-clause-known : goal.returns-clause-known
returns-clause-known c = λ all is.
    let few : length c.args.bytes.now ≤ 1048576 = omega arith in
    ap known.Bytes c.in_ok-text.ensures ∙ whole c.args.bytes.now all few is
