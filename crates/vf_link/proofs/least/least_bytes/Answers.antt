use Rattle.std.proofs.Common.{◌<◌, length, ap, ◌∙◌, arith}
use Rattle.std.specs.Option.{option_copied}
use Rattle.vf_link.specs.Statements.{shown}
use Rattle.vf_link.proofs.Marking.{least_next, least_in_front}
use Rattle.vf_link.proofs.least.least_bytes.Goals as goal

pub loop-at-preserved : goal.loop-at-preserved
loop-at-preserved c =
    let topic = c.args.topic in
    let subjects = c.args.subjects.now in
    let below = c.loop-at-test.true in
    let few = c.requires in
    let within : c.loop-at.at < length subjects = omega arith in
    least_next topic subjects c.args.marks.now c.loop-at.at within (option_copied c.loop-at.least) (option_copied c.lesser_if-least.result) c.shown.result.now
    (c.shown.ensures ∙ ap (shown topic) c.get.ensures) c.lesser_if-least.ensures c.loop-at.invariant

pub returns : goal.returns
returns c = least_in_front c.args.topic c.args.subjects.now c.args.marks.now c.loop-at.at c.loop-at-test.false (option_copied c.loop-at.least) c.loop-at.invariant
