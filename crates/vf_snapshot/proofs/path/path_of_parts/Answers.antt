use Rattle.std.proofs.Common.{◌≡◌, ◌+◌, ◌<◌, ◌≤◌, ◌++◌, ◌∷◌, [], length, take, arith, ◌∙◌}
use Rattle.std.specs.List.{join_with_byte}
use Rattle.vf_snapshot.proofs.Parts.{join_more, join_first}
use Rattle.vf_snapshot.proofs.path.path_of_parts.Goals as goal
use Rattle.vf_snapshot.proofs.path.path_of_parts.Goals.{then-at-gt0+in_ok-push, else-at-gt0}

pub loop-at-preserved : goal.loop-at-preserved
loop-at-preserved c =
    let within : c.loop-at.at < length c.args.parts.now = omega arith in
    let goes_on : c.if-at-gt0.text ++ c.index-parts-at.result ≡ join_with_byte 47 (take (c.loop-at.at + 1) c.args.parts.now) =
    elim c.if-at-gt0.branch [
      | then-at-gt0+in_ok-push w ↦
          let some : 0 < c.loop-at.at = omega (arith, w.if-at-gt0.true) in
          let slash : c.if-at-gt0.text ≡ c.loop-at.text ++ 47 ∷ [] = cc (w.text-is, w.in_ok-push.ensures.pushed) in
          join_more c.args.parts.now c.loop-at.at c.index-parts-at.result c.loop-at.text c.if-at-gt0.text some within c.index-parts-at.is c.loop-at.invariant slash
      | else-at-gt0 w ↦
          let none : c.loop-at.at ≤ 0 = omega (arith, w.if-at-gt0.false) in
          join_first c.args.parts.now c.loop-at.at c.index-parts-at.result c.loop-at.text c.if-at-gt0.text none within c.index-parts-at.is c.loop-at.invariant w.text-is
    ] in
    let text : c.push_bytes.new.self ≡ c.if-at-gt0.text ++ c.index-parts-at.result = cc (c.in_ok-push_bytes.ensures.pushed, c.as_bytes.ensures) in
    text ∙ goes_on
