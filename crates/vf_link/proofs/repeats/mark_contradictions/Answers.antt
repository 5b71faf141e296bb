use Rattle.std.proofs.Common.{◌<◌, [], ◌∷◌, ◌++◌, get_or, length, sym, ap, subst, ◌∙◌}
use Rattle.std.specs.Str.{bytes_eq}
use Rattle.std.proofs.lemmas.Slice.Eq.{bytes_eq-Decides}
use Rattle.vf_link.proofs.Marking.{first_within, contradictions_more}
use Rattle.vf_link.proofs.repeats.mark_contradictions.Goals as goal

pub get-requires : goal.get-requires
get-requires c =
    let within : c.loop-at.at < length c.args.subjects.now = subst (λ n. c.loop-at.at < n) c.len-at-end.ensures c.loop-at-test.true in
    subst (λ n. get_or c.args.firsts.now c.loop-at.at 0 < n) (sym c.requires.pairs) (first_within c.args.subjects.now c.args.firsts.now c.loop-at.at c.requires.firsts within)

pub loop-at-preserved : goal.loop-at-preserved
loop-at-preserved c =
    let one = c.get.result.now in
    let other = c.get-in-loop-at.result.now in
    let within : c.loop-at.at < length c.args.subjects.now = subst (λ n. c.loop-at.at < n) c.len-at-end.ensures c.loop-at-test.true in
    contradictions_more c.args.subjects.now c.args.contents.now c.args.firsts.now c.loop-at.marks.items c.push.new.self.items c.loop-at.at one other (bytes_eq one other)
    c.requires.firsts c.requires.pairs within c.get.ensures c.get-in-loop-at.ensures (bytes_eq-Decides one other).0 (bytes_eq-Decides one other).1 c.loop-at.invariant
    (c.in_ok-push.ensures.items ∙ ap (λ b. c.loop-at.marks.items ++ b ∷ []) c.ne.ensures)
