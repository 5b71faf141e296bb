use Rattle.std.proofs.Common.{[], ◌∷◌, take, drop, reverse, ap, ◌∙◌}
use Rattle.std.specs.Prelude.{not, ◌&&◌}
use Rattle.vf_manifest.specs.Signatures.{is_empty, can_begin, are_sorts}
use Rattle.vf_manifest.specs.declared.signature.Stage.TheVariants.{BeginsOrEnds}
use Rattle.vf_manifest.proofs.SortLaws.{sorts_end, sorts_on, sorts_stop}
use Rattle.vf_manifest.proofs.signature.are_sorts.Goals as goal

pub returns-in_default : goal.returns-in_default
returns-in_default c =
    c.ends_here-ends.ensures
    ∙ ap (λ xs. not (can_begin c.sorts.stage) && is_empty c.split_at.result.0.now && is_empty (reverse xs)) c.as_slice.ensures.value
    ∙ sorts_end c.args.parameters.now c.sorts.stage (reverse c.sorts.closers.items) c.sorts.left.now c.split_at.result.0.now c.split_at.result.1.now
    (are_sorts c.args.parameters.now BeginsOrEnds [] (41 ∷ []) c.args.text.now)
    (c.split_at.ensures.front ∙ ap (λ n. take n c.sorts.left.now) c.word_len.ensures.same) (c.split_at.ensures.back ∙ ap (λ n. drop n c.sorts.left.now) c.word_len.ensures.same)
    c.in_default.ensures.none c.sorts.invariant

pub returns-in_default-2 : goal.returns-in_default-2
returns-in_default-2 c =
    let n = rw c.in_default-2.is at c.in_ok-after.ensures in
    sorts_stop c.args.parameters.now c.sorts.stage (reverse c.sorts.closers.items) c.sorts.left.now c.split_at.result.0.now c.split_at.result.1.now c.in-Some.byte c.in-Some.rest.now
    (are_sorts c.args.parameters.now BeginsOrEnds [] (41 ∷ []) c.args.text.now)
    (c.split_at.ensures.front ∙ ap (λ n. take n c.sorts.left.now) c.word_len.ensures.same) (c.split_at.ensures.back ∙ ap (λ n. drop n c.sorts.left.now) c.word_len.ensures.same)
    c.in-Some.ensures.found n c.sorts.invariant

pub sorts-preserved : goal.sorts-preserved
sorts-preserved c =
    let n = rw c.in-Some-2.is at c.in_ok-after.ensures in
    sorts_on c.args.parameters.now c.sorts.stage c.in-Some-2.after (reverse c.sorts.closers.items) (reverse c.next.new.closers.items) c.sorts.left.now c.split_at.result.0.now c.split_at.result.1.now c.in-Some.byte
    c.in-Some.rest.now (are_sorts c.args.parameters.now BeginsOrEnds [] (41 ∷ []) c.args.text.now)
    (c.split_at.ensures.front ∙ ap (λ n. take n c.sorts.left.now) c.word_len.ensures.same) (c.split_at.ensures.back ∙ ap (λ n. drop n c.sorts.left.now) c.word_len.ensures.same)
    c.in-Some.ensures.found n c.sorts.invariant
