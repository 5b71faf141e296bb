use Rattle.std.proofs.Common.{◌≡◌, ◌+◌, length, Some, slice_get, get_or, sym, ap, subst, ◌∙◌, length-append}
use Rattle.std.proofs.lemmas.Option.{slice_get-get_or}
use Rattle.vf_core.specs.Shown.{program_of, text_or_empty}
use Rattle.vf_core.specs.Resolution.{IsResolved}
use Rattle.vf_core.proofs.Positions.{pushed_has}
use Rattle.vf_program.proofs.index.resolve_all.Goals as goal

pub loop-text-preserved : goal.loop-text-preserved
loop-text-preserved c =
    let u = c.args.unit.now in
    let all = c.loop-text.all in
    let new = c.resolve.result in
    let names = c.as_slice-text-items.result.now in
    let there : slice_get names c.loop-text.text-index ≡ Some (get_or names c.loop-text.text-index c.text-item.result) =
    slice_get-get_or names c.loop-text.text-index c.text-item.result c.loop-text-test.true in
    let at : slice_get u.names (length all) ≡ Some c.text-item.result = cc in
    let text : c.as_bytes.result.now ≡ text_or_empty (slice_get u.names (length all)) = c.as_bytes.ensures ∙ sym (ap text_or_empty at) in
    let here : IsResolved (program_of u) (text_or_empty (slice_get u.names (length all))) new = subst (λ g. IsResolved (program_of u) g new) text c.resolve.ensures in
    rw c.in_ok-push.ensures.pushed
    (pushed_has (λ n r. IsResolved (program_of u) (text_or_empty (slice_get u.names n)) r) all new c.loop-text.invariant.0 here, length-append _ _ ∙ ap (λ n. n + 1) c.loop-text.invariant.1)
