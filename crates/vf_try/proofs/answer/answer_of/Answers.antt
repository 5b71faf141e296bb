-- The text for files of which one is refused, and for files of which none is.
use Rattle.vf_try.proofs.Answering.{prints_refused, prints_units}
use Rattle.vf_try.proofs.answer.answer_of.Goals as goal

pub returns-then-units : goal.returns-then-units
returns-then-units c =
    prints_refused c.args.purpose _ _ _ c.args.schedule.now _ _ _ c.as_slice.ensures.value c.in_ok-units.ensures.refused c.if-units.true c.new-text.ensures c.in_ok-push_files.ensures

pub returns : goal.returns
returns c =
    prints_units c.args.purpose _ _ _ c.args.schedule.now _ _ _ c.in_ok-status.status _ _ _ c.as_slice.ensures.value c.in_ok-units.ensures.refused c.if-units.false
    c.in_ok-units.ensures.manifests c.in_ok-units.ensures.plains c.new-text.ensures c.in_ok-push_files.ensures c.in_ok-status.ensures
