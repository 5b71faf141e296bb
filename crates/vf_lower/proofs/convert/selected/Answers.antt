use Rattle.vf_lower.proofs.Parts.{did_either, did_give, did_then}
use Rattle.vf_lower.proofs.convert.selected.Goals as goal

pub returns : goal.returns
returns c =
    did_then _ _ _ _ _ _ _ c.in_ok-local.ensures (did_then _ _ _ _ _ _ _
    (did_either _ _ _ _ _ c.aside-first.new.self _ _ c.aside-second.new.self _ _ _ _ _
    c.aside-first.ensures.locals c.aside-first.ensures.nodes c.aside-first.ensures.kept c.in_ok-add.ensures
    c.aside-second.ensures.locals c.aside-second.ensures.nodes c.aside-second.ensures.kept c.in_ok-add-2.ensures
    c.in_ok-join.ensures.nodes c.in_ok-join.ensures.locals)
    (did_give _ _))
