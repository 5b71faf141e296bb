use Rattle.vf_lower.proofs.Parts.{did_then}
use Rattle.vf_bodies.proofs.Parts.{did_inner, left_behind}
use Rattle.vf_bodies.proofs.body.lower_body.Goals as goal

pub returns-clause-kept : goal.returns-clause-kept
returns-clause-kept c = left_behind _ _ _ _ _ c.in_ok-lower_block.ensures

pub returns-clause-done : goal.returns-clause-done
returns-clause-done c = did_then _ _ _ _ _ _ _ (did_inner _ _ _ _ _ c.in_ok-lower_block.ensures) c.in_ok-lower_end.ensures
