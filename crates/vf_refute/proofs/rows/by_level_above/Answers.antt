use Rattle.vf_refute.proofs.rows.by_level_above.Goals as goal

pub returns-in_err-level : goal.returns-in_err-level
returns-in_err-level c = rw c.from_residual.ensures (λ d h l. c.in_err-level.ensures h.x h.y h.by h.level)
