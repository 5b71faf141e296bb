use Rattle.vf_refute.proofs.rows.by_below.Goals as goal

pub returns-in_err-offset : goal.returns-in_err-offset
returns-in_err-offset c = rw c.from_residual.ensures (λ d h l. c.in_err-offset.ensures h.other h.by h.offset)
