use Rattle.std.proofs.Common.{◌≡◌, drop}
use Rattle.vf_unfold.specs.Rows.{row_for}
use Rattle.vf_unfold.proofs.listed.row_for.Given as goal

abbrev pub invariant-loop-row : goal.invariant-loop-row
invariant-loop-row l = row_for (drop l.row-index l.rows) l.term ≡ row_for l.rows l.term
