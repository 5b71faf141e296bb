use Rattle.std.proofs.Common.{take, arith, sym, ap, ◌∙◌}
use Rattle.vf_preproc.proofs.Targeting.{folder-take-slash, folder-take-other}
use Rattle.vf_preproc.proofs.include_target.folder_of.Goals as goal
use Rattle.vf_preproc.proofs.include_target.folder_of.Goals.{then-byte-eq47, else-byte-eq47}

pub loop-at-preserved : goal.loop-at-preserved
loop-at-preserved c = elim c.if-byte-eq47.branch [
  | then-byte-eq47 w ↦ record {
    folder = folder-take-slash c.args.path.now c.loop-at.at 0 (omega arith) w.if-byte-eq47.true ∙ ap (λ n. take n c.args.path.now) (sym w.size-is);
    within = omega (arith, w.size-is);
  }
  | else-byte-eq47 w ↦ record {
    folder = folder-take-other c.args.path.now c.loop-at.at 0 (omega arith) w.if-byte-eq47.false ∙ c.loop-at.invariant.folder ∙ ap (λ n. take n c.args.path.now) (sym w.size-is);
    within = omega (arith, w.size-is);
  }
]
