use Rattle.std.proofs.Common.{arith, refl, ◌≡◌, ◌*◌, ◌<◌, length, None}
use Rattle.std.proofs.lemmas.Nat.{mul-add-lt}
use Rattle.std.specs.Prelude.{slice_index_or}
use Rattle.vf_arith.specs.declared.journal.Saved.{Saved}
use Rattle.vf_arith.proofs.Journals.{found_at, put_more, each_more}
use Rattle.vf_arith.proofs.journal.restore.Goals as goal

pub bounds-matrix-s : goal.bounds-matrix-s
bounds-matrix-s c = let h = c.requires.points _ (found_at c.args.saved.now c.loop-s.s-index (record { x = 0; y = 0; distance = None }) (omega arith)) in
    let s = slice_index_or c.args.saved.now c.loop-s.s-index (record { x = 0; y = 0; distance = None }) in
    omega (arith, mul-add-lt s.x c.args.size s.y c.args.size h.0 h.1)

pub loop-s-preserved : goal.loop-s-preserved
loop-s-preserved c =
    let d : Saved = record { x = 0; y = 0; distance = None } in
    let long : length c.loop-s.matrix ≡ c.args.size * c.args.size = omega arith in
    let within : c.loop-s.s-index < length c.args.saved.now = omega arith in
    record {
      put = put_more c.args.size c.loop-s.matrix c.args.matrix.now c.args.saved.now c.loop-s.s-index d (λ (s : Saved). s.distance) (slice_index_or c.args.saved.now c.loop-s.s-index d).distance long within c.requires.points c.requires.one refl c.loop-s.invariant.put c.loop-s.invariant.each;
      each = each_more c.args.size c.loop-s.matrix c.args.matrix.now c.args.saved.now c.loop-s.s-index d (λ (s : Saved). s.distance) (slice_index_or c.args.saved.now c.loop-s.s-index d).distance long within c.requires.points c.requires.one refl c.loop-s.invariant.put c.loop-s.invariant.each;
    }
