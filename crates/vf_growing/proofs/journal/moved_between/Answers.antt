use Rattle.std.proofs.Common.{◌≡◌, ◌⊎◌, arith, inl, inr, sym, ◌∙◌, ap, below_more, slice_index}
use Rattle.vf_growing.specs.Histories.{IsMoved}
use Rattle.vf_growing.proofs.journal.moved_between.Goals as goal

pub loop-term-preserved : goal.loop-term-preserved
loop-term-preserved c =
    let e = c.in_ok-keep_if_moved.ensures in
    record {
      old = λ m k. elim (e.only m k) [
        | inl j ↦ c.loop-term.invariant.old m j
        | inr j ↦ (omega (arith, j.0), j.1 ∙ ap (slice_index c.args.before.now) (sym j.0))
      ];
      others = below_more (λ k. IsMoved c.keep_if_moved.new.moved.items k ⊎ (slice_index c.args.after.now k ≡ slice_index c.args.before.now k)) c.loop-term.term
          (λ k l. elim (c.loop-term.invariant.others k l) [
            | inl j ↦ inl (record { kept = j.kept; found = e.kept j.kept j.found; is = j.is })
            | inr j ↦ inr j
          ])
          e.looked;
    }
