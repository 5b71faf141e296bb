use Rattle.std.proofs.Common.{◌≡◌, ◌+◌, ◌-◌, ◌≤◌, ◌<◌, suc, length, drop, take, ap, ◌∙◌, arith}
use Rattle.vf_functions.specs.Erased.{count_kept, skipped}
use Rattle.vf_erase.proofs.Counting.{counts_length, skipped_to_end, skipped_within}
use Rattle.vf_erase.proofs.counts.skipped.Goals as goal
use Rattle.vf_erase.proofs.counts.skipped.Goals.{then-by-saturating_sub, else-by-saturating_sub}

pub returns : goal.returns
returns c = λ ns is h.
    let all : c.len.result ≡ suc (length ns) = c.len.ensures ∙ ap length is ∙ counts_length 0 ns in
    let count : c.saturating_sub-length.result ≡ c.len.result - 1 = c.saturating_sub-length.ensures in
    let behind : c.saturating_sub.result ≡ c.saturating_sub-length.result - c.args.first = c.saturating_sub.ensures in
    let front : c.kept_before-2.result ≡ count_kept (take c.args.first ns) = c.kept_before-2.ensures ns is h in
    let less : c.saturating_sub-2.result ≡ c.kept_before.result - c.kept_before-2.result = c.saturating_sub-2.ensures in
    elim c.if-by-saturating_sub.branch [
      | then-by-saturating_sub w ↦
          let end : c.if-by-saturating_sub.end ≡ c.args.first + c.args.by = w.end-is in
          let within : c.args.by < c.saturating_sub.result = w.if-by-saturating_sub.true in
          let upto : c.kept_before.result ≡ count_kept (take c.if-by-saturating_sub.end ns) = c.kept_before.ensures ns is (omega (arith, end, within, all, count, behind, h)) in
          let same : count_kept (take c.if-by-saturating_sub.end ns) ≡ count_kept (take (c.args.first + c.args.by) ns) = ap (λ n. count_kept (take n ns)) end in
          let so : skipped c.args.by (drop c.args.first ns) ≡ count_kept (take (c.args.first + c.args.by) ns) - count_kept (take c.args.first ns) = skipped_within ns c.args.first c.args.by in
          omega (arith, front, less, upto, same, so)
      | else-by-saturating_sub w ↦
          let end : c.if-by-saturating_sub.end ≡ c.saturating_sub-length.result = w.end-is in
          let past : c.saturating_sub.result ≤ c.args.by = w.if-by-saturating_sub.false in
          let last : c.if-by-saturating_sub.end ≡ length ns = omega (arith, end, all, count) in
          let upto : c.kept_before.result ≡ count_kept (take c.if-by-saturating_sub.end ns) = c.kept_before.ensures ns is (omega (arith, last)) in
          let same : count_kept (take c.if-by-saturating_sub.end ns) ≡ count_kept (take (length ns) ns) = ap (λ n. count_kept (take n ns)) last in
          let so : skipped c.args.by (drop c.args.first ns) ≡ count_kept (take (length ns) ns) - count_kept (take c.args.first ns) = skipped_to_end ns c.args.first c.args.by h (omega (arith, past, behind, count, all, h)) in
          omega (arith, front, less, upto, same, so)
    ]
