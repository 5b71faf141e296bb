use Rattle.std.proofs.Common.{◌≡◌, ◌-◌, take, ap, arith}
use Rattle.vf_functions.specs.Erased.{count_kept, gone_back}
use Rattle.vf_erase.proofs.Counting.{back_within}
use Rattle.vf_erase.proofs.counts.gone_back.Goals as goal

pub returns : goal.returns
returns c = λ ns is h.
    let first : c.saturating_sub-first.result ≡ c.args.at - c.args.by = c.saturating_sub-first.ensures in
    let whole : c.kept_before.result ≡ count_kept (take c.args.at ns) = c.kept_before.ensures ns is h in
    let front : c.kept_before-2.result ≡ count_kept (take c.saturating_sub-first.result ns) = c.kept_before-2.ensures ns is (omega (arith, first, h)) in
    let same : count_kept (take c.saturating_sub-first.result ns) ≡ count_kept (take (c.args.at - c.args.by) ns) = ap (λ n. count_kept (take n ns)) first in
    let back : gone_back c.args.by (take c.args.at ns) ≡ count_kept (take c.args.at ns) - count_kept (take (c.args.at - c.args.by) ns) = back_within ns c.args.at c.args.by h in
    let less : c.saturating_sub.result ≡ c.kept_before.result - c.kept_before-2.result = c.saturating_sub.ensures in
    omega (arith, whole, front, same, back, less)
