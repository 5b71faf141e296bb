use Rattle.std.proofs.Common.{◌≡◌, ◌+◌, ◌++◌, drop, Some, slice_get, sym, ap, ◌∙◌}
use Rattle.vf_defining.specs.Symbols.{symbols_from}
use Rattle.vf_defining.proofs.Lists.{symbol_more}
use Rattle.vf_defining.proofs.symbols.symbols.Goals as goal

pub loop-at-preserved : goal.loop-at-preserved
loop-at-preserved c =
    let k = c.args.unknowns.now in
    let ls = c.args.locals.now in
    let i = c.loop-at.at in
    let there : slice_get ls i ≡ Some c.in-Some.local.now = sym c.in-Some.ensures in
    ap (λ ts. ts ++ symbols_from k (i + 1) (drop (i + 1) ls)) c.in_ok-push.ensures.items
    ∙ symbol_more k c.loop-at.all.items ls i c.in-Some.local.now c.in_ok-symbol_of.field-0 _ there c.in_ok-symbol_of.ensures c.loop-at.invariant
