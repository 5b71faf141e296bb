use Rattle.std.proofs.Common.{◌≡◌, ◌-◌, subst, arith, rules}
use Rattle.std.proofs.Math.ListN.{get_or}
use Rattle.vf_formula.proofs.Parts.{kept_next}
use Rattle.vf_formula.specs.Shares.{KeepsTimes}
use Rattle.vf_formula.proofs.share.shared.Goals as goal

pub returns-in_err-multiply-clause-fraction : goal.returns-in_err-multiply-clause-fraction
returns-in_err-multiply-clause-fraction c = λ e k.
    let i = c.loop-i.i - 1 in
    let u = c.index-as_slice-i.result in
    let d : u ≡ get_or c.args.items.now i u = subst (λ us. u ≡ get_or us i u) c.as_slice.ensures c.index-as_slice-i.is in
    let n : KeepsTimes c.loop-i.product.coefficient u = kept_next c.args.fraction c.args.items.now i c.loop-i.i u c.loop-i.product.coefficient (omega arith) (omega arith) d c.loop-i.invariant.coefficient k in
    c.in_err-multiply.ensures.fraction (search rules) n
