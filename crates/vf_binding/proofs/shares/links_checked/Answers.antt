use Rattle.std.proofs.Common.{rules, ◌≡◌, ◌≤◌, length, Err, sym}
use Rattle.vf_binding.proofs.Steps.{links_end, links_halt, links_next}
use Rattle.vf_binding.proofs.shares.links_checked.Goals as goal

pub loop-at-init : goal.loop-at-init
loop-at-init c = λ r k a. a

pub loop-at-preserved : goal.loop-at-preserved
loop-at-preserved c = λ r k a. c.loop-at.invariant r k (links_next c.args.links.now c.loop-at.at (sym c.in-Some.ensures) c.in_ok-factor_checked.ensures a)

pub returns-in_err-factor_checked : goal.returns-in_err-factor_checked
returns-in_err-factor_checked c =
    let e : c.from_residual.result ≡ Err c.in_err-factor_checked.field-0.0 = search rules in
    c.loop-at.invariant _ _ (links_halt c.args.links.now c.loop-at.at _ (sym c.in-Some.ensures) c.in_err-factor_checked.ensures e)

pub returns : goal.returns
returns c =
    let m : length c.args.links.now ≤ c.loop-at.at = search rules in
    c.loop-at.invariant _ _ (links_end c.args.links.now c.loop-at.at m)
