use Rattle.std.proofs.Common.{rules, ◌≡◌, true, false, sym}
use Rattle.vf_predicates.proofs.SameSorts.{not_same, same_next}
use Rattle.vf_predicates.proofs.alike.+alike.Goals as goal

pub are_same-returns-then-not-is_alike : goal.are_same-returns-then-not-is_alike
are_same-returns-then-not-is_alike t c =
    let f : c.is_alike.result ≡ false = search rules in
    not_same c.args.first.now c.args.second.now c.loop-at.at _ _ c.is_alike.result (sym c.in-Some.ensures) (sym c.in-Some-get.ensures) c.is_alike.ensures f

pub are_same-loop-at-preserved : goal.are_same-loop-at-preserved
are_same-loop-at-preserved t c =
    let u : c.is_alike.result ≡ true = search rules in
    same_next c.args.first.now c.args.second.now c.loop-at.at _ _ c.is_alike.result (sym c.in-Some.ensures) (sym c.in-Some-get.ensures) c.is_alike.ensures u c.loop-at.invariant
