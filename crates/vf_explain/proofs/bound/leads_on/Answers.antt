use Rattle.std.proofs.Common.{◌≡◌, ◌∙◌, Some, None, ◌^◌, refl, sym, ap, subst, arith, true, false}
use Rattle.std.proofs.lemmas.Int.{ints}
use Rattle.vf_arith.specs.Paths.{IsSmall}
use Rattle.vf_explain.proofs.Reaching.{least_one, over}
use Rattle.vf_explain.proofs.bound.leads_on.Goals as goal

pub returns-else-is_over : goal.returns-else-is_over
returns-else-is_over c = λ l.
    let e = least_one l.to_it c.in_ok-before.ensures.least in
    let f = least_one l.behind c.in_ok-behind.ensures.least in
    let lo = c.in_ok-before.ensures.small.low in let hi = c.in_ok-before.ensures.small.high in
    let bl = c.in_ok-behind.ensures.small.low in let bh = c.in_ok-behind.ensures.small.high in
    let m = c.requires.small.low in let n = c.requires.small.high in
    let h : false ≡ true = c.if-is_over.ensures.1 (omega (arith, ints)) in cc

pub returns-then-is_over : goal.returns-then-is_over
returns-then-is_over c =
    let lo = c.in_ok-before.ensures.small.low in let hi = c.in_ok-before.ensures.small.high in
    let bl = c.in_ok-behind.ensures.small.low in let bh = c.in_ok-behind.ensures.small.high in
    let m = c.requires.small.low in let n = c.requires.small.high in
    let h = c.if-is_over.ensures.0 refl in
    let behind = over c.args.edge c.requires.edge c.in_ok-before.ensures.least c.in_ok-behind.ensures.least (omega (arith, ints)) in
    record {
      reached = c.step_of.ensures ∙ ap Some c.in_ok-step.was;
      missing = c.step_of-2.ensures ∙ ap Some c.in-None.is;
      leads = record { step = c.in_ok-step.step; reached = c.step_of.ensures ∙ ap Some c.in_ok-step.was; missing = λ s q. (let n : Some None ≡ Some (Some s) = sym (c.step_of-2.ensures ∙ ap Some c.in-None.is) ∙ q in absurd cc); before = c.in_ok-before.before; to_it = c.in_ok-before.ensures.least; behind = behind };
      small = subst (IsSmall (2 ^ 125)) (sym (least_one behind c.in_ok-behind.ensures.least)) c.in_ok-behind.ensures.small;
    }
