use Rattle.std.proofs.Common.{rules, ◌≡◌, Bool, true, false, sym}
use Rattle.vf_datatypes.proofs.Told.{all_further, all_stop}
use Rattle.vf_datatypes.proofs.inhabited.all_told.Goals as goal

pub returns-then-not-has : goal.returns-then-not-has
returns-then-not-has c =
    let no_ : c.in-Some.has.now ≡ false = search rules in
    all_stop (λ (b : Bool). b) c.args.told.now c.loop-at.at c.in-Some.has.now _ (sym c.in-Some.ensures) no_ c.loop-at.invariant

pub loop-at-preserved : goal.loop-at-preserved
loop-at-preserved c =
    let yes_ : c.in-Some.has.now ≡ true = search rules in
    all_further (λ (b : Bool). b) c.args.told.now c.loop-at.at c.in-Some.has.now _ (sym c.in-Some.ensures) yes_ c.loop-at.invariant
