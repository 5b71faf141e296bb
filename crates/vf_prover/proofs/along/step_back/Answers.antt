use Rattle.std.proofs.Common.{rules, ◌≡◌, ◌<◌, ◌-◌, length, take, ap, ◌∙◌, arith}
use Rattle.std.proofs.lemmas.List.{take-take, length-take-le}
use Rattle.vf_prover.proofs.Stepping.{goes_back, popped_last, one_level_less}
use Rattle.vf_prover.proofs.along.step_back.Goals as goal

pub back-preserved : goal.back-preserved
back-preserved c =
    let old = c.back.nodes.items in
    let now = c.pop.new.self.items in
    let more : c.args.keep < length old = search rules in
    let rest : now ≡ take (length old - 1) old = search rules in
    let r = popped_last old now (omega (arith, more)) rest in
    let long : length now ≡ length old - 1 = ap length rest ∙ length-take-le (length old - 1) old (omega arith) in
    record {
      long = one_level_less c.back.path c.pop-in-back.new.self (length now) c.pop-in-back.ensures (omega (arith, long, more, c.back.invariant.long));
      few = omega (arith, long, more);
      nodes = ap (take c.args.keep) rest ∙ take-take c.args.keep (length old - 1) old (omega (arith, more)) ∙ c.back.invariant.nodes;
      along = λ u facts h. goes_back u facts old now r.last c.back.path c.pop-in-back.new.self r.is c.pop-in-back.ensures (c.back.invariant.along u facts h);
    }
