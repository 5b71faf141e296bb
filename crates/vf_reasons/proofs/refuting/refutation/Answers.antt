use Rattle.std.proofs.Common.{map}
use Rattle.vf_formula.specs.Literals.{shown_literal}
use Rattle.vf_reasons.proofs.Finding.{refuted_by}
use Rattle.vf_reasons.proofs.refuting.refutation.Goals as goal

pub returns : goal.returns
returns g c =
    let u = g.U.Unfolder.unfoldings c.args.unfolder.now in
    let e = c.in_ok-last.ensures in
    refuted_by u (map shown_literal c.args.literals.now) e.1 e.0 c.write_refutation.new.draft c.in_ok-last.last c.push.new.self.items e.2 e.3 c.in_ok-push.ensures.items
