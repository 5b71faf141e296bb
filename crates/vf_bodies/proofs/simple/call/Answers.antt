use Rattle.std.proofs.Common.{◌≡◌, ap}
use Rattle.vf_lower.specs.Settings.{kind}
use Rattle.vf_lower.specs.Shown.{setting_of}
use Rattle.vf_lower.proofs.Parts.{does_then}
use Rattle.vf_bodies.proofs.simple.call.Goals as goal

pub returns : goal.returns
returns c =
    let k : c.find_kind.result.ctype ≡ (kind (setting_of c.args.setting.now) c.args.expr.now).ctype = ap (λ x. x.ctype) c.find_kind.ensures in
    does_then (λ u. tt) _ _ _ _ _ _ _ c.in_ok-outcome.ensures (rw k at c.unused.ensures)
