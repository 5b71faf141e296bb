use Rattle.std.proofs.Common.{◌≡◌, ap}
use Rattle.vf_steps.specs.Shown.{value_of}
use Rattle.vf_lower.specs.Settings.{kind}
use Rattle.vf_lower.specs.Shown.{setting_of}
use Rattle.vf_lower.proofs.Parts.{does_then}
use Rattle.vf_local_numbers.proofs.put.outcome_as.Goals as goal

pub returns : goal.returns
returns c =
    let k : c.find_kind-kind.result.ctype ≡ (kind (setting_of c.args.setting.now) c.args.expr.now).ctype = ap (λ x. x.ctype) c.find_kind-kind.ensures in
    does_then value_of _ _ _ _ _ _ _ (rw (k, c.place_of-place.ensures) at c.in_ok-value.ensures) (rw (c.find_kind-kind.ensures, c.place_of-place.ensures) at c.adapted.ensures)
