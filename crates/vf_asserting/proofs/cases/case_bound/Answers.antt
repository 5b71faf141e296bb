use Rattle.std.proofs.Common.{rules, ◌≡◌, None, length}
use Rattle.vf_asserting.proofs.Steps.{case_nameless}
use Rattle.vf_asserting.proofs.cases.case_bound.Goals as goal

pub returns-in_default : goal.returns-in_default
returns-in_default c =
    let n : c.args.names.now ≡ None = search rules in
    let l : length c.args.sorts.now ≡ 0 = search rules in
    case_nameless n l c.no_names-bound.ensures
