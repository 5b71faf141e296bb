-- Items that pass, and items that names or a later phase refuses.
use Rattle.std.proofs.Common.{rules, ◌≡◌, Err}
use Rattle.vf_module.proofs.Passing.{by_later, by_names, passes}
use Rattle.vf_module.proofs.items.read_items.Goals as goal

pub returns-in_err-lowered : goal.returns-in_err-lowered
returns-in_err-lowered c =
    let e : c.from_residual-in_err-lowered.result ≡ Err c.in_err-lowered.field-0.0 = search rules in
    by_names {first = c.lower_unit.result} c.in_err-lowered.field-0.0 c.in_ok-files.ensures c.lower_unit.ensures c.in_err-lowered.was e

pub returns-in_err-check_later : goal.returns-in_err-check_later
returns-in_err-check_later c =
    let e : c.from_residual-in_err-check_later.result ≡ Err c.in_err-check_later.field-0.0 = search rules in
    by_later {first = c.lower_unit.result} {u = c.in_ok-lowered.lowered} c.in_err-check_later.field-0.0 c.in_ok-files.ensures c.lower_unit.ensures c.in_ok-lowered.was c.in_err-check_later.ensures e

pub returns : goal.returns
returns c =
    passes {first = c.lower_unit.result} {u = c.in_ok-lowered.lowered} {r = c.in_ok-read.read} c.in_ok-files.ensures c.lower_unit.ensures c.in_ok-lowered.was c.in_ok-check_later.ensures.0 c.in_ok-check_later.ensures.1 c.in_ok-read.ensures.plain c.in_ok-read.ensures.manifest
