use Rattle.std.proofs.Common.{rules, ◌≡◌, ◌≤◌, length, Err, refl, sym}
use Rattle.vf_commands.proofs.Wholes.{body_refused, case_gives, cases_end, cases_halt, cases_next, commands_end, commands_halt, commands_next, names_refused}
use Rattle.vf_commands.proofs.commands.+command.Goals as goal

pub cases_given-loop-at-init : goal.cases_given-loop-at-init
cases_given-loop-at-init t c = λ r s k a. a

pub cases_given-loop-at-preserved : goal.cases_given-loop-at-preserved
cases_given-loop-at-preserved t c = λ r s k a. c.loop-at.invariant r s k (cases_next c.args.cases.now c.loop-at.at (sym c.in-Some.ensures) c.in_ok-case_given.ensures a)

pub cases_given-returns-in_err-case_given : goal.cases_given-returns-in_err-case_given
cases_given-returns-in_err-case_given t c =
    let e : c.from_residual.result ≡ Err c.in_err-case_given.field-0.0 = search rules in
    c.loop-at.invariant _ _ _ (cases_halt c.args.cases.now c.loop-at.at _ (sym c.in-Some.ensures) c.in_err-case_given.ensures e)

pub cases_given-returns : goal.cases_given-returns
cases_given-returns t c =
    let m : length c.args.cases.now ≤ c.loop-at.at = search rules in
    c.loop-at.invariant _ _ _ (cases_end c.args.cases.now c.loop-at.at m)

pub all_given-loop-at-init : goal.all_given-loop-at-init
all_given-loop-at-init t c = λ r s k a. a

pub all_given-loop-at-preserved : goal.all_given-loop-at-preserved
all_given-loop-at-preserved t c = λ r s k a. c.loop-at.invariant r s k (commands_next c.args.commands.now c.loop-at.at (sym c.in-Some.ensures) c.in_ok-given.ensures a)

pub all_given-returns-in_err-given : goal.all_given-returns-in_err-given
all_given-returns-in_err-given t c =
    let e : c.from_residual.result ≡ Err c.in_err-given.field-0.0 = search rules in
    c.loop-at.invariant _ _ _ (commands_halt c.args.commands.now c.loop-at.at _ (sym c.in-Some.ensures) c.in_err-given.ensures e)

pub all_given-returns : goal.all_given-returns
all_given-returns t c =
    let m : length c.args.commands.now ≤ c.loop-at.at = search rules in
    c.loop-at.invariant _ _ _ (commands_end c.args.commands.now c.loop-at.at m)

pub body_given-returns-in_err-named : goal.body_given-returns-in_err-named
body_given-returns-in_err-named t c =
    let e : c.from_residual-in_err-named.result ≡ Err c.in_err-named.field-0.0 = search rules in
    names_refused _ c.in_ok-arguments.ensures c.in_ok-sorts.ensures refl c.in_err-named.ensures e

pub body_given-returns-in_err-all_given : goal.body_given-returns-in_err-all_given
body_given-returns-in_err-all_given t c =
    let e : c.from_residual-in_err-all_given.result ≡ Err c.in_err-all_given.field-0.0 = search rules in
    body_refused _ c.in_ok-arguments.ensures c.in_ok-sorts.ensures c.in_ok-named.ensures c.in_ok-declare_names.ensures c.in_err-all_given.ensures e

pub body_given-returns : goal.body_given-returns
body_given-returns t c = case_gives c.in_ok-arguments.ensures c.in_ok-sorts.ensures c.in_ok-named.ensures c.in_ok-declare_names.ensures c.in_ok-all_given.ensures c.len-before.ensures c.leave.ensures
