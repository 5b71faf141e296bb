use Rattle.std.proofs.Common.{◌≤◌, ◌-◌, suc, length, arith, Ok, Err, refl, sym, ap, subst, ◌∙◌}
use Rattle.std.proofs.lemmas.Result.{err_from_is_err_and}
use Rattle.vf_preproc.specs.Directives.{Unread}
use Rattle.vf_preproc.specs.Units.{unit_of}
use Rattle.vf_expand.specs.Steps.{NextGives, LineGives}
use Rattle.vf_preproc.specs.UnitText.{header_at}
use Rattle.vf_expand.specs.Walks.{going_of, pauses_of, resumed, text_from}
use Rattle.vf_expand.specs.Weights.{left_of, lefts_of, LineFalls}
use Rattle.vf_expand.proofs.Weighing.{fewer_weigh, no_more_weigh, next_falls}
use Rattle.vf_expand.proofs.Loading.{fault_in}
use Rattle.vf_expand.proofs.Remembering.{walk_goes}
use Rattle.vf_expand.proofs.Walking.{line_faults, fails_own, own_read, own_there, own_read_of, own_there_of}
use Rattle.vf_expand.proofs.steps.go_on.Goals as goal

pub returns-in_err-follow_next-clause-exact : goal.returns-in_err-follow_next-clause-exact
returns-in_err-follow_next-clause-exact g c = λ library tells.
    let p = err_from_is_err_and c.from_residual.result c.from_residual.ensures.1 in
    rw (p.1, p.2) (line_faults library (pauses_of c.args.walk.stack.items) (going_of c.args.walk.current) (unit_of c.args.walk.unit) c.in_err-follow_next.field-0.0 c.in_err-follow_next.ensures.exact)

pub returns-in_err-follow_next-clause-read_fault : goal.returns-in_err-follow_next-clause-read_fault
returns-in_err-follow_next-clause-read_fault g c = λ is.
    let p = err_from_is_err_and c.from_residual.result c.from_residual.ensures.1 in
    absurd (own_read c.in_err-follow_next.field-0.0 (fails_own c.in_err-follow_next.field-0.0 _ (c.in_err-follow_next.ensures.exact (λ path place unit. Err Unread))) (sym p.2 ∙ ap fault_in (sym p.1 ∙ is)))

pub returns-in_err-follow_next-clause-there : goal.returns-in_err-follow_next-clause-there
returns-in_err-follow_next-clause-there g c = λ is.
    let p = err_from_is_err_and c.from_residual.result c.from_residual.ensures.1 in
    own_there c.in_err-follow_next.field-0.0 (fails_own c.in_err-follow_next.field-0.0 _ (c.in_err-follow_next.ensures.exact (λ path place unit. Err Unread))) (sym p.2 ∙ ap fault_in (sym p.1 ∙ is))

pub returns-in-End-clause-exact : goal.returns-in-End-clause-exact
returns-in-End-clause-exact g c = λ library tells.
    let ended = subst (λ l. LineGives (going_of c.args.walk.current) (unit_of c.args.walk.unit) (going_of c.follow_next.new.current) (unit_of c.follow_next.new.unit) (Ok l)) c.in-End.is c.in_ok-follow_next.ensures.exact in
    subst (λ t. NextGives t library c.end.result)
    (ap (λ x. text_from library (pauses_of c.args.walk.stack.items) x (unit_of c.follow_next.new.unit)) ended.1 ∙ ap (text_from library (pauses_of c.args.walk.stack.items) (going_of c.args.walk.current)) ended.2)
    (c.end.ensures.exact library)

pub returns-in-End-clause-read_fault : goal.returns-in-End-clause-read_fault
returns-in-End-clause-read_fault g c = λ is. absurd (own_read_of c.end.result c.end.ensures.own is)

pub returns-in-End-clause-there : goal.returns-in-End-clause-there
returns-in-End-clause-there g c = λ is. own_there_of c.end.result c.end.ensures.own is

pub returns-in_ok-walk-in-Include-clause-exact : goal.returns-in_ok-walk-in-Include-clause-exact
returns-in_ok-walk-in-Include-clause-exact g c = λ library tells.
    let line = subst (λ l. LineGives (going_of c.args.walk.current) (unit_of c.args.walk.unit) (going_of c.follow_next.new.current) (unit_of c.follow_next.new.unit) (Ok l)) c.in-Include.is c.in_ok-follow_next.ensures.exact in
    ap (resumed library (pauses_of c.args.walk.stack.items)) (line.1 (header_at (32 - length (pauses_of c.args.walk.stack.items)) library)) ∙ c.in_ok-walk-in-Include.ensures.exact library tells

pub returns-in_ok-walk-in-Include-clause-falls : goal.returns-in_ok-walk-in-Include-clause-falls
returns-in_ok-walk-in-Include-clause-falls g c =
    let line = subst (LineFalls (left_of c.args.walk.current) (left_of c.follow_next.new.current)) c.in-Include.is c.in_ok-follow_next.ensures.falls in
    let less : suc (left_of c.follow_next.new.current) ≤ left_of c.args.walk.current = omega arith in
    let most = no_more_weigh (suc (left_of c.follow_next.new.current)) (left_of c.args.walk.current) (lefts_of c.args.walk.stack.items) less in
    let falls = c.in_ok-walk-in-Include.ensures.falls in
    omega arith

pub returns-in-Done-clause-falls : goal.returns-in-Done-clause-falls
returns-in-Done-clause-falls g c =
    fewer_weigh (left_of c.follow_next.new.current) (left_of c.args.walk.current) (lefts_of c.args.walk.stack.items)
    (subst (LineFalls (left_of c.args.walk.current) (left_of c.follow_next.new.current)) c.in-Done.is c.in_ok-follow_next.ensures.falls)

pub returns-in-End-clause-falls : goal.returns-in-End-clause-falls
returns-in-End-clause-falls g c =
    let line = subst (LineFalls (left_of c.args.walk.current) (left_of c.follow_next.new.current)) c.in-End.is c.in_ok-follow_next.ensures.falls in
    next_falls _ _ (no_more_weigh (left_of c.follow_next.new.current) (left_of c.args.walk.current) (lefts_of c.args.walk.stack.items) line) c.end.result c.end.ensures.falls

pub include-requires-clause-remembers : goal.include-requires-clause-remembers
include-requires-clause-remembers g c = walk_goes c.args.walk (record { unit = c.follow_next.new.unit; stack = c.args.walk.stack; current = c.follow_next.new.current }) c.requires.remembers c.in_ok-follow_next.ensures.keeps c.in_ok-follow_next.ensures.joins refl

pub returns-in-Done-clause-remembers : goal.returns-in-Done-clause-remembers
returns-in-Done-clause-remembers g c = walk_goes c.args.walk (record { unit = c.follow_next.new.unit; stack = c.args.walk.stack; current = c.follow_next.new.current }) c.requires.remembers c.in_ok-follow_next.ensures.keeps c.in_ok-follow_next.ensures.joins refl
