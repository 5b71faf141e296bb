use Rattle.std.proofs.Common.{refl}
use Rattle.vf_log.proofs.Continued.{continued_more}
use Rattle.vf_explain.proofs.Reaching.{own_over, reasons_kept}
use Rattle.vf_explain.proofs.bound.why_bound.Goals as goal

pub go_over-requires-clause-reasons : goal.go_over-requires-clause-reasons
go_over-requires-clause-reasons c = reasons_kept c.args.log.now.known c.derive_own.new.log.known c.args.bounds.now.edges c.args.reasons.now c.in_ok-reason.ensures.continued.kept c.requires.reasons

pub returns-clause-why : goal.returns-clause-why
returns-clause-why c = own_over _ refl refl c.in_ok-step.ensures.derived

pub returns-clause-continued : goal.returns-clause-continued
returns-clause-continued c = continued_more c.in_ok-reason.ensures.continued c.in_ok-step.ensures.continued
