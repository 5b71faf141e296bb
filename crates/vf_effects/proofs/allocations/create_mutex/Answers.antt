use Rattle.std.proofs.Common.{sym, ◌∙◌, eq-eqb}
use Rattle.std.proofs.lemmas.Bool.{cond-true}
use Rattle.vf_effects.proofs.allocations.create_mutex.Goals as goal

pub returns-then-grant-eq0-clause-happened : goal.returns-then-grant-eq0-clause-happened
returns-then-grant-eq0-clause-happened c = λ names p of frame at framed.
    c.abort.ensures names p c.args.thread c.args.grant of frame at framed ∙ sym (cond-true _ _ _ (eq-eqb c.args.grant 0 c.if-grant-eq0.true))
