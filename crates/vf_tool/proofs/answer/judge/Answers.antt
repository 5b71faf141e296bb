-- What is answered is by what the fresh snapshot then holds, and every answer of the prover is right.
use Rattle.std.proofs.Common.{◌∙◌, sym, ap, length}
use Rattle.vf_asking.specs.declared.journal.Journal.{Journal}
use Rattle.vf_asking.specs.Journal.{seen}
use Rattle.vf_tool.proofs.Answering.{right_from, fresh_entries, all_told, answered, absent, stopped}
use Rattle.vf_tool.proofs.answer.judge.Goals as goal

pub returns-in-Ok-answer_of-clause-answers : goal.returns-in-Ok-answer_of-clause-answers
returns-in-Ok-answer_of-clause-answers g c =
    answered _ _ _ _ _ _ _ c.in-Ok.verdict _ _ (all_told _ _ c.new-snapshot.ensures c.in-Ok.ensures.reads)
    (ap seen (c.new-prover.ensures.journal ∙ c.replace.ensures.value) ∙ c.requires.fresh) (ap seen (sym c.finish.ensures.journal))
    c.in-Ok.ensures.judged c.in-Ok-answer_of.ensures.accepted c.in-Ok-answer_of.ensures.text

pub returns-in-Ok-answer_of-clause-right : goal.returns-in-Ok-answer_of-clause-right
returns-in-Ok-answer_of-clause-right g c = right_from _ (seen c.finish.result) (c.check_unit-verdict.ensures.origin ∙ c.new-prover.ensures.origin ∙ ap (λ (j : Journal). length j.entries) c.replace.ensures.value ∙ fresh_entries _ c.requires.fresh) c.finish.ensures.right

pub returns-in-Ok-clause-right : goal.returns-in-Ok-clause-right
returns-in-Ok-clause-right g c = right_from _ (seen c.finish.result) (c.check_unit-verdict.ensures.origin ∙ c.new-prover.ensures.origin ∙ ap (λ (j : Journal). length j.entries) c.replace.ensures.value ∙ fresh_entries _ c.requires.fresh) c.finish.ensures.right

pub returns-clause-absent : goal.returns-clause-absent
returns-clause-absent g c = λ e. absent _ _ _ (all_told _ _ c.new-snapshot.ensures c.in-Err.ensures.reads) (c.in-Err.ensures.missing (stopped c.in-Err.stop e))

pub returns-clause-right : goal.returns-clause-right
returns-clause-right g c = right_from _ (seen c.finish.result) (c.check_unit-verdict.ensures.origin ∙ c.new-prover.ensures.origin ∙ ap (λ (j : Journal). length j.entries) c.replace.ensures.value ∙ fresh_entries _ c.requires.fresh) c.finish.ensures.right
