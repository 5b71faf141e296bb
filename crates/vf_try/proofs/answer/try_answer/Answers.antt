-- What is answered is by what the files read as, and what is told of it.
use Rattle.vf_words.specs.Commands.{paths_of}
use Rattle.vf_try.proofs.Answering.{answered, lacks_schedule, lacks_source, prints_told}
use Rattle.vf_try.proofs.Reading.{stopped}
use Rattle.vf_try.proofs.answer.try_answer.Goals as goal

pub returns-in-Err-clause-lacking : goal.returns-in-Err-clause-lacking
returns-in-Err-clause-lacking g c = λ e. lacks_schedule _ c.args.schedule.now (paths_of c.args.words.now) (c.in-Err.ensures.absent (stopped c.in-Err.stop _ e))

pub returns-in-Err-read_files-clause-lacking : goal.returns-in-Err-read_files-clause-lacking
returns-in-Err-read_files-clause-lacking g c = λ e.
    lacks_source _ _ c.args.schedule.now (paths_of c.args.words.now) c.in-Ok.schedule c.in-Ok.ensures.unchanged c.in-Ok.ensures.ok (c.in-Err-read_files.ensures.absent (stopped c.in-Err-read_files.stop _ e))

pub returns-in-Ok-answer_of-clause-answered : goal.returns-in-Ok-answer_of-clause-answered
returns-in-Ok-answer_of-clause-answered g c =
    answered _ _ c.args.purpose c.args.schedule.now (paths_of c.args.words.now) c.in-Ok.schedule _ _ _ _ c.in-Ok.ensures.unchanged c.in-Ok.ensures.ok c.in-Ok-read_files.ensures.read c.in-Ok-answer_of.ensures

pub returns-in-Ok-answer_of-clause-told : goal.returns-in-Ok-answer_of-clause-told
returns-in-Ok-answer_of-clause-told g c = prints_told c.args.purpose _ _ c.in-Ok.schedule _ _ c.in-Ok-answer_of.ensures
