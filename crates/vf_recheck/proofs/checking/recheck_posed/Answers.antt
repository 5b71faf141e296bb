use Rattle.vf_recheck.proofs.Growing.{all_plain_begun}
use Rattle.vf_recheck.proofs.checking.recheck_posed.Goals as goal

pub check-requires-clause-plain : goal.check-requires-clause-plain
check-requires-clause-plain g c = all_plain_begun c.requires.0 c.args.question.now.terms.items c.requires.1.gathered c.requires.2
