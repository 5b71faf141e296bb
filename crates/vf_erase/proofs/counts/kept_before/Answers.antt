use Rattle.vf_erase.proofs.Counting.{count_read, count_there}
use Rattle.vf_erase.proofs.counts.kept_before.Goals as goal

pub returns-in-Some : goal.returns-in-Some
returns-in-Some c = λ ns is h. count_read c.args.counts.now ns c.args.at c.in-Some.count.now is h c.in-Some.ensures

pub returns-in-None : goal.returns-in-None
returns-in-None c = λ ns is h. count_there c.args.counts.now ns c.args.at is h c.in-None.ensures
