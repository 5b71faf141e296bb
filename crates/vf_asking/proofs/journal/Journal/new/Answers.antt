use Rattle.vf_asking.proofs.Seeing.{seen_nothing}
use Rattle.vf_asking.proofs.journal.Journal.new.Goals as goal

pub returns-clause-seen : goal.returns-clause-seen
returns-clause-seen c = seen_nothing _ c.new.ensures c.new-2.ensures c.new-3.ensures
