use Rattle.vf_fixpoint_laws.proofs.identifiers.Telling.{told_in_words}
use Rattle.vf_fixpoint_laws.proofs.identifiers.snapshots_are_told_in_words.Goals as goal

pub returns : goal.returns
returns c = told_in_words
