use Rattle.vf_fixpoint_laws.proofs.identifiers.Expanded.{expanded_words}
use Rattle.vf_fixpoint_laws.proofs.identifiers.names_of_expanded_units_are_words.Goals as goal

pub returns : goal.returns
returns c = expanded_words
