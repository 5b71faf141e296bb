use Rattle.vf_fixpoint_laws.proofs.identifiers.Lexed.{text_words}
use Rattle.vf_fixpoint_laws.proofs.identifiers.names_of_texts_are_words.Goals as goal

pub returns : goal.returns
returns c = text_words
