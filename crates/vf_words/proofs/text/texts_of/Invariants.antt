use Rattle.vf_words.proofs.Borrowed.{Borrowed}
use Rattle.vf_words.proofs.text.texts_of.Given as goal

abbrev pub invariant-loop-word : goal.invariant-loop-word
invariant-loop-word l = Borrowed l.words l.word-index l.texts.items
