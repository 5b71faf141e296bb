-- The texts of words.
use Rattle.std.proofs.Common.{subst, sym, ◌+◌}
use Rattle.vf_words.proofs.Borrowed.{Borrowed, all_borrowed, nothing_borrowed, one_borrowed}
use Rattle.vf_words.proofs.text.texts_of.Goals as goal

pub loop-word-init : goal.loop-word-init
loop-word-init c = subst (Borrowed c.args.words.now 0) (sym c.new-texts.ensures.items) (nothing_borrowed c.args.words.now)

pub loop-word-preserved : goal.loop-word-preserved
loop-word-preserved c = subst (Borrowed c.args.words.now (c.loop-word.word-index + 1)) (sym c.in_ok-push.ensures.items)
    (one_borrowed c.args.words.now c.loop-word.word-index c.loop-word.texts.items c.word-item.result c.as_str.result c.loop-word-test.true c.word-item.is c.as_str.ensures.value c.as_str.utf8 c.loop-word.invariant)

pub returns-clause-same : goal.returns-clause-same
returns-clause-same c = all_borrowed c.args.words.now c.loop-word.word-index c.loop-word.texts.items c.loop-word-test.false c.loop-word.invariant

pub returns-clause-text : goal.returns-clause-text
returns-clause-text c = c.loop-word.invariant.text
