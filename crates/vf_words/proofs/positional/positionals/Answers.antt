-- The words that clap reads.
use Rattle.std.proofs.Common.{◌∙◌, arith}
use Rattle.vf_words.specs.Positionals.{texts}
use Rattle.vf_words.proofs.Answered.{are_text, asks, bounded, read}
use Rattle.vf_words.proofs.positional.positionals.Goals as goal

pub returns-in-Ok : goal.returns-in-Ok
returns-in-Ok c = read c.args.name.now (texts c.args.words.now) _ c.in_ok-reader.ensures (bounded c.args.words.now (omega arith)) c.in-Ok.matches _ (are_text c.args.words.now c.requires.text) c.in-Ok.ensures.kinds c.in-Ok.ensures.matches c.in_ok-values-in-Ok.ensures

pub returns : goal.returns
returns c = asks c.args.name.now (texts c.args.words.now) _ c.in_ok-reader.ensures (bounded c.args.words.now (omega arith)) c.in-Err.error c.in-Err.ensures.kinds (λ e. c.in_default.not-OutOfMemory (c.kind.ensures ∙ e))
