use Rattle.std.proofs.Common.{◌≡◌, drop}
use Rattle.vf_lexer.specs.Punctuators.{longest_of}
use Rattle.vf_lexer.proofs.punctuator.longest_of.Given as goal

abbrev pub invariant-loop-punctuator : goal.invariant-loop-punctuator
invariant-loop-punctuator l = longest_of (drop l.punctuator-index l.punctuators) l.text ≡ longest_of l.punctuators l.text
