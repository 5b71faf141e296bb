use Rattle.vf_grammar_read.proofs.expressions.TypesFull.{ctype_full}
use Rattle.vf_grammar_read.proofs.expressions.laws.types_are_read.Goals as goal

pub returns : goal.returns
returns c = λ s t ts rest h wide star. ctype_full s t ts rest h (record { no_width = wide; no_star = star })
