use Rattle.vf_parse_whole.specs.Wholes.{whole_at}
use Rattle.vf_grammar_depth.proofs.units.Places.{file_deep}
use Rattle.vf_grammar_depth.specs.whole_units.Deep.{WholeGoesOn}
use Rattle.vf_grammar_depth.proofs.whole_units.Whole.{whole_goes_on}
use Rattle.vf_grammar_depth.proofs.whole_units.laws.too_deep_wholes_go_on.Goals as goal

pub returns : goal.returns
returns c = λ result end p tokens bad read e.
    file_deep (λ q. WholeGoesOn 128 tokens q) (whole_at 128 tokens) tokens tokens end p result (λ n deep. whole_goes_on 128 tokens end n deep) bad read e
