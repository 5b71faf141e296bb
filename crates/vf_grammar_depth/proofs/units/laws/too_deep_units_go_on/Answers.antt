use Rattle.vf_parse_real.specs.Units.{plain_at, real_tokens}
use Rattle.vf_grammar_depth.specs.units.Deep.{GoesOnWith}
use Rattle.vf_grammar_depth.proofs.units.Places.{plain_units_rise, goes_on, file_deep}
use Rattle.vf_grammar_depth.proofs.units.laws.too_deep_units_go_on.Goals as goal

pub returns : goal.returns
returns c = λ result end p tokens bad read e.
    let ts = real_tokens tokens in
    file_deep (λ q. GoesOnWith plain_at 128 ts q) (plain_at 128 ts) ts tokens end p result (λ n deep. goes_on plain_at plain_units_rise 128 ts end n deep) bad read e
