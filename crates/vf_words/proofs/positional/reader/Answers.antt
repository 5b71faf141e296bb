-- The command of a name.
use Rattle.vf_words.proofs.Shapes.{given, not_global, reader_is, rule_is}
use Rattle.vf_words.proofs.positional.reader.Goals as goal

pub returns : goal.returns
returns c = given _ _ c.arg.result (λ d h. reader_is c.new-2.result c.no_binary_name.result c.disable_help_flag.result d c.num_args-words.result c.args.name.now c.new-2.ensures.app c.no_binary_name.ensures c.disable_help_flag.ensures
    (rule_is c.new.result c.num_args-words.result c.new.ensures.rule c.num_args-words.ensures.0 c.num_args-words.ensures.1) (not_global c.new.result c.num_args-words.result c.new.ensures.optional.1 c.num_args-words.ensures.0) h) c.arg.ensures
