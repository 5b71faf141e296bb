use Rattle.vf_syntax.specs.declared.side.Grammar.TheVariants.{Plain}
use Rattle.vf_cursor.specs.Parsing.{fails_at}
use Rattle.vf_parse_statement.specs.Annotations.{reads_none}
use Rattle.vf_parse_item.specs.Parsers.{item_at}
use Rattle.vf_grammar_depth.proofs.expressions.Answers.{answers_deepen}
use Rattle.vf_grammar_depth.proofs.units.Places.{plain_items_rise}
use Rattle.vf_grammar_depth.proofs.units.laws.plain_items_deepen.Goals as goal

pub returns : goal.returns
returns c = λ d m ts lt. answers_deepen (item_at Plain reads_none reads_none reads_none fails_at reads_none) plain_items_rise d m ts lt
