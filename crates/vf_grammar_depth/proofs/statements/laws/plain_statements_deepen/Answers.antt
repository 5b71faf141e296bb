use Rattle.vf_syntax.specs.declared.side.Grammar.TheVariants.{Plain}
use Rattle.vf_parse_statement.specs.Annotations.{reads_none}
use Rattle.vf_parse_statement.specs.Parsers.{stmt_at}
use Rattle.vf_grammar_depth.proofs.expressions.Answers.{answers_deepen}
use Rattle.vf_grammar_depth.proofs.statements.Whole.{rises_each, nothing_rises, statements_rise}
use Rattle.vf_grammar_depth.proofs.statements.laws.plain_statements_deepen.Goals as goal

pub returns : goal.returns
returns c = λ d m ts lt.
    let p = stmt_at Plain reads_none reads_none in
    answers_deepen p (rises_each p (statements_rise 0 Plain reads_none reads_none (nothing_rises 0) (nothing_rises 0))) d m ts lt
