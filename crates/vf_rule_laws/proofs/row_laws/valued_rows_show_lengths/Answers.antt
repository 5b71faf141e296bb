use Rattle.vf_rule_laws.proofs.Rows.{valued_rows_show_lengths}
use Rattle.vf_rule_laws.proofs.row_laws.valued_rows_show_lengths.Goals as goal

pub returns : goal.returns
returns c = valued_rows_show_lengths
