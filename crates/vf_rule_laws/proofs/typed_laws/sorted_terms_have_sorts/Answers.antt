use Rattle.vf_rule_laws.proofs.SortedTerms.{sorted_terms_have_sorts}
use Rattle.vf_rule_laws.proofs.typed_laws.sorted_terms_have_sorts.Goals as goal

pub returns : goal.returns
returns c = sorted_terms_have_sorts
