use Rattle.std.proofs.Common.{◌≡◌, map, take}
use Rattle.vf_formula.specs.Literals.{shown_literal}
use Rattle.vf_question.specs.Tabled.{tabled_fact}
use Rattle.vf_recheck.proofs.facts.facts_over.Given as goal

abbrev pub invariant-loop-literal : goal.invariant-loop-literal
invariant-loop-literal l = l.facts.items ≡ map (tabled_fact l.terms) (map shown_literal (take l.literal-index l.literals))
