use Rattle.std.proofs.Common.{◌≡◌, ◌≤◌, length, map, take}
use Rattle.vf_formula.specs.Literals.{shown_literal}
use Rattle.vf_question.specs.Numbered.{terms_of}
use Rattle.vf_question.specs.declared.numbering.TheConstants.{MOST_TERMS}
use Rattle.vf_unfolding.specs.Rounds.{AreEnough}
use Rattle.vf_unfolding.proofs.deciding.path_of.Given as goal

abbrev pub invariant-loop-fact : goal.invariant-loop-fact
invariant-loop-fact g l = record {
  facts : l.path.now.facts ≡ map shown_literal (take l.fact-index l.facts);
  enough : AreEnough (g.U.Unfolder.unfoldings l.unfolder) l.path.now.facts l.path.now.made;
  few : length (terms_of l.path.now.facts) ≤ MOST_TERMS;
}
