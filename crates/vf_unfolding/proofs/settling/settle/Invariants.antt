use Rattle.std.proofs.Common.{◌≡◌, length, map, take}
use Rattle.vf_formula.specs.Literals.{shown_literal}
use Rattle.vf_question.specs.Ends.{missing}
use Rattle.vf_unfolding.specs.Rounds.{AreKeptFor, AreInTurn}
use Rattle.vf_unfolding.proofs.settling.settle.Given as goal

abbrev pub invariant-rounds : goal.invariant-rounds
invariant-rounds g l = record {
  kept : AreKeptFor l.interning.literals (map shown_literal l.facts) l.made.items l.asked;
  turn : AreInTurn (g.U.Unfolder.unfoldings l.unfolder) (map shown_literal l.facts) l.made.items;
  levels : l.interning.levels ≡ l.initial.interning.levels;
  made : take (length l.initial.made.items) l.made.items ≡ l.initial.made.items;
}

abbrev pub decreases-rounds : goal.decreases-rounds
decreases-rounds g l = missing (g.U.Unfolder.unfoldings l.unfolder) (map shown_literal l.facts) l.made.items
