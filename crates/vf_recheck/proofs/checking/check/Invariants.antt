use Rattle.std.proofs.Common.{◌≡◌, List, drop}
use Rattle.std.specs.Prelude.{All}
use Rattle.vf_closure.specs.Literals.{Literal}
use Rattle.vf_question.specs.Numbered.{all_terms}
use Rattle.vf_question.specs.Plain.{IsPlain}
use Rattle.vf_interning.specs.Interned.{IsTermTable}
use Rattle.vf_recheck.specs.Refutations.{facts_over, Refute, IsRefutation}
use Rattle.vf_recheck.proofs.checking.check.Given as goal

abbrev pub invariant-loop-i : goal.invariant-loop-i
invariant-loop-i g l = record {
  table : IsTermTable l.nodes.items l.terms.items;
  plain : All IsPlain l.terms.items;
  onward : (ls : List Literal) → l.initial.terms.items ≡ all_terms ls → l.facts ≡ facts_over ls → IsRefutation (g.U.Unfolder.unfoldings l.unfolder) ls l.steps → Refute (g.U.Unfolder.unfoldings l.unfolder) (facts_over ls) l.terms.items l.known.items (drop l.i l.steps);
  back : (ls : List Literal) → l.initial.terms.items ≡ all_terms ls → l.facts ≡ facts_over ls → Refute (g.U.Unfolder.unfoldings l.unfolder) (facts_over ls) l.terms.items l.known.items (drop l.i l.steps) → IsRefutation (g.U.Unfolder.unfoldings l.unfolder) ls l.steps;
}
