use Rattle.std.proofs.Common.{List, sym, subst}
use Rattle.std.specs.Prelude.{◌↔◌, IsTrue}
use Rattle.vf_closure.specs.Terms.{Term}
use Rattle.vf_closure.specs.Closure.{no_unfoldings, Same}
use Rattle.vf_question.specs.Questions.{at}
use Rattle.vf_unfolding.proofs.searching.are_equal.Goals as goal

pub returns : goal.returns
returns c = subst (λ (ts : List Term). IsTrue c.same.result ↔ Same no_unfoldings c.args.interning.now.literals (at ts c.args.a) (at ts c.args.b)) (sym c.requires.terms) c.same.ensures
