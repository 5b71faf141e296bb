use Rattle.std.proofs.Common.{◌<◌, length, subst, sym, arith}
use Rattle.std.specs.Prelude.{◌↔◌, IsTrue}
use Rattle.vf_closure.specs.Closure.{no_unfoldings, Same, Conflict}
use Rattle.vf_question.specs.Numbered.{all_terms}
use Rattle.vf_question.specs.Questions.{at}
use Rattle.vf_question.proofs.Bounded.{both}
use Rattle.vf_interning.specs.Interned.{Interned, meant}
use Rattle.vf_interning.proofs.Deciding.{conflicts_agree, equals_agree, as_many_terms}
use Rattle.vf_interning.proofs.interning.Interning.same.Goals as goal

pub same-requires-clause-fine : goal.same-requires-clause-fine
same-requires-clause-fine c = λ k. c.requires.fine (subst (λ (v : Interned). Conflict no_unfoldings v.literals) c.self.view_is
    ((conflicts_agree c.self.inside.combination.nodes c.self.inside.combination.facts c.self.inside.terms.items c.self.invariant.now c.closures_agree.ensures).0 k))

pub same-requires-clause-left : goal.same-requires-clause-left
same-requires-clause-left c =
    let n = as_many_terms c.self.inside.combination.nodes c.self.inside.combination.facts c.self.inside.terms.items c.self.invariant.now in
    let l : c.args.a < length (all_terms (meant c.self.inside.terms.items c.self.inside.combination.facts)) = subst (λ (v : Interned). c.args.a < length (all_terms v.literals)) (sym c.self.view_is) c.requires.left in
    omega arith

pub same-requires-clause-right : goal.same-requires-clause-right
same-requires-clause-right c =
    let n = as_many_terms c.self.inside.combination.nodes c.self.inside.combination.facts c.self.inside.terms.items c.self.invariant.now in
    let l : c.args.b < length (all_terms (meant c.self.inside.terms.items c.self.inside.combination.facts)) = subst (λ (v : Interned). c.args.b < length (all_terms v.literals)) (sym c.self.view_is) c.requires.right in
    omega arith

pub returns : goal.returns
returns c =
    let ts = c.self.inside.terms.items in
    let facts = c.self.inside.combination.facts in
    let l : c.args.a < length (all_terms (meant ts facts)) = subst (λ (v : Interned). c.args.a < length (all_terms v.literals)) (sym c.self.view_is) c.requires.left in
    let r : c.args.b < length (all_terms (meant ts facts)) = subst (λ (v : Interned). c.args.b < length (all_terms v.literals)) (sym c.self.view_is) c.requires.right in
    subst (λ (v : Interned). IsTrue c.same.result ↔ Same no_unfoldings v.literals (at (all_terms v.literals) c.args.a) (at (all_terms v.literals) c.args.b)) c.self.view_is
    (both c.same.ensures (equals_agree c.self.inside.combination.nodes facts ts c.self.invariant.now c.equal_terms_agree.ensures c.args.a c.args.b l r))
