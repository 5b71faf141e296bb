use Rattle.std.proofs.Common.{refl, sym, ap, subst, arith}
use Rattle.std.specs.Prelude.{Contains}
use Rattle.vf_closure.specs.Literals.{compares}
use Rattle.vf_formula.specs.Literals.{shown_literal}
use Rattle.vf_unfolding.proofs.Marks.{literal_there}
use Rattle.vf_unfolding.proofs.marking.mark_literal.Goals as goal

pub mark_both-requires-clause-first : goal.mark_both-requires-clause-first
mark_both-requires-clause-first c = λ s w. literal_there c.args.interning.now.literals (shown_literal c.args.literal.now) c.in-Equal.a s c.requires.there (subst (λ ts. Contains ts c.in-Equal.a) (sym (ap (λ l. compares (shown_literal l)) c.in-Equal.is)) (0, omega arith, refl)) w

pub mark_both-requires-clause-second : goal.mark_both-requires-clause-second
mark_both-requires-clause-second c = λ s w. literal_there c.args.interning.now.literals (shown_literal c.args.literal.now) c.in-Equal.b s c.requires.there (subst (λ ts. Contains ts c.in-Equal.b) (sym (ap (λ l. compares (shown_literal l)) c.in-Equal.is)) (1, omega arith, refl)) w

pub mark_both-requires-in-NotEqual-clause-first : goal.mark_both-requires-in-NotEqual-clause-first
mark_both-requires-in-NotEqual-clause-first c = λ s w. literal_there c.args.interning.now.literals (shown_literal c.args.literal.now) c.in-NotEqual.a s c.requires.there (subst (λ ts. Contains ts c.in-NotEqual.a) (sym (ap (λ l. compares (shown_literal l)) c.in-NotEqual.is)) (0, omega arith, refl)) w

pub mark_both-requires-in-NotEqual-clause-second : goal.mark_both-requires-in-NotEqual-clause-second
mark_both-requires-in-NotEqual-clause-second c = λ s w. literal_there c.args.interning.now.literals (shown_literal c.args.literal.now) c.in-NotEqual.b s c.requires.there (subst (λ ts. Contains ts c.in-NotEqual.b) (sym (ap (λ l. compares (shown_literal l)) c.in-NotEqual.is)) (1, omega arith, refl)) w

pub mark_both-requires-in-AtMost-clause-first : goal.mark_both-requires-in-AtMost-clause-first
mark_both-requires-in-AtMost-clause-first c = λ s w. literal_there c.args.interning.now.literals (shown_literal c.args.literal.now) c.in-AtMost.p s c.requires.there (subst (λ ts. Contains ts c.in-AtMost.p) (sym (ap (λ l. compares (shown_literal l)) c.in-AtMost.is)) (0, omega arith, refl)) w

pub mark_both-requires-in-AtMost-clause-second : goal.mark_both-requires-in-AtMost-clause-second
mark_both-requires-in-AtMost-clause-second c = λ s w. literal_there c.args.interning.now.literals (shown_literal c.args.literal.now) c.in-AtMost.n s c.requires.there (subst (λ ts. Contains ts c.in-AtMost.n) (sym (ap (λ l. compares (shown_literal l)) c.in-AtMost.is)) (1, omega arith, refl)) w

pub mark_both-requires-in-Difference-clause-first : goal.mark_both-requires-in-Difference-clause-first
mark_both-requires-in-Difference-clause-first c = λ s w. literal_there c.args.interning.now.literals (shown_literal c.args.literal.now) c.in-Difference.p s c.requires.there (subst (λ ts. Contains ts c.in-Difference.p) (sym (ap (λ l. compares (shown_literal l)) c.in-Difference.is)) (0, omega arith, refl)) w

pub mark_both-requires-in-Difference-clause-second : goal.mark_both-requires-in-Difference-clause-second
mark_both-requires-in-Difference-clause-second c = λ s w. literal_there c.args.interning.now.literals (shown_literal c.args.literal.now) c.in-Difference.n s c.requires.there (subst (λ ts. Contains ts c.in-Difference.n) (sym (ap (λ l. compares (shown_literal l)) c.in-Difference.is)) (1, omega arith, refl)) w

pub mark_both-requires-in-NotDifference-clause-first : goal.mark_both-requires-in-NotDifference-clause-first
mark_both-requires-in-NotDifference-clause-first c = λ s w. literal_there c.args.interning.now.literals (shown_literal c.args.literal.now) c.in-NotDifference.p s c.requires.there (subst (λ ts. Contains ts c.in-NotDifference.p) (sym (ap (λ l. compares (shown_literal l)) c.in-NotDifference.is)) (0, omega arith, refl)) w

pub mark_both-requires-in-NotDifference-clause-second : goal.mark_both-requires-in-NotDifference-clause-second
mark_both-requires-in-NotDifference-clause-second c = λ s w. literal_there c.args.interning.now.literals (shown_literal c.args.literal.now) c.in-NotDifference.n s c.requires.there (subst (λ ts. Contains ts c.in-NotDifference.n) (sym (ap (λ l. compares (shown_literal l)) c.in-NotDifference.is)) (1, omega arith, refl)) w
