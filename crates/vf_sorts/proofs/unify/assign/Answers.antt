use Rattle.std.proofs.Common.{◌↔◌, ◌+◌, ◌<◌, sym, subst}
use Rattle.vf_sorts.specs.Told.{AreAlike, as_told, untold}
use Rattle.vf_sorts.proofs.Agreeing.{told_respects, untold_respects}
use Rattle.vf_sorts.specs.Unknowns.{Agrees, AgreesAsTold, IsResolved, Known, filled}
use Rattle.vf_sorts.specs.Pairs.{weight, left_to_do, open_count, load}
use Rattle.vf_sorts.specs.Sorts.{size_of}
use Rattle.vf_sorts.proofs.Learning.{agrees_with, resolved_with}
use Rattle.vf_sorts.proofs.Occurring.{never_equal}
use Rattle.vf_sorts.proofs.Weights.{learnt_less, dropped_less}
use Rattle.vf_sorts.proofs.unify.assign.Goals as goal

pub returns-then-is_unknown-clause-falls : goal.returns-then-is_unknown-clause-falls
returns-then-is_unknown-clause-falls c = λ t pairs more p. dropped_less c.args.known.now.items pairs more (size_of c.args.sort) p

pub returns-then-is_in-clause-equal : goal.returns-then-is_in-clause-equal
returns-then-is_in-clause-equal c = λ f. never_equal f c.args.number c.args.sort (λ e. let t = c.is_unknown.ensures.told.1 e in let n = c.if-is_unknown.false in cc) (sym c.if-is_in.ensures)

pub returns-clause-resolved : goal.returns-clause-resolved
returns-clause-resolved c = subst IsResolved (sym c.in_ok-learn.ensures.learnt) (resolved_with c.args.known.now.items c.args.number c.args.sort c.requires.unknown c.requires.open (sym c.if-is_in.ensures) c.requires.resolved)

pub returns-clause-equal : goal.returns-clause-equal
returns-clause-equal c = λ f. subst (λ (k : Known). Agrees f k ↔ (Agrees f c.args.known.now.items × AreAlike (f c.args.number) (filled f c.args.sort))) (sym c.in_ok-learn.ensures.learnt) (agrees_with untold untold_respects c.args.known.now.items c.args.number c.args.sort c.requires.unknown f)

pub returns-clause-told : goal.returns-clause-told
returns-clause-told c = λ f a e. subst (AgreesAsTold f) (sym c.in_ok-learn.ensures.learnt) ((agrees_with as_told told_respects c.args.known.now.items c.args.number c.args.sort c.requires.unknown f).1 (a, e))

pub returns-clause-kept : goal.returns-clause-kept
returns-clause-kept c = λ f a. ((agrees_with as_told told_respects c.args.known.now.items c.args.number c.args.sort c.requires.unknown f).0 (subst (AgreesAsTold f) c.in_ok-learn.ensures.learnt a)).0

pub returns-clause-falls : goal.returns-clause-falls
returns-clause-falls c = λ t pairs more p. subst (λ (k : Known). weight k pairs < left_to_do (open_count c.args.known.now.items) (more + size_of c.args.sort + load c.args.known.now.items pairs)) (sym c.in_ok-learn.ensures.learnt) (learnt_less c.args.known.now.items c.args.number c.args.sort c.requires.unknown pairs more p)

pub returns-clause-grown : goal.returns-clause-grown
returns-clause-grown c = λ f a. ((agrees_with untold untold_respects c.args.known.now.items c.args.number c.args.sort c.requires.unknown f).0 (subst (Agrees f) c.in_ok-learn.ensures.learnt a)).0
