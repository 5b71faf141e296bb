use Rattle.std.proofs.Common.{rules, ◌≡◌, sym, subst, ◌∙◌, length, ℕ}
use Rattle.vf_sorts.specs.Told.{AreAlike}
use Rattle.vf_sorts.specs.Unknowns.{filled, Agrees, AgreesAsTold}
use Rattle.vf_sorts.specs.Pairs.{AreBelow}
use Rattle.vf_sorts.proofs.Making.{goes_on, gives_up, last_below, nothing_left, told_on}
use Rattle.vf_sorts.proofs.Going.{leads_nowhere, leads_on, leads_there}
use Rattle.vf_sorts.proofs.unify.unify.Goals as goal

pub unify_pair-requires-clause-pair : goal.unify_pair-requires-clause-pair
unify_pair-requires-clause-pair c = (last_below (length c.loop-pair.known.items) c.loop-pair.pairs.items c.pop.new.self.items c.in-Some.pair c.in-Some.ensures.items c.loop-pair.invariant.below).1

pub unify_pair-requires-clause-below : goal.unify_pair-requires-clause-below
unify_pair-requires-clause-below c = (last_below (length c.loop-pair.known.items) c.loop-pair.pairs.items c.pop.new.self.items c.in-Some.pair c.in-Some.ensures.items c.loop-pair.invariant.below).0

pub returns-then-not-branch-clause-equal : goal.returns-then-not-branch-clause-equal
returns-then-not-branch-clause-equal c = record {
  apart = λ f a e. gives_up (λ g. Agrees g c.args.known.now.items × AreAlike (filled g c.args.left.now) (filled g c.args.right.now)) c.in_ok-unify_pair.field-0 c.loop-pair.known.items c.unify_pair.new.known.items c.loop-pair.pairs.items c.pop.new.self.items c.unify_pair.new.pairs.items c.in-Some.pair c.if-not-branch.true c.in-Some.ensures.items c.loop-pair.invariant.equal c.in_ok-unify_pair.ensures.equal f (a, e);
  unmade = leads_nowhere c.args.known.now.items c.args.left.now c.args.right.now c.loop-pair.known.items c.unify_pair.new.known.items c.loop-pair.pairs.items c.pop.new.self.items c.unify_pair.new.pairs.items c.in-Some.pair c.in_ok-unify_pair.field-0 c.if-not-branch.true c.in-Some.ensures.items c.loop-pair.invariant.leads c.in_ok-unify_pair.ensures.made;
}

pub loop-pair-preserved : goal.loop-pair-preserved
loop-pair-preserved c = record {
  long = c.in_ok-unify_pair.ensures.length ∙ c.loop-pair.invariant.long;
  resolved = c.in_ok-unify_pair.ensures.resolved;
  grown = λ f a. c.loop-pair.invariant.grown f (c.in_ok-unify_pair.ensures.grown f a);
  kept = λ f a. c.loop-pair.invariant.kept f (c.in_ok-unify_pair.ensures.kept f a);
  below = subst (λ (n : ℕ). AreBelow n c.unify_pair.new.pairs.items) (sym c.in_ok-unify_pair.ensures.length) c.in_ok-unify_pair.ensures.below;
  equal = goes_on (λ g. Agrees g c.args.known.now.items × AreAlike (filled g c.args.left.now) (filled g c.args.right.now)) c.in_ok-unify_pair.field-0 c.loop-pair.known.items c.unify_pair.new.known.items c.loop-pair.pairs.items c.pop.new.self.items c.unify_pair.new.pairs.items c.in-Some.pair c.if-not-branch.false c.in-Some.ensures.items c.loop-pair.invariant.equal c.in_ok-unify_pair.ensures.equal;
  leads = leads_on c.args.known.now.items c.args.left.now c.args.right.now c.loop-pair.known.items c.unify_pair.new.known.items c.loop-pair.pairs.items c.pop.new.self.items c.unify_pair.new.pairs.items c.in-Some.pair c.in_ok-unify_pair.field-0 c.if-not-branch.false c.in-Some.ensures.items c.loop-pair.invariant.leads c.in_ok-unify_pair.ensures.made c.in_ok-unify_pair.ensures.falls;
  told = told_on (λ g. AgreesAsTold g c.args.known.now.items × (filled g c.args.left.now ≡ filled g c.args.right.now)) c.loop-pair.known.items c.unify_pair.new.known.items c.loop-pair.pairs.items c.pop.new.self.items c.unify_pair.new.pairs.items c.in-Some.pair c.in-Some.ensures.items c.loop-pair.invariant.told c.in_ok-unify_pair.ensures.told;
}

pub returns-clause-equal : goal.returns-clause-equal
returns-clause-equal c = record {
  long = c.loop-pair.invariant.long;
  alike = nothing_left (λ g. Agrees g c.args.known.now.items × AreAlike (filled g c.args.left.now) (filled g c.args.right.now)) c.loop-pair.known.items c.loop-pair.pairs.items (search rules) c.loop-pair.invariant.equal;
  kept = c.loop-pair.invariant.kept;
  told = λ f a e. (c.loop-pair.invariant.told f (a, e)).0;
  made = leads_there _ _ _ _ _ (search rules) c.loop-pair.invariant.leads;
}
