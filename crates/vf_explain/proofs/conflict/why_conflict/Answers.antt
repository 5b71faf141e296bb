use Rattle.std.proofs.Common.{◌∙◌, subst, sym, refl, arith, slice_index}
use Rattle.vf_refute.specs.declared.steps.Derived.TheVariants.{AreWithin}
use Rattle.vf_refute.specs.Refutations.{HasDerived}
use Rattle.vf_log.specs.Derivations.{Derivation}
use Rattle.vf_explain.specs.Reached.{AreReasons}
use Rattle.vf_explain.proofs.Closing.{first_reasons, added_more, open_more, open_none}
use Rattle.vf_explain.proofs.conflict.why_conflict.Goals as goal

pub derive_cycle-requires-clause-reasons : goal.derive_cycle-requires-clause-reasons
derive_cycle-requires-clause-reasons c =
    first_reasons c.loop-i.log.known c.args.bounds.now.edges c.loop-i.before.edges c.args.reasons.now c.loop-i.i (let t = c.loop-i-test.true in omega (arith, t)) c.loop-i.invariant.edges
    (subst (λ (l : Derivation). AreReasons l.known c.args.bounds.now.edges c.args.reasons.now) (sym c.loop-i.invariant.log) c.requires.reasons)

pub loop-i-preserved : goal.loop-i-preserved
loop-i-preserved c = record {
  log = c.loop-i.invariant.log;
  size = c.in_ok-add.ensures.size ∙ c.loop-i.invariant.size;
  edges = added_more c.args.bounds.now.edges c.loop-i.before.edges c.add.new.self.edges c.loop-i.i c.edge_at-edge.result c.edge_at-edge.ensures.found c.loop-i.invariant.edges c.in_ok-add.ensures.edges;
  fine = rw c.in_ok-add.ensures.edges (open_more c.loop-i.before.edges c.edge_at-edge.result c.loop-i.invariant.fine c.if-closes.ensures);
}

pub loop-i-init : goal.loop-i-init
loop-i-init c = record {
  log = refl;
  size = c.in_ok-before.ensures.0 ∙ c.size.ensures.size;
  edges = c.in_ok-before.ensures.1;
  fine = open_none c.in_ok-before.before.edges c.in_ok-before.ensures.1;
}

pub derive_cycle-requires-clause-reason : goal.derive_cycle-requires-clause-reason
derive_cycle-requires-clause-reason c =
    subst (λ (l : Derivation). HasDerived l.known (slice_index c.args.reasons.now c.loop-i.i) (AreWithin c.edge_at-edge.result.from c.edge_at-edge.result.to c.edge_at-edge.result.most)) (sym c.loop-i.invariant.log)
    (c.requires.reasons.each c.loop-i.i c.edge_at-edge.result c.edge_at-edge.ensures.found)
