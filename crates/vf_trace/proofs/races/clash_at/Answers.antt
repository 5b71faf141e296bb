use Rattle.std.proofs.Common.{◌≡◌, sym, subst, refl, ◌∙◌}
use Rattle.std.proofs.lemmas.Bool.{false≢true}
use Rattle.vf_run.specs.Machines.{machine_state}
use Rattle.vf_looks.specs.Looks.{touch_of}
use Rattle.vf_trace.specs.Touching.{Clash}
use Rattle.vf_trace.proofs.Racing.{none_is_none, some_touch}
use Rattle.vf_trace.proofs.races.clash_at.Goals as goal

pub returns-in-None : goal.returns-in-None
returns-in-None c = record { found = tt; none = λ place h. none_is_none (c.in-None.ensures ∙ h.touches) }

pub returns-then-clashes : goal.returns-then-clashes
returns-then-clashes c = record {
  found = record { two = touch_of c.in-Some.other; touches = sym c.in-Some.ensures; at = refl; clash = c.clashes.ensures.0 c.if-clashes.true };
  none = tt;
}

pub returns-else-clashes : goal.returns-else-clashes
returns-else-clashes c = record {
  found = tt;
  none = λ place h.
      let same : touch_of c.in-Some.other ≡ h.two = some_touch _ _ (c.in-Some.ensures ∙ h.touches) in
      false≢true (sym c.if-clashes.false ∙ c.clashes.ensures.1 (subst (λ t. Clash (machine_state c.args.machine.now).memory (touch_of c.args.touch) t) (sym same) h.clash));
}
