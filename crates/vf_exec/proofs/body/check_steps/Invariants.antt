use Rattle.std.proofs.Common.{◌≡◌, ◌<◌, length, drop}
use Rattle.vf_asking.specs.Course.{Reaches}
use Rattle.vf_asking.specs.Journal.{Grew, HasNode, path_at, seen}
use Rattle.vf_exec.specs.Main.{runs}
use Rattle.vf_exec.specs.Small.{AreSmall}
use Rattle.vf_exec.proofs.body.check_steps.Given as goal

-- the steps so far are done, and what is left comes to what the whole body comes to
abbrev pub invariant-loop-step : goal.invariant-loop-step
invariant-loop-step g l =
    let journal = g.A.Asker.journal in
    let path = path_at (journal l.fn.asker) l.at in
    record {
      begun : 0 < length (journal l.asker).units;
      there : HasNode (journal l.asker) l.at;
      first_there : HasNode (journal l.fn.asker) l.at;
      locals : AreSmall l.locals;
      reaches : Reaches (runs l.function.closing l.core.name l.core.contract.postcondition path l.fn.unset l.function.steps) (seen (journal l.fn.asker)) (runs l.function.closing l.core.name l.core.contract.postcondition path l.locals (drop l.step-index l.steps)) (seen (journal l.asker));
      grew : Grew (journal l.fn.asker) (journal l.asker);
      origin : g.A.Asker.origin l.asker ≡ g.A.Asker.origin l.fn.asker;
    }
