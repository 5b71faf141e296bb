use Rattle.std.proofs.Common.{rules, ◌≡◌, None}
use Rattle.vf_resolved_bodies.specs.Telling.{telling_of}
use Rattle.vf_resolved_bodies.proofs.Steps.{bare_told}
use Rattle.vf_resolved_bodies.proofs.statements.tell_loop.Goals as goal

pub returns-in_ok-push-in-None : goal.returns-in_ok-push-in-None
returns-in_ok-push-in-None c =
    let is : c.args.invariant.now ≡ None = search rules in
    bare_told c.args.paths.now c.args.invariant.now (telling_of c.args.telling.now) _ is c.in_ok-push-in-None.ensures.pushed
