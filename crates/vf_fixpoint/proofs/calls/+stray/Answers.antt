use Rattle.std.proofs.Common.{sym}
use Rattle.vf_fixpoint.specs.Kept.{recursion_of}
use Rattle.vf_fixpoint.proofs.Loops.{here_of, more_of, here_in, more_in}
use Rattle.vf_fixpoint.proofs.calls.+stray.Goals as goal

pub stray_in-returns-in-Some-stray_behind : goal.stray_in-returns-in-Some-stray_behind
stray_in-returns-in-Some-stray_behind t c = here_in (recursion_of c.args.recursion.now) c.args.links.now c.loop-at.at c.in-Some.link.now c.in-Some-stray_behind.place (sym c.in-Some.ensures) c.in-Some-stray_behind.ensures c.loop-at.invariant

pub stray_in-loop-at-preserved : goal.stray_in-loop-at-preserved
stray_in-loop-at-preserved t c = more_in (recursion_of c.args.recursion.now) c.args.links.now c.loop-at.at c.in-Some.link.now (sym c.in-Some.ensures) (sym c.in_default-stray_behind.ensures) c.loop-at.invariant

pub stray_of-returns-in-Some-first_stray : goal.stray_of-returns-in-Some-first_stray
stray_of-returns-in-Some-first_stray t c = here_of (recursion_of c.args.recursion.now) c.args.arguments.now c.loop-at.at c.in-Some.argument.now c.in-Some-first_stray.place (sym c.in-Some.ensures) c.in-Some-first_stray.ensures c.loop-at.invariant

pub stray_of-loop-at-preserved : goal.stray_of-loop-at-preserved
stray_of-loop-at-preserved t c = more_of (recursion_of c.args.recursion.now) c.args.arguments.now c.loop-at.at c.in-Some.argument.now (sym c.in-Some.ensures) (sym c.in_default-first_stray.ensures) c.loop-at.invariant
