-- Each manifest that is read is one more.
use Rattle.std.proofs.Common.{◌∙◌, refl, arith}
use Rattle.vf_manifest_commands.proofs.Loading.{begun, loaded, lacking, unreadable, stopped_missing, stopped_unreadable, word, word_at}
use Rattle.vf_manifest_commands.proofs.linking.load_manifests.Goals as goal

pub loop-path-init : goal.loop-path-init
loop-path-init g c = record {
  loaded = begun _ _ c.new-manifests.ensures.items;
  same = refl;
  failures = omega arith;
  absences = omega arith;
}

pub returns-in-Err-clause-unreadable : goal.returns-in-Err-clause-unreadable
returns-in-Err-clause-unreadable g c = λ e.
    unreadable _ _ c.args.paths.now c.loop-path.path-index (word c.args.paths.now c.loop-path.path-index) _ c.loop-path-test.true (word_at c.args.paths.now c.loop-path.path-index c.loop-path-test.true) refl c.loop-path.invariant.same (c.in-Err.ensures.unreadable (stopped_unreadable c.in-Err.stop e))

pub returns-in-Err-clause-lacking : goal.returns-in-Err-clause-lacking
returns-in-Err-clause-lacking g c = λ e.
    lacking _ _ c.args.paths.now c.loop-path.path-index (word c.args.paths.now c.loop-path.path-index) _ c.loop-path-test.true (word_at c.args.paths.now c.loop-path.path-index c.loop-path-test.true) refl c.loop-path.invariant.same (c.in-Err.ensures.absent (stopped_missing c.in-Err.stop e))

pub loop-path-preserved : goal.loop-path-preserved
loop-path-preserved g c = record {
  loaded = loaded _ _ c.args.paths.now c.loop-path.path-index (word c.args.paths.now c.loop-path.path-index) _ _ _ c.in-Ok.manifest c.loop-path-test.true (word_at c.args.paths.now c.loop-path.path-index c.loop-path-test.true) refl c.loop-path.invariant.same c.in-Ok-push.ensures.items c.loop-path.invariant.loaded c.in-Ok.ensures.ok;
  same = c.in-Ok.ensures.unchanged ∙ c.loop-path.invariant.same;
  failures = omega (arith, c.loop-path.invariant.failures, c.in-Ok.ensures.failures_never_fall);
  absences = omega (arith, c.loop-path.invariant.absences, c.in-Ok.ensures.absences_never_fall);
}
