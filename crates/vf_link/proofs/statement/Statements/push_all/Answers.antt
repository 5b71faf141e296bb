use Rattle.vf_link.proofs.Stated.{subjects_manifest, contents_manifest}
use Rattle.vf_link.proofs.statement.Statements.push_all.Goals as goal

pub loop-manifest-preserved : goal.loop-manifest-preserved
loop-manifest-preserved c =
    let was = c.args.self.now in
    let old = c.loop-manifest.self in
    let new = c.push_lines.new.self in
    let m = c.manifest-item.result in
    let e = c.in_ok-push_lines.ensures in
    record {
      subjects = subjects_manifest c.args.topic was.subjects old.subjects new.subjects c.args.manifests.now c.loop-manifest.manifest-index m c.loop-manifest-test.true c.manifest-item.is c.loop-manifest.invariant.subjects e.subjects;
      contents = contents_manifest c.args.topic was.contents old.contents new.contents c.args.manifests.now c.loop-manifest.manifest-index m c.loop-manifest-test.true c.manifest-item.is c.loop-manifest.invariant.contents e.contents;
    }
