use Rattle.std.proofs.Common.{◌<◌, subst}
use Rattle.vf_link.proofs.Stated.{subjects_place, contents_place}
use Rattle.vf_link.proofs.statement.Statements.push_lines.Goals as goal

pub loop-at-preserved : goal.loop-at-preserved
loop-at-preserved c =
    let was = c.args.self.now in
    let old = c.loop-at.self in
    let new = c.push_line.new.self in
    let within = subst (λ n. c.loop-at.at < n) c.len-at-end.ensures c.loop-at-test.true in
    let e = c.in_ok-push_line.ensures in
    record {
      subjects = subjects_place c.args.topic was.subjects old.subjects new.subjects c.args.manifest.now c.loop-at.at within c.loop-at.invariant.subjects e.subjects;
      contents = contents_place c.args.topic was.contents old.contents new.contents c.args.manifest.now c.loop-at.at within c.loop-at.invariant.contents e.contents;
    }
