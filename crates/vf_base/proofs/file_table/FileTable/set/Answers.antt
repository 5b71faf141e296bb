use Rattle.std.proofs.Common.{ap, ◌∙◌}
use Rattle.std.specs.FinMap.{insert}
use Rattle.vf_base.proofs.Entries.{map-set_first, map-push}
use Rattle.vf_base.proofs.file_table.FileTable.set.Goals as goal

pub returns-in-Some-clause-ok : goal.returns-in-Some-clause-ok
returns-in-Some-clause-ok c =
    map-set_first c.as_slice.result.now c.self.inside.entries c.set.new.self c.in-Some.at c.args.path.now c.args.bytes.now c.in_ok-name.name c.in_ok-content.content c.in-Some.ensures c.as_slice.ensures c.in_ok-name.ensures c.in_ok-content.ensures c.set.ensures
    ∙ ap (λ m. insert m c.args.path.now c.args.bytes.now) c.self.view_is

pub returns-in_ok-push-in-None-clause-ok : goal.returns-in_ok-push-in-None-clause-ok
returns-in_ok-push-in-None-clause-ok c =
    map-push c.as_slice.result.now c.self.inside.entries c.push.new.self c.args.path.now c.args.bytes.now c.in_ok-name.name c.in_ok-content.content c.in-None.ensures c.as_slice.ensures c.in_ok-name.ensures c.in_ok-content.ensures c.in_ok-push-in-None.ensures.pushed
    ∙ ap (λ m. insert m c.args.path.now c.args.bytes.now) c.self.view_is
