use Rattle.std.proofs.Common.{ap, ◌∙◌}
use Rattle.std.specs.FinMap.{get}
use Rattle.vf_base.proofs.Entries.{get-first, get-nowhere}
use Rattle.vf_base.proofs.file_table.FileTable.get.Goals as goal

pub returns-in-Some : goal.returns-in-Some
returns-in-Some c =
    get-first c.as_slice-entries.result.now c.self.inside.entries c.in-Some.at c.args.path.now c.index-entries-at.result c.in-Some.ensures c.as_slice-entries.ensures c.index-entries-at.is c.as_bytes.result.now c.as_bytes.ensures ∙ ap (λ m. get m c.args.path.now) c.self.view_is

pub returns-in-None : goal.returns-in-None
returns-in-None c =
    get-nowhere c.as_slice-entries.result.now c.self.inside.entries c.args.path.now c.in-None.ensures c.as_slice-entries.ensures ∙ ap (λ m. get m c.args.path.now) c.self.view_is
