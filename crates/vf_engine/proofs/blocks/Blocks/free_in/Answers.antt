use Rattle.std.proofs.Common.{sym, ◌∙◌}
use Rattle.vf_engine.specs.Shelves.{block_on}
use Rattle.vf_engine.proofs.Counts.{full_group}
use Rattle.std.proofs.lemmas.Bool.{eqb-true}
use Rattle.vf_engine.proofs.blocks.Blocks.free_in.Goals as goal

pub returns-then-is_full-clause-full : goal.returns-then-is_full-clause-full
returns-then-is_full-clause-full c =
    let now = c.args.self.now in
    full_group (block_on now.shelf) now.groups.counts.items c.args.group now.grouped (eqb-true _ 512 (sym c.is_full.ensures ∙ c.if-is_full.true)) c.requires.below
