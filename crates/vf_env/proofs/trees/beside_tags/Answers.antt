use Rattle.std.proofs.Common.{sym}
use Rattle.vf_env.specs.Named.{tagged}
use Rattle.vf_env.proofs.Beside.{trees_begin, trees_more, trees_none}
use Rattle.vf_env.proofs.trees.beside_tags.Goals as goal

pub loop-at-init : goal.loop-at-init
loop-at-init c = trees_begin tagged c.args.tags.now c.args.items.now c.in_ok-trees.trees c.in_ok-trees.ensures

pub loop-at-preserved : goal.loop-at-preserved
loop-at-preserved c = trees_more tagged c.args.tags.now c.args.items.now c.loop-at.at c.in-Some.item.now c.loop-at.trees c.note_tag.new.trees (sym c.in-Some.ensures) c.in_ok-note_tag.ensures c.loop-at.invariant

pub returns-in_default : goal.returns-in_default
returns-in_default c = trees_none tagged c.args.tags.now c.args.items.now c.loop-at.at c.loop-at.trees (sym c.in_default.ensures) c.loop-at.invariant
