use Rattle.std.proofs.Common.{◌≡◌, ◌-◌}
use Rattle.vf_cursor.specs.Parsing.{many_at, item_step}
use Rattle.vf_parse_item.specs.Parsers.{item_at}
use Rattle.vf_parse_real.specs.Units.{is_any, items_by}
use Rattle.vf_parse_real.proofs.unit.items.Given as goal

abbrev pub invariant-loop-i : goal.invariant-loop-i
invariant-loop-i g l =
    many_at (l.most - l.i) is_any (item_step (item_at l.grammar g.G.GhostText.command_at g.G.GhostText.invariant_at g.G.GhostText.contract_at g.G.GhostText.claim_at g.G.GhostText.item_at l.depth)) l.items l.cursor.left.now
    ≡ items_by (item_at l.grammar g.G.GhostText.command_at g.G.GhostText.invariant_at g.G.GhostText.contract_at g.G.GhostText.claim_at g.G.GhostText.item_at l.depth) l.fn.cursor.left.now
