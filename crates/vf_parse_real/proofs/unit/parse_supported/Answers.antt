use Rattle.vf_parse_real.proofs.Sound.{unit_sound}
use Rattle.vf_parse_real.proofs.unit.parse_supported.Goals as goal

pub returns-in-Ok-clause-spelled : goal.returns-in-Ok-clause-spelled
returns-in-Ok-clause-spelled g c =
    unit_sound c.args.grammar g.G.GhostText.command_at g.G.GhostText.invariant_at g.G.GhostText.contract_at g.G.GhostText.claim_at g.G.GhostText.item_at
    g.met.G.GhostText.reads_commands g.met.G.GhostText.reads_invariants g.met.G.GhostText.reads_contracts g.met.G.GhostText.reads_claims g.met.G.GhostText.reads_items
    128 (record { items = c.in-Ok.items; headers = c.args.headers }) c.args.tokens.now c.in-Ok.ensures
