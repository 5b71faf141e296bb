use Rattle.std.proofs.Common.{arith, ◌≡◌, rules, ◌≢◌}
use Rattle.vf_base.proofs.Entries.{first_at, passed_at}
use Rattle.vf_base.proofs.file_table.place_of.Goals as goal

pub returns-then-has_bytes : goal.returns-then-has_bytes
returns-then-has_bytes c =
    let same : c.index-entries-at.result.0 ≡ c.args.path.now = search rules in
    first_at c.args.entries.now c.loop-at.at c.args.path.now c.index-entries-at.result (omega arith) c.index-entries-at.is same c.loop-at.invariant

pub loop-at-preserved : goal.loop-at-preserved
loop-at-preserved c =
    let other : c.args.path.now ≢ c.index-entries-at.result.0 = search rules in
    passed_at c.args.entries.now c.loop-at.at c.args.path.now c.index-entries-at.result (omega arith) c.index-entries-at.is other c.loop-at.invariant
