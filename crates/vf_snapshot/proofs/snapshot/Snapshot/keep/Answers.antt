use Rattle.std.proofs.Common.{sym}
use Rattle.vf_snapshot.specs.declared.held.Held.TheVariants as known
use Rattle.vf_snapshot.proofs.Knowing.{put_there}
use Rattle.vf_snapshot.proofs.snapshot.Snapshot.keep.Goals as goal

pub returns-in_ok-bytes-in-None-clause-there : goal.returns-in_ok-bytes-in-None-clause-there
returns-in_ok-bytes-in-None-clause-there c =
    put_there c.hold.result c.args.self.now c.hold.new.self c.args.path.now (known.Bytes c.in_ok-bytes-in-None.bytes) (sym c.in-None.ensures.number) c.hold.ensures.number c.hold.ensures.held
