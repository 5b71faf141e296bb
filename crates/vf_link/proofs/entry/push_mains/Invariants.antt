use Rattle.std.proofs.Common.{◌≡◌, ◌+◌, length, take}
use Rattle.std.specs.Prelude.{All, count_by}
use Rattle.vf_link.specs.Statements.{provides_main}
use Rattle.vf_link.specs.Linking.{IsMain}
use Rattle.vf_link.proofs.entry.push_mains.Given as goal

abbrev pub invariant-loop-at : goal.invariant-loop-at
invariant-loop-at l = record {
  count : length l.mains.items ≡ length l.fn.mains.items + count_by provides_main (take l.at l.lines);
  each : All (λ e. IsMain l.manifests e.manifest e.identity) l.fn.mains.items → All (λ e. IsMain l.manifests e.manifest e.identity) l.mains.items;
}
