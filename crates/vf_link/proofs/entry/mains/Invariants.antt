use Rattle.std.proofs.Common.{◌≡◌, length, take}
use Rattle.std.specs.Prelude.{All}
use Rattle.vf_link.specs.Statements.{all_lines}
use Rattle.vf_link.specs.Linking.{IsMain, mains}
use Rattle.vf_link.proofs.entry.mains.Given as goal

abbrev pub invariant-loop-at : goal.invariant-loop-at
invariant-loop-at l = record {
  count : length l.mains.items ≡ mains (all_lines (take l.at l.manifests));
  each : All (λ e. IsMain l.manifests e.manifest e.identity) l.mains.items;
}
