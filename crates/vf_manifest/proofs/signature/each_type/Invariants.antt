use Rattle.std.proofs.Common.{◌≡◌, length}
use Rattle.std.specs.Prelude.{◌==◌}
use Rattle.std.specs.List.{list_all, slice_split}
use Rattle.vf_manifest.specs.Signatures.{is_type}
use Rattle.vf_manifest.proofs.signature.each_type.Given as goal

abbrev pub invariant-parts : goal.invariant-parts
invariant-parts l = list_all is_type (slice_split (λ b. b == 44) l.left) ≡ list_all is_type (slice_split (λ b. b == 44) l.text)

abbrev pub decreases-parts : goal.decreases-parts
decreases-parts l = length l.left
