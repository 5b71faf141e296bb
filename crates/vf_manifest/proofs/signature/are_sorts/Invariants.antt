use Rattle.std.proofs.Common.{◌≡◌, [], ◌∷◌, length, reverse}
use Rattle.vf_manifest.specs.Signatures.{are_sorts}
use Rattle.vf_manifest.specs.declared.signature.Stage.TheVariants.{BeginsOrEnds}
use Rattle.vf_manifest.proofs.signature.are_sorts.Given as goal

abbrev pub invariant-sorts : goal.invariant-sorts
invariant-sorts l = are_sorts l.parameters l.stage [] (reverse l.closers.items) l.left ≡ are_sorts l.parameters BeginsOrEnds [] (41 ∷ []) l.text

abbrev pub decreases-sorts : goal.decreases-sorts
decreases-sorts l = length l.left
